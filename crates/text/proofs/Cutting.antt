-- The lines of a text, one by one.
use Rattle.std.proofs.Common.{◌≡◌, ℕ, suc, ◌+◌, ◌<◌, ◌≤◌, Bool, true, false, cond, eqb, List, [], ◌∷◌, length, take, drop, Some, None, ap, ◌∙◌, arith}
use Rattle.text.specs.Fields.{onto_first}
use Rattle.text.specs.Lines.{lines, newline}
use Rattle.text.specs.Parts.{position}
use Rattle.text.proofs.Search.{found, here, later, not_found}

pub lines_end : (b : ℕ) (bs : List ℕ) → eqb b newline ≡ true → lines (b ∷ bs) ≡ (b ∷ []) ∷ lines bs
lines_end b bs t = rw (t, lines)

pub lines_byte : (b : ℕ) (bs : List ℕ) → eqb b newline ≡ false → lines (b ∷ bs) ≡ onto_first b (lines bs)
lines_byte b bs t = rw (t, lines)

-- the line up to its byte 10, and the lines behind it
pub lines_cut : (text : List ℕ) (n : ℕ) → position newline text ≡ Some n → lines text ≡ take (suc n) text ∷ lines (drop (suc n) text)
lines_cut [] n e = let z : ◌≡◌ {A = ℕ} 0 1 = cc in absurd (omega arith)
lines_cut (b ∷ bs) n e = elim (found newline b bs n e) [
  | here t z ↦ rw z (lines_end b bs t)
  | later m t p z ↦ rw z (lines_byte b bs t ∙ ap (onto_first b) (lines_cut bs m p))
]

-- a text with no byte 10 is one line
pub lines_last : (text : List ℕ) → 0 < length text → position newline text ≡ None → lines text ≡ text ∷ []
lines_last [] h e = absurd (omega arith)
lines_last (b ∷ []) h e = lines_byte b [] (not_found newline b [] e).0
lines_last (b ∷ (c ∷ cs)) h e =
    let no = not_found newline b (c ∷ cs) e in
    lines_byte b (c ∷ cs) no.0 ∙ ap (onto_first b) (lines_last (c ∷ cs) (omega arith) no.1)

-- each line has a byte
pub length_lines : (text : List ℕ) → length (lines text) ≤ length text
length_lines [] = omega arith
length_lines (b ∷ bs) = go (eqb b newline) (length_lines bs)
  where
    longer : (ls : List (List ℕ)) → length (onto_first b ls) ≤ length ls + 1
    longer [] = omega arith
    longer (l ∷ ls) = omega arith

    go : (t : Bool) → length (lines bs) ≤ length bs → length (cond t ((b ∷ []) ∷ lines bs) (onto_first b (lines bs))) ≤ length (b ∷ bs)
    go true ih = omega arith
    go false ih = omega (arith, longer (lines bs))
