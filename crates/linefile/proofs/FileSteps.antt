-- One line more of a line file: the steps of the loop that reads one.
use Rattle.std.proofs.Common.{◌≡◌, ℕ, ◌+◌, List, [], ◌∷◌, ◌++◌, length, Some, None, Ok, Err, Option, Result, sym, refl, ap, ◌∙◌, subst, arith}
use Rattle.std.proofs.lemmas.List.{append_assoc, length_push}
use Rattle.linefile.proofs.Letters.{Agrees, agrees_more, agrees_none, line_passes, line_same}
use Rattle.linefile.specs.Files.{in_front, lettered, read_line, read_lines}
use Rattle.linefile.specs.Formats.{Format}
use Rattle.linefile.specs.Places.{comes, so_far}
use Rattle.text.specs.Lines.{bare, lines}
use Rattle.faults.specs.declared.lines.LineFault.{LineFault}

-- the lines read so far, before those that are left
abbrev pub behind : {L : Type 0} → List L → Result (List L) LineFault → Result (List L) LineFault
behind read (Ok ls) = Ok (read ++ ls)
behind read (Err fault) = Err fault

pub behind_none : {L : Type 0} (read : List L) (r : Result (List L) LineFault) → read ≡ [] → behind read r ≡ r
behind_none read (Ok ls) e = ap (λ (xs : List _). Ok (xs ++ ls)) e
behind_none read (Err fault) e = refl

module _ {L : Type 0} (format : Format L) where
  pub lines_on : (earlier line : List ℕ) (rest : List (List ℕ)) (letter : ℕ) (l : L) → read_line format earlier (bare line) ≡ Ok (letter, l) → read_lines format earlier (line ∷ rest) ≡ in_front l (read_lines format (letter ∷ earlier) rest)
  lines_on earlier line rest letter l e = rw (e, read_lines)

  pub lines_off : (earlier line : List ℕ) (rest : List (List ℕ)) (fault : LineFault) → read_line format earlier (bare line) ≡ Err fault → read_lines format earlier (line ∷ rest) ≡ Err fault
  lines_off earlier line rest fault e = rw (e, read_lines)

  behind_front : (read : List L) (l : L) (r : Result (List L) LineFault) → behind read (in_front l r) ≡ behind (read ++ (l ∷ [])) r
  behind_front read l (Ok ls) = ap Ok (sym (append_assoc read (l ∷ []) ls))
  behind_front read l (Err fault) = refl

  module _ (earlier line : List ℕ) (rest : List (List ℕ)) (read : List L) where
    pub read_more : (letter : ℕ) (l : L) (after : List L) → read_line format earlier (bare line) ≡ Ok (letter, l) → after ≡ read ++ (l ∷ [])
        → behind after (read_lines format (letter ∷ earlier) rest) ≡ behind read (read_lines format earlier (line ∷ rest))
    read_more letter l after e p =
        ap (λ (xs : List L). behind xs (read_lines format (letter ∷ earlier) rest)) p
        ∙ sym (behind_front read l (read_lines format (letter ∷ earlier) rest))
        ∙ ap (behind read) (sym (lines_on earlier line rest letter l e))

-- What is held between two lines: the lines so far and those that are left are all, and the last line agrees with those so far.
pub record Held {L : Type 0} (format : Format L) (text : List ℕ) (left : List (List ℕ)) (read : List L) (last : Option (ℕ × ℕ)) : Type 0 where
  pub earlier : List ℕ
  pub long : length earlier ≡ length read
  pub agrees : Agrees earlier last
  pub all : behind read (read_lines format earlier left) ≡ read_lines format [] (lines text)

module _ {L : Type 0} (format : Format L) (text : List ℕ) where
  pub held_none : (left : List (List ℕ)) (read : List L) → left ≡ lines text → read ≡ [] → Held format text left read None
  held_none left read l e = record { earlier = []; long = sym (ap length e); agrees = agrees_none; all = behind_none read (read_lines format [] left) e ∙ ap (read_lines format []) l }

  module _ (left : List (List ℕ)) (line : List ℕ) (rest : List (List ℕ)) (read : List L) (last : Option (ℕ × ℕ)) (n : ℕ) (h : Held format text left read last) (next : left ≡ line ∷ rest) (long : n ≡ length read) where
    abbrev told : Result (ℕ × L) LineFault
    told = lettered format (comes last) (so_far last) n (bare line)

    same : told ≡ read_line format h.earlier (bare line)
    same = line_same format n (bare line) h.earlier last h.agrees (long ∙ sym h.long)

    pub held_more : (letter : ℕ) (l : L) (after : List L) (counted : ℕ) → Ok (letter, l) ≡ told → after ≡ read ++ (l ∷ []) → counted ≡ so_far last letter + 1 → Held format text rest after (Some (letter, counted))
    held_more letter l after counted e p c =
        let passes = line_passes format n (bare line) (comes last) (so_far last) letter l (sym e) in
        record {
          earlier = letter ∷ h.earlier;
          long = omega (arith, h.long, ap length p, length_push read l);
          agrees = subst (λ (k : ℕ). Agrees (letter ∷ h.earlier) (Some (letter, k))) (sym c) (agrees_more h.earlier last letter h.agrees passes.comes);
          all = read_more format h.earlier line rest read letter l after (sym same ∙ sym e) p ∙ ap (λ (ls : List (List ℕ)). behind read (read_lines format h.earlier ls)) (sym next) ∙ h.all;
        }
