-- The first line of a text: reading a row looks at nothing else.
use Rattle.std.proofs.Common.{◌≡◌, ℕ, suc, ◌+◌, ◌<◌, ◌≤◌, List, [], ◌∷◌, length, take, drop, Some, None, Option, sym, refl, ap, ◌∙◌, ⊎_elim, arith}
use Rattle.std.proofs.lemmas.List.{length-take, take-take}
use Rattle.std.proofs.lemmas.Bool.{cases_lt}
use Rattle.std.specs.Option.{option_map}
use Rattle.text.proofs.Cutting.{lines_cut, lines_last}
use Rattle.text.proofs.Search.{position_back, position_beyond, position_found, position_within}
use Rattle.text.specs.Parts.{position}
use Rattle.row.specs.Reading.{line_at, line_length}
use Rattle.row.specs.Rows.{newline}
use Rattle.text.specs.Lines.{lines}

-- The first line, the others, and that a row is read alike from the line and from the text.
pub record FirstLine (text : List ℕ) : Type 0 where
  pub first : List ℕ
  pub others : List (List ℕ)
  pub cut : lines text ≡ first ∷ others
  pub same : line_at first 0 ≡ line_at text 0
  pub after : (line : List ℕ) → line_at text 0 ≡ Some line → others ≡ lines (drop (length line + 1) text)

-- the line of a row is as long as its byte 10 stands far
pub line_found : (text line : List ℕ) → line_at text 0 ≡ Some line → (n : ℕ) × (position newline text ≡ Some n) × (length line ≡ n) × (n < length text)
line_found text line e = go (line_length text 0) refl
  where
    go : (o : Option ℕ) → line_length text 0 ≡ o → (n : ℕ) × (position newline text ≡ Some n) × (length line ≡ n) × (n < length text)
    go None p = cc (sym (ap (option_map (λ m. take m text)) p) ∙ e)
    go (Some n) p =
        let same : line ≡ take n text = cc (sym (ap (option_map (λ m. take m text)) p) ∙ e) in
        let found = position_back newline text n 704 p in
        let within = (position_found newline text n found).0 in
        (n, found, omega (arith, ap length same, length-take n text), within)

same_line : (text : List ℕ) (n : ℕ) → position newline text ≡ Some n → line_at (take (suc n) text) 0 ≡ line_at text 0
same_line text n e =
    ⊎_elim
    (λ (h : n < 704).
    ap (option_map (λ m. take m (take (suc n) text))) (position_within newline (take (suc n) text) n 704 (position_within newline text n (suc n) e (omega arith)) h)
    ∙ ap Some (take-take n (suc n) text (omega arith))
    ∙ sym (ap (option_map (λ m. take m text)) (position_within newline text n 704 e h)))
    (λ (h : 704 ≤ n).
    ap (option_map (λ m. take m (take (suc n) text))) (ap (position newline) (take-take 704 (suc n) text (omega arith)) ∙ position_beyond newline text n 704 e h)
    ∙ sym (ap (option_map (λ m. take m text)) (position_beyond newline text n 704 e h)))
    (cases_lt n 704)

pub first_line : (text : List ℕ) → 0 < length text → FirstLine text
first_line text some = go (position newline text) refl
  where
    go : (o : Option ℕ) → position newline text ≡ o → FirstLine text
    go None p = record {
      first = text;
      others = [];
      cut = lines_last text some p;
      same = refl;
      after = λ line e. let found = line_found text line e in let z : ◌≡◌ {A = ℕ} 0 1 = cc found.1 in absurd (omega arith);
    }
    go (Some n) p = record {
      first = take (suc n) text;
      others = lines (drop (suc n) text);
      cut = lines_cut text n p;
      same = same_line text n p;
      after = λ line e. let found = line_found text line e in
          let z : n ≡ found.0 = cc found.1 in
          let m : suc n ≡ length line + 1 = omega (arith, found.2) in ap (λ (k : ℕ). lines (drop k text)) m;
    }
