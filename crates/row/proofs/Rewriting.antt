-- A row read has its bytes when it is written again.
use Rattle.std.proofs.Common.{◌≡◌, ℕ, zero, suc, ◌+◌, ◌-◌, ◌<◌, ◌≤◌, Bool, true, false, eqb, ltb, List, [], ◌∷◌, ◌++◌, map, length, take, drop, Some, None, Ok, Err, decimal, Option, unwrap_or, sym, refl, ap, ◌∙◌, ap₂, arith}
use Rattle.std.proofs.lemmas.List.{length-append, length-take, take-take}
use Rattle.std.proofs.lemmas.Bool.{cond-false, cond-true, le-ltb}
use Rattle.std.specs.Option.{option_map}
use Rattle.text.proofs.Decimals.{decimal_from_spells}
use Rattle.text.proofs.Parting.{fields_whole}
use Rattle.text.proofs.Search.{position_found}
use Rattle.text.proofs.Spelling.{spells_from_word}
use Rattle.text.specs.Fields.{with_commas}
use Rattle.text.specs.Parts.{overwritten, position}
use Rattle.text.specs.Words.{word_in}
use Rattle.row.specs.declared.faults.RowFault.TheVariants.{TooWide, NoRoom, FieldCount}
use Rattle.row.specs.Reading.{field_words, fields_due, first_bad, line_at, line_length, line_words, unless_bad, words_of}
use Rattle.row.specs.Rows.{most_bytes, newline, row_bytes}
use Rattle.row.specs.Trips.{Rewrites}
use Rattle.row.specs.Writing.{write_row}
use Rattle.row.proofs.FieldWords.{bad_here, bad_later}

-- fields that are all numbers are what is written of their words
spelled_again : (fs : List (List ℕ)) → first_bad fs ≡ None → map decimal (words_of fs) ≡ fs
spelled_again [] e = refl
spelled_again (f ∷ fs) e = go (word_in f) refl (first_bad fs) refl (spelled_again fs)
  where
    go : (o : Option ℕ) → word_in f ≡ o → (b : Option ℕ) → first_bad fs ≡ b → (first_bad fs ≡ None → map decimal (words_of fs) ≡ fs) → map decimal (words_of (f ∷ fs)) ≡ f ∷ fs
    go None w b h ih = let z : ◌≡◌ {A = ℕ} 0 1 = cc (bad_here f fs w) in absurd (omega arith)
    go (Some n) w (Some i) h ih = let z : ◌≡◌ {A = ℕ} 0 1 = cc (bad_later f fs n w ∙ ap (option_map suc) h) in absurd (omega arith)
    go (Some n) w None h ih =
        ap₂ (λ (g : List ℕ) (gs : List (List ℕ)). g ∷ gs) (ap (λ (o : Option ℕ). decimal (unwrap_or o 0)) w ∙ sym (decimal_from_spells f n (spells_from_word f n w))) (ih h)

due_whole : (due : ℕ) (line : List ℕ) → with_commas (fields_due due line) ≡ line
due_whole zero [] = refl
due_whole zero (b ∷ bs) = fields_whole (b ∷ bs)
due_whole (suc n) line = fields_whole line

fields_again : (fs : List (List ℕ)) (words : List ℕ) → field_words fs ≡ Ok words → map decimal words ≡ fs
fields_again fs words e = go (first_bad fs) refl
  where
    go : (o : Option ℕ) → first_bad fs ≡ o → map decimal words ≡ fs
    go None h = let z : words ≡ words_of fs = cc (ap (unless_bad (words_of fs)) h) in ap (map decimal) z ∙ spelled_again fs h
    go (Some i) h = let z : ◌≡◌ {A = ℕ} 0 1 = cc (ap (unless_bad (words_of fs)) h) in absurd (omega arith)

line_again : (due : ℕ) (line words : List ℕ) → line_words due line ≡ Ok words → with_commas (map decimal words) ≡ line
line_again due line words e = go (eqb (length (fields_due due line)) due) refl
  where
    go : (t : Bool) → eqb (length (fields_due due line)) due ≡ t → with_commas (map decimal words) ≡ line
    go true t =
        ap with_commas (fields_again (fields_due due line) words (sym (cond-true (eqb (length (fields_due due line)) due) (field_words (fields_due due line)) (Err (FieldCount (length (fields_due due line)))) t) ∙ e))
        ∙ due_whole due line
    go false t =
        let z : ◌≡◌ {A = ℕ} 0 1 = cc (cond-false (eqb (length (fields_due due line)) due) (field_words (fields_due due line)) (Err (FieldCount (length (fields_due due line)))) t) in
        absurd (omega arith)

-- the line and its byte 10 are the bytes from the place on
window_bytes : (rest line : List ℕ) (o : Option ℕ) → position newline (take most_bytes rest) ≡ o → option_map (λ n. take n rest) o ≡ Some line → take (length line + 1) rest ≡ line ++ (newline ∷ [])
window_bytes rest line None p e = let z : ◌≡◌ {A = ℕ} 0 1 = cc in absurd (omega arith)
window_bytes rest line (Some n) p e =
    let same : line ≡ take n rest = cc in
    let found = position_found newline (take most_bytes rest) n p in
    let near : n < 704 = omega (arith, length-take most_bytes rest, found.0) in
    let long : length line + 1 ≡ suc n = omega (arith, ap length same, length-take n rest, length-take most_bytes rest, found.0) in
    ap (λ (m : ℕ). take m rest) long
    ∙ sym (take-take (suc n) most_bytes rest near)
    ∙ found.1
    ∙ ap (λ (l : List ℕ). l ++ (newline ∷ [])) (take-take n most_bytes rest (omega arith) ∙ sym same)

line_bytes : (text : List ℕ) (place : ℕ) (line : List ℕ) → line_at text place ≡ Some line → take (length line + 1) (drop place text) ≡ line ++ (newline ∷ [])
line_bytes text place line e = window_bytes (drop place text) line (line_length text place) refl e

pub write_fits : (row other : List ℕ) → length row ≤ 64 → length (row_bytes row) ≤ length other → write_row row other ≡ (Ok (length (row_bytes row)), overwritten other 0 (row_bytes row))
write_fits row other narrow room =
    cond-false (ltb 64 (length row)) (Err TooWide, other) _ (le-ltb 64 (length row) narrow)
    ∙ cond-false (ltb (length other) (length (row_bytes row))) (Err NoRoom, other) (Ok (length (row_bytes row)), overwritten other 0 (row_bytes row)) (le-ltb (length other) (length (row_bytes row)) room)

-- the bytes of the row that was read
pub row_again : (text : List ℕ) (place : ℕ) (line : List ℕ) (due : ℕ) (words : List ℕ) → line_at text place ≡ Some line → line_words due line ≡ Ok words → row_bytes words ≡ take (length line + 1) (drop place text)
row_again text place line due words e good =
    ap (λ (l : List ℕ). l ++ (newline ∷ [])) (line_again due line words good) ∙ sym (line_bytes text place line e)

pub rewrites : (text : List ℕ) (place end : ℕ) (row line : List ℕ) → length row ≤ 64 → line_at text place ≡ Some line → line_words (length row) line ≡ Ok row → end ≡ place + length line + 1 → Rewrites text place end row
rewrites text place end row line narrow e good to = record { again = λ other room. write_fits row other narrow (omega (arith, long)) ∙ ap₂ (λ (n : ℕ) (bs : List ℕ). (Ok n, overwritten other 0 bs)) long bytes }
  where
    bytes : row_bytes row ≡ take (end - place) (drop place text)
    bytes = row_again text place line (length row) row e good ∙ ap (λ (n : ℕ). take n (drop place text)) (let n : length line + 1 ≡ end - place = omega arith in n)

    long : length (row_bytes row) ≡ end - place
    long =
        ap (λ (l : List ℕ). length (l ++ (newline ∷ []))) (line_again (length row) line row good)
        ∙ length-append line (newline ∷ [])
        ∙ (let n : length line + 1 ≡ end - place = omega arith in n)
