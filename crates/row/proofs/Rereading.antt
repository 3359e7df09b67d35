-- A row written has its values when it is read again.
use Rattle.std.proofs.Common.{◌≡◌, ℕ, zero, suc, ◌+◌, ◌-◌, ◌*◌, ◌^◌, ◌<◌, ◌≤◌, true, cond, eqb, List, [], ◌∷◌, ◌++◌, map, length, get_or, take, drop, Some, None, Ok, Err, decimal, Option, unwrap_or, refl, ap, ◌∙◌, ap₂, arith}
use Rattle.std.proofs.lemmas.List.{append_assoc, length-append, length-map, take_at}
use Rattle.std.proofs.lemmas.Bool.{and_parts, cond-true, eq-eqb, ne_eqb, leb-true}
use Rattle.std.specs.Option.{option_map}
use Rattle.std.specs.List.{AllByRecursion}
use Rattle.text.proofs.Decimals.{length_word, spells_decimal}
use Rattle.text.proofs.Parting.{fields_unique}
use Rattle.text.proofs.Search.{position_append, position_neither, position_past}
use Rattle.text.proofs.Spelling.{word_from_spells}
use Rattle.text.specs.Fields.{after_commas, comma, with_commas}
use Rattle.text.specs.Parts.{overwritten, position}
use Rattle.text.specs.Words.{all_digits, is_digit, word_in}
use Rattle.row.specs.declared.faults.RowFault.TheVariants.{FieldCount}
use Rattle.row.specs.Reading.{field_words, fields_due, first_bad, line_at, line_words, unless_bad, words_of}
use Rattle.row.specs.Rows.{most_bytes, newline, row_bytes}
use Rattle.row.specs.Trips.{Rereads}
use Rattle.row.proofs.FieldWords.{bad_later}
use Rattle.row.proofs.Lengths.{length_row, spelled, spelled_more}
use Rattle.row.proofs.Readings.{read_good}

abbrev Words : List ℕ → Type 0
Words ws = AllByRecursion (λ w. w < 2 ^ 32) ws

words_from : (ws : List ℕ) → ((i : ℕ) → get_or ws i 0 < 2 ^ 32) → Words ws
words_from [] h = tt
words_from (w ∷ ws) h = (h 0, words_from ws (λ i. h (suc i)))

-- digits hold neither a comma nor byte 10
digits_lack : (byte : ℕ) (ds : List ℕ) → byte < 48 → all_digits ds ≡ true → position byte ds ≡ None
digits_lack byte [] h e = refl
digits_lack byte (d ∷ ds) h e =
    let parts = and_parts (is_digit d) (all_digits ds) e in
    let low = leb-true 48 d (and_parts _ _ parts.0).0 in
    position_past byte d ds (ne_eqb d byte (omega arith)) ∙ ap (option_map suc) (digits_lack byte ds h parts.1)

decimal_lacks : (byte w : ℕ) → byte < 48 → w < 2 ^ 32 → position byte (decimal w) ≡ None
decimal_lacks byte w h k = digits_lack byte (decimal w) h (spells_decimal w k).digits

apart : (ws : List ℕ) → Words ws → AllByRecursion (λ f. position comma f ≡ None) (map decimal ws)
apart [] h = tt
apart (w ∷ ws) h = (decimal_lacks comma w (omega arith) h.0, apart ws h.1)

after_lacks : (ws : List ℕ) → Words ws → position newline (after_commas (map decimal ws)) ≡ None
after_lacks [] h = refl
after_lacks (w ∷ ws) h =
    position_neither newline (comma ∷ []) (decimal w ++ after_commas (map decimal ws)) refl
    (position_neither newline (decimal w) (after_commas (map decimal ws)) (decimal_lacks newline w (omega arith) h.0) (after_lacks ws h.1))

content_lacks : (ws : List ℕ) → Words ws → position newline (with_commas (map decimal ws)) ≡ None
content_lacks [] h = refl
content_lacks (w ∷ ws) h =
    position_neither newline (decimal w) (after_commas (map decimal ws)) (decimal_lacks newline w (omega arith) h.0) (after_lacks ws h.1)

-- a row of 64 words at most has 704 bytes at most
spelled_short : (ws : List ℕ) → Words ws → spelled ws ≤ 11 * length ws
spelled_short [] h = omega arith
spelled_short (w ∷ ws) h = omega (arith, spelled_more w ws, length_word w h.0, spelled_short ws h.1)

pub row_short : (ws : List ℕ) → length ws ≤ 64 → ((i : ℕ) → get_or ws i 0 < 2 ^ 32) → length (row_bytes ws) ≤ 704
row_short ws h fits = omega (arith, length_row ws, spelled_short ws (words_from ws fits))

-- the fields of the line are what is written of the words, and each is its word
due_fields : (ws : List ℕ) → Words ws → fields_due (length ws) (with_commas (map decimal ws)) ≡ map decimal ws
due_fields [] h = refl
due_fields (w ∷ ws) h = fields_unique (map decimal (w ∷ ws)) (omega arith) (apart (w ∷ ws) h)

word_of : (w : ℕ) → w < 2 ^ 32 → word_in (decimal w) ≡ Some w
word_of w h = word_from_spells (decimal w) w (spells_decimal w h)

none_bad : (ws : List ℕ) → Words ws → first_bad (map decimal ws) ≡ None
none_bad [] h = refl
none_bad (w ∷ ws) h = bad_later (decimal w) (map decimal ws) w (word_of w h.0) ∙ ap (option_map suc) (none_bad ws h.1)

same_words : (ws : List ℕ) → Words ws → words_of (map decimal ws) ≡ ws
same_words [] h = refl
same_words (w ∷ ws) h =
    ap₂ (λ (x : ℕ) (xs : List ℕ). x ∷ xs) (ap (λ (o : Option ℕ). unwrap_or o 0) (word_of w h.0)) (same_words ws h.1)

line_reads : (ws : List ℕ) → Words ws → line_words (length ws) (with_commas (map decimal ws)) ≡ Ok ws
line_reads ws h =
    ap (λ (fs : List (List ℕ)). cond (eqb (length fs) (length ws)) (field_words fs) (Err (FieldCount (length fs)))) (due_fields ws h)
    ∙ cond-true (eqb (length (map decimal ws)) (length ws)) (field_words (map decimal ws)) (Err (FieldCount (length (map decimal ws)))) (eq-eqb (length (map decimal ws)) (length ws) (length-map ws decimal))
    ∙ ap₂ unless_bad (same_words ws h) (none_bad ws h)

-- the line of a row that is followed by other bytes
take_past : (n : ℕ) (xs : List ℕ) (y : ℕ) (ys : List ℕ) → length xs < n → take n (xs ++ (y ∷ ys)) ≡ xs ++ (y ∷ take (n - suc (length xs)) ys)
take_past zero xs y ys h = absurd (omega arith)
take_past (suc n) [] y ys h = ap (λ (m : ℕ). y ∷ take m ys) (let e : n ≡ suc n - 1 = omega arith in e)
take_past (suc n) (x ∷ xs) y ys h =
    ap (λ (zs : List ℕ). x ∷ zs) (take_past n xs y ys (omega arith))
    ∙ ap (λ (m : ℕ). x ∷ (xs ++ (y ∷ take m ys))) (let e : n - suc (length xs) ≡ suc n - suc (suc (length xs)) = omega arith in e)

line_first : (line rest : List ℕ) → length line < 704 → position newline line ≡ None → line_at (line ++ (newline ∷ rest)) 0 ≡ Some line
line_first line rest short lacks =
    ap (option_map (λ n. take n (line ++ (newline ∷ rest)))) (ap (position newline) (take_past most_bytes line newline rest short) ∙ position_append newline line (take (most_bytes - suc (length line)) rest) lacks)
    ∙ ap Some (take_at line (newline ∷ rest) (length line) refl)

pub rereads : (row text after : List ℕ) (end : ℕ) → length row ≤ 64 → ((i : ℕ) → get_or row i 0 < 2 ^ 32) → after ≡ overwritten text 0 (row_bytes row) → end ≡ length (row_bytes row) → Rereads row after end
rereads row text after end narrow fits e to = record {
  again = λ other same.
      read_good after 0 other (with_commas (map decimal row)) (omega arith) here row (ap (λ (n : ℕ). line_words n (with_commas (map decimal row))) same ∙ line_reads row words)
      ∙ ap (λ (n : ℕ). (Ok n, row)) (let n : 0 + length (with_commas (map decimal row)) + 1 ≡ end = omega (arith, long) in n);
}
  where
    words : Words row
    words = words_from row fits

    long : length (row_bytes row) ≡ length (with_commas (map decimal row)) + 1
    long = length-append (with_commas (map decimal row)) (newline ∷ [])

    here : line_at after 0 ≡ Some (with_commas (map decimal row))
    here =
        ap (λ (t : List ℕ). line_at t 0) (e ∙ append_assoc (with_commas (map decimal row)) (newline ∷ []) (drop (0 + length (row_bytes row)) text))
        ∙ line_first (with_commas (map decimal row)) (drop (0 + length (row_bytes row)) text) (omega (arith, long, length_row row, spelled_short row words)) (content_lacks row words)
