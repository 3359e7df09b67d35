-- A row's bytes word by word, as they are written.
use Rattle.std.proofs.Common.{◌≡◌, ℕ, ◌+◌, ◌<◌, ◌≤◌, List, [], ◌∷◌, ◌++◌, map, length, get_or, drop, set, decimal, sym, ap, ◌∙◌, arith, length-set}
use Rattle.std.proofs.lemmas.List.{append_assoc, at_drop_all, at_drop_more, length-append}
use Rattle.text.proofs.Overwriting.{overwritten_append, overwritten_one}
use Rattle.text.specs.Fields.{after_commas, comma}
use Rattle.text.specs.Parts.{overwritten}
use Rattle.row.specs.Rows.{newline, row_bytes}

-- what stands behind a word: the words to come, each behind a comma, and byte 10
abbrev pub tail : List ℕ → List ℕ
tail words = after_commas (map decimal words) ++ (newline ∷ [])

pub row_first : (w : ℕ) (ws : List ℕ) → row_bytes (w ∷ ws) ≡ decimal w ++ tail ws
row_first w ws = append_assoc (decimal w) (after_commas (map decimal ws)) (newline ∷ [])

pub tail_first : (w : ℕ) (ws : List ℕ) → tail (w ∷ ws) ≡ comma ∷ (decimal w ++ tail ws)
tail_first w ws = ap (λ (bs : List ℕ). comma ∷ bs) (append_assoc (decimal w) (after_commas (map decimal ws)) (newline ∷ []))

pub length_tail_first : (w : ℕ) (ws : List ℕ) → length (tail (w ∷ ws)) ≡ 1 + length (decimal w) + length (tail ws)
length_tail_first w ws = omega (arith, ap length (tail_first w ws), length-append (decimal w) (tail ws))

pub length_tail_some : (ws : List ℕ) → 0 < length (tail ws)
length_tail_some ws = omega (arith, length-append (after_commas (map decimal ws)) (newline ∷ []))

pub length_row_first : (w : ℕ) (ws : List ℕ) → length (row_bytes (w ∷ ws)) ≡ length (decimal w) + length (tail ws)
length_row_first w ws = ap length (row_first w ws) ∙ length-append (decimal w) (tail ws)

-- the first word, and then what stands behind it
pub row_more : (text : List ℕ) (w : ℕ) (ws : List ℕ) → length (decimal w) ≤ length text → overwritten (overwritten text 0 (decimal w)) (0 + length (decimal w)) (tail ws) ≡ overwritten text 0 (row_bytes (w ∷ ws))
row_more text w ws h =
    overwritten_append text 0 (decimal w) (tail ws) (omega arith) ∙ ap (overwritten text 0) (sym (row_first w ws))

-- the comma and the next word, and then what stands behind it
tail_more : (text : List ℕ) (place w : ℕ) (ws : List ℕ) → place + 1 + length (decimal w) ≤ length text → overwritten (overwritten (set text place comma) (place + 1) (decimal w)) (place + 1 + length (decimal w)) (tail ws) ≡ overwritten text place (tail (w ∷ ws))
tail_more text place w ws h =
    overwritten_append (set text place comma) (place + 1) (decimal w) (tail ws) (omega (arith, length-set text place comma))
    ∙ ap (λ (t : List ℕ). overwritten t (place + 1) (decimal w ++ tail ws)) (overwritten_one text place comma (omega arith))
    ∙ overwritten_append text place (comma ∷ []) (decimal w ++ tail ws) (omega arith)
    ∙ ap (overwritten text place) (sym (tail_first w ws))

-- the words from a place on
module _ (ws : List ℕ) (i : ℕ) where
  pub length_tail_at : i < length ws → length (tail (drop i ws)) ≡ 1 + length (decimal (get_or ws i 0)) + length (tail (drop (i + 1) ws))
  length_tail_at h = ap length (at_drop_more tail ws i 0 h) ∙ length_tail_first (get_or ws i 0) (drop (i + 1) ws)

  pub length_tail_end : length ws ≤ i → length (tail (drop i ws)) ≡ 1
  length_tail_end h = ap length (at_drop_all tail ws i h)

  pub tail_at : (text : List ℕ) (place : ℕ) → i < length ws → place + 1 + length (decimal (get_or ws i 0)) ≤ length text → overwritten (overwritten (set text place comma) (place + 1) (decimal (get_or ws i 0))) (place + 1 + length (decimal (get_or ws i 0))) (tail (drop (i + 1) ws)) ≡ overwritten text place (tail (drop i ws))
  tail_at text place h room =
      tail_more text place (get_or ws i 0) (drop (i + 1) ws) room ∙ ap (overwritten text place) (sym (at_drop_more tail ws i 0 h))

  pub tail_end : (text : List ℕ) (place : ℕ) → length ws ≤ i → place < length text → set text place newline ≡ overwritten text place (tail (drop i ws))
  tail_end text place h room = overwritten_one text place newline room ∙ ap (overwritten text place) (sym (at_drop_all tail ws i h))
