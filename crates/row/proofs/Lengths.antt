-- How many bytes a row has.
use Rattle.std.proofs.Common.{◌≡◌, ℕ, ◌+◌, max, List, [], ◌∷◌, length, decimal, sum_by, refl, ap, arith}
use Rattle.std.proofs.lemmas.List.{length-append}
use Rattle.std.proofs.lemmas.List.Sums.{sum_by-cons}
use Rattle.row.specs.Rows.{row_bytes}
use Rattle.row.proofs.Tails.{tail, length_tail_first, row_first}

-- the bytes of words, each with the byte behind it
abbrev pub spelled : List ℕ → ℕ
spelled ws = sum_by (λ w. length (decimal w) + 1) ws

pub spelled_more : (w : ℕ) (ws : List ℕ) → spelled (w ∷ ws) ≡ length (decimal w) + 1 + spelled ws
spelled_more w ws = sum_by-cons (λ w. length (decimal w) + 1) w ws

length_tail : (ws : List ℕ) → length (tail ws) ≡ spelled ws + 1
length_tail [] = refl
length_tail (w ∷ ws) = omega (arith, spelled_more w ws, length_tail_first w ws, length_tail ws)

pub length_row : (ws : List ℕ) → length (row_bytes ws) ≡ max (spelled ws) 1
length_row [] = refl
length_row (w ∷ ws) = omega (arith, spelled_more w ws, ap length (row_first w ws), length-append (decimal w) (tail ws), length_tail ws)
