-- What reading gives where the line of the row is found.
use Rattle.std.proofs.Common.{◌≡◌, ℕ, ◌+◌, ◌≤◌, ltb, List, length, Some, Ok, Err, Option, Result, ap, ◌∙◌}
use Rattle.std.proofs.lemmas.Bool.{cond-false, le-ltb}
use Rattle.row.specs.declared.faults.RowFault.{RowFault}
use Rattle.row.specs.declared.faults.RowFault.TheVariants.{TooWide}
use Rattle.row.specs.Reading.{ending, line_at, line_words, read_row, row_of, settled}

-- reading a row that is not too wide
read_narrow : (text : List ℕ) (place : ℕ) (row : List ℕ) → length row ≤ 64 → read_row text place row ≡ settled row (row_of place (length row) (line_at text place))
read_narrow text place row h =
    ap (settled row) (cond-false (ltb 64 (length row)) (Err TooWide) (row_of place (length row) (line_at text place)) (le-ltb 64 (length row) h))

module _ (text : List ℕ) (place : ℕ) (row line : List ℕ) (h : length row ≤ 64) (e : line_at text place ≡ Some line) where
  pub read_good : (words : List ℕ) → line_words (length row) line ≡ Ok words → read_row text place row ≡ (Ok (place + length line + 1), words)
  read_good words good =
      read_narrow text place row h ∙ ap (λ (o : Option (List ℕ)). settled row (row_of place (length row) o)) e
      ∙ ap (λ (r : Result (List ℕ) RowFault). settled row (ending (place + length line + 1) r)) good
