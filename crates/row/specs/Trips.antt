-- The two round trips of a row.
use Rattle.std.specs.Prelude.{◌≡◌, ℕ, ◌-◌, ◌≤◌, List, length, take, drop, Ok}
use Rattle.text.specs.Parts.{overwritten}
use Rattle.row.specs.Reading.{read_row}
use Rattle.row.specs.Writing.{write_row}

-- A row read has its bytes when it is written again, into any text that holds them: those of the first text from a place to an end.
pub record Rewrites (text : List ℕ) (place end : ℕ) (row : List ℕ) : Type 0 where
  pub again : (other : List ℕ) → end - place ≤ length other → write_row row other ≡ (Ok (end - place), overwritten other 0 (take (end - place) (drop place text)))

-- A row written has its values when it is read again, into any row of as many words.
pub record Rereads (row text : List ℕ) (end : ℕ) : Type 0 where
  pub again : (other : List ℕ) → length other ≡ length row → read_row text 0 other ≡ (Ok end, row)
