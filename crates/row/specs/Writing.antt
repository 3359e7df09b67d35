-- Writing a row into a text: the questions in their order, the first no deciding.
use Rattle.std.specs.Prelude.{ℕ, cond, List, length, Ok, Err, Result, nat_lt}
use Rattle.text.specs.Parts.{overwritten}
use Rattle.row.specs.declared.faults.RowFault.{RowFault}
use Rattle.row.specs.declared.faults.RowFault.TheVariants.{TooWide, NoRoom}
use Rattle.row.specs.Rows.{most_words, row_bytes}

-- Writing: the answer, and the text then. A refusal leaves the text as it was.
abbrev pub write_row : List ℕ → List ℕ → Result ℕ RowFault × List ℕ
write_row row text =
    cond (nat_lt most_words (length row)) (Err TooWide, text)
    (cond (nat_lt (length text) (length (row_bytes row))) (Err NoRoom, text) (Ok (length (row_bytes row)), overwritten text 0 (row_bytes row)))
