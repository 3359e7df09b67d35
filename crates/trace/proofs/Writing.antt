-- A row that is not too wide has room in the text that it is written into.
use Rattle.std.proofs.Common.{◌≡◌, ℕ, ◌≤◌, List, length, Ok, Fits, w32, get_or, arith}
use Rattle.row.proofs.Rereading.{row_short}
use Rattle.row.proofs.Rewriting.{write_fits}
use Rattle.row.specs.Rows.{row_bytes}
use Rattle.row.specs.Writing.{write_row}
use Rattle.text.specs.Parts.{overwritten}

pub row_written : (row text : List ℕ) → length row ≤ 64 → 704 ≤ length text → ((i : ℕ) → Fits w32 (get_or row i 0)) → write_row row text ≡ (Ok (length (row_bytes row)), overwritten text 0 (row_bytes row))
row_written row text narrow room words = write_fits row text narrow (let short = row_short row narrow (λ i. omega (arith, words i)) in omega arith)
