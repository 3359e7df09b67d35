-- The refusals of a row: all of one layer, each with its number, and its place where it has one.
use Rattle.std.specs.Prelude.{ℕ}
use Rattle.row.specs.declared.faults.RowFault.{RowFault}
use Rattle.row.specs.declared.faults.RowFault.TheVariants.{TooWide, Unended, FieldCount, NoNumber, NoRoom}

-- a row is the third layer
abbrev pub layer_of : RowFault → ℕ
layer_of fault = 3

abbrev pub number_of : RowFault → ℕ
number_of TooWide = 15
number_of Unended = 16
number_of (FieldCount found) = 17
number_of (NoNumber at) = 18
number_of NoRoom = 19

abbrev pub place_of : RowFault → ℕ
place_of TooWide = 0
place_of Unended = 0
place_of (FieldCount found) = found
place_of (NoNumber at) = at
place_of NoRoom = 0
