-- The refusals of a trace: each with its layer, its number and its place.
use Rattle.std.specs.Prelude.{ℕ, List}
use Rattle.row.specs.Faults as row
use Rattle.trace.specs.Refusals.{refusal}
use Rattle.trace.specs.declared.faults.Fault.{Fault}
use Rattle.trace.specs.declared.faults.Fault.TheVariants.{Row, Trace}

abbrev pub layer_of : Fault → ℕ
layer_of (Row fault) = row.layer_of fault
layer_of Trace = 5

abbrev pub number_of : Fault → ℕ
number_of (Row fault) = row.number_of fault
number_of Trace = 27

abbrev pub place_of : Fault → ℕ
place_of (Row fault) = row.place_of fault
place_of Trace = 1

-- the line of a fault, with the rows accepted before
abbrev pub refusal_of : Fault → ℕ → List ℕ
refusal_of fault rows = refusal (layer_of fault) (number_of fault) (place_of fault) rows
