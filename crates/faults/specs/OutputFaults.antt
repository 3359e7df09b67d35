-- The refusals of an execution: each with its layer, its number and its place.
use Rattle.std.specs.Prelude.{ℕ, List}
use Rattle.trace.specs.Faults as trace
use Rattle.trace.specs.Refusals.{refusal}
use Rattle.faults.specs.ChartFaults as chart
use Rattle.faults.specs.declared.outputs.Fault.{Fault}
use Rattle.faults.specs.declared.outputs.Fault.TheVariants.{Chart, ChartFile, Trace}

abbrev pub layer_of : Fault → ℕ
layer_of (Chart fault) = chart.layer_of fault
layer_of ChartFile = 5
layer_of (Trace fault) = trace.layer_of fault

abbrev pub number_of : Fault → ℕ
number_of (Chart fault) = chart.number_of fault
number_of ChartFile = 27
number_of (Trace fault) = trace.number_of fault

abbrev pub place_of : Fault → ℕ
place_of (Chart fault) = chart.place_of fault
place_of ChartFile = 0
place_of (Trace fault) = trace.place_of fault

-- the line of a fault, with the rows accepted before
abbrev pub refusal_of : Fault → ℕ → List ℕ
refusal_of fault rows = refusal (layer_of fault) (number_of fault) (place_of fault) rows
