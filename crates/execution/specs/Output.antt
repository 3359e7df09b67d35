-- What an execution writes. Until charts are run, the outputs of a row are its inputs.
use Rattle.std.specs.Prelude.{ℕ, List, length, Some, None, Ok, Err, Option, Result}
use Rattle.joining.specs.Shipped.{shipped_joinings}
use Rattle.trace.specs.Output.{Echoed, traced}
use Rattle.trace.specs.Traces.{trace_of}
use Rattle.structure.specs.Charts.{verdict}
use Rattle.structure.specs.Lists.{Lists}
use Rattle.structure.specs.Variables.{input_count}
use Rattle.faults.specs.OutputFaults.{refusal_of}
use Rattle.faults.specs.declared.charts.ChartFault.{ChartFault}
use Rattle.faults.specs.declared.outputs.Fault.TheVariants.{Chart, ChartFile}

-- a row has one word for each input of an accepted chart
abbrev pub charted : Result Lists ChartFault → Option (List ℕ) → List ℕ
charted (Ok lists) trace = traced (λ bytes. input_count lists) (trace_of trace)
charted (Err fault) trace = refusal_of (Chart fault) 0

-- a chart is loaded with the joinings that are shipped
abbrev pub shipped_verdict : List ℕ → Result Lists ChartFault
shipped_verdict chart = verdict (length shipped_joinings) chart

-- how many words a row has, or why there are no rows
abbrev pub width_of : Result Lists ChartFault → Result ℕ ChartFault
width_of (Ok lists) = Ok (input_count lists)
width_of (Err fault) = Err fault

-- The output for a chart's file and a trace's, each read or not.
abbrev pub output : Option (List ℕ) → Option (List ℕ) → List ℕ
output None trace = refusal_of ChartFile 0
output (Some chart) trace = charted (shipped_verdict chart) trace

-- The rows come out as they went in, where the chart is accepted.
abbrev pub RowsEcho : Result Lists ChartFault → Option (List ℕ) → List ℕ → Type 0
RowsEcho (Ok lists) trace out = Echoed trace out
RowsEcho (Err fault) trace out = Unit {0}

abbrev pub OutputEchoes : Option (List ℕ) → Option (List ℕ) → List ℕ → Type 0
OutputEchoes None trace out = Unit {0}
OutputEchoes (Some chart) trace out = RowsEcho (shipped_verdict chart) trace out
