-- What keeps an execution from its rows, and what it tells of the output.
use Rattle.std.specs.Prelude.{◌≡◌, ◌≢◌, ℕ, List, alloc_error}
use Rattle.faults.specs.OutputFaults.{refusal_of}
use Rattle.faults.specs.declared.charts.ChartFault.{ChartFault}
use Rattle.faults.specs.declared.charts.ChartFault.TheVariants as chart
use Rattle.faults.specs.declared.outputs.Fault.TheVariants.{Chart}
use Rattle.execution.specs.declared.stops.Stop.{Stop}
use Rattle.execution.specs.declared.stops.Stop.TheVariants.{Refused, Memory}

-- a refusal is the whole output, and want of memory tells nothing of it
abbrev pub Tells : List ℕ → Stop → Type 0
Tells out (Refused fault) = out ≡ refusal_of fault 0
Tells out (Memory short) = Unit {0}

-- a chart is refused by its fault, unless that is want of memory
abbrev pub StopsChart : ChartFault → Stop → Type 0
StopsChart below (Refused fault) = (fault ≡ Chart below) × (below ≢ chart.Memory alloc_error)
StopsChart below (Memory short) = below ≡ chart.Memory short
