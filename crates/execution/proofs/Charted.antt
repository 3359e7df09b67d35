-- What reading the chart tells of the output.
use Rattle.std.proofs.Common.{◌≡◌, ℕ, ◌⊎◌, List, Ok, Err, Option, Result, sym, ap, inl, inr, alloc_error}
use Rattle.structure.specs.Charts.{Settles}
use Rattle.structure.specs.Lists.{Lists}
use Rattle.structure.specs.Verdicts.{Verdict}
use Rattle.faults.specs.declared.charts.ChartFault.{ChartFault}
use Rattle.faults.specs.declared.charts.ChartFault.TheVariants.{Memory}
use Rattle.faults.specs.OutputFaults.{refusal_of}
use Rattle.faults.specs.declared.outputs.Fault.{Fault}
use Rattle.faults.specs.declared.outputs.Fault.TheVariants.{Chart}
use Rattle.execution.specs.Output.{charted, width_of}
use Rattle.execution.specs.Stops.{StopsChart, Tells}
use Rattle.execution.specs.declared.stops.Stop.{Stop}
use Rattle.execution.specs.declared.stops.Stop.TheVariants as stopped

-- a chart that is refused gives no width, and says why
pub width_stop : (found : Result Lists ChartFault) (fault : ChartFault) (left : Verdict × Lists) → left.0 ≡ Err fault → Settles found left → (◌≡◌ {A = Result ℕ ChartFault} (Err fault) (Err (Memory alloc_error))) ⊎ (Err fault ≡ width_of found)
width_stop found fault left told (inl e) = let z : fault ≡ Memory alloc_error = cc in inl (ap Err z)
width_stop (Ok other) fault left told (inr e) = cc
width_stop (Err other) fault left told (inr e) = let z : fault ≡ other = cc in inr (ap Err z)

-- what stops at the chart tells the output
pub chart_tells : (found : Result Lists ChartFault) (fault : ChartFault) (trace : Option (List ℕ)) (stop : Stop) → (◌≡◌ {A = Result ℕ ChartFault} (Err fault) (Err (Memory alloc_error))) ⊎ (Err fault ≡ width_of found) → StopsChart fault stop → Tells (charted found trace) stop
chart_tells found fault trace (stopped.Memory short) e stops = tt
chart_tells found fault trace (stopped.Refused told) (inl e) stops = let z : fault ≡ Memory alloc_error = cc in absurd (stops.1 z)
chart_tells (Ok lists) fault trace (stopped.Refused told) (inr e) stops = cc
chart_tells (Err other) fault trace (stopped.Refused told) (inr e) stops = let z : told ≡ Chart other = cc (stops.0, e) in ap (λ (f : Fault). refusal_of f 0) (sym z)
