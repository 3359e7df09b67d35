-- Where a transition leads.
use Rattle.std.specs.Prelude.{Bool, false, Some, None, Option, ◌==◌}
use Rattle.chart.specs.declared.states.State.{State}
use Rattle.chart.specs.declared.transitions.Transition.{Transition}
use Rattle.std.specs.List.{slice_get}
use Rattle.structure.specs.Lists.{Lists, before_transitions}
use Rattle.structure.specs.Verdicts.{Verdict, first_line, refused_at}
use Rattle.faults.specs.declared.charts.ChartFault.TheVariants.{Crossing}

-- both states are there and lie in one region
abbrev pub same_region : Option State → Option State → Bool
same_region None target = false
same_region (Some source) None = false
same_region (Some source) (Some target) = source.region == target.region

-- 11. The transition stays in its source's region.
abbrev pub stays : Lists → Transition → Bool
stays lists t = same_region (slice_get lists.states t.source) (slice_get lists.states t.target)

abbrev pub crossing_verdict : Lists → Verdict
crossing_verdict lists = refused_at Crossing (first_line (before_transitions lists) (λ _. stays lists) lists.transitions)
