-- The transitions out of a state.
use Rattle.std.specs.Prelude.{ℕ, Bool, false, cond, ◌&&◌, Some, None, Option, ◌==◌, nat_eq}
use Rattle.chart.specs.Transitions.{is_termination}
use Rattle.chart.specs.declared.states.Kind.{Kind}
use Rattle.chart.specs.declared.states.Kind.TheVariants.{Initial, Ordinary, Final}
use Rattle.chart.specs.declared.states.State.{State}
use Rattle.chart.specs.declared.transitions.Transition.{Transition}
use Rattle.linefile.specs.Questions.{count_yes}
use Rattle.structure.specs.Lists.{Lists, before_states}
use Rattle.structure.specs.Verdicts.{Verdict, first_line, refused_at}
use Rattle.faults.specs.declared.charts.ChartFault.TheVariants.{Exits}

abbrev pub is_parent : ℕ → Option ℕ → Bool
is_parent state None = false
is_parent state (Some parent) = parent == state

abbrev pub ends : ℕ → Transition → Bool
ends state t = t.source == state && is_termination t.when

abbrev pub region_count : Lists → ℕ → ℕ
region_count lists state = count_yes (λ _ r. is_parent state r.parent) lists.regions

abbrev pub exit_count : Lists → ℕ → ℕ
exit_count lists state = count_yes (λ _ t. nat_eq t.source state) lists.transitions

abbrev pub termination_count : Lists → ℕ → ℕ
termination_count lists state = count_yes (λ _. ends state) lists.transitions

abbrev pub open_exits_fit : (regions exits terminations : ℕ) → Bool
open_exits_fit regions exits terminations = cond (regions == 0) (terminations == 0) (exits == 1 && terminations == 1)

-- 10. A final state has no transition out and no region; a state with regions has exactly one transition out, a
-- termination; any other has no termination.
abbrev pub exits_fit : Kind → (regions exits terminations : ℕ) → Bool
exits_fit Final regions exits terminations = exits == 0 && regions == 0
exits_fit Initial regions exits terminations = open_exits_fit regions exits terminations
exits_fit Ordinary regions exits terminations = open_exits_fit regions exits terminations

abbrev pub state_exits_fit : Lists → ℕ → State → Bool
state_exits_fit lists state s = exits_fit s.kind (region_count lists state) (exit_count lists state) (termination_count lists state)

abbrev pub exits_verdict : Lists → Verdict
exits_verdict lists = refused_at Exits (first_line (before_states lists) (state_exits_fit lists) lists.states)
