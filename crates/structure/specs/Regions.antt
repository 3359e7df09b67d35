-- The regions of a chart: one root, and one initial state in each.
use Rattle.std.specs.Prelude.{ℕ, Bool, true, false, cond, ◌&&◌, Some, None, Ok, Err, Option, ◌==◌}
use Rattle.chart.specs.declared.states.Kind.{Kind}
use Rattle.chart.specs.declared.states.Kind.TheVariants.{Initial, Ordinary, Final}
use Rattle.chart.specs.declared.states.State.{State}
use Rattle.linefile.specs.Questions.{count_yes}
use Rattle.structure.specs.Lists.{Lists, before_regions}
use Rattle.structure.specs.Verdicts.{Verdict, first_line, refused_at}
use Rattle.faults.specs.declared.charts.ChartFault.TheVariants.{Initials, Roots}

abbrev pub has_no_parent : Option ℕ → Bool
has_no_parent None = true
has_no_parent (Some state) = false

abbrev pub root_count : Lists → ℕ
root_count lists = count_yes (λ _ r. has_no_parent r.parent) lists.regions

-- 7. Exactly one region has no parent.
abbrev pub one_root : Lists → Bool
one_root lists = root_count lists == 1

abbrev pub roots_verdict : Lists → Verdict
roots_verdict lists = cond (one_root lists) (Ok tt) (Err Roots)

abbrev pub is_initial : Kind → Bool
is_initial Initial = true
is_initial Ordinary = false
is_initial Final = false

abbrev pub initial_in : ℕ → State → Bool
initial_in region s = s.region == region && is_initial s.kind

-- 9. The region has exactly one initial state.
abbrev pub one_initial : Lists → ℕ → Bool
one_initial lists region = count_yes (λ _. initial_in region) lists.states == 1

abbrev pub initials_verdict : Lists → Verdict
initials_verdict lists = refused_at Initials (first_line (before_regions lists) (λ region _. one_initial lists region) lists.regions)
