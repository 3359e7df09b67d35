-- Whether every line that a line names exists.
use Rattle.std.specs.Prelude.{ℕ, Bool, true, ◌&&◌, List, [], ◌∷◌, length, Some, None, Option, nat_le, nat_lt}
use Rattle.chart.specs.declared.effects.Effect.{Effect}
use Rattle.chart.specs.declared.expressions.Expression.{Expression}
use Rattle.chart.specs.declared.expressions.Operand.{Operand}
use Rattle.chart.specs.declared.expressions.Operand.TheVariants.{Constant, Variable as Named}
use Rattle.chart.specs.declared.regions.Region.{Region}
use Rattle.chart.specs.declared.states.State.{State}
use Rattle.chart.specs.declared.transitions.Transition.{Transition}
use Rattle.chart.specs.declared.variables.Variable.{Variable}
use Rattle.structure.specs.Lists.{Lists, before_effects, before_regions, before_states, before_transitions}
use Rattle.structure.specs.Verdicts.{Verdict, decided, first_line, refused_at}
use Rattle.faults.specs.declared.charts.ChartFault.TheVariants.{Names}

-- the line of that number exists
abbrev pub exists : {L : Type 0} → List L → ℕ → Bool
exists lines number = nat_lt number (length lines)

abbrev pub operand_exists : Lists → Operand → Bool
operand_exists lists (Constant word) = true
operand_exists lists (Named variable) = exists lists.variables variable

abbrev pub operands_exist : Lists → Expression → Bool
operands_exist lists e = operand_exists lists e.left && operand_exists lists e.right

abbrev pub parent_exists : Lists → Option ℕ → Bool
parent_exists lists None = true
parent_exists lists (Some state) = exists lists.states state

-- 6. Every line that the line names exists, and its joining is at most the last.
abbrev pub variable_names : ℕ → Variable → Bool
variable_names joinings v = nat_le v.joining joinings

abbrev pub region_names : Lists → Region → Bool
region_names lists r = parent_exists lists r.parent

abbrev pub state_names : Lists → State → Bool
state_names lists s = exists lists.regions s.region

abbrev pub transition_names : Lists → Transition → Bool
transition_names lists t =
    exists lists.states t.source && exists lists.states t.target && operands_exist lists t.trigger

abbrev pub effect_names : Lists → Effect → Bool
effect_names lists e =
    exists lists.transitions e.transition && exists lists.variables e.variable && operands_exist lists e.value

abbrev pub unnamed_at : {L : Type 0} → ℕ → (L → Bool) → List L → Verdict
unnamed_at before names lines = refused_at Names (first_line before (λ _. names) lines)

-- every line of every kind is asked, in the order of the file
abbrev pub names_by_kind : ℕ → Lists → List Verdict
names_by_kind joinings lists =
    unnamed_at 0 (variable_names joinings) lists.variables
    ∷ unnamed_at (before_regions lists) (region_names lists) lists.regions
    ∷ unnamed_at (before_states lists) (state_names lists) lists.states
    ∷ unnamed_at (before_transitions lists) (transition_names lists) lists.transitions
    ∷ unnamed_at (before_effects lists) (effect_names lists) lists.effects
    ∷ []

abbrev pub names_verdict : ℕ → Lists → Verdict
names_verdict joinings lists = decided (names_by_kind joinings lists)
