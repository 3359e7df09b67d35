-- The lines of a chart by their kinds.
use Rattle.std.specs.Prelude.{◌≡◌, ℕ, ◌+◌, List, [], length, Some, None, Option}
use Rattle.chart.specs.declared.effects.Effect.{Effect}
use Rattle.chart.specs.declared.lines.Line.{Line}
use Rattle.chart.specs.declared.lines.Line.TheVariants as line
use Rattle.chart.specs.declared.regions.Region.{Region}
use Rattle.chart.specs.declared.states.State.{State}
use Rattle.chart.specs.declared.transitions.Transition.{Transition}
use Rattle.chart.specs.declared.variables.Variable.{Variable}
use Rattle.std.specs.Borrow.{Bor}
use Rattle.std.specs.Fn.{Shared}
use Rattle.std.specs.List.{filter_map}
use Rattle.structure.specs.Limits.{Few}

-- The lines of each kind in their order: a line's number is its place in its list.
pub record Lists : Type 0 where
  pub variables : List Variable
  pub regions : List Region
  pub states : List State
  pub transitions : List Transition
  pub effects : List Effect

abbrev pub no_lines : Lists
no_lines = record { variables = []; regions = []; states = []; transitions = []; effects = [] }

-- The lines keep the limits.
abbrev pub Limited : Lists → Type 0
Limited lists =
    Few
    (length lists.variables)
    (length lists.regions)
    (length lists.states)
    (length lists.transitions)
    (length lists.effects)

-- how many lines stand in the file before those of a kind: variables come first, then regions, states, transitions and effects
abbrev pub before_regions : Lists → ℕ
before_regions lists = length lists.variables

abbrev pub before_states : Lists → ℕ
before_states lists = before_regions lists + length lists.regions

abbrev pub before_transitions : Lists → ℕ
before_transitions lists = before_states lists + length lists.states

abbrev pub before_effects : Lists → ℕ
before_effects lists = before_transitions lists + length lists.transitions

-- what a line holds, where it is of a kind
abbrev pub variable_of : Line → Option Variable
variable_of (line.Variable v) = Some v
variable_of (line.Region r) = None
variable_of (line.State s) = None
variable_of (line.Transition t) = None
variable_of (line.Effect e) = None

abbrev pub region_of : Line → Option Region
region_of (line.Variable v) = None
region_of (line.Region r) = Some r
region_of (line.State s) = None
region_of (line.Transition t) = None
region_of (line.Effect e) = None

abbrev pub state_of : Line → Option State
state_of (line.Variable v) = None
state_of (line.Region r) = None
state_of (line.State s) = Some s
state_of (line.Transition t) = None
state_of (line.Effect e) = None

abbrev pub transition_of : Line → Option Transition
transition_of (line.Variable v) = None
transition_of (line.Region r) = None
transition_of (line.State s) = None
transition_of (line.Transition t) = Some t
transition_of (line.Effect e) = None

abbrev pub effect_of : Line → Option Effect
effect_of (line.Variable v) = None
effect_of (line.Region r) = None
effect_of (line.State s) = None
effect_of (line.Transition t) = None
effect_of (line.Effect e) = Some e

-- A closure picks out of a line what a function does.
abbrev pub Picks : {F A : Type 0} → Shared F (Bor Line × Unit {0}) (Option A) → F → (Line → Option A) → Type 0
Picks {F} {A} g pick picks = (line : Bor Line) (held : Option A) → g.post pick (line, tt) held → held ≡ picks line.now

-- The lines of a file by their kinds.
abbrev pub listed : List Line → Lists
listed lines =
    record {
      variables = filter_map variable_of lines;
      regions = filter_map region_of lines;
      states = filter_map state_of lines;
      transitions = filter_map transition_of lines;
      effects = filter_map effect_of lines;
    }
