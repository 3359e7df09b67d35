-- The structure of a chart: what is asked of its lines, and what it means that all say yes.
use Rattle.std.specs.Prelude.{◌≡◌, ℕ, List, [], ◌∷◌, Some, None}
use Rattle.chart.specs.declared.regions.Region.{Region}
use Rattle.std.specs.List.{slice_get}
use Rattle.linefile.specs.Questions.{AllYes}
use Rattle.structure.specs.Effects.{may_write, write_verdict}
use Rattle.structure.specs.Lists.{Lists}
use Rattle.structure.specs.Names.{effect_names, names_verdict, region_names, state_names, transition_names, variable_names}
use Rattle.structure.specs.Regions.{initials_verdict, one_initial, roots_verdict}
use Rattle.structure.specs.Rings.{Below, rings_verdict}
use Rattle.structure.specs.States.{exits_verdict, state_exits_fit}
use Rattle.structure.specs.Transitions.{crossing_verdict, stays}
use Rattle.structure.specs.Verdicts.{Verdict, decided}

-- Questions 6 to 12, each asked of all lines before the next.
abbrev pub questions : ℕ → Lists → List Verdict
questions joinings lists =
    names_verdict joinings lists
    ∷ roots_verdict lists
    ∷ rings_verdict lists
    ∷ initials_verdict lists
    ∷ exits_verdict lists
    ∷ crossing_verdict lists
    ∷ write_verdict lists
    ∷ []

-- The first no decides.
abbrev pub structure_verdict : ℕ → Lists → Verdict
structure_verdict joinings lists = decided (questions joinings lists)

-- The region has no parent, and no other region has none.
pub record OnlyRoot (regions : List Region) (root : ℕ) : Type 0 where
  pub there : slice_get regions root ≡ Some (record { parent = None })
  pub only : (region : ℕ) → slice_get regions region ≡ Some (record { parent = None }) → region ≡ root

-- What it means that a chart is accepted: all lines say yes to 6 and to 9 to 12, there is one root, and no ring.
pub record Structured (joinings : ℕ) (lists : Lists) : Type 0 where
  pub variables_name : AllYes (λ _. variable_names joinings) lists.variables
  pub regions_name : AllYes (λ _. region_names lists) lists.regions
  pub states_name : AllYes (λ _. state_names lists) lists.states
  pub transitions_name : AllYes (λ _. transition_names lists) lists.transitions
  pub effects_name : AllYes (λ _. effect_names lists) lists.effects
  pub root : (region : ℕ) × OnlyRoot lists.regions region
  pub no_ring : (region : ℕ) → Below lists region region → ⊥
  pub regions_start : AllYes (λ region _. one_initial lists region) lists.regions
  pub states_exit : AllYes (state_exits_fit lists) lists.states
  pub transitions_stay : AllYes (λ _. stays lists) lists.transitions
  pub effects_write : AllYes (λ _. may_write lists) lists.effects
