-- A chart file: lines of five letters.
use Rattle.std.specs.Prelude.{ℕ, cond, List, [], ◌∷◌, None, codes, Option, ◌==◌}
use Rattle.std.specs.Option.{option_map, unwrap_or}
use Rattle.linefile.specs.Formats.{Format}
use Rattle.linefile.specs.Forms.{beside}
use Rattle.chart.specs.Effects.{effect_in}
use Rattle.chart.specs.Regions.{region_in}
use Rattle.chart.specs.States.{state_in}
use Rattle.chart.specs.Transitions.{transition_in}
use Rattle.chart.specs.Variables.{variable_in}
use Rattle.chart.specs.declared.lines.Letter.{Letter}
use Rattle.chart.specs.declared.lines.Letter.TheVariants.{Variable as Variables, Region as Regions, State as States, Transition as Transitions, Effect as Effects}
use Rattle.chart.specs.declared.lines.Line.{Line}
use Rattle.chart.specs.declared.lines.Line.TheVariants.{Variable, Region, State, Transition, Effect}

-- variables, regions, states, transitions and effects, in this order
abbrev pub letters : List ℕ
letters = codes "VRSTE"

-- where each letter stands among them
abbrev pub place_of : Letter → ℕ
place_of Variables = 0
place_of Regions = 1
place_of States = 2
place_of Transitions = 3
place_of Effects = 4

-- at most so many lines of each letter
abbrev pub limit : ℕ → ℕ
limit letter = unwrap_or (beside ((0, 64) ∷ (1, 32) ∷ (2, 64) ∷ (3, 128) ∷ (4, 128) ∷ []) letter) 0

abbrev pub as_line : {A : Type 0} → (A → Line) → Option (ℕ × A) → Option (ℕ × Line)
as_line kind found = option_map (λ f. (f.0, kind f.1)) found

-- what the fields behind each letter say
abbrev pub form : ℕ → List (List ℕ) → Option (ℕ × Line)
form letter fs =
    cond (letter == 0) (as_line Variable (variable_in fs))
    (cond (letter == 1) (as_line Region (region_in fs))
    (cond (letter == 2) (as_line State (state_in fs))
    (cond (letter == 3) (as_line Transition (transition_in fs))
    (cond (letter == 4) (as_line Effect (effect_in fs)) None))))

abbrev pub chart_format : Format Line
chart_format = record { letters = letters; limit = limit; form = form }
