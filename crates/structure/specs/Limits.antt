-- How many lines of each kind a chart has at most.
use Rattle.std.specs.Prelude.{ℕ, ◌≤◌}

abbrev pub most_variables : ℕ
most_variables = 64

abbrev pub most_regions : ℕ
most_regions = 32

abbrev pub most_states : ℕ
most_states = 64

abbrev pub most_transitions : ℕ
most_transitions = 128

abbrev pub most_effects : ℕ
most_effects = 128

-- So few lines of each kind keep the limits.
abbrev pub Few : (variables regions states transitions effects : ℕ) → Type 0
Few variables regions states transitions effects =
    (variables ≤ most_variables)
    × (regions ≤ most_regions)
    × (states ≤ most_states)
    × (transitions ≤ most_transitions)
    × (effects ≤ most_effects)
