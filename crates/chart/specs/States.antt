-- A state: `S,number,region,kind`.
use Rattle.std.specs.Prelude.{ℕ, List, [], ◌∷◌, Option}
use Rattle.linefile.specs.Forms.{done, field, letter_in}
use Rattle.text.specs.Words.{word_in}
use Rattle.chart.specs.declared.states.Kind.{Kind}
use Rattle.chart.specs.declared.states.Kind.TheVariants.{Initial, Ordinary, Final}
use Rattle.chart.specs.declared.states.State.{State}

-- `i` initial, `n` ordinary, `f` final
abbrev pub kind_in : List ℕ → Option Kind
kind_in = letter_in ((105, Initial) ∷ (110, Ordinary) ∷ (102, Final) ∷ [])

-- the number and the state
abbrev pub state_in : List (List ℕ) → Option (ℕ × State)
state_in =
    field word_in λ number.
    field word_in λ region.
    field kind_in λ kind.
    done (number, record { region = region; kind = kind })
