-- An effect: `E,number,transition,variable,how,operator,left,right`.
use Rattle.std.specs.Prelude.{ℕ, List, [], ◌∷◌, Option}
use Rattle.std.specs.Option.{option_map}
use Rattle.linefile.specs.Forms.{field, letter_in}
use Rattle.text.specs.Words.{word_in}
use Rattle.chart.specs.Expressions.{expression_in}
use Rattle.chart.specs.declared.effects.Effect.{Effect}
use Rattle.chart.specs.declared.effects.How.{How}
use Rattle.chart.specs.declared.effects.How.TheVariants.{Absolute, Relative}

-- `a` absolute, `r` relative
abbrev pub how_in : List ℕ → Option How
how_in = letter_in ((97, Absolute) ∷ (114, Relative) ∷ [])

-- the number and the effect
abbrev pub effect_in : List (List ℕ) → Option (ℕ × Effect)
effect_in =
    field word_in λ number.
    field word_in λ transition.
    field word_in λ variable.
    field how_in λ how.
    λ fs. option_map (λ value. (number, record { transition = transition; variable = variable; how = how; value = value })) (expression_in fs)
