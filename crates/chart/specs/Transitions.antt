-- A transition: `T,number,source,target,when,operator,left,right`.
use Rattle.std.specs.Prelude.{ℕ, Bool, true, false, not, ◌||◌, List, [], ◌∷◌, Option}
use Rattle.linefile.specs.Forms.{field, letter_in, provided, with_value}
use Rattle.text.specs.Words.{word_in}
use Rattle.chart.specs.Expressions.{expression_in, is_always}
use Rattle.chart.specs.declared.transitions.Transition.{Transition}
use Rattle.chart.specs.declared.transitions.When.{When}
use Rattle.chart.specs.declared.transitions.When.TheVariants.{Immediate, Delayed, Termination}

-- `i` immediate, `d` delayed, `t` on termination
abbrev pub when_in : List ℕ → Option When
when_in = letter_in ((105, Immediate) ∷ (100, Delayed) ∷ (116, Termination) ∷ [])

abbrev pub is_termination : When → Bool
is_termination Immediate = false
is_termination Delayed = false
is_termination Termination = true

-- a `t` transition has `0,c1,c0` as its trigger
abbrev pub trigger_fits : Transition → Bool
trigger_fits t = not (is_termination t.when) || is_always t.trigger

-- the number and the transition
abbrev pub transition_in : List (List ℕ) → Option (ℕ × Transition)
transition_in =
    field word_in λ number.
    field word_in λ source.
    field word_in λ target.
    field when_in λ when.
    λ fs. with_value (expression_in fs) λ trigger.
    provided (λ found. trigger_fits found.1) (number, record { source = source; target = target; when = when; trigger = trigger })
