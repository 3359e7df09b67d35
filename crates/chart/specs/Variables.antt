-- A variable: `V,number,use,joining,start`.
use Rattle.std.specs.Prelude.{ℕ, List, [], ◌∷◌, Option}
use Rattle.linefile.specs.Forms.{done, field, letter_in}
use Rattle.text.specs.Words.{word_in}
use Rattle.chart.specs.declared.variables.Use.{Use}
use Rattle.chart.specs.declared.variables.Use.TheVariants.{Input, Output, Local}
use Rattle.chart.specs.declared.variables.Variable.{Variable}

-- `i` input, `o` output, `l` local
abbrev pub use_in : List ℕ → Option Use
use_in = letter_in ((105, Input) ∷ (111, Output) ∷ (108, Local) ∷ [])

-- the number and the variable
abbrev pub variable_in : List (List ℕ) → Option (ℕ × Variable)
variable_in =
    field word_in λ number.
    field use_in λ usage.
    field word_in λ joining.
    field word_in λ start.
    done (number, record { usage = usage; joining = joining; start = start })
