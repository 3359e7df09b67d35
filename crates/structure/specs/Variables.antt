-- The variables that are inputs.
use Rattle.std.specs.Prelude.{ℕ, Bool, true, false}
use Rattle.chart.specs.declared.variables.Use.{Use}
use Rattle.chart.specs.declared.variables.Use.TheVariants.{Input, Output, Local}
use Rattle.linefile.specs.Questions.{count_yes}
use Rattle.structure.specs.Lists.{Lists}

abbrev pub is_input : Use → Bool
is_input Input = true
is_input Output = false
is_input Local = false

-- How many variables are inputs.
abbrev pub input_count : Lists → ℕ
input_count lists = count_yes (λ _ v. is_input v.usage) lists.variables
