-- An expression: `operator,left,right`, the last three fields of a line.
use Rattle.std.specs.Prelude.{ℕ, Bool, true, false, not, ◌&&◌, ◌||◌, List, [], ◌∷◌, None, Option, ◌==◌}
use Rattle.linefile.specs.Forms.{beside, done, field, provided, with_value}
use Rattle.text.specs.Words.{word_in}
use Rattle.chart.specs.declared.expressions.Expression.{Expression}
use Rattle.chart.specs.declared.expressions.Operand.{Operand}
use Rattle.chart.specs.declared.expressions.Operand.TheVariants.{Constant, Variable}
use Rattle.chart.specs.declared.expressions.Operator.{Operator}
use Rattle.chart.specs.declared.expressions.Operator.TheVariants.{Left, Sum, Difference, Both, Either, Equal, Smaller}

-- a number from 0 to 6
abbrev pub operator_in : List ℕ → Option Operator
operator_in bytes =
    with_value (word_in bytes) (beside ((0, Left) ∷ (1, Sum) ∷ (2, Difference) ∷ (3, Both) ∷ (4, Either) ∷ (5, Equal) ∷ (6, Smaller) ∷ []))

-- `c` constant, `v` variable
abbrev pub tagged : ℕ → ℕ → Option Operand
tagged tag number = beside ((99, Constant number) ∷ (118, Variable number) ∷ []) tag

-- a tag and the digits of a number
abbrev pub operand_in : List ℕ → Option Operand
operand_in [] = None
operand_in (tag ∷ digits) = with_value (word_in digits) (tagged tag)

abbrev pub is_left : Operator → Bool
is_left Left = true
is_left Sum = false
is_left Difference = false
is_left Both = false
is_left Either = false
is_left Equal = false
is_left Smaller = false

abbrev pub constant_is : ℕ → Operand → Bool
constant_is word (Constant constant) = constant == word
constant_is word (Variable number) = false

-- `0,c1,c0`
abbrev pub is_always : Expression → Bool
is_always e = is_left e.operator && constant_is 1 e.left && constant_is 0 e.right

-- operator 0 has `c0` on the right
abbrev pub is_sound : Expression → Bool
is_sound e = not (is_left e.operator) || constant_is 0 e.right

abbrev pub expression_in : List (List ℕ) → Option Expression
expression_in =
    field operator_in λ operator.
    field operand_in λ left.
    field operand_in λ right.
    λ fs. with_value (done (record { operator = operator; left = left; right = right }) fs) (provided is_sound)
