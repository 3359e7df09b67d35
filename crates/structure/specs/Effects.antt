-- What an effect may write.
use Rattle.std.specs.Prelude.{ℕ, Bool, true, false, not, ◌&&◌, ◌||◌, Some, None, Option, ◌==◌}
use Rattle.chart.specs.declared.effects.Effect.{Effect}
use Rattle.chart.specs.declared.effects.How.{How}
use Rattle.chart.specs.declared.effects.How.TheVariants.{Absolute, Relative}
use Rattle.chart.specs.declared.expressions.Expression.{Expression}
use Rattle.chart.specs.declared.expressions.Operand.{Operand}
use Rattle.chart.specs.declared.expressions.Operand.TheVariants.{Constant, Variable as Named}
use Rattle.chart.specs.declared.variables.Variable.{Variable}
use Rattle.std.specs.List.{slice_get}
use Rattle.structure.specs.Lists.{Lists, before_effects}
use Rattle.structure.specs.Variables.{is_input}
use Rattle.structure.specs.Verdicts.{Verdict, first_line, refused_at}
use Rattle.faults.specs.declared.charts.ChartFault.TheVariants.{Write}

abbrev pub is_operand : ℕ → Operand → Bool
is_operand variable (Constant word) = false
is_operand variable (Named other) = other == variable

abbrev pub reads : ℕ → Expression → Bool
reads variable e = is_operand variable e.left || is_operand variable e.right

-- joining the value with the variable's word wants a joining, and a value that does not read the variable
abbrev pub may_join : Effect → Variable → How → Bool
may_join e v Absolute = true
may_join e v Relative = not (v.joining == 0) && not (reads e.variable e.value)

abbrev pub may_write_to : Effect → Option Variable → Bool
may_write_to e None = false
may_write_to e (Some v) = not (is_input v.usage) && may_join e v e.how

-- 12. The effect's variable is no input and, if the effect is relative, has a joining and stays out of its own expression.
abbrev pub may_write : Lists → Effect → Bool
may_write lists e = may_write_to e (slice_get lists.variables e.variable)

abbrev pub write_verdict : Lists → Verdict
write_verdict lists = refused_at Write (first_line (before_effects lists) (λ _. may_write lists) lists.effects)
