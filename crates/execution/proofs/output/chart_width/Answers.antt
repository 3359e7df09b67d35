use Rattle.std.proofs.Common.{◌≡◌, ℕ, min, List, length, refl, ap, ◌∙◌}
use Rattle.std.proofs.lemmas.Result.{err_from_is_err_and}
use Rattle.joining.specs.Shipped.{shipped_joinings}
use Rattle.structure.specs.Charts.{verdict}
use Rattle.execution.proofs.Charted.{width_stop}
use Rattle.execution.proofs.output.chart_width.Goals as goal

pub returns-in_err-read : goal.returns-in_err-read
returns-in_err-read c =
    let count : c.count.result ≡ length shipped_joinings = c.count.ensures ∙ ap (λ (js : List (ℕ → ℕ → ℕ)). min (length js) 4294967295) c.shipped.ensures in
    let p = err_from_is_err_and c.from_residual.result c.from_residual.ensures.1 in
    rw (p.1, p.2, ← count) (width_stop (verdict c.count.result c.args.chart.now) c.in_err-read.field-0.0 _ refl c.in_err-read.ensures.all)
