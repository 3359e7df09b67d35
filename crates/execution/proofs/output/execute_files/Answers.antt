use Rattle.std.proofs.Common.{◌≡◌, Some, ap}
use Rattle.std.proofs.lemmas.Result.{err_from_is_err_and}
use Rattle.std.specs.Option.{option_copied}
use Rattle.execution.proofs.Charted.{chart_tells}
use Rattle.execution.specs.Output.{shipped_verdict}
use Rattle.execution.proofs.output.execute_files.Goals as goal

pub returns-in_err-width : goal.returns-in_err-width
returns-in_err-width c =
    let p = err_from_is_err_and c.from_residual-in_err-width.result c.from_residual-in_err-width.ensures.1 in
    let chart = c.in_ok-ok_or.field-0.now in
    let trace = option_copied c.args.trace in
    let read : option_copied c.args.chart ≡ Some chart = ap option_copied c.in_ok-ok_or.ensures.ok_part in
    rw (p.1, read) (chart_tells (shipped_verdict chart) c.in_err-width.field-0.0 trace p.0 c.in_err-width.ensures p.2)
