-- The rows come out as they went in.
use Rattle.std.proofs.Common.{◌≡◌, ℕ, List, Some, None, Ok, Err, Option, Result}
use Rattle.trace.proofs.Echo.{echoed}
use Rattle.structure.specs.Lists.{Lists}
use Rattle.structure.specs.Variables.{input_count}
use Rattle.faults.specs.declared.charts.ChartFault.{ChartFault}
use Rattle.execution.specs.Output.{OutputEchoes, RowsEcho, charted, output, shipped_verdict}

rows_echo : (found : Result Lists ChartFault) (trace : Option (List ℕ)) (out : List ℕ) → out ≡ charted found trace → RowsEcho found trace out
rows_echo (Ok lists) trace out e = echoed (λ bytes. input_count lists) trace out e
rows_echo (Err fault) trace out e = tt

pub echoes : (chart trace : Option (List ℕ)) (out : List ℕ) → out ≡ output chart trace → OutputEchoes chart trace out
echoes None trace out e = tt
echoes (Some chart) trace out e = rows_echo (shipped_verdict chart) trace out e
