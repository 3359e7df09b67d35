use Rattle.std.proofs.Common.{arith}
use Rattle.row.proofs.Lengths.{length_row}
use Rattle.row.proofs.writing.row_len.Goals as goal

pub returns : goal.returns
returns c = omega (arith, length_row c.args.row.now)
