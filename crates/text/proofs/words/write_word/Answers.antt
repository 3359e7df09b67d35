use Rattle.std.proofs.Common.{arith}
use Rattle.text.proofs.Decimals.{spells_decimal}
use Rattle.text.proofs.words.write_word.Goals as goal

pub returns-clause-digits : goal.returns-clause-digits
returns-clause-digits c = spells_decimal c.args.word (omega arith)
