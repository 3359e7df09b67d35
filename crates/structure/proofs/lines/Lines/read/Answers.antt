use Rattle.structure.proofs.Passing.{exactly}
use Rattle.structure.proofs.lines.Lines.read.Goals as goal

pub returns-clause-exactly : goal.returns-clause-exactly
returns-clause-exactly c = exactly c.args.joinings c.args.text.now _ c.read_into.ensures
