use Rattle.text.proofs.Search.{first_is}
use Rattle.text.proofs.places.find.Goals as goal

pub returns-clause-first : goal.returns-clause-first
returns-clause-first c = first_is c.args.byte c.args.text.now c.args.from c.first_place.result c.first_place.ensures
