use Rattle.std.proofs.Common.{false, rules}
use Rattle.std.proofs.lemmas.List.{places}
use Rattle.std.proofs.lemmas.List.FromFn.{fill_by_all}
use Rattle.graph.proofs.rows.Row.of.Goals as goal

pub returns : goal.returns
returns g c = fill_by_all _ _ _ false (search (rules, places)) (λ b h. search (rules, places))
