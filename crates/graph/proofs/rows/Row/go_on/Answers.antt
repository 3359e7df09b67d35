use Rattle.std.proofs.Common.{false, rules}
use Rattle.std.proofs.lemmas.List.FromFn.{fill_by_all}
use Rattle.graph.proofs.rows.Row.go_on.Goals as goal

pub returns-else-is_marked : goal.returns-else-is_marked
returns-else-is_marked c = fill_by_all _ _ _ false (search rules) (λ b h. search rules)
