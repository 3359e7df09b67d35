use Rattle.std.proofs.Common.{◌≡◌, map}
use Rattle.std.specs.List.{range_with_len}
use Rattle.graph.specs.Tables.{row_of}
use Rattle.graph.proofs.tables.follower_rows.Given as goal

abbrev pub invariant-loop-node : goal.invariant-loop-node
invariant-loop-node g l =
    l.rows.items ≡ map (λ a. row_of l.size (g.G.Graph.follows l.graph a)) (range_with_len 0 l.node)
