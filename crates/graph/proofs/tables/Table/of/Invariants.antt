use Rattle.std.proofs.Common.{◌≡◌}
use Rattle.graph.specs.Graphs.{via}
use Rattle.graph.specs.Tables.{square}
use Rattle.graph.proofs.tables.Table.of.Given as goal

abbrev pub invariant-loop-node : goal.invariant-loop-node
invariant-loop-node g l =
    let n = g.G.Graph.nodes l.graph in
    l.rows.items ≡ square n (via n (g.G.Graph.follows l.graph) l.node)
