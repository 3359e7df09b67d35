use Rattle.std.proofs.Common.{arith, rules}
use Rattle.std.proofs.lemmas.List.{places}
use Rattle.graph.specs.Graphs.{via}
use Rattle.graph.proofs.Passes.{none_passed, one_more_passed}
use Rattle.graph.proofs.Squares.{even_of, length_of}
use Rattle.graph.proofs.tables.Table.of.Goals as goal

pub loop-node-init : goal.loop-node-init
loop-node-init g c =
    let n = g.G.Graph.nodes c.args.graph.now in
    let follows = g.G.Graph.follows c.args.graph.now in
    none_passed n follows c.in_ok-rows.rows.items (search rules)

pub pass-requires-clause-node : goal.pass-requires-clause-node
pass-requires-clause-node g c =
    let n = g.G.Graph.nodes c.args.graph.now in
    let test = via n (g.G.Graph.follows c.args.graph.now) c.loop-node.node in
    omega (arith, length_of n test c.deref_mut.result.now (search rules))

pub pass-requires-clause-square : goal.pass-requires-clause-square
pass-requires-clause-square g c =
    let n = g.G.Graph.nodes c.args.graph.now in
    even_of n (via n (g.G.Graph.follows c.args.graph.now) c.loop-node.node) c.deref_mut.result.now (search rules)

pub loop-node-preserved : goal.loop-node-preserved
loop-node-preserved g c =
    let n = g.G.Graph.nodes c.args.graph.now in
    let follows = g.G.Graph.follows c.args.graph.now in
    one_more_passed n follows c.loop-node.node (omega arith) c.deref_mut.result.now c.pass.new.rows _ (search rules) c.pass.ensures (search (rules, places))

pub invariant_of-result : goal.invariant_of-result
invariant_of-result g c =
    let n = g.G.Graph.nodes c.args.graph.now in
    even_of n (via n (g.G.Graph.follows c.args.graph.now) c.loop-node.node) c.loop-node.rows.items c.loop-node.invariant
