use Rattle.graph.proofs.Squares.{rows_more}
use Rattle.graph.proofs.tables.follower_rows.Goals as goal

pub loop-node-preserved : goal.loop-node-preserved
loop-node-preserved g c =
    rows_more c.args.size (g.G.Graph.follows c.args.graph.now) c.loop-node.node c.loop-node.rows.items c.push.new.self.items c.in_ok-of.field-0 c.loop-node.invariant c.in_ok-of.ensures c.in_ok-push.ensures.items
