use Rattle.std.proofs.Common.{sym, ◌∙◌, subst}
use Rattle.graph.specs.Graphs.{Lowest}
use Rattle.graph.proofs.Counts.{counts_ranked}
use Rattle.graph.proofs.Loops.{loop_from_diagonal, lowest_is}
use Rattle.graph.proofs.ranking.rank.Goals as goal

pub returns-in-Some : goal.returns-in-Some
returns-in-Some g c =
    let n = g.G.Graph.nodes c.args.graph.now in
    let follows = g.G.Graph.follows c.args.graph.now in
    let told = c.in-Some.ensures ∙ loop_from_diagonal n follows c.in_ok-table.table c.in_ok-table.ensures in
    record { value = told; lowest = subst (Lowest n follows) (sym told) (lowest_is n follows); ranks = tt }

pub returns : goal.returns
returns g c =
    let n = g.G.Graph.nodes c.args.graph.now in
    let follows = g.G.Graph.follows c.args.graph.now in
    let told = c.in-None.ensures ∙ loop_from_diagonal n follows c.in_ok-table.table c.in_ok-table.ensures in
    let free = subst (Lowest n follows) (sym told) (lowest_is n follows) in
    let counts = c.in_ok-column_counts-in-None in
    record { value = told; lowest = free; ranks = counts_ranked n follows free c.in_ok-table.table c.in_ok-table.ensures counts.field-0.items counts.ensures }
