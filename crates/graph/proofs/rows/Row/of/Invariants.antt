use Rattle.std.proofs.Common.{◌≡◌, ℕ, ◌<◌, length}
use Rattle.graph.specs.Tables.{marked}
use Rattle.graph.proofs.rows.Row.of.Given as goal

abbrev pub invariant-loop-other : goal.invariant-loop-other
invariant-loop-other g l = record {
  size : length l.cell-items ≡ l.size;
  below : (b : ℕ) → b < l.other → marked l.cell-items b ≡ g.G.Graph.follows l.graph l.node b;
}
