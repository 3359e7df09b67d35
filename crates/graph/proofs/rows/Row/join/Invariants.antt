use Rattle.std.proofs.Common.{◌≡◌, ℕ, ◌<◌, ◌≤◌, ◌||◌, length}
use Rattle.graph.specs.Tables.{marked}
use Rattle.graph.proofs.rows.Row.join.Given as goal

abbrev pub invariant-loop-node : goal.invariant-loop-node
invariant-loop-node l = record {
  size : length l.cell-items ≡ length l.initial.cell-items;
  below : (b : ℕ) → b < l.node → marked l.cell-items b ≡ (marked l.initial.cell-items b || marked l.other b);
  above : (b : ℕ) → l.node ≤ b → marked l.cell-items b ≡ marked l.initial.cell-items b;
}
