use Rattle.std.proofs.Common.{◌≡◌, ◌++◌, map, take, drop}
use Rattle.graph.specs.Tables.{gone_on}
use Rattle.graph.proofs.rows.all_go_on.Given as goal

abbrev pub invariant-loop-row : goal.invariant-loop-row
invariant-loop-row l =
    l.rows ≡ map (gone_on l.node l.through) (take l.row-index l.initial.rows) ++ drop l.row-index l.initial.rows
