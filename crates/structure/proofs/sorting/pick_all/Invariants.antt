use Rattle.std.proofs.Common.{◌≡◌, ◌++◌, Option, drop, vec_items}
use Rattle.std.specs.List.{filter_map}
use Rattle.chart.specs.declared.lines.Line.{Line}
use Rattle.structure.specs.Lists.{Picks}
use Rattle.structure.proofs.sorting.pick_all.Given as goal

-- what is picked so far, with what is left
abbrev pub invariant-loop-line : goal.invariant-loop-line
invariant-loop-line g l = record {
  callable : goal.F-IsAlwaysCallable g l.pick;
  whole : (picks : Line → Option _) → Picks g.F.Fn l.pick picks → vec_items l.all ++ filter_map picks (drop l.line-index l.lines) ≡ filter_map picks l.lines;
}
