use Rattle.std.proofs.Common.{List, vec_items, sym, subst}
use Rattle.chart.specs.declared.lines.Line.{Line}
use Rattle.structure.proofs.Limiting.{limited}
use Rattle.structure.specs.Lists.{Limited, listed}
use Rattle.structure.proofs.reading.read_chart.Goals as goal

pub sorted-requires : goal.sorted-requires
sorted-requires c =
    subst (λ (ls : List Line). Limited (listed ls)) (sym c.deref.ensures.value) (limited c.args.text.now (vec_items c.in_ok-read.read) c.in_ok-read.ensures.exactly)
