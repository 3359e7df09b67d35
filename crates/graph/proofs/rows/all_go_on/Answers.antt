use Rattle.std.proofs.Common.{rules}
use Rattle.std.proofs.lemmas.List.Edits.{map_over_more}
use Rattle.graph.specs.Tables.{gone_on}
use Rattle.graph.proofs.rows.all_go_on.Goals as goal

pub loop-row-preserved : goal.loop-row-preserved
loop-row-preserved c = search (rules, map_over_more (gone_on c.args.node c.args.through.now))
