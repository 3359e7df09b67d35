use Rattle.std.proofs.Common.{vec_items, ap, ◌∙◌, arith, length}
use Rattle.text.proofs.Cutting.{length_lines}
use Rattle.text.specs.Unread.{unread_lines}
use Rattle.linefile.proofs.FileSteps.{held_more, held_none}
use Rattle.linefile.specs.Files.{lettered}
use Rattle.linefile.specs.Places.{comes, placed_last, so_far}
use Rattle.linefile.proofs.reading.read_each.Goals as goal

pub loop-line-init : goal.loop-line-init
loop-line-init g c =
    let new = c.new-read.ensures in
    let all = ap unread_lines c.into_iter-line-iterator.ensures.into_iter_gives ∙ c.new-line-items.ensures in (
      omega (arith, new.len, ap length all),
      held_none g.L.FileLine.format c.args.text.now (unread_lines c.into_iter-line-iterator.result) (vec_items c.new-read.result) all new.items,
    )

pub overflow_cast-len : goal.overflow_cast-len
overflow_cast-len g c = omega (arith, c.len.ensures, c.loop-line.invariant.0, length_lines c.args.text.now, c.requires)

pub loop-line-preserved : goal.loop-line-preserved
loop-line-preserved g c =
    let at = c.loop-line in
    let last = placed_last g.L.FileLine.place at.last in
    let line = c.in-Some.ensures.steps in
    let found = c.in_ok-now.now in
    let told = c.in_ok-now.ensures.line ∙ ap (lettered g.L.FileLine.format (comes last) (so_far last) c.len.result) c.bare.ensures in (
      omega (arith, at.invariant.0, ap length line, c.in_ok-push.ensures.len),
      held_more g.L.FileLine.format c.args.text.now (unread_lines at.line-iterator) c.in-Some.line.now (unread_lines c.next.new.self) (vec_items at.read) last c.len.result at.invariant.1 line (c.len.ensures ∙ at.read.ok.0)
          (g.L.FileLine.place found.letter) c.in_ok-now.said (vec_items c.push.new.self) found.count told c.in_ok-push.ensures.items c.in_ok-now.ensures.count,
    )
