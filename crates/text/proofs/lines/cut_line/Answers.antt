use Rattle.std.proofs.Common.{sym, add-one}
use Rattle.text.proofs.Cutting.{lines_cut, lines_last}
use Rattle.text.proofs.lines.cut_line.Goals as goal

pub returns-in-Some : goal.returns-in-Some
returns-in-Some c =
    rw (c.split_at.ensures.front, c.split_at.ensures.back, add-one) (lines_cut c.args.text.now c.in-Some.place (sym c.in-Some.ensures))

pub returns-in-None : goal.returns-in-None
returns-in-None c = lines_last c.args.text.now c.requires (sym c.in-None.ensures)
