use Rattle.std.proofs.Common.{◌+◌, ◌≤◌, length, vec_items, vec_len}
use Rattle.text.specs.Lines.{lines}
use Rattle.text.specs.Unread.{unread_lines}
use Rattle.linefile.specs.Places.{placed_last}
use Rattle.linefile.proofs.FileSteps.{Held}
use Rattle.linefile.proofs.reading.read_each.Given as goal

abbrev pub invariant-loop-line : goal.invariant-loop-line
invariant-loop-line g l =
    (vec_len l.read + length (unread_lines l.line-iterator) ≤ length (lines l.text))
    × Held g.L.FileLine.format l.text (unread_lines l.line-iterator) (vec_items l.read) (placed_last g.L.FileLine.place l.last)
