use Rattle.std.proofs.Common.{◌≡◌, ◌+◌, length, Some, Ok, arith}
use Rattle.std.proofs.lemmas.Grind.{common_steps}
use Rattle.row.specs.Reading.{line_at, line_words}
use Rattle.row.proofs.Rewriting.{rewrites}
use Rattle.row.proofs.reading.read_into.Goals as goal

pub returns-clause-again : goal.returns-clause-again
returns-clause-again c =
    let text = c.args.text.now in
    let place = c.args.place in
    let line = c.in_ok-line.line in
    let row = c.copy_from_slice.new.self in
    let here : line_at text place ≡ Some line = grind (arith, common_steps) in
    let good : line_words (length row) line ≡ Ok row = grind (arith, common_steps) in
    rewrites text place (place + c.len.result + 1) row line (omega (arith, c.requires, c.copy_from_slice.ensures.len)) here good (omega (arith, c.len.ensures))
