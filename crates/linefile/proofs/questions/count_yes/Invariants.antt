use Rattle.std.proofs.Common.{◌≡◌, ◌+◌, ◌≤◌, drop}
use Rattle.linefile.specs.Questions.{count_yes, count_yes_from}
use Rattle.linefile.proofs.questions.count_yes.Given as goal

-- the count so far with what is left
abbrev pub invariant-loop-number : goal.invariant-loop-number
invariant-loop-number g l =
    let says = g.Q.Question.yes l.question in
    (l.count + count_yes_from l.number says (drop l.number l.lines) ≡ count_yes says l.lines) × (l.count ≤ l.number)
