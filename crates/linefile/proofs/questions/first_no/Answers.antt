use Rattle.linefile.proofs.Asking.{decided_is}
use Rattle.linefile.proofs.questions.first_no.Goals as goal

pub returns-clause-value : goal.returns-clause-value
returns-clause-value g c = decided_is (g.Q.Question.yes c.args.question.now) c.args.lines.now _ c.position_of_no.ensures.first
