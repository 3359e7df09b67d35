use Rattle.std.proofs.Common.{sym, ◌∙◌}
use Rattle.text.proofs.Digits.{digits_stop}
use Rattle.text.proofs.words.digits_value.Goals as goal

pub returns-in_err-word : goal.returns-in_err-word
returns-in_err-word c =
    c.from_residual.ensures
    ∙ sym (digits_stop c.loop-byte.word c.args.digits.now c.loop-byte.byte-index c.loop-byte-test.true (sym c.in_err-word.ensures))
    ∙ c.loop-byte.invariant.0
