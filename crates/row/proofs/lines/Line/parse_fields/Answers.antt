use Rattle.std.proofs.Common.{◌≡◌, ℕ, ◌+◌, List, [], length, take, ◌≤◌, ◌<◌, Some, None, Ok, Err, Result, sym, ap, ◌∙◌, arith, inl}
use Rattle.std.proofs.lemmas.Grind.{common_steps}
use Rattle.std.proofs.lemmas.List.{take_more_set, take_all}
use Rattle.text.specs.Unread.{unread}
use Rattle.text.specs.Fields.{fields}
use Rattle.text.specs.Words.{word_in}
use Rattle.std.proofs.lemmas.Result.{err_from_is_err_and}
use Rattle.row.specs.declared.faults.RowFault.{RowFault}
use Rattle.row.specs.declared.faults.RowFault.TheVariants.{NoNumber}
use Rattle.row.specs.Reading.{words_or}
use Rattle.row.proofs.Counting.{all_fields, length_fields}
use Rattle.row.proofs.FieldWords.{words_after, after_start, after_more, after_stop, after_all}
use Rattle.row.proofs.lines.Line.parse_fields.Goals as goal

pub loop-at-init : goal.loop-at-init
loop-at-init c =
    let line = c.args.self.now in
    let enumerated = c.enumerate-at-items.ensures in
    let all = ap unread enumerated.source ∙ c.new.ensures.fields ∙ all_fields c.self.inside.bytes.now ∙ ap fields c.self.view_is in
    rw (c.into_iter-at-iterator.ensures.into_iter_gives, enumerated.count) (
      ap (words_after 0 []) all ∙ after_start (fields line),
      omega (arith, ap length all),
      (tt, tt, inl (omega (arith, length_fields line, ap length all))),
      tt,
    )

pub overflow_cast-at : goal.overflow_cast-at
overflow_cast-at c =
    let step = c.in-Some.ensures.steps in
    omega (arith, step.1, ap length step.0, c.loop-at.invariant.1, length_fields c.args.self.now, c.self.invariant, ap length c.self.view_is)

pub returns-in_err-words-clause-words : goal.returns-in_err-words-clause-words
returns-in_err-words-clause-words c =
    let at = c.loop-at.at-iterator.count in
    let step = c.in-Some.ensures.steps in
    let bad : word_in c.in-Some.field.text.now ≡ None = grind (arith, common_steps) in
    let told = err_from_is_err_and c.from_residual.result c.from_residual.ensures.1 in
    let fault : c.in_err-words.field-0.0 ≡ NoNumber at = grind (arith, common_steps) in
    ap (λ (answer : Result (Unit {0}) RowFault). words_or answer c.loop-at.words) (told.1 ∙ ap Err (told.2 ∙ fault))
    ∙ sym (after_stop at (take at c.loop-at.words) c.in-Some.field.text.now (unread c.next.new.self.iter) bad)
    ∙ ap (words_after at (take at c.loop-at.words)) (sym step.0)
    ∙ c.loop-at.invariant.0

pub loop-at-preserved : goal.loop-at-preserved
loop-at-preserved c =
    let at = c.loop-at.at-iterator.count in
    let words = c.loop-at.words in
    let field = c.in-Some.field.text.now in
    let rest = unread c.next.new.self.iter in
    let step = c.in-Some.ensures.steps in
    let word = c.in_ok-words.field-0 in
    let good : word_in field ≡ Some word = grind (arith, common_steps) in
    let room : at < length words = omega (arith, ap length step.0, c.loop-at.invariant.1, c.requires) in
    let here : c.in-Some.at ≡ at = step.1 in
    rw (step.2, here) (
      ap (λ (ws : List ℕ). words_after (at + 1) ws rest) (take_more_set words at word room)
          ∙ sym (after_more at (take at words) field rest word good)
          ∙ ap (words_after at (take at words)) (sym step.0)
          ∙ c.loop-at.invariant.0,
      omega (arith, ap length step.0),
      (tt, tt, inl (omega (arith, ap length step.0, length_fields c.args.self.now, c.loop-at.invariant.1, c.requires))),
      tt,
    )

pub returns-clause-words : goal.returns-clause-words
returns-clause-words c =
    let at = c.loop-at.at-iterator.count in
    let words = c.loop-at.words in
    let none = c.in-None.ensures.steps.0.0 in
    let all : length words ≤ at = omega (arith, ap length none, c.loop-at.invariant.1, c.requires) in
    sym (ap Ok (take_all at words all)) ∙ sym (after_all at (take at words))
    ∙ ap (words_after at (take at words)) (sym none)
    ∙ c.loop-at.invariant.0
