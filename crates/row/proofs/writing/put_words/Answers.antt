use Rattle.std.proofs.Common.{ℕ, ◌+◌, List, drop, ◌∙◌, ap₂, arith}
use Rattle.text.specs.Parts.{overwritten}
use Rattle.row.proofs.Tails.{tail, length_row_first, length_tail_at, length_tail_end, length_tail_some, row_more, tail_at, tail_end}
use Rattle.row.proofs.writing.put_words.Goals as goal

pub loop-word-preserved : goal.loop-word-preserved
loop-word-preserved c =
    let rest = c.args.rest.now in
    let i = c.loop-word.word-index in
    let long = length_tail_at rest i c.loop-word-test.true in
    let first = length_row_first c.args.first rest in
    let put = c.put_word-place-in-loop-word.ensures in (
      ap₂ (λ (t : List ℕ) (n : ℕ). overwritten t n (tail (drop (i + 1) rest))) put.text put.place
          ∙ tail_at rest i c.loop-word.text c.loop-word.place c.loop-word-test.true (omega arith)
          ∙ c.loop-word.invariant.0,
      omega arith,
    )

pub returns : goal.returns
returns c =
    let rest = c.args.rest.now in
    let some = length_tail_some (drop c.loop-word.word-index rest) in
    let none = length_tail_end rest c.loop-word.word-index c.loop-word-test.false in
    let first = length_row_first c.args.first rest in
    record {
      len = omega arith;
      text = tail_end rest c.loop-word.word-index c.loop-word.text c.loop-word.place c.loop-word-test.false (omega arith)
          ∙ c.loop-word.invariant.0
          ∙ ap₂ (λ (t : List ℕ) (n : ℕ). overwritten t n (tail rest)) c.put_word-place.ensures.text c.put_word-place.ensures.place
          ∙ row_more c.args.text.now c.args.first rest (omega arith);
    }
