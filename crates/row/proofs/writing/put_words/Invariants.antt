use Rattle.std.proofs.Common.{◌≡◌, ◌+◌, length, drop}
use Rattle.text.specs.Parts.{overwritten}
use Rattle.row.proofs.Tails.{tail}
use Rattle.row.proofs.writing.put_words.Given as goal

-- with the words that are left the text is what it is to be, and they end where they are to
abbrev pub invariant-loop-word : goal.invariant-loop-word
invariant-loop-word l =
    (overwritten l.text l.place (tail (drop l.word-index l.rest)) ≡ overwritten l.initial.text l.initial.place (tail l.rest))
    × (l.place + length (tail (drop l.word-index l.rest)) ≡ l.initial.place + length (tail l.rest))
