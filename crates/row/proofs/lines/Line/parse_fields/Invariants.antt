use Rattle.std.proofs.Common.{◌≡◌, ◌+◌, length, take}
use Rattle.text.specs.Fields.{fields}
use Rattle.text.specs.Unread.{unread}
use Rattle.row.specs.Reading.{field_words}
use Rattle.row.proofs.FieldWords.{words_after}
use Rattle.row.proofs.lines.Line.parse_fields.Given as goal

-- the fields that are left, behind the words so far, give what all fields give
abbrev pub invariant-loop-at : goal.invariant-loop-at
invariant-loop-at l =
    (words_after l.at-iterator.count (take l.at-iterator.count l.words) (unread l.at-iterator.iter) ≡ field_words (fields l.self))
    × (l.at-iterator.count + length (unread l.at-iterator.iter) ≡ length (fields l.self))
    × (goal.iterator-loop-at).can_next l.at-iterator
    × (goal.iterator-loop-at).is_finite l.at-iterator
