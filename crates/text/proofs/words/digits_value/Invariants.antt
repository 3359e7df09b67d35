use Rattle.std.proofs.Common.{◌≡◌, ◌≤◌, drop}
use Rattle.text.specs.Words.{digits_in, largest}
use Rattle.text.proofs.words.digits_value.Given as goal

-- the digits that are left, behind the number so far, give what all digits give
abbrev pub invariant-loop-byte : goal.invariant-loop-byte
invariant-loop-byte l = (digits_in l.word (drop l.byte-index l.digits) ≡ digits_in 0 l.digits) × (l.word ≤ largest)
