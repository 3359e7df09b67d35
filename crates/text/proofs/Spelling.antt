-- A text spells a word exactly where its word is that one.
use Rattle.std.proofs.Common.{◌≡◌, ℕ, List, Some, arith}
use Rattle.std.proofs.lemmas.Bool.Decides.{nat_tests}
use Rattle.text.specs.Words.{Spells, word_in}

pub spells_from_word : (text : List ℕ) (n : ℕ) → word_in text ≡ Some n → Spells text n
spells_from_word text n e = record {
  digits = grind (arith, nat_tests);
  some = grind (arith, nat_tests);
  no_leading_zero = grind (arith, nat_tests);
  number = grind (arith, nat_tests);
  small = grind (arith, nat_tests);
}

pub word_from_spells : (text : List ℕ) (n : ℕ) → Spells text n → word_in text ≡ Some n
word_from_spells text n s = grind (arith, nat_tests)
