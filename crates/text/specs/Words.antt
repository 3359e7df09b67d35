-- A word as text: a number in base ten, without leading zeros, of at most 4,294,967,295.
use Rattle.std.specs.Prelude.{◌≡◌, ℕ, ◌+◌, ◌-◌, ◌*◌, ◌<◌, ◌≤◌, Bool, true, cond, not, ◌&&◌, ◌||◌, List, [], ◌∷◌, length, Some, None, Option, ◌==◌, nat_le, nat_lt, slice_index, slice_index_or}

-- the largest word
abbrev pub largest : ℕ
largest = 4294967295

-- the bytes `0` to `9`
abbrev pub is_digit : ℕ → Bool
is_digit b = nat_le 48 b && nat_le b 57

abbrev pub all_digits : List ℕ → Bool
all_digits [] = true
all_digits (b ∷ bs) = is_digit b && all_digits bs

-- the number that digits write in base ten, after those of v
abbrev pub value_after : ℕ → List ℕ → ℕ
value_after v [] = v
value_after v (d ∷ ds) = value_after (v * 10 + (d - 48)) ds

abbrev pub value : List ℕ → ℕ
value ds = value_after 0 ds

-- The text is the word in base ten: digits alone, at least one, the first a zero only where it is the only one.
pub record Spells (text : List ℕ) (word : ℕ) : Type 0 where
  pub digits : all_digits text ≡ true
  pub some : 0 < length text
  pub no_leading_zero : slice_index_or text 0 0 ≡ 48 → length text ≡ 1
  pub number : value text ≡ word
  pub small : word ≤ largest

-- the word that digits write behind the number v, if they are digits and it is a word
abbrev pub digits_in : ℕ → List ℕ → Option ℕ
digits_in v ds = cond (all_digits ds && nat_le (value_after v ds) largest) (Some (value_after v ds)) None

-- one byte at least, and no leading zero
abbrev pub is_begun : List ℕ → Bool
is_begun text = nat_lt 0 (length text) && (length text == 1 || not (slice_index text 0 == 48))

-- The word that the text spells, if it spells one.
abbrev pub word_in : List ℕ → Option ℕ
word_in text = cond (is_begun text) (digits_in 0 text) None
