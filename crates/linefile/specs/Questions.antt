-- Questions that are asked of each line of a kind with its number, the first no deciding.
use Rattle.std.specs.Prelude.{◌≡◌, ℕ, suc, ◌+◌, ◌<◌, Bool, true, false, cond, List, [], ◌∷◌, length, Some, None, Option, MatchOption, slice_index_or}

-- lines whose numbers begin at a number
abbrev pub first_no_from : {L : Type 0} → ℕ → (ℕ → L → Bool) → List L → Option ℕ
first_no_from n says [] = None
first_no_from n says (l ∷ ls) = cond (says n l) (first_no_from (suc n) says ls) (Some n)

abbrev pub count_yes_from : {L : Type 0} → ℕ → (ℕ → L → Bool) → List L → ℕ
count_yes_from n says [] = 0
count_yes_from n says (l ∷ ls) = cond (says n l) 1 0 + count_yes_from (suc n) says ls

-- The number of the first line that says no.
abbrev pub first_no : {L : Type 0} → (ℕ → L → Bool) → List L → Option ℕ
first_no says lines = first_no_from 0 says lines

-- How many lines say yes.
abbrev pub count_yes : {L : Type 0} → (ℕ → L → Bool) → List L → ℕ
count_yes says lines = count_yes_from 0 says lines

-- Every line below a number says yes.
abbrev pub YesBelow : {L : Type 0} → (ℕ → L → Bool) → List L → ℕ → Type 0
YesBelow {L} says lines n = (k : ℕ) (d : L) → k < n → says k (slice_index_or lines k d) ≡ true

abbrev pub AllYes : {L : Type 0} → (ℕ → L → Bool) → List L → Type 0
AllYes says lines = YesBelow says lines (length lines)

-- It is the number of a line that says no, and every earlier one says yes.
pub record FirstNo {L : Type 0} (says : ℕ → L → Bool) (lines : List L) (at : ℕ) : Type 0 where
  pub within : at < length lines
  pub says_no : (d : L) → says at (slice_index_or lines at d) ≡ false
  pub yes_before : YesBelow says lines at

-- None where all lines say yes, else the first that says no.
abbrev pub Decided : {L : Type 0} → (ℕ → L → Bool) → List L → Option ℕ → Type 0
Decided says lines answer = MatchOption answer (AllYes says lines) (FirstNo says lines)
