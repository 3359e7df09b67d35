-- What the questions find that are asked of each line.
use Rattle.std.proofs.Common.{◌≡◌, ℕ, zero, suc, ◌+◌, ◌<◌, ◌≤◌, Bool, true, false, cond, List, [], ◌∷◌, length, get_or, drop, Some, None, Option, sym, refl, arith}
use Rattle.std.proofs.lemmas.List.{at_drop_more, at_drop_all}
use Rattle.linefile.specs.Questions.{AllYes, Decided, count_yes_from, first_no, first_no_from}

module _ {L : Type 0} (says : ℕ → L → Bool) where
  -- there is no first no exactly where all lines say yes
  later : (n : ℕ) (l : L) (ls : List L) → first_no_from n says (l ∷ ls) ≡ None → first_no_from (suc n) says ls ≡ None
  later n l ls e = grind arith

  yes_from : (n : ℕ) (ls : List L) → first_no_from n says ls ≡ None → (k : ℕ) (d : L) → k < length ls → says (n + k) (get_or ls k d) ≡ true
  yes_from n [] e k d h = absurd (omega arith)
  yes_from n (l ∷ ls) e zero d h = grind arith
  yes_from n (l ∷ ls) e (suc k) d h = grind (arith, yes_from (suc n) ls (later n l ls e) k d (omega arith))

  none_from : (n : ℕ) (ls : List L) → ((k : ℕ) (d : L) → k < length ls → says (n + k) (get_or ls k d) ≡ true) → first_no_from n says ls ≡ None
  none_from n [] all = refl
  none_from n (l ∷ ls) all =
      grind (arith, all 0 l (omega arith), none_from (suc n) ls (λ k d h. grind (arith, all (suc k) d (omega arith))))

  -- a line that says no, behind lines that all say yes, is the first
  some_from : (n : ℕ) (ls : List L) (at : ℕ) → at < length ls → ((d : L) → says (n + at) (get_or ls at d) ≡ false)
      → ((k : ℕ) (d : L) → k < at → says (n + k) (get_or ls k d) ≡ true) → first_no_from n says ls ≡ Some (n + at)
  some_from n [] at h stops all = absurd (omega arith)
  some_from n (l ∷ ls) zero h stops all = grind (arith, stops l)
  some_from n (l ∷ ls) (suc at) h stops all =
      let behind = some_from (suc n) ls at (omega arith) (λ d. grind (arith, stops d)) (λ k d b. grind (arith, all (suc k) d (omega arith))) in
      grind (arith, all 0 l (omega arith), behind)

  module _ (ls : List L) where
    pub all_from_none : first_no says ls ≡ None → AllYes says ls
    all_from_none e k d h = grind (arith, yes_from 0 ls e k d h)

    pub none_from_all : AllYes says ls → first_no says ls ≡ None
    none_from_all all = none_from 0 ls (λ k d h. grind (arith, all k d h))

    -- only one answer is decided
    pub decided_is : (answer : Option ℕ) → Decided says ls answer → answer ≡ first_no says ls
    decided_is None all = sym (none_from_all all)
    decided_is (Some at) first =
        grind (arith, some_from 0 ls at first.within (λ d. grind (arith, first.says_no d)) (λ k d b. grind (arith, first.yes_before k d b)))

-- the steps of the loop that counts
module _ {L : Type 0} (says : ℕ → L → Bool) (lines : List L) (i : ℕ) where
  pub count_all : length lines ≤ i → count_yes_from i says (drop i lines) ≡ 0
  count_all h = at_drop_all (count_yes_from i says) lines i h

  pub count_more : (line : L) → i < length lines → line ≡ get_or lines i line → count_yes_from i says (drop i lines) ≡ cond (says i line) 1 0 + count_yes_from (i + 1) says (drop (i + 1) lines)
  count_more line h read = grind (arith, at_drop_more (count_yes_from i says) lines i line h)
