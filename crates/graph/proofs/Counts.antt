-- How many nodes reach a node: more reach its followers, where no node reaches itself.
use Rattle.std.proofs.Common.{◌≡◌, ℕ, zero, suc, ◌<◌, ◌≤◌, Bool, true, false, cond, List, [], ◌∷◌, length, count_by, get_or, All, sym, refl, ap, ◌∙◌, arith}
use Rattle.std.proofs.lemmas.Bool.{false_from_ne_true, false≢true}
use Rattle.std.proofs.lemmas.List.Sums.{sum_by-cons}
use Rattle.std.proofs.lemmas.List.FromFn.{get_or-map-range_with_len, length-map-range_with_len}
use Rattle.graph.specs.Graphs.{Follower, Ranked, Reach, one, reaches}
use Rattle.graph.specs.Tables.{column_count, column_counts, marked, square}
use Rattle.graph.proofs.Reaching.{further, reach_from_test, test_from_reach}
use Rattle.graph.proofs.Squares.{get_or-square, length_of, marked-row_of}

one_le : (x y : Bool) → (x ≡ true → y ≡ true) → cond x 1 0 ≤ cond y 1 0
one_le true true h = omega arith
one_le true false h = absurd (false≢true (h refl))
one_le false true h = omega arith
one_le false false h = omega arith

-- two tests, of which the second passes where the first does: where an element passes the second alone, more pass it
module _ {X : Type 0} (test other : X → Bool) where
  count_le : (xs : List X) → All (λ x. test x ≡ true → other x ≡ true) xs → count_by test xs ≤ count_by other xs
  count_le [] all = omega arith
  count_le (x ∷ xs) all =
      omega (arith, sum_by-cons (λ y. cond (test y) 1 0) x xs, sum_by-cons (λ y. cond (other y) 1 0) x xs, one_le (test x) (other x) (all 0 x (omega arith)), count_le xs (λ k d h. all (suc k) d (omega arith)))

  count_lt : (xs : List X) (i : ℕ) (d : X) → All (λ x. test x ≡ true → other x ≡ true) xs → i < length xs → test (get_or xs i d) ≡ false → other (get_or xs i d) ≡ true → count_by test xs < count_by other xs
  count_lt [] i d all h f t = absurd (omega arith)
  count_lt (x ∷ xs) zero d all h f t =
      let none : ◌≡◌ {A = ℕ} (cond (test x) 1 0) 0 = ap (λ (b : Bool). cond b 1 0) f in
      let some : ◌≡◌ {A = ℕ} (cond (other x) 1 0) 1 = ap (λ (b : Bool). cond b 1 0) t in
      omega (arith, sum_by-cons (λ y. cond (test y) 1 0) x xs, sum_by-cons (λ y. cond (other y) 1 0) x xs, count_le xs (λ k d h. all (suc k) d (omega arith)))
  count_lt (x ∷ xs) (suc i) d all h f t =
      omega (arith, sum_by-cons (λ y. cond (test y) 1 0) x xs, sum_by-cons (λ y. cond (other y) 1 0) x xs, one_le (test x) (other x) (all 0 x (omega arith)), count_lt xs i d (λ k d h. all (suc k) d (omega arith)) (omega arith) f t)

module _ (n : ℕ) (follows : ℕ → ℕ → Bool) (free : (node : ℕ) → Reach n follows node node → ⊥) (rows : List (List Bool)) (reached : rows ≡ square n (reaches n follows)) where
  row_says : (a b : ℕ) (d : List Bool) → a < n → b < n → marked (get_or rows a d) b ≡ reaches n follows a b
  row_says a b d h i =
      ap (λ (table : List (List Bool)). marked (get_or table a d) b) reached
      ∙ ap (λ (row : List Bool). marked row b) (get_or-square n (reaches n follows) a d h)
      ∙ marked-row_of n (reaches n follows a) b i

  -- what reaches a node reaches its followers
  passed_on : (a b : ℕ) → Follower n follows a b → All (λ row. marked row a ≡ true → marked row b ≡ true) rows
  passed_on a b f k d h t =
      let l : k < n = omega (arith, length_of n (reaches n follows) rows reached) in
      row_says k b d l f.to ∙ test_from_reach n follows (further n follows (reach_from_test n follows k a (sym (row_says k a d l f.from) ∙ t)) (one f))

  not_itself : (a : ℕ) → reaches n follows a a ≡ false
  not_itself a = false_from_ne_true (reaches n follows a a) (λ t. free a (reach_from_test n follows a a t))

  count_rises : (a b : ℕ) → Follower n follows a b → column_count rows a < column_count rows b
  count_rises a b f =
      count_lt (λ row. marked row a) (λ row. marked row b) rows a [] (passed_on a b f) (omega (arith, length_of n (reaches n follows) rows reached, f.from))
      (row_says a a [] f.from f.from ∙ not_itself a)
      (row_says a b [] f.from f.to ∙ test_from_reach n follows (one f))

  pub counts_ranked : (counts : List ℕ) → counts ≡ column_counts rows → Ranked n follows counts
  counts_ranked counts e =
      record {
        count = ap length e ∙ length-map-range_with_len (column_count rows) 0 (length rows) ∙ long;
        rise = λ a b f. omega (arith, count_at a f.from, count_at b f.to, count_rises a b f);
      }
    where
      long : length rows ≡ n
      long = length_of n (reaches n follows) rows reached

      count_at : (a : ℕ) → a < n → get_or counts a 0 ≡ column_count rows a
      count_at a h = ap (λ (l : List ℕ). get_or l a 0) e ∙ get_or-map-range_with_len (column_count rows) 0 (length rows) a a 0 (omega (arith, long)) (omega arith)
