-- `lowest_loop` is the lowest node that reaches itself, and where ranks rise no node does.
use Rattle.std.proofs.Common.{◌≡◌, ℕ, zero, suc, ◌+◌, ◌<◌, ◌≤◌, Bool, true, false, List, length, find, Some, None, MatchOption, Option, get_or, refl, ap, sym, ◌∙◌, inl, inr, arith}
use Rattle.std.proofs.lemmas.Bool.{both_ways, cases_Bool, cases_order}
use Rattle.std.specs.List.{range_with_len}
use Rattle.graph.specs.Graphs.{Lowest, Ranked, Reach, lowest_loop, more, one, reaches}
use Rattle.graph.specs.Tables.{cell, square}
use Rattle.graph.proofs.Reaching.{reach_from_test, reach_node, test_from_reach}
use Rattle.graph.proofs.Squares.{cell-square, length-square}

-- what is found among n numbers from a on
abbrev FirstFrom : (ℕ → Bool) → ℕ → ℕ → Option ℕ → Type 0
FirstFrom test a n o =
    MatchOption o ((k : ℕ) → a ≤ k → k < a + n → test k ≡ false) (λ i. (test i ≡ true) × ((k : ℕ) → a ≤ k → k < i → test k ≡ false))

fails_from : (test : ℕ → Bool) (a end : ℕ) → test a ≡ false → ((k : ℕ) → a + 1 ≤ k → k < end → test k ≡ false) → (k : ℕ) → a ≤ k → k < end → test k ≡ false
fails_from test a end e rest k l h = elim (cases_order a k) [
  | inl same ↦ ap test (sym same) ∙ e
  | inr (inl up) ↦ rest k (omega arith) h
  | inr (inr down) ↦ absurd (omega arith)
]

first_more : (test : ℕ → Bool) (a n : ℕ) (o : Option ℕ) → test a ≡ false → FirstFrom test (a + 1) n o → FirstFrom test a (suc n) o
first_more test a n None e rest = fails_from test a (a + suc n) e (λ k l h. rest k l (omega arith))
first_more test a n (Some i) e rest = (rest.0, fails_from test a i e rest.1)

first_found : (test : ℕ → Bool) (a n : ℕ) → FirstFrom test a n (find test (range_with_len a n))
first_found test a zero = λ k l m. absurd (omega arith)
first_found test a (suc n) = elim (cases_Bool (test a)) [
  | inl e ↦ rw e (e, λ k l m. absurd (omega arith))
  | inr e ↦ rw e (first_more test a n (find test (range_with_len (a + 1) n)) e (first_found test (a + 1) n))
]

find_same : (test other : ℕ → Bool) (a n : ℕ) → ((k : ℕ) → a ≤ k → k < a + n → test k ≡ other k) → find test (range_with_len a n) ≡ find other (range_with_len a n)
find_same test other a zero same = refl
find_same test other a (suc n) same = rw (same a (omega arith) (omega arith), find_same test other (a + 1) n (λ k l h. same k (omega arith) (omega arith)))

module _ (n : ℕ) (follows : ℕ → ℕ → Bool) where
  lowest_from_first : (o : Option ℕ) → FirstFrom (λ a. reaches n follows a a) 0 n o → Lowest n follows o
  lowest_from_first (Some a) first =
      (reach_from_test n follows a a first.0, λ lower h r. both_ways (reaches n follows lower lower) (first.1 lower (omega arith) h) (test_from_reach n follows r))
  lowest_from_first None first = λ a r. both_ways (reaches n follows a a) (first a (omega arith) (omega (arith, reach_node n follows r))) (test_from_reach n follows r)

  pub lowest_is : Lowest n follows (lowest_loop n follows)
  lowest_is = lowest_from_first (lowest_loop n follows) (first_found (λ a. reaches n follows a a) 0 n)

  -- what the diagonal of a table says
  pub loop_from_diagonal : (rows : List (List Bool)) → rows ≡ square n (reaches n follows) → find (λ a. cell rows a a) (range_with_len 0 (length rows)) ≡ lowest_loop n follows
  loop_from_diagonal rows e =
      ap (λ (table : List (List Bool)). find (λ a. cell table a a) (range_with_len 0 (length table))) e
      ∙ ap (λ (m : ℕ). find (λ a. cell (square n (reaches n follows)) a a) (range_with_len 0 m)) (length-square n (reaches n follows))
      ∙ find_same (λ a. cell (square n (reaches n follows)) a a) (λ a. reaches n follows a a) 0 n (λ k l h. cell-square n (reaches n follows) k k (omega arith) (omega arith))

  rise_on : (ranks : List ℕ) → Ranked n follows ranks → {a b : ℕ} → Reach n follows a b → get_or ranks a 0 < get_or ranks b 0
  rise_on ranks ranked (one {a} {b} f) = ranked.rise a b f
  rise_on ranks ranked (more {a} {b} f r) = omega (arith, ranked.rise a b f, rise_on ranks ranked r)

  pub ranked_free : (ranks : List ℕ) → Ranked n follows ranks → (node : ℕ) → Reach n follows node node → ⊥
  ranked_free ranks ranked node r = omega (arith, rise_on ranks ranked r)
