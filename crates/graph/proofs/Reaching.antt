-- The test `reaches` answers what the relation `Reach` says.
use Rattle.std.proofs.Common.{◌≡◌, ℕ, zero, suc, ◌<◌, Bool, true, ◌&&◌, ◌⊎◌, ltb, ap, subst, inl, inr, arith}
use Rattle.std.proofs.lemmas.Bool.{and_from, and_parts, cases_lt, le-ltb, lt-ltb, ltb-true, or_cases, or_left, or_right}
use Rattle.graph.specs.Graphs.{Follower, Reach, more, one, reaches, via}

module _ (n : ℕ) (follows : ℕ → ℕ → Bool) where
  pub further : {a b c : ℕ} → Reach n follows a b → Reach n follows b c → Reach n follows a c
  further (one f) r = more f r
  further (more f p) r = more f (further p r)

  told : (a b : ℕ) → via n follows 0 a b ≡ true → Follower n follows a b
  told a b t =
      let p = and_parts (ltb a n) (ltb b n && follows a b) t in
      let q = and_parts (ltb b n) (follows a b) p.1 in
      record { from = ltb-true a n p.0; to = ltb-true b n q.0; told = q.1 }

  tested : (a b : ℕ) → Follower n follows a b → via n follows 0 a b ≡ true
  tested a b f =
      and_from (ltb a n) (ltb b n && follows a b) (lt-ltb a n f.from) (and_from (ltb b n) (follows a b) (lt-ltb b n f.to) f.told)

  stays : (k a b : ℕ) → via n follows k a b ≡ true → via n follows (suc k) a b ≡ true
  stays k a b t = or_left (via n follows k a b) (via n follows k a k && via n follows k k b) t

  by_last : (k a b : ℕ) → via n follows k a k ≡ true → via n follows k k b ≡ true → via n follows (suc k) a b ≡ true
  by_last k a b t u = or_right (via n follows k a b) (via n follows k a k && via n follows k k b) (and_from (via n follows k a k) (via n follows k k b) t u)

  -- a way goes by way of k or does not
  ways : (k a b : ℕ) → via n follows (suc k) a b ≡ true → (via n follows k a b ≡ true) ⊎ ((via n follows k a k ≡ true) × (via n follows k k b ≡ true))
  ways k a b t = elim (or_cases (via n follows k a b) (via n follows k a k && via n follows k k b) t) [
    | inl u ↦ inl u
    | inr u ↦ inr (and_parts (via n follows k a k) (via n follows k k b) u)
  ]

  sound : (k a b : ℕ) → via n follows k a b ≡ true → Reach n follows a b
  sound zero a b t = one (told a b t)
  sound (suc k) a b t = elim (ways k a b t) [
    | inl u ↦ sound k a b u
    | inr u ↦ further (sound k a k u.0) (sound k k b u.1)
  ]

  lift : (k a b : ℕ) → via n follows 0 a b ≡ true → via n follows k a b ≡ true
  lift zero a b t = t
  lift (suc k) a b t = stays k a b (lift k a b t)

  -- no way to or from k has to go by way of k
  to_last : (k a : ℕ) → via n follows (suc k) a k ≡ true → via n follows k a k ≡ true
  to_last k a t = elim (ways k a k t) [ inl u ↦ u | inr u ↦ u.0 ]

  from_last : (k b : ℕ) → via n follows (suc k) k b ≡ true → via n follows k k b ≡ true
  from_last k b t = elim (ways k k b t) [ inl u ↦ u | inr u ↦ u.1 ]

  compose : (k a b c : ℕ) → c < k → via n follows k a c ≡ true → via n follows k c b ≡ true → via n follows k a b ≡ true
  compose zero a b c h t u = absurd (omega arith)
  compose (suc k) a b c h t u = elim (cases_lt c k) [
    | inl l ↦ elim (ways k a c t) [
      | inl v ↦ elim (ways k c b u) [
        | inl w ↦ stays k a b (compose k a b c l v w)
        | inr w ↦ by_last k a b (compose k a k c l v w.0) w.1
      ]
      | inr v ↦ elim (ways k c b u) [
        | inl w ↦ by_last k a b v.0 (compose k k b c l v.1 w)
        | inr w ↦ by_last k a b v.0 w.1
      ]
    ]
    | inr l ↦
        let e : c ≡ k = omega arith in
        by_last k a b (to_last k a (subst (λ (x : ℕ). via n follows (suc k) a x ≡ true) e t)) (from_last k b (subst (λ (x : ℕ). via n follows (suc k) x b ≡ true) e u))
  ]

  pub reach_from_test : (a b : ℕ) → reaches n follows a b ≡ true → Reach n follows a b
  reach_from_test a b t = sound n a b t

  pub test_from_reach : {a b : ℕ} → Reach n follows a b → reaches n follows a b ≡ true
  test_from_reach (one {a} {b} f) = lift n a b (tested a b f)
  test_from_reach (more {a} {b} {c} f r) = compose n a c b f.to (lift n a b (tested a b f)) (test_from_reach r)

  -- only nodes reach
  pub reach_node : {a b : ℕ} → Reach n follows a b → a < n
  reach_node (one f) = f.from
  reach_node (more f r) = f.from

-- graphs that tell the same of their nodes reach the same
pub via_same : (n : ℕ) (f g : ℕ → ℕ → Bool) → ((a b : ℕ) → a < n → b < n → f a b ≡ g a b) → (k a b : ℕ) → via n f k a b ≡ via n g k a b
via_same n f g same zero a b = elim (cases_lt a n) [
  | inl h ↦ elim (cases_lt b n) [
    | inl i ↦ ap (λ (x : Bool). ltb a n && (ltb b n && x)) (same a b h i)
    | inr i ↦ rw (le-ltb b n i)
  ]
  | inr h ↦ rw (le-ltb a n h)
]
via_same n f g same (suc k) a b = rw (via_same n f g same k a b, via_same n f g same k a k, via_same n f g same k k b)
