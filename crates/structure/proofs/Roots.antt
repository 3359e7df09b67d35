-- One region has no parent, and no other, exactly where their count is 1.
use Rattle.std.proofs.Common.{◌≡◌, ℕ, zero, suc, ◌⊎◌, List, [], ◌∷◌, Some, None, Option, refl, ap, inl, inr, arith}
use Rattle.chart.specs.declared.regions.Region.{Region}
use Rattle.std.specs.List.{slice_get}
use Rattle.linefile.specs.Questions.{count_yes_from}
use Rattle.structure.specs.Regions.{has_no_parent}
use Rattle.structure.specs.Structure.{OnlyRoot}

abbrev rootless : Region
rootless = record { parent = None }

abbrev pub roots_from : ℕ → List Region → ℕ
roots_from n rs = count_yes_from n (λ _ r. has_no_parent r.parent) rs

-- a region has no parent, or it has one
root_or_not : (r : Region) → (Some r ≡ Some rootless) ⊎ ((state : ℕ) × (r.parent ≡ Some state))
root_or_not r = go r.parent refl
  where
    go : (p : Option ℕ) → r.parent ≡ p → (Some r ≡ Some rootless) ⊎ ((state : ℕ) × (r.parent ≡ Some state))
    go None e = inl (ap (λ (p : Option ℕ). Some (record { parent = p })) e)
    go (Some state) e = inr (state, e)

-- and counts accordingly
count_root : (n : ℕ) (r : Region) (rs : List Region) → Some r ≡ Some rootless → roots_from n (r ∷ rs) ≡ suc (roots_from (suc n) rs)
count_root n r rs e = let same : r ≡ rootless = cc in grind arith

count_other : (n : ℕ) (r : Region) (rs : List Region) (state : ℕ) → r.parent ≡ Some state → roots_from n (r ∷ rs) ≡ roots_from (suc n) rs
count_other n r rs state e = grind arith

none_where_0 : (n : ℕ) (rs : List Region) → roots_from n rs ≡ 0 → (k : ℕ) → slice_get rs k ≡ Some rootless → ⊥
none_where_0 n [] z k e = cc
none_where_0 n (r ∷ rs) z zero e = omega (arith, count_root n r rs e)
none_where_0 n (r ∷ rs) z (suc k) e = none_where_0 (suc n) rs (omega arith) k e

0-where-none : (n : ℕ) (rs : List Region) → ((k : ℕ) → slice_get rs k ≡ Some rootless → ⊥) → roots_from n rs ≡ 0
0-where-none n [] none = refl
0-where-none n (r ∷ rs) none =
    let behind = 0-where-none (suc n) rs (λ k at. none (suc k) at) in
    elim (root_or_not r) [
      | inl root ↦ absurd (none 0 root)
      | inr other ↦ omega (arith, behind, count_other n r rs other.0 other.1)
    ]

pub root_where_1 : (n : ℕ) (rs : List Region) → roots_from n rs ≡ 1 → (root : ℕ) × OnlyRoot rs root
root_where_1 n [] z = absurd (omega arith)
root_where_1 n (r ∷ rs) z = elim (root_or_not r) [
  | inl root ↦ (0, record { there = root; only = first root })
  | inr other ↦
      let found = root_where_1 (suc n) rs (omega (arith, count_other n r rs other.0 other.1)) in
      (suc found.0, record { there = found.1.there; only = behind other.0 found.0 other.1 found.1 })
]
  where
    first : Some r ≡ Some rootless → (k : ℕ) → slice_get (r ∷ rs) k ≡ Some rootless → k ≡ 0
    first root zero at = refl
    first root (suc k) at = absurd (none_where_0 (suc n) rs (omega (arith, count_root n r rs root)) k at)

    behind : (state root : ℕ) → r.parent ≡ Some state → OnlyRoot rs root → (k : ℕ) → slice_get (r ∷ rs) k ≡ Some rootless → k ≡ suc root
    behind state root e o zero at = absurd (omega (arith, z, count_root n r rs at, count_other n r rs state e))
    behind state root e o (suc k) at = ap suc (o.only k at)

pub 1-where-root : (n : ℕ) (rs : List Region) (root : ℕ) → OnlyRoot rs root → roots_from n rs ≡ 1
1-where-root n [] root o = absurd cc
1-where-root n (r ∷ rs) zero o =
    omega (arith, count_root n r rs o.there, 0-where-none (suc n) rs (λ k at. omega (arith, o.only (suc k) at)))
1-where-root n (r ∷ rs) (suc root) o =
    let behind = 1-where-root (suc n) rs root (record { there = o.there; only = λ k at. omega (arith, o.only (suc k) at) }) in
    elim (root_or_not r) [
      | inl first ↦ absurd (omega (arith, o.only 0 first))
      | inr other ↦ omega (arith, behind, count_other n r rs other.0 other.1)
    ]
