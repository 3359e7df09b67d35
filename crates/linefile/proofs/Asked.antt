-- What a yes to a question tells.
use Rattle.std.proofs.Common.{◌≡◌, ℕ, Bool, true, false, cond, Some, None, Ok, Option, Result, refl, arith}
use Rattle.linefile.specs.Files.{asked}
use Rattle.linefile.specs.Forms.{provided, with_value}
use Rattle.faults.specs.declared.lines.LineFault.{LineFault}

pub asked_ok : {A B : Type 0} (fault : LineFault) (o : Option A) (more : A → Result B LineFault) (b : B) → asked fault o more ≡ Ok b → (a : A) × (o ≡ Some a) × (more a ≡ Ok b)
asked_ok fault None more b e = let z : ◌≡◌ {A = ℕ} 0 1 = cc in absurd (omega arith)
asked_ok fault (Some a) more b e = (a, refl, e)

pub value_some : {A B : Type 0} (o : Option A) (more : A → Option B) (b : B) → with_value o more ≡ Some b → (a : A) × (o ≡ Some a) × (more a ≡ Some b)
value_some None more b e = let z : ◌≡◌ {A = ℕ} 0 1 = cc in absurd (omega arith)
value_some (Some a) more b e = (a, refl, e)

pub provided_some : {A : Type 0} (test : A → Bool) (a b : A) → provided test a ≡ Some b → (test a ≡ true) × (a ≡ b)
provided_some {A} test a b e = go (test a) refl e
  where
    go : (t : Bool) → test a ≡ t → cond t (Some a) None ≡ Some b → (test a ≡ true) × (a ≡ b)
    go true t e = (t, cc)
    go false t e = let z : ◌≡◌ {A = ℕ} 0 1 = cc in absurd (omega arith)
