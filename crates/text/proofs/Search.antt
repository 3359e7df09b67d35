-- Where the first such byte stands.
use Rattle.std.proofs.Common.{◌≡◌, ℕ, zero, suc, ◌+◌, ◌<◌, ◌≤◌, Bool, true, false, eqb, ◌==◌, List, [], ◌∷◌, ◌++◌, ◌-◌, length, get_or, take, drop, Some, None, Option, MatchOption, sym, refl, ap, ◌∙◌, arith}
use Rattle.std.proofs.lemmas.List.{get_or-drop, length-drop}
use Rattle.std.proofs.lemmas.List.Quantifiers.{position-Some}
use Rattle.std.proofs.lemmas.Bool.{eq-eqb, eqb-true}
use Rattle.std.proofs.lemmas.Bool.Decides.{nat_tests}
use Rattle.std.specs.Option.{option_map}
use Rattle.text.specs.Parts.{Absent, First, first_from, position}

pub position_at : (byte b : ℕ) (bs : List ℕ) → eqb b byte ≡ true → position byte (b ∷ bs) ≡ Some 0
position_at byte b bs t = grind (arith, nat_tests)

pub position_past : (byte b : ℕ) (bs : List ℕ) → eqb b byte ≡ false → position byte (b ∷ bs) ≡ option_map suc (position byte bs)
position_past byte b bs t = grind (arith, nat_tests)

-- where it stands in a list, seen from the first byte
pub data Found (byte b : ℕ) (bs : List ℕ) (n : ℕ) : Type 0 where
  here : eqb b byte ≡ true → n ≡ 0 → Found byte b bs n
  later : (m : ℕ) → eqb b byte ≡ false → position byte bs ≡ Some m → n ≡ suc m → Found byte b bs n

pub found : (byte b : ℕ) (bs : List ℕ) (n : ℕ) → position byte (b ∷ bs) ≡ Some n → Found byte b bs n
found byte b bs n e = go (eqb b byte) refl (position byte bs) refl
  where
    go : (t : Bool) → eqb b byte ≡ t → (o : Option ℕ) → position byte bs ≡ o → Found byte b bs n
    go true t o p = here t (cc (position_at byte b bs t))
    go false t None p = let z : ◌≡◌ {A = ℕ} 0 1 = cc (position_past byte b bs t ∙ ap (option_map suc) p) in absurd (omega arith)
    go false t (Some m) p = later m t p (cc (position_past byte b bs t ∙ ap (option_map suc) p))

pub not_found : (byte b : ℕ) (bs : List ℕ) → position byte (b ∷ bs) ≡ None → (eqb b byte ≡ false) × (position byte bs ≡ None)
not_found byte b bs e = go (eqb b byte) refl (position byte bs) refl
  where
    go : (t : Bool) → eqb b byte ≡ t → (o : Option ℕ) → position byte bs ≡ o → (eqb b byte ≡ false) × (position byte bs ≡ None)
    go true t o p = let z : ◌≡◌ {A = ℕ} 0 1 = cc (position_at byte b bs t) in absurd (omega arith)
    go false t (Some m) p = let z : ◌≡◌ {A = ℕ} 0 1 = cc (position_past byte b bs t ∙ ap (option_map suc) p) in absurd (omega arith)
    go false t None p = (t, p)

nowhere : {byte : ℕ} (xs : List ℕ) → position byte xs ≡ None → (k : ℕ) → k < length xs → get_or xs k 0 ≡ byte → ⊥
nowhere [] e k h f = absurd (omega arith)
nowhere {byte} (b ∷ bs) e zero h f = cc (sym (eq-eqb b byte f) ∙ (not_found byte b bs e).0)
nowhere {byte} (b ∷ bs) e (suc k) h f = nowhere {byte = byte} bs (not_found byte b bs e).1 k (omega arith) f

-- behind bytes that are others
pub position_append : (byte : ℕ) (xs rest : List ℕ) → position byte xs ≡ None → position byte (xs ++ (byte ∷ rest)) ≡ Some (length xs)
position_append byte [] rest e = position_at byte byte rest (eq-eqb byte byte refl)
position_append byte (b ∷ bs) rest e =
    let no = not_found byte b bs e in
    position_past byte b (bs ++ (byte ∷ rest)) no.0 ∙ ap (option_map suc) (position_append byte bs rest no.1)

-- where it is in neither of two parts
pub position_neither : (byte : ℕ) (xs ys : List ℕ) → position byte xs ≡ None → position byte ys ≡ None → position byte (xs ++ ys) ≡ None
position_neither byte [] ys e f = f
position_neither byte (b ∷ bs) ys e f =
    let no = not_found byte b bs e in
    position_past byte b (bs ++ ys) no.0 ∙ ap (option_map suc) (position_neither byte bs ys no.1 f)

-- it stands right behind the bytes before it
pub position_found : (byte : ℕ) (xs : List ℕ) (n : ℕ) → position byte xs ≡ Some n → (n < length xs) × (take (suc n) xs ≡ take n xs ++ (byte ∷ []))
position_found byte [] n e = let z : ◌≡◌ {A = ℕ} 0 1 = cc in absurd (omega arith)
position_found byte (b ∷ bs) n e = elim (found byte b bs n e) [
  | here t z ↦ (omega arith, rw z (ap (λ (x : ℕ). x ∷ []) (eqb-true b byte t)))
  | later m t p z ↦ let h = position_found byte bs m p in (omega (arith, h.0), rw z (ap (λ (ys : List ℕ). b ∷ ys) h.1))
]

-- in the front of a list: where it stands before the cut, and not where it stands behind
pub position_within : (byte : ℕ) (xs : List ℕ) (n k : ℕ) → position byte xs ≡ Some n → n < k → position byte (take k xs) ≡ Some n
position_within byte xs n zero e h = absurd (omega arith)
position_within byte [] n (suc k) e h = e
position_within byte (b ∷ bs) n (suc k) e h = elim (found byte b bs n e) [
  | here t z ↦ position_at byte b (take k bs) t ∙ ap Some (sym z)
  | later m t p z ↦ position_past byte b (take k bs) t ∙ ap (option_map suc) (position_within byte bs m k p (omega arith)) ∙ ap Some (sym z)
]

pub position_beyond : (byte : ℕ) (xs : List ℕ) (n k : ℕ) → position byte xs ≡ Some n → k ≤ n → position byte (take k xs) ≡ None
position_beyond byte xs n zero e h = refl
position_beyond byte [] n (suc k) e h = refl
position_beyond byte (b ∷ bs) n (suc k) e h = elim (found byte b bs n e) [
  | here t z ↦ absurd (omega arith)
  | later m t p z ↦ position_past byte b (take k bs) t ∙ ap (option_map suc) (position_beyond byte bs m k p (omega arith))
]

-- where it stands in the front of a list, it stands in the list
pub position_back : (byte : ℕ) (xs : List ℕ) (n k : ℕ) → position byte (take k xs) ≡ Some n → position byte xs ≡ Some n
position_back byte xs n zero e = let z : ◌≡◌ {A = ℕ} 0 1 = cc in absurd (omega arith)
position_back byte [] n (suc k) e = e
position_back byte (b ∷ bs) n (suc k) e = elim (found byte b (take k bs) n e) [
  | here t z ↦ position_at byte b bs t ∙ ap Some (sym z)
  | later m t p z ↦ position_past byte b bs t ∙ ap (option_map suc) (position_back byte bs m k p) ∙ ap Some (sym z)
]

-- the search from a place on
module _ (byte : ℕ) (text : List ℕ) (from : ℕ) where
  away : (k : ℕ) → from ≤ k → get_or text k 0 ≡ byte → get_or (drop from text) (k - from) 0 ≡ byte
  away k after e = let same : from + (k - from) ≡ k = omega arith in get_or-drop from text (k - from) 0 ∙ ap (λ n. get_or text n 0) same ∙ e

  there : (n : ℕ) → position byte (drop from text) ≡ Some n → First byte text from (from + n)
  there n e =
      let found = position-Some (λ b. b == byte) (drop from text) n 0 e in
      record {
        after = omega arith;
        within = omega (arith, found.0, length-drop from text);
        there = sym (get_or-drop from text n 0) ∙ eqb-true (get_or (drop from text) n 0) byte found.1;
        none_before = λ k after before e. cc (sym (eq-eqb (get_or (drop from text) (k - from) 0) byte (away k after e)) ∙ found.2 (k - from) (omega arith));
      }

  pub first_is : (answer : Option ℕ) → answer ≡ first_from byte text from → MatchOption answer (Absent byte text from) (First byte text from)
  first_is answer e = rw e (go (position byte (drop from text)) refl)
    where
      go : (o : Option ℕ) → position byte (drop from text) ≡ o → MatchOption (option_map (λ n. from + n) o) (Absent byte text from) (First byte text from)
      go None p = λ k after within f. nowhere (drop from text) p (k - from) (omega (arith, length-drop from text)) (away k after f)
      go (Some n) p = there n p
