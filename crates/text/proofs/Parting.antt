-- A line parted into its fields: what the first is, that the parts make the line, and that no other fields do.
use Rattle.std.proofs.Common.{◌≡◌, ℕ, zero, suc, ◌+◌, ◌-◌, ◌<◌, ◌≤◌, Bool, true, false, eqb, leb, List, [], ◌∷◌, ◌++◌, length, take, drop, Some, None, Option, sym, refl, ap, ◌∙◌, ap₂, arith}
use Rattle.std.proofs.lemmas.List.{append-nil, drop-drop, take_at, take_rest}
use Rattle.std.proofs.lemmas.Bool.{cond-true, eqb-true, le-leb}
use Rattle.std.specs.Option.{option_map}
use Rattle.std.specs.List.{AllByRecursion}
use Rattle.text.specs.Fields.{Parted, after_commas, comma, fields, fields_from, onto_first, with_commas}
use Rattle.text.specs.Parts.{first_from, position}
use Rattle.text.proofs.Search.{found, here, later, not_found, position_append, position_past}

fields_comma : (b : ℕ) (bs : List ℕ) → eqb b comma ≡ true → fields (b ∷ bs) ≡ [] ∷ fields bs
fields_comma b bs t = rw (t, fields)

fields_byte : (b : ℕ) (bs : List ℕ) → eqb b comma ≡ false → fields (b ∷ bs) ≡ onto_first b (fields bs)
fields_byte b bs t = rw (t, fields)

-- the line up to its first comma, and the fields behind it
pub fields_cut : (line : List ℕ) (i : ℕ) → position comma line ≡ Some i → fields line ≡ take i line ∷ fields (drop (suc i) line)
fields_cut [] i e = let z : ◌≡◌ {A = ℕ} 0 1 = cc in absurd (omega arith)
fields_cut (b ∷ bs) i e = elim (found comma b bs i e) [
  | here t z ↦ rw z (fields_comma b bs t)
  | later j t p z ↦ rw z (fields_byte b bs t ∙ ap (onto_first b) (fields_cut bs j p))
]

pub fields_last : (line : List ℕ) → position comma line ≡ None → fields line ≡ line ∷ []
fields_last [] e = refl
fields_last (b ∷ bs) e =
    let no = not_found comma b bs e in
    fields_byte b bs no.0 ∙ ap (onto_first b) (fields_last bs no.1)

-- the parts make the line
fields_some : (line : List ℕ) → 0 < length (fields line)
fields_some [] = omega arith
fields_some (b ∷ bs) = go (eqb b comma) refl
  where
    longer : (fs : List (List ℕ)) → 0 < length (onto_first b fs)
    longer [] = omega arith
    longer (f ∷ fs) = omega arith

    go : (t : Bool) → eqb b comma ≡ t → 0 < length (fields (b ∷ bs))
    go true t = rw (fields_comma b bs t) (omega arith)
    go false t = rw (fields_byte b bs t) (longer (fields bs))

whole_onto : (b : ℕ) (fs : List (List ℕ)) → with_commas (onto_first b fs) ≡ b ∷ with_commas fs
whole_onto b [] = refl
whole_onto b (f ∷ fs) = refl

whole_after : (fs : List (List ℕ)) → 0 < length fs → after_commas fs ≡ comma ∷ with_commas fs
whole_after [] h = absurd (omega arith)
whole_after (f ∷ fs) h = refl

pub fields_whole : (line : List ℕ) → with_commas (fields line) ≡ line
fields_whole [] = refl
fields_whole (b ∷ bs) = go (eqb b comma) refl (fields_whole bs)
  where
    go : (t : Bool) → eqb b comma ≡ t → with_commas (fields bs) ≡ bs → with_commas (fields (b ∷ bs)) ≡ b ∷ bs
    go true t ih =
        ap with_commas (fields_comma b bs t) ∙ whole_after (fields bs) (fields_some bs) ∙ ap₂ (λ (x : ℕ) (xs : List ℕ). x ∷ xs) (sym (eqb-true b comma t)) ih
    go false t ih = ap with_commas (fields_byte b bs t) ∙ whole_onto b (fields bs) ∙ ap (λ (xs : List ℕ). b ∷ xs) ih

-- no field holds a comma
abbrev Apart : List (List ℕ) → Type 0
Apart fs = AllByRecursion (λ f. position comma f ≡ None) fs

apart_onto : (b : ℕ) (fs : List (List ℕ)) → eqb b comma ≡ false → Apart fs → Apart (onto_first b fs)
apart_onto b [] t h = (position_past comma b [] t, tt)
apart_onto b (f ∷ fs) t h = (position_past comma b f t ∙ ap (option_map suc) h.0, h.1)

fields_apart : (line : List ℕ) → Apart (fields line)
fields_apart [] = (refl, tt)
fields_apart (b ∷ bs) = go (eqb b comma) refl (fields_apart bs)
  where
    go : (t : Bool) → eqb b comma ≡ t → Apart (fields bs) → Apart (fields (b ∷ bs))
    go true t ih = rw (fields_comma b bs t) (refl, ih)
    go false t ih = rw (fields_byte b bs t) (apart_onto b (fields bs) t ih)

pub fields_parted : (line : List ℕ) → Parted line (fields line)
fields_parted line = record { some = fields_some line; whole = fields_whole line; apart = fields_apart line }

-- no other fields make it
drop_past : (f : List ℕ) (x : ℕ) (rest : List ℕ) → drop (suc (length f)) (f ++ (x ∷ rest)) ≡ rest
drop_past [] x rest = refl
drop_past (b ∷ bs) x rest = drop_past bs x rest

fields_append : (f : List ℕ) (rest : List ℕ) → position comma f ≡ None → fields (f ++ (comma ∷ rest)) ≡ f ∷ fields rest
fields_append f rest e =
    fields_cut (f ++ (comma ∷ rest)) (length f) (position_append comma f rest e)
    ∙ ap₂ (λ (x : List ℕ) (xs : List ℕ). x ∷ fields xs) (take_at f (comma ∷ rest) (length f) refl) (drop_past f comma rest)

pub fields_unique : (fs : List (List ℕ)) → 0 < length fs → AllByRecursion (λ f. position comma f ≡ None) fs → fields (with_commas fs) ≡ fs
fields_unique [] some apart = absurd (omega arith)
fields_unique (f ∷ []) some apart = ap fields (append-nil f) ∙ fields_last f apart.0
fields_unique (f ∷ (g ∷ fs)) some apart =
    fields_append f (with_commas (g ∷ fs)) apart.0 ∙ ap (λ (gs : List (List ℕ)). f ∷ gs) (fields_unique (g ∷ fs) (omega arith) apart.1)

pub parted_only : (line : List ℕ) (fs : List (List ℕ)) → Parted line fs → fs ≡ fields line
parted_only line fs p = sym (fields_unique fs p.some p.apart) ∙ ap fields p.whole

-- the fields from a place on, one by one
pub from_within : (text : List ℕ) (place : ℕ) → place ≤ length text → fields_from text (Some place) ≡ fields (drop place text)
from_within text place h = cond-true (leb place (length text)) (fields (drop place text)) [] (le-leb place (length text) h)

pub from_cut : (text : List ℕ) (place end : ℕ) → place ≤ length text → end < length text → first_from comma text place ≡ Some end → fields_from text (Some place) ≡ take (end - place) (drop place text) ∷ fields_from text (Some (end + 1))
from_cut text place end h k e = from_within text place h ∙ go (position comma (drop place text)) refl
  where
    go : (o : Option ℕ) → position comma (drop place text) ≡ o → fields (drop place text) ≡ take (end - place) (drop place text) ∷ fields_from text (Some (end + 1))
    go None p = let z : ◌≡◌ {A = ℕ} 0 1 = cc (ap (option_map (λ i. place + i)) p) in absurd (omega arith)
    go (Some i) p =
        let z : end ≡ place + i = cc (ap (option_map (λ j. place + j)) p) in
        let n : end - place ≡ i = omega arith in
        let m : place + suc i ≡ end + 1 = omega arith in
        fields_cut (drop place text) i p
        ∙ ap₂ (λ (x : List ℕ) (xs : List (List ℕ)). x ∷ xs) (ap (λ (j : ℕ). take j (drop place text)) (sym n)) (ap fields (drop-drop (suc i) place text ∙ ap (λ (j : ℕ). drop j text) m) ∙ sym (from_within text (end + 1) (omega arith)))

pub from_last : (text : List ℕ) (place : ℕ) → place ≤ length text → first_from comma text place ≡ None → fields_from text (Some place) ≡ take (length text - place) (drop place text) ∷ []
from_last text place h e = from_within text place h ∙ go (position comma (drop place text)) refl
  where
    go : (o : Option ℕ) → position comma (drop place text) ≡ o → fields (drop place text) ≡ take (length text - place) (drop place text) ∷ []
    go (Some i) p = let z : ◌≡◌ {A = ℕ} 0 1 = cc (ap (option_map (λ j. place + j)) p) in absurd (omega arith)
    go None p = fields_last (drop place text) p ∙ ap (λ (x : List ℕ). x ∷ []) (sym (take_rest text place))

-- a part from the front has the length that it was cut to
pub take_length : (n : ℕ) (xs : List ℕ) → take n xs ≡ take (length (take n xs)) xs
take_length zero xs = refl
take_length (suc n) [] = refl
take_length (suc n) (x ∷ xs) = ap (λ (ys : List ℕ). x ∷ ys) (take_length n xs)
