-- What the last line tells of all earlier lines of a line file.
use Rattle.std.proofs.Common.{◌≡◌, ℕ, ◌+◌, ◌<◌, ◌≤◌, Bool, true, false, cond, ◌&&◌, eqb, ltb, leb, List, [], ◌∷◌, length, Some, None, Ok, Option, Result, sym, refl, ap, ◌∙◌, subst, ap₂, arith}
use Rattle.std.proofs.lemmas.Bool.{eq-eqb, lt-ltb, leb-true, eqb-true, ltb-true}
use Rattle.std.proofs.lemmas.Bool.Decides.{nat_tests}
use Rattle.linefile.proofs.Asked.{asked_ok, provided_some, value_some}
use Rattle.text.specs.Fields.{fields_from}
use Rattle.linefile.specs.Files.{Passes, asked, count_of, in_order, letter_of, lettered, numbered, read_line}
use Rattle.linefile.specs.Formats.{Format}
use Rattle.linefile.specs.Forms.{provided, with_value}
use Rattle.linefile.specs.Places.{comes, so_far}
use Rattle.faults.specs.declared.lines.LineFault.{LineFault}
use Rattle.faults.specs.declared.lines.LineFault.TheVariants.{Letter, Fields, Number, Limit}

-- the last line tells of all earlier ones which letters may come, and how many lines have each of these
pub record Agrees (earlier : List ℕ) (last : Option (ℕ × ℕ)) : Type 0 where
  pub order : (l : ℕ) → in_order earlier l ≡ comes last l
  pub counts : (l : ℕ) → comes last l ≡ true → count_of earlier l ≡ so_far last l

pub agrees_none : Agrees [] None
agrees_none = record { order = λ l. refl; counts = λ l h. refl }

order_more : (last : Option (ℕ × ℕ)) (next l : ℕ) → comes last next ≡ true → (leb next l && comes last l) ≡ leb next l
order_more None next l h = grind (arith, nat_tests)
order_more (Some last) next l h = grind (arith, nat_tests)

counts_more : (last : Option (ℕ × ℕ)) (next l : ℕ) → comes last next ≡ true → next ≤ l → cond (eqb next l) 1 0 + so_far last l ≡ cond (eqb l next) (so_far last next + 1) 0
counts_more None next l h k = grind (arith, nat_tests)
counts_more (Some last) next l h k = grind (arith, nat_tests)

comes_later : (last : Option (ℕ × ℕ)) (next l : ℕ) → comes last next ≡ true → next ≤ l → comes last l ≡ true
comes_later None next l h k = refl
comes_later (Some last) next l h k = grind (arith, nat_tests)

pub agrees_more : (earlier : List ℕ) (last : Option (ℕ × ℕ)) (next : ℕ) → Agrees earlier last → comes last next ≡ true → Agrees (next ∷ earlier) (Some (next, so_far last next + 1))
agrees_more earlier last next a h = record {
  order = λ l. ap (λ (b : Bool). leb next l && b) (a.order l) ∙ order_more last next l h;
  counts = λ l k. let later : next ≤ l = leb-true next l k in
      ap (λ (n : ℕ). cond (eqb next l) 1 0 + n) (a.counts l (comes_later last next l h later)) ∙ counts_more last next l h later;
}

module _ {L : Type 0} (format : Format L) (place : ℕ) (line : List ℕ) where
  -- questions 3 to 5 where the letter may come
  asking : (ℕ → ℕ) → Option ℕ → Result (ℕ × L) LineFault
  asking count o = asked (Letter place) o (λ letter. numbered format place line letter (count letter))

  -- a line is read alike by what the last line tells
  pub line_same : (earlier : List ℕ) (last : Option (ℕ × ℕ)) → Agrees earlier last → place ≡ length earlier
      → lettered format (comes last) (so_far last) place line ≡ read_line format earlier line
  unfolding asking
  line_same earlier last a e = go (letter_of format.letters line) ∙ ap (λ (n : ℕ). lettered format (in_order earlier) (count_of earlier) n line) e
    where
      here : (l : ℕ) (b : Bool) → comes last l ≡ b → asking (so_far last) (cond b (Some l) None) ≡ asking (count_of earlier) (cond b (Some l) None)
      here l true t = ap (numbered format place line l) (sym (a.counts l t))
      here l false t = refl

      go : (o : Option ℕ) → asking (so_far last) (with_value o (provided (comes last))) ≡ asking (count_of earlier) (with_value o (provided (in_order earlier)))
      go None = refl
      go (Some l) = here l (comes last l) refl ∙ ap (λ (b : Bool). asking (count_of earlier) (cond b (Some l) None)) (sym (a.order l))

  -- an accepted line got yes to each question
  numbered_passes : (letter count next : ℕ) (l : L) → numbered format place line letter count ≡ Ok (next, l)
      → (letter ≡ next) × (format.form letter (fields_from line (Some 2)) ≡ Some (count, l)) × (count < format.limit letter)
  numbered_passes letter count next l e =
      let q3 = asked_ok (Fields place) (format.form letter (fields_from line (Some 2))) (λ found. asked (Number place) (provided (λ number. eqb number count) found.0) (λ number. asked (Limit place) (provided (λ n. ltb n (format.limit letter)) number) (λ _. Ok (letter, found.1)))) (next, l) e in
      let q4 = asked_ok (Number place) (provided (λ number. eqb number count) q3.0.0) (λ number. asked (Limit place) (provided (λ n. ltb n (format.limit letter)) number) (λ _. Ok (letter, q3.0.1))) (next, l) q3.2 in
      let q5 = asked_ok (Limit place) (provided (λ n. ltb n (format.limit letter)) q4.0) (λ _. Ok (letter, q3.0.1)) (next, l) q4.2 in
      let same = provided_some (λ number. eqb number count) q3.0.0 q4.0 q4.1 in
      let less = provided_some (λ n. ltb n (format.limit letter)) q4.0 q5.0 q5.1 in
      let found : ◌≡◌ {A = ℕ × L} (letter, q3.0.1) (next, l) = cc q5.2 in
      let number : q3.0.0 ≡ count = eqb-true q3.0.0 count same.0 in (
        ap (λ (p : ℕ × L). p.0) found,
        q3.1 ∙ ap₂ (λ (n : ℕ) (x : L). Some (n, x)) number (ap (λ (p : ℕ × L). p.1) found),
        omega (arith, same.1, number, ltb-true q4.0 (format.limit letter) less.0),
      )

  pub line_passes : (may : ℕ → Bool) (count : ℕ → ℕ) (letter : ℕ) (l : L) → lettered format may count place line ≡ Ok (letter, l) → Passes format may count line letter l
  line_passes may count letter l e =
      let q2 = asked_ok (Letter place) (with_value (letter_of format.letters line) (provided may)) (λ x. numbered format place line x (count x)) (letter, l) e in
      let begun = value_some (letter_of format.letters line) (provided may) q2.0 q2.1 in
      let comes = provided_some may begun.0 q2.0 begun.2 in
      let rest = numbered_passes q2.0 (count q2.0) letter l q2.2 in
      let same : begun.0 ≡ letter = comes.1 ∙ rest.0 in
      record {
        begins = begun.1 ∙ ap Some same;
        comes = ap may (sym same) ∙ comes.0;
        says = ap (λ (x : ℕ). format.form x (fields_from line (Some 2))) (sym rest.0) ∙ rest.1 ∙ ap (λ (x : ℕ). Some (count x, l)) rest.0;
        below = subst (λ (x : ℕ). count x < format.limit x) rest.0 rest.2;
      }

  pub passes_line : (may : ℕ → Bool) (count : ℕ → ℕ) (letter : ℕ) (l : L) → Passes format may count line letter l → lettered format may count place line ≡ Ok (letter, l)
  passes_line may count letter l p = let a = p.begins in let b = p.comes in let c = p.says in let d = lt-ltb (count letter) (format.limit letter) p.below in let e = eq-eqb (count letter) (count letter) refl in rw (a, b, c, e, d)
