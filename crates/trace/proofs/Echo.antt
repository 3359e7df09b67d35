-- The rows come out as they went in.
use Rattle.std.proofs.Common.{◌≡◌, ℕ, suc, ◌+◌, ◌≤◌, Bool, true, false, eqb, ltb, ◌⊎◌, List, [], ◌∷◌, ◌++◌, length, take, Some, None, Ok, Err, Option, Result, sym, refl, ap, ◌∙◌, ap₂, inl, inr, ⊎_elim, arith}
use Rattle.std.proofs.lemmas.List.{append_assoc, length-take, take_all}
use Rattle.std.proofs.lemmas.Bool.{both_ways, cond-true, cond-false}
use Rattle.std.specs.List.{flat_map, AllByRecursion}
use Rattle.std.specs.Option.{option_map}
use Rattle.text.proofs.Search.{found, here, later, position_at, position_back, position_past}
use Rattle.text.specs.Fields.{onto_first}
use Rattle.text.specs.Lines.{lines, newline}
use Rattle.text.specs.Parts.{position}
use Rattle.row.proofs.Rewriting.{row_again}
use Rattle.row.specs.Reading.{ending, line_at, line_length, line_words, row_at, row_of, width_at}
use Rattle.row.specs.Rows.{row_bytes}
use Rattle.row.specs.declared.faults.RowFault.{RowFault}
use Rattle.row.specs.declared.faults.RowFault.TheVariants.{TooWide}
use Rattle.trace.specs.Faults.{refusal_of}
use Rattle.trace.specs.Output.{Echoed, Echoes, output, output_from, traced}
use Rattle.trace.specs.Traces.{longest, trace_of}
use Rattle.trace.specs.declared.faults.Fault.{Fault}
use Rattle.trace.specs.declared.faults.Fault.TheVariants.{Row, Trace}

-- a line ends at its first byte 10
Ended : List ℕ → Type 0
Ended line = (n : ℕ) → position newline line ≡ Some n → length line ≡ suc n

onto_ended : (b : ℕ) → eqb b newline ≡ false → (ls : List (List ℕ)) → AllByRecursion Ended ls → AllByRecursion Ended (onto_first b ls)
unfolding Ended
onto_ended b t [] h = ((λ n e. let z : ◌≡◌ {A = ℕ} 0 1 = cc (position_past newline b [] t) in absurd (omega arith)), tt)
onto_ended b t (l ∷ ls) h = (
  (λ n e. elim (found newline b l n e) [
    | here s z ↦ absurd (both_ways (eqb b newline) t s)
    | later m s p z ↦ omega (arith, h.0 m p)
  ]),
  h.1,
)

lines_ended : (text : List ℕ) → AllByRecursion Ended (lines text)
unfolding Ended
lines_ended [] = tt
lines_ended (b ∷ bs) = go (eqb b newline) refl (lines_ended bs)
  where
    go : (t : Bool) → eqb b newline ≡ t → AllByRecursion Ended (lines bs) → AllByRecursion Ended (lines (b ∷ bs))
    go true t ih =
        rw (t, lines) ((λ n e. let z : n ≡ 0 = cc (position_at newline b [] t) in omega arith), ih)
    go false t ih = rw (t, lines) (onto_ended b t (lines bs) ih)

-- a line that is a row is the bytes of its words
row_line : (width n : ℕ) (words line : List ℕ) → Ended line → row_at line 0 width ≡ Ok (n, words) → row_bytes words ≡ line
unfolding Ended
row_line width n words line ended e = go (ltb 64 width) refl (line_length line 0) refl
  where
    here : ltb 64 width ≡ false → Ok (n, words) ≡ row_of 0 width (line_at line 0)
    here t = sym e ∙ cond-false (ltb 64 width) (Err TooWide) (row_of 0 width (line_at line 0)) t

    ok_words : (end : ℕ) (r : Result (List ℕ) RowFault) → ending end r ≡ Ok (n, words) → r ≡ Ok words
    ok_words end (Ok ws) e = let p : (end, ws) ≡ (n, words) = cc in ap (λ (x : ℕ × List ℕ). Ok x.1) p
    ok_words end (Err fault) e = cc

    go : (t : Bool) → ltb 64 width ≡ t → (o : Option ℕ) → line_length line 0 ≡ o → row_bytes words ≡ line
    go true t o p = cc (sym (cond-true (ltb 64 width) (Err TooWide) (row_of 0 width (line_at line 0)) t) ∙ e)
    go false t None p = let z : ◌≡◌ {A = ℕ} 0 1 = cc (here t ∙ ap (λ (o : Option ℕ). row_of 0 width (option_map (λ k. take k line) o)) p) in absurd (omega arith)
    go false t (Some m) p =
        let first = take m line in
        let good : line_words width first ≡ Ok words = ok_words (0 + length first + 1) (line_words width first) (sym (here t ∙ ap (λ (o : Option ℕ). row_of 0 width (option_map (λ k. take k line) o)) p)) in
        let long : length line ≤ length first + 1 = omega (arith, ended m (position_back newline line m 704 p), length-take m line) in
        row_again line 0 first width words (ap (option_map (λ k. take k line)) p) good ∙ take_all (length first + 1) line long

-- the output of lines, by how many of them were accepted
abbrev Accepted : ℕ → ℕ → List (List ℕ) → Type 0
Accepted width rows ls =
    (n : ℕ) × (rest : List ℕ) × (n ≤ length ls) × (output_from width rows ls ≡ flat_map (λ line. line) (take n ls) ++ rest)
    × (((rest ≡ []) × (n ≡ length ls)) ⊎ ((fault : Fault) × (rest ≡ refusal_of fault (rows + n))))

accepted : (width rows : ℕ) (ls : List (List ℕ)) → AllByRecursion Ended ls → Accepted width rows ls
accepted width rows [] h = (0, [], omega arith, refl, inl (refl, refl))
accepted width rows (line ∷ ls) h = go (row_at line 0 width) refl (accepted width (suc rows) ls h.1)
  where
    go : (r : Result (ℕ × List ℕ) RowFault) → row_at line 0 width ≡ r → Accepted width (suc rows) ls → Accepted width rows (line ∷ ls)
    go (Err fault) e ih = (
      0,
      refusal_of (Row fault) rows,
      omega arith,
      rw (e, output_from),
      inr (Row fault, ap (refusal_of (Row fault)) (let n : rows ≡ rows + 0 = omega arith in n)),
    )
    go (Ok found) e ih = (
      suc ih.0,
      ih.1,
      omega (arith, ih.2),
      rw (e, output_from) (ap₂ (λ (xs ys : List ℕ). xs ++ ys) (row_line width found.0 found.1 line h.0 e) ih.3
          ∙ sym (append_assoc line (flat_map (λ l. l) (take ih.0 ls)) ih.1)),
      ⊎_elim
          (λ (all : (ih.1 ≡ []) × (ih.0 ≡ length ls)). inl (all.0, ap suc all.1))
          (λ (stop : (fault : Fault) × (ih.1 ≡ refusal_of fault (suc rows + ih.0))). inr (stop.0, stop.1 ∙ ap (refusal_of stop.0) (let n : suc rows + ih.0 ≡ rows + suc ih.0 = omega arith in n)))
          ih.4,
    )

echoes_rows : (width : ℕ) (trace out : List ℕ) → out ≡ output_from width 0 (lines trace) → Echoes trace out
echoes_rows width trace out e =
    let a = accepted width 0 (lines trace) (lines_ended trace) in
    record {
      rows = a.0;
      rest = a.1;
      accepted = a.2;
      same = e ∙ a.3;
      ending = ⊎_elim
          (λ (all : (a.1 ≡ []) × (a.0 ≡ length (lines trace))). inl all)
          (λ (stop : (fault : Fault) × (a.1 ≡ refusal_of fault (0 + a.0))). inr (stop.0, stop.1 ∙ ap (refusal_of stop.0) (let n : 0 + a.0 ≡ a.0 = omega arith in n)))
          a.4;
    }

-- so they do whatever tells the width, and where there is no trace
pub echoed : (width : List ℕ → ℕ) (trace : Option (List ℕ)) (out : List ℕ) → out ≡ traced width (trace_of trace) → Echoed trace out
echoed width None out e = e
echoed width (Some trace) out e = go (ltb longest (length trace)) refl
  where
    go : (t : Bool) → ltb longest (length trace) ≡ t → Echoes trace out
    go true t = record { rows = 0; rest = out; accepted = omega arith; same = refl; ending = inr (Trace, e ∙ rw (t)) }
    go false t = echoes_rows (width trace) trace out (e ∙ rw (t))

pub echoes : (trace : Option (List ℕ)) (out : List ℕ) → out ≡ output trace → Echoed trace out
echoes trace out e = echoed (λ bytes. width_at bytes 0) trace out e
