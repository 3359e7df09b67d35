-- One row more of the output: what reading a row of the trace tells of the line that holds it.
use Rattle.std.proofs.Common.{◌≡◌, ℕ, suc, ◌+◌, ◌<◌, ◌≤◌, Bool, true, false, ltb, List, [], ◌∷◌, ◌++◌, length, drop, Some, None, Ok, Err, Option, Result, sym, refl, ap, ◌∙◌, ap₂, arith}
use Rattle.std.proofs.lemmas.List.{drop_all, drop-drop, length-drop}
use Rattle.std.proofs.lemmas.Bool.{cond-true, cond-false}
use Rattle.row.specs.Reading.{ending, line_at, line_words, read_row, row_at, row_of, settled}
use Rattle.row.specs.Rows.{row_bytes}
use Rattle.row.specs.declared.faults.RowFault.{RowFault}
use Rattle.row.specs.declared.faults.RowFault.TheVariants.{TooWide}
use Rattle.trace.proofs.FirstLines.{FirstLine, first_line, line_found}
use Rattle.text.specs.Lines.{lines}
use Rattle.trace.specs.Faults.{refusal_of}
use Rattle.trace.specs.Output.{output_from}
use Rattle.trace.specs.declared.faults.Fault.TheVariants.{Row}

-- an answer tells what was found
settled_err : (row ws : List ℕ) (fault : RowFault) (x : Result (ℕ × List ℕ) RowFault) → (Err fault, ws) ≡ settled row x → x ≡ Err fault
settled_err row ws fault (Ok found) e = let z : ◌≡◌ {A = ℕ} 0 1 = cc (ap (λ (p : Result ℕ RowFault × List ℕ). p.0) e) in absurd (omega arith)
settled_err row ws fault (Err other) e = let z : other ≡ fault = cc (ap (λ (p : Result ℕ RowFault × List ℕ). p.0) e) in ap Err z

settled_ok : (row ws : List ℕ) (end : ℕ) (x : Result (ℕ × List ℕ) RowFault) → (Ok end, ws) ≡ settled row x → x ≡ Ok (end, ws)
settled_ok row ws end (Ok found) e =
    let z : found.0 ≡ end = cc (ap (λ (p : Result ℕ RowFault × List ℕ). p.0) e) in
    ap₂ (λ (n : ℕ) (vs : List ℕ). Ok (n, vs)) z (sym (ap (λ (p : Result ℕ RowFault × List ℕ). p.1) e))
settled_ok row ws end (Err other) e = let z : ◌≡◌ {A = ℕ} 0 1 = cc (ap (λ (p : Result ℕ RowFault × List ℕ). p.0) e) in absurd (omega arith)

-- the same line at another place
ending_err : (m n : ℕ) (r : Result (List ℕ) RowFault) (fault : RowFault) → ending m r ≡ Err fault → ending n r ≡ Err fault
ending_err m n (Ok words) fault e = let z : ◌≡◌ {A = ℕ} 0 1 = cc in absurd (omega arith)
ending_err m n (Err other) fault e = let z : other ≡ fault = cc in ap Err z

of_err : (place due : ℕ) (o : Option (List ℕ)) (fault : RowFault) → row_of place due o ≡ Err fault → row_of 0 due o ≡ Err fault
of_err place due None fault e = e
of_err place due (Some line) fault e = ending_err (place + length line + 1) (0 + length line + 1) (line_words due line) fault e

ending_ok : (m n end : ℕ) (r : Result (List ℕ) RowFault) (words : List ℕ) → ending m r ≡ Ok (end, words) → (end ≡ m) × (ending n r ≡ Ok (n, words)) × (r ≡ Ok words)
ending_ok m n end (Ok ws) words e =
    let p : (m, ws) ≡ (end, words) = cc in
    (sym (ap (λ (x : ℕ × List ℕ). x.0) p), ap (λ (x : ℕ × List ℕ). Ok (n, x.1)) p, ap (λ (x : ℕ × List ℕ). Ok x.1) p)
ending_ok m n end (Err other) words e = let z : ◌≡◌ {A = ℕ} 0 1 = cc in absurd (omega arith)

pub of_ok : (place due : ℕ) (o : Option (List ℕ)) (end : ℕ) (words : List ℕ) → row_of place due o ≡ Ok (end, words) → (line : List ℕ) × (o ≡ Some line) × (end ≡ place + length line + 1) × (row_of 0 due o ≡ Ok (0 + length line + 1, words)) × (line_words due line ≡ Ok words)
of_ok place due None end words e = let z : ◌≡◌ {A = ℕ} 0 1 = cc in absurd (omega arith)
of_ok place due (Some line) end words e =
    let both = ending_ok (place + length line + 1) (0 + length line + 1) end (line_words due line) words e in
    (line, refl, both.0, both.1, both.2)

module _ (trace : List ℕ) (place width : ℕ) (l : FirstLine (drop place trace)) where
  at_line : row_of 0 width (line_at l.first 0) ≡ row_of 0 width (line_at trace place)
  at_line = ap (row_of 0 width) l.same

  first_err : (fault : RowFault) → row_at trace place width ≡ Err fault → row_at l.first 0 width ≡ Err fault
  first_err fault e = go (ltb 64 width) refl
    where
      go : (t : Bool) → ltb 64 width ≡ t → row_at l.first 0 width ≡ Err fault
      go true t =
          cond-true (ltb 64 width) (Err TooWide) (row_of 0 width (line_at l.first 0)) t
          ∙ sym (cond-true (ltb 64 width) (Err TooWide) (row_of place width (line_at trace place)) t)
          ∙ e
      go false t =
          cond-false (ltb 64 width) (Err TooWide) (row_of 0 width (line_at l.first 0)) t
          ∙ at_line
          ∙ of_err place width (line_at trace place) fault (sym (cond-false (ltb 64 width) (Err TooWide) (row_of place width (line_at trace place)) t) ∙ e)

  -- the row of the first line, and where the other lines begin
  first_ok : (end : ℕ) (words : List ℕ) → row_at trace place width ≡ Ok (end, words) → (n : ℕ) × (row_at l.first 0 width ≡ Ok (n, words)) × (place < end) × (end ≤ length trace) × (l.others ≡ lines (drop end trace))
  first_ok end words e = go (ltb 64 width) refl
    where
      go : (t : Bool) → ltb 64 width ≡ t → (n : ℕ) × (row_at l.first 0 width ≡ Ok (n, words)) × (place < end) × (end ≤ length trace) × (l.others ≡ lines (drop end trace))
      go true t =
          let z : ◌≡◌ {A = ℕ} 0 1 = cc (cond-true (ltb 64 width) (Err TooWide) (row_of place width (line_at trace place)) t) in
          absurd (omega arith)
      go false t =
          let here = sym (cond-false (ltb 64 width) (Err TooWide) (row_of place width (line_at trace place)) t) ∙ e in
          let found = of_ok place width (line_at trace place) end words here in
          let line = line_found (drop place trace) found.0 found.1 in
          let within = length-drop place trace in
          let to : place + (length found.0 + 1) ≡ end = omega (arith, found.2) in (
            0 + length found.0 + 1,
            cond-false (ltb 64 width) (Err TooWide) (row_of 0 width (line_at l.first 0)) t ∙ at_line ∙ found.3,
            omega (arith, found.2),
            omega (arith, found.2, line.2, line.3),
            l.after found.0 found.1 ∙ ap lines (drop-drop (length found.0 + 1) place trace ∙ ap (λ (k : ℕ). drop k trace) to),
          )

pub output_row : (width rows n : ℕ) (words line : List ℕ) (rest : List (List ℕ)) → row_at line 0 width ≡ Ok (n, words) → output_from width rows (line ∷ rest) ≡ row_bytes words ++ output_from width (suc rows) rest
output_row width rows n words line rest e = rw (e, output_from)

pub output_refusal : (width rows : ℕ) (fault : RowFault) (line : List ℕ) (rest : List (List ℕ)) → row_at line 0 width ≡ Err fault → output_from width rows (line ∷ rest) ≡ refusal_of (Row fault) rows
output_refusal width rows fault line rest e = rw (e, output_from)

-- what the rest of the trace gives, by the answer of reading its next row
module _ (trace : List ℕ) (place rows : ℕ) (row after : List ℕ) (some : place < length trace) where
  pub output_stop : (fault : RowFault) → (Err fault, after) ≡ read_row trace place row → output_from (length row) rows (lines (drop place trace)) ≡ refusal_of (Row fault) rows
  output_stop fault e =
      let l = first_line (drop place trace) (omega (arith, length-drop place trace)) in
      ap (output_from (length row) rows) l.cut
      ∙ output_refusal (length row) rows fault l.first l.others (first_err trace place (length row) l fault (settled_err row after fault (row_at trace place (length row)) e))

  pub output_more : (end : ℕ) → (Ok end, after) ≡ read_row trace place row → (output_from (length row) rows (lines (drop place trace)) ≡ row_bytes after ++ output_from (length row) (rows + 1) (lines (drop end trace))) × (place < end) × (end ≤ length trace)
  output_more end e =
      let l = first_line (drop place trace) (omega (arith, length-drop place trace)) in
      let found = first_ok trace place (length row) l end after (settled_ok row after end (row_at trace place (length row)) e) in (
        ap (output_from (length row) rows) l.cut
            ∙ output_row (length row) rows found.0 after l.first l.others found.1
            ∙ ap₂ (λ (n : ℕ) (ls : List (List ℕ)). row_bytes after ++ output_from (length row) n ls) (let n : suc rows ≡ rows + 1 = omega arith in n) found.4,
        found.2,
        found.3,
      )

pub output_all : (width rows : ℕ) (trace : List ℕ) (place : ℕ) → length trace ≤ place → output_from width rows (lines (drop place trace)) ≡ []
output_all width rows trace place h = ap (λ (t : List ℕ). output_from width rows (lines t)) (drop_all place trace h)
