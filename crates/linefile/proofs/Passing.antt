-- A line file is read exactly when it passes.
use Rattle.std.proofs.Common.{◌≡◌, ℕ, Bool, true, false, cond, List, [], ◌∷◌, length, Ok, Err, vec_items, Result, sym, refl, ap, ◌∙◌, subst, inl, inr, arith}
use Rattle.std.proofs.lemmas.Bool.{cond-true}
use Rattle.std.specs.Global.{Vec}
use Rattle.linefile.proofs.FileSteps.{lines_off, lines_on}
use Rattle.linefile.proofs.Letters.{line_passes, passes_line}
use Rattle.linefile.specs.Files.{Exactly, FilePasses, Pass, Tells, count_of, file_lines, in_file, in_front, in_order, is_whole, no_more, one_more, read_line, read_lines}
use Rattle.linefile.specs.Formats.{Format}
use Rattle.text.specs.Lines.{bare, lines}
use Rattle.faults.specs.declared.lines.FileFault.{FileFault}
use Rattle.faults.specs.declared.lines.FileFault.TheVariants.{Bytes}
use Rattle.faults.specs.declared.lines.LineFault.{LineFault}

front_ok : {L : Type 0} (l : L) (r : Result (List L) LineFault) (ls : List L) → in_front l r ≡ Ok ls → (rest : List L) × (r ≡ Ok rest) × (l ∷ rest ≡ ls)
front_ok l (Ok rest) ls e = (rest, refl, cc)
front_ok l (Err fault) ls e = let z : ◌≡◌ {A = ℕ} 0 1 = cc in absurd (omega arith)

file_ok : {L : Type 0} (r : Result (List L) LineFault) (ls : List L) → in_file r ≡ Ok ls → r ≡ Ok ls
file_ok (Ok found) ls e = let z : found ≡ ls = cc in ap Ok z
file_ok (Err fault) ls e = let z : ◌≡◌ {A = ℕ} 0 1 = cc in absurd (omega arith)

module _ {L : Type 0} (format : Format L) where
  lines_pass : (earlier : List ℕ) (left : List (List ℕ)) (ls : List L) → read_lines format earlier left ≡ Ok ls → Pass format earlier left ls
  lines_pass earlier [] ls e = let z : [] ≡ ls = cc in subst (λ (xs : List L). Pass format earlier [] xs) z no_more
  lines_pass earlier (line ∷ rest) ls e = go (read_line format earlier (bare line)) refl
      (λ letter. lines_pass (letter ∷ earlier) rest)
    where
      go : (r : Result (ℕ × L) LineFault) → read_line format earlier (bare line) ≡ r
          → ((letter : ℕ) (xs : List L) → read_lines format (letter ∷ earlier) rest ≡ Ok xs → Pass format (letter ∷ earlier) rest xs) → Pass format earlier (line ∷ rest) ls
      go (Err fault) p ih = let z : ◌≡◌ {A = ℕ} 0 1 = cc (lines_off format earlier line rest fault p) in absurd (omega arith)
      go (Ok found) p ih =
          let front = front_ok found.1 (read_lines format (found.0 ∷ earlier) rest) ls (sym (lines_on format earlier line rest found.0 found.1 p) ∙ e) in
          subst (λ (xs : List L). Pass format earlier (line ∷ rest) xs) front.2
          (one_more found.0 (line_passes format (length earlier) (bare line) (in_order earlier) (count_of earlier) found.0 found.1 p) (ih found.0 front.0 front.1))

  pass_lines : (earlier : List ℕ) (left : List (List ℕ)) (ls : List L) → Pass format earlier left ls → read_lines format earlier left ≡ Ok ls
  pass_lines earlier left ls no_more = refl
  pass_lines earlier left ls (one_more {line = line} {rest = rest} {l = l} {ls = more} letter p q) =
      lines_on format earlier line rest letter l (passes_line format (length earlier) (bare line) (in_order earlier) (count_of earlier) letter l p)
      ∙ ap (in_front l) (pass_lines (letter ∷ earlier) rest more q)

  module _ (text : List ℕ) where
    pub file_passes : (ls : List L) → file_lines format text ≡ Ok ls → FilePasses format text ls
    file_passes ls e = go (is_whole text) refl
      where
        go : (t : Bool) → is_whole text ≡ t → FilePasses format text ls
        go true t = (t, lines_pass [] (lines text) ls (file_ok (read_lines format [] (lines text)) ls (sym (cond-true (is_whole text) (in_file (read_lines format [] (lines text))) (Err Bytes) t) ∙ e)))
        go false t = let z : ◌≡◌ {A = ℕ} 0 1 = cc (ap (λ (b : Bool). cond b (in_file (read_lines format [] (lines text))) (Err Bytes)) t) in absurd (omega arith)

    pub passes_file : (ls : List L) → FilePasses format text ls → file_lines format text ≡ Ok ls
    passes_file ls p = cond-true (is_whole text) (in_file (read_lines format [] (lines text))) (Err Bytes) p.0 ∙ ap in_file (pass_lines [] (lines text) ls p.1)

    pub exactly : (r : Result (Vec L) FileFault) → Tells (file_lines format text) r → Exactly format text r
    exactly (Ok v) e = file_passes (vec_items v) (sym e)
    exactly (Err fault) (inl e) = inl e
    exactly (Err fault) (inr e) = inr (λ ls p. let z : ◌≡◌ {A = ℕ} 0 1 = cc (passes_file ls p) in absurd (omega arith))
