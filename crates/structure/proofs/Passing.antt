-- A chart file is accepted exactly when it passes.
use Rattle.std.proofs.Common.{◌≡◌, ℕ, List, Ok, Err, Result, sym, refl, ap, ◌∙◌, subst, inl, inr}
use Rattle.chart.specs.ChartFiles.{chart_format}
use Rattle.chart.specs.declared.lines.Line.{Line}
use Rattle.linefile.proofs.Passing.{file_passes, passes_file}
use Rattle.linefile.specs.Files.{file_lines}
use Rattle.faults.specs.declared.lines.FileFault.{FileFault}
use Rattle.structure.proofs.Acceptance.{structured}
use Rattle.structure.specs.Charts.{Exactly, Passes, Settles, judged, kept, settled, verdict}
use Rattle.structure.specs.Lists.{Lists, listed}
use Rattle.structure.specs.Structure.{structure_verdict}
use Rattle.structure.specs.Verdicts.{Verdict}
use Rattle.faults.specs.declared.charts.ChartFault.{ChartFault}

kept_ok : (lists found : Lists) (v : Verdict) → kept lists v ≡ Ok found → (v ≡ Ok tt) × (lists ≡ found)
kept_ok lists found (Ok u) e = (refl, cc)
kept_ok lists found (Err fault) e = absurd cc

module _ (joinings : ℕ) (text : List ℕ) where
  passes : (lists : Lists) → verdict joinings text ≡ Ok lists → Passes joinings text lists
  passes lists e = go (file_lines chart_format text) refl
    where
      go : (r : Result (List Line) FileFault) → file_lines chart_format text ≡ r → Passes joinings text lists
      go (Err fault) p = absurd (cc (ap (judged joinings) p))
      go (Ok ls) p =
          let found = kept_ok (listed ls) lists (structure_verdict joinings (listed ls)) (sym (ap (judged joinings) p) ∙ e) in
          record {
            lines = ls;
            said = file_passes chart_format text ls p;
            sorted = found.1;
            structured = (structured joinings lists).0 (ap (structure_verdict joinings) (sym found.1) ∙ found.0);
          }

  passing : (lists : Lists) → Passes joinings text lists → verdict joinings text ≡ Ok lists
  passing lists p =
      ap (judged joinings) (passes_file chart_format text p.lines p.said)
      ∙ ap (λ (l : Lists). kept l (structure_verdict joinings l)) p.sorted
      ∙ ap (kept lists) ((structured joinings lists).1 p.structured)

  sound : (left : Verdict × Lists) (r : Result Lists ChartFault) → verdict joinings text ≡ r → left ≡ settled r → left.0 ≡ Ok tt → Passes joinings text left.1
  sound left (Ok lists) p e ok = subst (Passes joinings text) (sym (ap (λ (x : Verdict × Lists). x.1) e)) (passes lists p)
  sound left (Err fault) p e ok = absurd (cc (ap (λ (x : Verdict × Lists). x.0) e))

  pub exactly : (left : Verdict × Lists) → Settles (verdict joinings text) left → Exactly joinings text left
  exactly left (inl short) = record {
    sound = λ ok. absurd (cc (ap (λ (x : Verdict × Lists). x.0) short));
    complete = λ lists p. inl short;
  }
  exactly left (inr e) = record {
    sound = λ ok. sound left (verdict joinings text) refl e ok;
    complete = λ lists p. inr (e ∙ ap settled (passing lists p));
  }
