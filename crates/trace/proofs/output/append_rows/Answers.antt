use Rattle.std.proofs.Common.{◌≡◌, ℕ, ◌+◌, List, ◌++◌, length, drop, vec_items, sym, ap, ◌∙◌, arith}
use Rattle.row.specs.Rows.{row_bytes}
use Rattle.std.proofs.lemmas.List.{append_assoc, append-nil}
use Rattle.std.proofs.lemmas.Result.{IfOk-weaker}
use Rattle.text.specs.Lines.{lines}
use Rattle.trace.specs.Faults.{refusal_of}
use Rattle.trace.specs.Output.{output_from}
use Rattle.trace.specs.declared.faults.Fault.{Fault}
use Rattle.trace.proofs.Steps.{output_all, output_more, output_stop}
use Rattle.trace.proofs.output.append_rows.Goals as goal

pub loop-place-smaller : goal.loop-place-smaller
loop-place-smaller c =
    let more = output_more c.args.trace.now c.loop-place.place c.loop-place.rows c.loop-place.row c.read.new.row c.loop-place-test.true c.in-Ok.end c.in-Ok.ensures.all in
    omega (arith, more.1, more.2)

pub loop-place-preserved : goal.loop-place-preserved
loop-place-preserved c =
    let trace = c.args.trace.now in
    let rows = c.loop-place.rows in
    let out = vec_items c.loop-place.out in
    let after = c.read.new.row in
    let same : length after ≡ length c.loop-place.row = omega arith in
    let more = output_more trace c.loop-place.place rows c.loop-place.row after c.loop-place-test.true c.in-Ok.end c.in-Ok.ensures.all in
    let rest = output_from (length c.loop-place.row) (rows + 1) (lines (drop c.in-Ok.end trace)) in (
      ap (λ (xs : List ℕ). xs ++ output_from (length after) (rows + 1) (lines (drop c.in-Ok.end trace))) c.in_ok-append_row-in-Ok.ensures
          ∙ ap (λ (n : ℕ). (out ++ row_bytes after) ++ output_from n (rows + 1) (lines (drop c.in-Ok.end trace))) same
          ∙ append_assoc out (row_bytes after) rest
          ∙ ap (λ (xs : List ℕ). out ++ xs) (sym more.0)
          ∙ c.loop-place.invariant.0,
      omega (arith, more.1),
      more.2,
    )

pub returns-in-Err : goal.returns-in-Err
returns-in-Err c =
    let out = vec_items c.loop-place.out in
    IfOk-weaker c.append_refusal.result _ _
    (λ x e. e
    ∙ ap (λ (fault : Fault). out ++ refusal_of fault c.loop-place.rows) c.from.ensures
    ∙ ap (λ (xs : List ℕ). out ++ xs) (sym (output_stop c.args.trace.now c.loop-place.place c.loop-place.rows c.loop-place.row c.read.new.row c.loop-place-test.true c.in-Err.fault c.in-Err.ensures.all))
    ∙ c.loop-place.invariant.0)
    c.append_refusal.ensures

pub returns : goal.returns
returns c =
    sym (append-nil (vec_items c.loop-place.out))
    ∙ ap (λ (xs : List ℕ). vec_items c.loop-place.out ++ xs) (sym (output_all (length c.loop-place.row) c.loop-place.rows c.args.trace.now c.loop-place.place c.loop-place-test.false))
    ∙ c.loop-place.invariant.0
