use Rattle.std.proofs.Common.{vec_items, sym, ap, ◌∙◌}
use Rattle.structure.proofs.Picking.{picked_all, picked_none, picked_one}
use Rattle.structure.proofs.sorting.pick_all.Goals as goal
use Rattle.structure.proofs.sorting.pick_all.Goals.{in-Some+in_ok-push, in_default}

pub loop-line-preserved : goal.loop-line-preserved
loop-line-preserved g c = record {
  callable = c.loop-line.invariant.callable;
  whole = λ picks picked.
      let lines = c.args.lines.now in
      let so_far = vec_items c.loop-line.all in
      elim c.match-pick.branch [
        | in-Some+in_ok-push w ↦
            picked_one picks lines c.loop-line.line-index so_far _ c.loop-line-test.true (vec_items c.match-pick.all) w.in-Some.held
            (ap vec_items w.all-is ∙ w.in_ok-push.ensures.items) (picked _ _ w.in-Some.ensures)
            ∙ c.loop-line.invariant.whole picks picked
        | in_default w ↦
            picked_none picks lines c.loop-line.line-index so_far _ c.loop-line-test.true (vec_items c.match-pick.all)
            (ap vec_items w.all-is) (picked _ _ w.in_default.ensures)
            ∙ c.loop-line.invariant.whole picks picked
      ];
}

pub returns : goal.returns
returns g c = λ picks picked.
    sym (picked_all picks c.args.lines.now c.loop-line.line-index (vec_items c.loop-line.all) c.loop-line-test.false)
    ∙ c.loop-line.invariant.whole picks picked
