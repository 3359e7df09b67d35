use Rattle.std.proofs.Common.{rules}
use Rattle.graph.proofs.Passes.{passed}
use Rattle.graph.proofs.rows.pass.Goals as goal

pub all_go_on-requires-clause-node : goal.all_go_on-requires-clause-node
all_go_on-requires-clause-node c =
    let p = c.unwrap.result in (passed _ c.split_at_mut-before.result.0.now p.1.now p.0.now _ (search rules) c.split_at_mut-before.ensures.front_len c.requires.square).within

pub all_go_on-requires-clause-size : goal.all_go_on-requires-clause-size
all_go_on-requires-clause-size c =
    let p = c.unwrap.result in (passed _ c.split_at_mut-before.result.0.now p.1.now p.0.now _ (search rules) c.split_at_mut-before.ensures.front_len c.requires.square).front

pub all_go_on-requires-2-clause-node : goal.all_go_on-requires-2-clause-node
all_go_on-requires-2-clause-node c =
    let p = c.unwrap.result in (passed _ c.split_at_mut-before.result.0.now p.1.now p.0.now _ (search rules) c.split_at_mut-before.ensures.front_len c.requires.square).within

pub all_go_on-requires-2-clause-size : goal.all_go_on-requires-2-clause-size
all_go_on-requires-2-clause-size c =
    let p = c.unwrap.result in (passed _ c.split_at_mut-before.result.0.now p.1.now p.0.now _ (search rules) c.split_at_mut-before.ensures.front_len c.requires.square).back

pub returns : goal.returns
returns c =
    let p = c.unwrap.result in rw (c.all_go_on.ensures, c.all_go_on-2.ensures) (passed _ c.split_at_mut-before.result.0.now p.1.now p.0.now _ (search rules) c.split_at_mut-before.ensures.front_len c.requires.square).whole
