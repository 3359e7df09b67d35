use mathlib.Core.Path.{◌≡◌}
use Prim.Native.Nat.{◌+◌}
use native.Mathlib.Omega.{arith}
use borrow.Author.Tests.{true-eqb, false-eqb}
use Rattle.joining.specs.OneMore.{number_last, number_other}
use Rattle.joining.proofs.sets.AlsoJoiningSet.join.Goals as goal

pub returns-then-is_next : goal.returns-then-is_next
returns-then-is_next g c =
    let next : c.args.number ≡ c.count.result + 1 = true-eqb _ _ c.if-is_next.ensures in
    let joined = number_last (g.S.JoiningSet.joinings c.args.self.now.set) (g.J.Joining.joined c.args.self.now.last) c.args.number c.args.a c.args.b (omega arith) in
    cc

pub returns-else-is_next : goal.returns-else-is_next
returns-else-is_next g c =
    let other = false-eqb _ _ c.if-is_next.ensures in
    let kept = number_other (g.S.JoiningSet.joinings c.args.self.now.set) (g.J.Joining.joined c.args.self.now.last) c.args.number c.args.a c.args.b (λ e. other (omega arith)) in
    cc
