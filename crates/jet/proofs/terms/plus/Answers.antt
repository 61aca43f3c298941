use Prim.Native.Nat.{suc}
use native.Mathlib.Omega.{arith}
use native.Mathlib.Nat.{sub-zero}
use Rattle.jet.proofs.Among.{least, no_larger, pairs_first}
use Rattle.jet.proofs.Fold.{adding, step_then_term, fold_end}
use borrow.Author.Rules.{rules}
use Rattle.jet.proofs.terms.plus.Goals as goal

pub loop-p-init : goal.loop-p-init
loop-p-init c = (least c.args.m, rw (pairs_first c.args.m, sub-zero))

pub next-p-requires : goal.next-p-requires
next-p-requires c = (search rules, search rules, c.loop-p.invariant.0)

pub offset_bounds-a-p : goal.offset_bounds-a-p
offset_bounds-a-p c = omega (arith, no_larger _ _ c.next-p.ensures.1)

pub bounds-a-p : goal.bounds-a-p
bounds-a-p c = omega (arith, no_larger _ _ c.next-p.ensures.1)

pub overflow_sub-s : goal.overflow_sub-s
overflow_sub-s c = omega (arith, no_larger _ _ c.next-p.ensures.1)

pub loop-p-smaller : goal.loop-p-smaller
loop-p-smaller c = omega (arith, c.next-p.ensures.0)

pub loop-p-preserved : goal.loop-p-preserved
loop-p-preserved c =
    let a = c.args in
    let n = c.next-p.ensures in
    (n.1, step_then_term (adding a.a.now a.b.now a.m) a.m _ c.loop-p.p _ c.loop-p.s n c.loop-p.invariant.1)

pub returns : goal.returns
returns c =
    let a = c.args in
    fold_end (adding a.a.now a.b.now a.m) a.m _ c.loop-p.p (suc c.loop-p.p) c.loop-p.s (omega arith) c.loop-p.invariant.1
