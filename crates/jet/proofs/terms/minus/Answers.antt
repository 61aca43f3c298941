use mathlib.Core.Path.{refl}
use native.Mathlib.Omega.{arith}
use Rattle.jet.specs.Coefficients.{less}
use Rattle.jet.proofs.Fold.{subtracting, term_then_step, fold_end}
use borrow.Author.Rules.{rules}
use Rattle.jet.proofs.terms.minus.Goals as goal

pub loop-p-init : goal.loop-p-init
loop-p-init c = (c.requires.1, refl)

pub next-p-requires : goal.next-p-requires
next-p-requires c = (search rules, search rules, c.loop-p.invariant.0)

pub loop-p-smaller : goal.loop-p-smaller
loop-p-smaller c = omega (arith, c.next-p.ensures.0)

pub loop-p-preserved : goal.loop-p-preserved
loop-p-preserved c =
    let a = c.args in
    let n = c.next-p.ensures in
    (n.1, term_then_step (subtracting a.a.now a.b.now a.m) a.m _ c.loop-p.p c.next-p.result c.loop-p.s (omega arith) c.loop-p.invariant.0 n c.loop-p.invariant.1)

pub returns : goal.returns
unfolding less
returns c =
    let a = c.args in
    fold_end (subtracting a.a.now a.b.now a.m) a.m _ c.loop-p.p c.loop-p.p c.loop-p.s (omega arith) c.loop-p.invariant.1
