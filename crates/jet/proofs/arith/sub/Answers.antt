use mathlib.Core.Path.{refl}
use native.Mathlib.Omega.{arith}
use Rattle.jet.specs.Coefficients.{difference_at, difference_of}
use Rattle.jet.proofs.Build.{fill_start, fill_turn, fill_end}
use Rattle.jet.proofs.arith.sub.Goals as goal

pub loop-m-init : goal.loop-m-init
loop-m-init c = fill_start _

pub loop-m-preserved : goal.loop-m-preserved
loop-m-preserved c =
    fill_turn (difference_at c.args.a.c c.args.b.c) (λ m c d h. refl) c.loop-m.m _ c.loop-m.c (omega arith) c.loop-m.invariant refl

pub returns : goal.returns
unfolding difference_of
returns c = fill_end (difference_at c.args.a.c c.args.b.c) c.loop-m.m _ (omega arith) c.loop-m.invariant
