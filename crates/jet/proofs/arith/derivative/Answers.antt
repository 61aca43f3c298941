use mathlib.Core.Path.{refl}
use native.Mathlib.Omega.{arith}
use Rattle.jet.specs.Coefficients.{derivative_at, derivative_of}
use Rattle.jet.proofs.Build.{fill_start, fill_turn, fill_end}
use Rattle.jet.proofs.arith.derivative.Goals as goal

pub loop-m-init : goal.loop-m-init
loop-m-init c = fill_start _

pub loop-m-preserved : goal.loop-m-preserved
unfolding derivative_at
loop-m-preserved c =
    fill_turn (derivative_at c.args.k c.args.a.c) (λ m c d h. refl) c.loop-m.m _ c.loop-m.c (omega arith) c.loop-m.invariant c.derivative_at.ensures

pub returns : goal.returns
unfolding derivative_of
returns c =
    fill_end (derivative_at c.args.k c.args.a.c) c.loop-m.m _ (omega arith) c.loop-m.invariant
