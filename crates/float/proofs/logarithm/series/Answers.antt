use mathlib.Core.Path.{sym, ap, ◌∙◌}
use Prim.Native.Nat.{◌-◌}
use lib.Ieee.{Float, binary64, add, mul}
use Rattle.float.specs.Ops.{◌⊗◌}
use Rattle.float.specs.Ln.{horner, series}
use Rattle.float.proofs.LnLaws.{horner_step, horner_end}
use Rattle.float.proofs.logarithm.series.Goals as goal

pub loop-k-init : goal.loop-k-init
unfolding series
loop-k-init c = ap (horner (c.args.s ⊗ c.args.s) 10) c.odd_recip-h.ensures

pub loop-k-preserved : goal.loop-k-preserved
loop-k-preserved c =
    let l = c.loop-k in
    let z = c.args.s ⊗ c.args.s in
    ap (λ (r : Float). horner z (l.k - 1) (add binary64 (mul binary64 l.h z) r)) c.odd_recip.ensures
    ∙ sym (horner_step z l.k l.h c.loop-k-test.true)
    ∙ l.invariant

pub returns : goal.returns
returns c = let l = c.loop-k in sym (horner_end (c.args.s ⊗ c.args.s) l.k l.h c.loop-k-test.false) ∙ l.invariant
