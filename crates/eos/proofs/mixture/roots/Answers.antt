-- `eos::mixture::roots`.
use mathlib.Core.Path.{refl, ◌∙◌}
use Prim.Native.Nat.{◌+◌, ◌*◌}
use native.Mathlib.Omega.{arith}
use lib.ListN.{length-set}
use Rattle.eos.proofs.Roots.{root_in, root_in_commutes, filled_turn, filled_row, filled_place}
use Rattle.eos.proofs.mixture.roots.Goals as goal

pub loop-i-init : goal.loop-i-init
loop-i-init c = (refl, λ p q a b l. absurd (omega arith))

pub loop-j-preserved : goal.loop-j-preserved
loop-j-preserved c =
    let out = c.loop-j.out in
    let i = c.loop-i.i in
    let j = c.loop-j.j in (
      length-set out (8 * i + j) _ ∙ c.loop-j.invariant.0,
      filled_turn (root_in c.args.a) out i j _ (omega arith) (omega arith) c.loop-j.invariant.0 c.sqrt.ensures c.loop-j.invariant.1,
    )

pub loop-i-preserved : goal.loop-i-preserved
loop-i-preserved c =
    (c.loop-j.invariant.0, filled_row (root_in c.args.a) c.loop-j.out c.loop-i.i c.loop-j.j (omega arith) c.loop-j.invariant.1)

pub returns : goal.returns
returns c =
    let a = c.args in
    filled_place (root_in a.a) (root_in_commutes a.a) c.loop-i.out a.n c.loop-i.i 0 c.requires (omega arith) c.loop-i.invariant.1
