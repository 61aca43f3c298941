-- `buf::put_part`.
use mathlib.Core.Path.{sym, ◌∙◌}
use native.Mathlib.Nat.{add-zero}
use native.Mathlib.Omega.{arith}
use Rattle.buf.proofs.Laws.{copy_step, copy_all}
use Rattle.buf.proofs.put_part.Goals as goal

pub loop-i-init : goal.loop-i-init
loop-i-init c = simp add-zero

pub loop-i-preserved : goal.loop-i-preserved
loop-i-preserved c =
    let A = c.args in
    let L = c.loop-i in
    sym (copy_step L.s A.b.now A.at L.i (omega arith)) ∙ L.invariant

pub returns : goal.returns
returns c =
    let A = c.args in
    let L = c.loop-i in
    copy_all L.s _ A.b.now A.at L.i (omega arith) L.invariant
