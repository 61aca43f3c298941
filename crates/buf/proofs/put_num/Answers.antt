use mathlib.Core.Path.{sym, ◌∙◌}
use native.Mathlib.Nat.{add-zero, sub-zero}
use native.Mathlib.Omega.{arith}
use Rattle.buf.specs.Bytes.{put_num}
use Rattle.buf.proofs.Laws.{put_step, put_all}
use Rattle.buf.proofs.put_num.Goals as goal

pub loop-i-init : goal.loop-i-init
loop-i-init c = simp (add-zero, sub-zero)

pub loop-i-preserved : goal.loop-i-preserved
loop-i-preserved c =
    let A = c.args in
    let L = c.loop-i in
    sym (put_step L.s A.at A.k L.x L.i (omega arith)) ∙ L.invariant

pub returns : goal.returns
unfolding put_num
returns c =
    let A = c.args in
    let L = c.loop-i in
    put_all L.s _ A.at A.k L.x L.i (omega arith) L.invariant
