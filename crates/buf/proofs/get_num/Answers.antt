use mathlib.Core.Path.{refl}
use Prim.Native.Nat.{◌^◌, ◌<◌}
use native.Mathlib.Omega.{arith}
use Rattle.std.proofs.Math.Facts.{Fits-lt-pow}
use Prim.Native.Nat.{◌+◌, ◌-◌}
use Rattle.buf.proofs.Laws.{get_small, get_step, get_none, get_all}
use Rattle.buf.proofs.get_num.Goals as goal

pub loop-i-init : goal.loop-i-init
loop-i-init c = let A = c.args in get_none A.s.now A.at A.k A.k refl

pub overflow_mul-v : goal.overflow_mul-v
overflow_mul-v c =
    let A = c.args in
    let L = c.loop-i in
    let h : L.v < 2 ^ 56 = get_small A.s.now A.at A.k L.v L.i (omega arith) (omega arith) L.invariant in
    omega arith

pub overflow_add-v : goal.overflow_add-v
overflow_add-v c =
    let A = c.args in
    let L = c.loop-i in
    let h : L.v < 2 ^ 56 = get_small A.s.now A.at A.k L.v L.i (omega arith) (omega arith) L.invariant in
    omega arith

pub loop-i-preserved : goal.loop-i-preserved
loop-i-preserved c =
    let A = c.args in
    let L = c.loop-i in
    get_step A.s.now A.at A.k L.v L.i _ (omega arith) (omega arith) (omega arith) L.invariant c.from.ensures (rw c.from.ensures (Fits-lt-pow (c.type_inv.s (A.at + (L.i - 1)))))

pub returns : goal.returns
returns c =
    let A = c.args in
    let L = c.loop-i in
    get_all A.s.now A.at A.k L.i L.v (omega arith) L.invariant
