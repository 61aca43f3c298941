use mathlib.Core.Path.{refl, sym, ap, ◌∙◌}
use mathlib.Core.List.{List}
use Prim.Native.Nat.{ℕ, ◌+◌, ◌*◌}
use native.Mathlib.Omega.{arith}
use native.Mathlib.Nat.{add-zero}
use lib.ListN.{length, drop}
use Rattle.buf.specs.Bytes.{splice}
use Rattle.buf.proofs.Laws.{length_put_num}
use Rattle.writer.specs.Packed.{floats_bytes}
use Rattle.writer.proofs.PutLaws.{float_step, floats_put, before_next, before_all}
use Rattle.writer.proofs.packing.put_floats.Goals as goal

pub loop-i-init : goal.loop-i-init
loop-i-init c = (simp add-zero, (refl, λ k h. absurd (omega arith)))

pub loop-i-preserved : goal.loop-i-preserved
loop-i-preserved c =
    let A = c.args in
    let L = c.loop-i in
    let E = c.put_float.ensures in (
      ap (λ (s : List ℕ). splice s (A.at + 8 * (L.i + 1)) (floats_bytes (drop (L.i + 1) A.list.now))) E.0 ∙ sym (float_step L.block A.list.now A.at L.i _ (omega arith) refl) ∙ L.invariant.0,
      (ap length E.0 ∙ length_put_num 8 L.block _ _ ∙ L.invariant.1.0, before_next A.list.now L.i _ refl E.1 L.invariant.1.1),
    )

pub returns : goal.returns
returns c =
    let A = c.args in
    let L = c.loop-i in
    (floats_put L.block _ A.list.now A.at _ (omega arith) L.invariant.0, before_all A.list.now _ (omega arith) L.invariant.1.1)
