-- `buf::get_u64`.
use mathlib.Core.Path.{◌∙◌}
use Prim.Native.Nat.{◌-◌}
use native.Mathlib.Omega.{arith}
use lib.ListN.{length, take, drop}
use lib.Seq.{take-take}
use Rattle.std.proofs.Math.Facts.{Fits-lt-pow}
use Rattle.std.specs.Array.{IsFirstChunk}
use Rattle.buf.proofs.Laws.{from_eight}
use Rattle.buf.proofs.get_u64.Goals as goal

pub returns : goal.returns
returns c =
    let s = c.args.s.now in
    let at = c.args.at in
    let chunk : IsFirstChunk (take (length s - at) (drop at s)) c.unwrap-bytes.result.now 8 = rw c.unwrap-bytes.ensures at c.first_chunk.ensures.cases in
    c.from_le_bytes.ensures ∙ from_eight s _ at c.requires (chunk.same ∙ take-take 8 (length s - at) (drop at s) (omega arith)) (λ i. Fits-lt-pow (c.type_inv.s i))
