use mathlib.Core.Path.{refl}
use Prim.Native.Nat.{◌+◌, ◌*◌}
use native.Mathlib.Omega.{arith}
use native.Mathlib.Nat.{sub-zero}
use Rattle.jet.specs.Ops.{◌⊞◌}
use Rattle.jet.proofs.Prefix.{add_upto}
use Rattle.eos.specs.Jets.{jet_at}
use Rattle.eos.specs.Cubic.{nth, mix_term, mix_row, ak_mix}
use Rattle.eos.proofs.Folds.{upto_turn, upto_end}
use Rattle.eos.proofs.Totals.{row_keeps, adding_keeps}
use Rattle.eos.proofs.Pair.{term_of_root}
use Rattle.eos.proofs.Roots.{root_at_lem}
use Rattle.eos.proofs.mixture.ak_mix.Goals as goal

pub loop-i-init : goal.loop-i-init
unfolding ak_mix
loop-i-init c = rw (sub-zero, c.number-m.ensures)

pub loop-j-init : goal.loop-j-init
unfolding mix_row
loop-j-init c = rw sub-zero

pub ak_root-r-requires : goal.ak_root-r-requires
ak_root-r-requires c =
    root_at_lem c.args.ak c.roots-root.result c.args.n c.loop-i.i c.loop-j.j _ c.roots-root.ensures c.root_place.ensures.0 (omega arith) (omega arith)

pub loop-j-preserved : goal.loop-j-preserved
loop-j-preserved c =
    let a = c.args in
    let n = a.n in
    let ak = a.ak in
    let x = a.x in
    let k = a.k.now in
    let i = c.loop-i.i in
    let j = c.loop-j.j in
    let m = c.loop-j.m.c in
    let sum = add_upto 4 m m c.add-m.result.c refl c.mix_term.result.c (mix_term (jet_at ak i) (jet_at ak j) (jet_at x i) (jet_at x j) (nth k (8 * i + j))) (term_of_root 4 (jet_at ak i) (jet_at ak j) (jet_at x i) (jet_at x j) (nth k (8 * i + j)) c.ak_root-r.result.c c.mix_term.result.c c.ak_root-r.ensures c.mix_term.ensures) c.add-m.ensures in
    upto_turn 4 (λ m j. m ⊞ mix_term (jet_at ak i) (jet_at ak j) (jet_at x i) (jet_at x j) (nth k (8 * i + j))) (adding_keeps 4 (λ j. mix_term (jet_at ak i) (jet_at ak j) (jet_at x i) (jet_at x j) (nth k (8 * i + j)))) n j m c.add-m.result.c (mix_row n (jet_at ak) (jet_at x) (λ i j. nth k (8 * i + j)) i c.loop-i.m.c) c.loop-j-test.true sum c.loop-j.invariant

pub loop-i-preserved : goal.loop-i-preserved
loop-i-preserved c =
    let a = c.args in
    let n = a.n in
    let ak = a.ak in
    let x = a.x in
    let k = a.k.now in
    let i = c.loop-i.i in
    let row = upto_end 4 (λ m j. m ⊞ mix_term (jet_at ak i) (jet_at ak j) (jet_at x i) (jet_at x j) (nth k (8 * i + j))) (adding_keeps 4 (λ j. mix_term (jet_at ak i) (jet_at ak j) (jet_at x i) (jet_at x j) (nth k (8 * i + j)))) n c.loop-j.j c.loop-j.m.c (mix_row n (jet_at ak) (jet_at x) (λ i j. nth k (8 * i + j)) i c.loop-i.m.c) (omega arith) c.loop-j.invariant in
    upto_turn 4 (λ m i. mix_row n (jet_at ak) (jet_at x) (λ i j. nth k (8 * i + j)) i m) (row_keeps 4 n (jet_at ak) (jet_at x) (λ i j. nth k (8 * i + j))) n i c.loop-i.m.c c.loop-j.m.c (ak_mix n (jet_at ak) (jet_at x) (λ i j. nth k (8 * i + j))) (omega arith) row c.loop-i.invariant

pub returns : goal.returns
returns c =
    let a = c.args in
    let n = a.n in
    let ak = a.ak in
    let x = a.x in
    let k = a.k.now in
    upto_end 4 (λ m i. mix_row n (jet_at ak) (jet_at x) (λ i j. nth k (8 * i + j)) i m) (row_keeps 4 n (jet_at ak) (jet_at x) (λ i j. nth k (8 * i + j))) n c.loop-i.i c.loop-i.m.c (ak_mix n (jet_at ak) (jet_at x) (λ i j. nth k (8 * i + j))) (omega arith) c.loop-i.invariant
