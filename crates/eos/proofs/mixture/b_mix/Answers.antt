use mathlib.Core.Path.{refl}
use Prim.Native.Nat.{◌-◌}
use native.Mathlib.Omega.{arith}
use Rattle.jet.specs.Coefficients.{number_of}
use Rattle.jet.specs.Ops.{◌⊞◌, ◌⊠◌}
use Rattle.jet.proofs.Prefix.{add_upto, is, mul_upto}
use Rattle.eos.specs.Indices.{jet_total}
use Rattle.eos.specs.Jets.{jet_at}
use Rattle.eos.specs.Cubic.{nth, b_mix}
use Rattle.eos.proofs.Folds.{fold_keeps, upto_turn, upto_end}
use Rattle.eos.proofs.Totals.{adding_keeps}
use Rattle.eos.proofs.mixture.b_mix.Goals as goal

pub loop-i-init : goal.loop-i-init
unfolding b_mix jet_total
loop-i-init c =
    let a = c.args in
    let x = a.x in
    let b = a.b.now in
    let first = mul_upto 4 (jet_at x 0) (jet_at x 0) _ refl _ (number_of (nth b 0)) (is 4 c.number.ensures) c.mul-m.ensures in
    fold_keeps 4 (λ s i. s ⊞ jet_at x i ⊠ number_of (nth b i)) (adding_keeps 4 (λ i. jet_at x i ⊠ number_of (nth b i))) (a.n - 1) 1 _ _ first

pub loop-i-preserved : goal.loop-i-preserved
loop-i-preserved c =
    let a = c.args in
    let x = a.x in
    let b = a.b.now in
    let i = c.loop-i.i in
    let term = mul_upto 4 (jet_at x i) (jet_at x i) _ refl _ (number_of (nth b i)) (is 4 c.number-in-loop-i.ensures) c.mul.ensures in
    let sum = add_upto 4 c.loop-i.m.c c.loop-i.m.c _ refl _ (jet_at x i ⊠ number_of (nth b i)) term c.add-m.ensures in
    upto_turn 4 (λ s i. s ⊞ jet_at x i ⊠ number_of (nth b i)) (adding_keeps 4 (λ i. jet_at x i ⊠ number_of (nth b i))) a.n i c.loop-i.m.c c.add-m.result.c (b_mix a.n (jet_at x) (nth b)) (omega arith) sum c.loop-i.invariant

pub returns : goal.returns
returns c =
    let a = c.args in
    let x = a.x in
    let b = a.b.now in
    upto_end 4 (λ s i. s ⊞ jet_at x i ⊠ number_of (nth b i)) (adding_keeps 4 (λ i. jet_at x i ⊠ number_of (nth b i))) a.n c.loop-i.i c.loop-i.m.c (b_mix a.n (jet_at x) (nth b)) (omega arith) c.loop-i.invariant
