-- `eos::mixture::sum`.
use mathlib.Core.Path.{refl}
use native.Mathlib.Omega.{arith}
use Rattle.jet.specs.Ops.{◌⊞◌}
use Rattle.eos.specs.Indices.{jet_total}
use Rattle.eos.specs.Jets.{jet_at}
use Rattle.eos.proofs.Folds.{upto_turn, upto_end}
use Rattle.eos.proofs.Totals.{adding_keeps}
use Rattle.eos.proofs.mixture.sum.Goals as goal

pub loop-i-init : goal.loop-i-init
unfolding jet_total
loop-i-init c = refl

pub loop-i-preserved : goal.loop-i-preserved
loop-i-preserved c =
    let n = c.args.n in
    let a = c.args.a in
    upto_turn 4 (λ s i. s ⊞ jet_at a i) (adding_keeps 4 (jet_at a)) n c.loop-i.i c.loop-i.s.c c.add-s.result.c (jet_total n (jet_at a)) (omega arith) c.add-s.ensures c.loop-i.invariant

pub returns : goal.returns
returns c =
    let n = c.args.n in
    let a = c.args.a in
    upto_end 4 (λ s i. s ⊞ jet_at a i) (adding_keeps 4 (jet_at a)) n c.loop-i.i c.loop-i.s.c (jet_total n (jet_at a)) (omega arith) c.loop-i.invariant
