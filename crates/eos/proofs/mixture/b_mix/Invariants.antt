-- `eos::mixture::b_mix`.
use Prim.Native.Nat.{◌-◌}
use Rattle.jet.specs.Coefficients.{Upto, number_of}
use Rattle.jet.specs.Ops.{◌⊞◌, ◌⊠◌}
use Rattle.eos.specs.Indices.{fold_from}
use Rattle.eos.specs.Jets.{jet_at}
use Rattle.eos.specs.Cubic.{nth, b_mix}
use Rattle.eos.proofs.mixture.b_mix.Given as goal

abbrev pub invariant-loop-i : goal.invariant-loop-i
invariant-loop-i l = Upto 4 (fold_from (λ s i. s ⊞ jet_at l.x i ⊠ number_of (nth l.b i)) (l.n - l.i) l.i l.m.c) (b_mix l.n (jet_at l.x) (nth l.b))
