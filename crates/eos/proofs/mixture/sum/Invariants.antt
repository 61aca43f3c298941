-- `eos::mixture::sum`.
use Prim.Native.Nat.{◌-◌}
use Rattle.jet.specs.Coefficients.{Upto}
use Rattle.jet.specs.Ops.{◌⊞◌}
use Rattle.eos.specs.Indices.{fold_from, jet_total}
use Rattle.eos.specs.Jets.{jet_at}
use Rattle.eos.proofs.mixture.sum.Given as goal

abbrev pub invariant-loop-i : goal.invariant-loop-i
invariant-loop-i l = Upto 4 (fold_from (λ s i. s ⊞ jet_at l.a i) (l.n - l.i) l.i l.s.c) (jet_total l.n (jet_at l.a))
