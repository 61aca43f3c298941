-- `eos::mixture::ak_mix`.
use Prim.Native.Nat.{◌+◌, ◌-◌, ◌*◌}
use Rattle.jet.specs.Coefficients.{Upto}
use Rattle.jet.specs.Ops.{◌⊞◌}
use Rattle.eos.specs.Indices.{fold_from}
use Rattle.eos.specs.Jets.{jet_at}
use Rattle.eos.specs.Cubic.{nth, mix_term, mix_row, ak_mix}
use Rattle.eos.proofs.mixture.ak_mix.Given as goal

abbrev pub invariant-loop-j : goal.invariant-loop-j
invariant-loop-j l = Upto 4 (fold_from (λ m j. m ⊞ mix_term (jet_at l.ak l.i) (jet_at l.ak j) (jet_at l.x l.i) (jet_at l.x j) (nth l.k (8 * l.i + j))) (l.n - l.j) l.j l.m.c) (mix_row l.n (jet_at l.ak) (jet_at l.x) (λ i j. nth l.k (8 * i + j)) l.i l.initial.m.c)

abbrev pub invariant-loop-i : goal.invariant-loop-i
invariant-loop-i l = Upto 4 (fold_from (λ m i. mix_row l.n (jet_at l.ak) (jet_at l.x) (λ i j. nth l.k (8 * i + j)) i m) (l.n - l.i) l.i l.m.c) (ak_mix l.n (jet_at l.ak) (jet_at l.x) (λ i j. nth l.k (8 * i + j)))
