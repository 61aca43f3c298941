-- `eos::mixture::row`.
use mathlib.Core.Path.{◌≡◌}
use Prim.Native.Nat.{ℕ, ◌<◌}
use lib.ListN.{length}
use Rattle.jet.specs.declared.Jet.{Jet}
use Rattle.eos.specs.Jets.{jet_at}
use Rattle.eos.proofs.mixture.row.Given as goal

abbrev pub invariant-loop-i : goal.invariant-loop-i
invariant-loop-i g l = (length l.out ≡ 8) × ((k : ℕ) → k < l.i → (r : Jet) × goal.F-post g l.f k r × (jet_at l.out k ≡ r.c))
