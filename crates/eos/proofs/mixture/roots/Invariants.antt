-- `eos::mixture::roots`.
use mathlib.Core.Path.{◌≡◌}
use lib.ListN.{length}
use Rattle.eos.proofs.Roots.{root_in, Filled}
use Rattle.eos.proofs.mixture.roots.Given as goal

abbrev pub invariant-loop-i : goal.invariant-loop-i
invariant-loop-i l = (length l.out ≡ 64) × Filled (root_in l.a) l.out l.i 0

abbrev pub invariant-loop-j : goal.invariant-loop-j
invariant-loop-j l = (length l.out ≡ 64) × Filled (root_in l.a) l.out l.i l.j
