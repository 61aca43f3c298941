-- `jet::terms::weight`.
use mathlib.Core.Path.{refl}
use Prim.Native.Nat.{ℕ, ◌+◌, ◌/◌, ◌%◌, ◌≤◌, ◌<◌, ◌^◌}
use Rattle.jet.proofs.Among.{parts}
use Rattle.jet.specs.Positions.{weight_of}
use native.Mathlib.Omega.{arith}
use Rattle.jet.proofs.Weights.{small_int}
use Rattle.jet.proofs.terms.weight.Goals as goal

few : (i j k l : ℕ) → i < 4 → j < 2 → k < 2 → l < 2 → i + j + k + l ≤ 2 ^ 53
few i j k l hi hj hk hl = omega arith

pub int_to_float-result : goal.int_to_float-result
int_to_float-result c = let m = c.args.m in let q = parts m in small_int _ (few (m % 4) (m / 4 % 2) (m / 8 % 2) (m / 16) q.below0 q.below1 q.below2 (let h = c.requires in omega arith))

pub returns : goal.returns
unfolding weight_of
returns c = refl
