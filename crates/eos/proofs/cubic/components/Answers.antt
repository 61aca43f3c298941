-- `eos::cubic::components`.
use mathlib.Core.Path.{◌≡◌, refl, ◌∙◌}
use Prim.Native.Nat.{ℕ, zero, suc, min, max}
use mathlib.Core.Bool.{cond}
use lib.Dec.{eqb}
use native.Mathlib.Omega.{arith}
use borrow.Author.Tests.{ne_eqb}
use Rattle.eos.specs.Cubic.{components_of}
use Rattle.eos.proofs.cubic.components.Goals as goal

clamped : (n : ℕ) → max 1 (min n 8) ≡ cond (eqb n 0) 1 (min n 8)
clamped zero = refl
clamped (suc n) = rw (ne_eqb (suc n) 0 (λ e. omega arith)) (omega arith)

pub returns : goal.returns
unfolding components_of
returns c = (c.clamp.ensures ∙ clamped c.args.blend.n, omega arith, omega arith)
