-- `block::blend::read_blend_components`.
use mathlib.Core.Path.{◌≡◌}
use Prim.Native.Nat.{ℕ, ◌*◌}
use mathlib.Core.Bool.{true}
use mathlib.Core.List.{List}
use lib.Ieee.{Float}
use Rattle.float.specs.Ops.{f0}
use Rattle.eos.specs.declared.types.Component.{Component}
use Rattle.eos.specs.declared.types.Blend.{Blend}
use Rattle.block.specs.Lists.{tabulate, all_below}
use Rattle.block.specs.Numbers.{floats_at}
use Rattle.block.specs.Blend.{of_row}
use Rattle.block.proofs.Lists.{upto}
use Rattle.block.proofs.ReadLaws.{component_test}
use Rattle.block.proofs.blend.read_blend_components.Given as goal

-- a field of the first i components, then +0
abbrev pub filled : (Component → Float) → List Float → ℕ → List Float
filled field row i = tabulate 8 (upto f0 (λ k. field (of_row row k)) i)

abbrev pub with_first : List Float → ℕ → Blend → Blend
with_first row i b = record b { tc = filled (λ c. c.tc) row i; a = filled (λ c. c.a) row i; b = filled (λ c. c.b) row i; kappa = filled (λ c. c.kappa) row i }

abbrev pub invariant-loop-i : goal.invariant-loop-i
invariant-loop-i l =
    let row = floats_at (3 * l.n) l.block l.at in
    record { fit : all_below l.i (component_test row) ≡ true; filled : l.blend ≡ with_first row l.i l.fn.blend }
