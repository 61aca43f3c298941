-- `eos::cubic::compute_max_density`.
use mathlib.Core.Path.{ap, ◌∙◌}
use Prim.Native.Nat.{ℕ}
use lib.Ieee.{Float}
use Rattle.float.specs.Ops.{◌⊗◌, ◌⊘◌}
use Rattle.eos.specs.Indices.{total}
use Rattle.eos.specs.Cubic.{d0·9, nth, max_density}
use Rattle.eos.proofs.cubic.compute_max_density.Goals as goal

pub returns : goal.returns
unfolding max_density
returns c =
    let b = c.args.blend in
    ap (λ (s : Float). d0·9 ⊘ s) (c.dot.ensures ∙ ap (λ (n : ℕ). total n (λ i. nth b.x i ⊗ nth b.b i)) c.components-n.ensures.0)
