-- `eos::mixture::row`.
use mathlib.Core.Path.{◌≡◌, refl, ◌∙◌}
use native.Mathlib.Omega.{arith}
use lib.ListN.{length-set}
use Rattle.jet.specs.declared.Jet.{Jet}
use Rattle.eos.proofs.Totals.{put_turn}
use Rattle.eos.proofs.mixture.row.Goals as goal

pub loop-i-preserved : goal.loop-i-preserved
loop-i-preserved g c = (
  length-set c.loop-i.out c.loop-i.i _ ∙ c.loop-i.invariant.0,
  put_turn (λ k r. (x : Jet) × goal.F-post g c.args.f k x × (r ≡ x.c)) c.loop-i.out c.loop-i.i _ (omega arith) c.loop-i.invariant.1 (c.f.result, c.f.ensures, refl),
)

pub returns : goal.returns
returns g c = λ i h. c.loop-i.invariant.1 i (omega arith)
