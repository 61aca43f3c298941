-- `eos::cubic::component`.
use mathlib.Core.Path.{refl}
use Rattle.eos.specs.Cubic.{component_of}
use Rattle.eos.proofs.cubic.component.Goals as goal

pub returns : goal.returns
unfolding component_of
returns c = refl
