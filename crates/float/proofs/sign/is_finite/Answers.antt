-- `float::sign::is_finite`.
use mathlib.Core.Path.{◌∙◌}
use Rattle.float.proofs.SignLaws.{finite_same}
use Rattle.float.proofs.sign.is_finite.Goals as goal

pub returns : goal.returns
returns c = c.is_finite.ensures.value ∙ finite_same c.args.x
