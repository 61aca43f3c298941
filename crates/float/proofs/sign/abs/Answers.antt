-- `float::sign::abs`.
use mathlib.Core.Path.{◌∙◌}
use Rattle.float.proofs.SignLaws.{abs_same}
use Rattle.float.proofs.sign.abs.Goals as goal

pub returns : goal.returns
returns c = c.abs.ensures.value ∙ abs_same c.args.x
