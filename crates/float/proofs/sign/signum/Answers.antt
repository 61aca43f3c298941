-- `float::sign::signum`.
use mathlib.Core.Path.{◌∙◌}
use Rattle.float.proofs.SignLaws.{signum_same}
use Rattle.float.proofs.sign.signum.Goals as goal

pub returns : goal.returns
returns c = c.signum.ensures ∙ signum_same c.args.x
