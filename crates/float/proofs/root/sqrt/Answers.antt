-- `float::root::sqrt`.
use mathlib.Core.Path.{◌∙◌}
use borrow.Author.Rules.{rules}
use Rattle.float.proofs.Casts.{held}
use Rattle.float.proofs.RootLaws.{sqrt_is}
use Rattle.float.proofs.root.sqrt.Goals as goal

pub returns : goal.returns
returns c = c.sqrt.ensures.value ∙ sqrt_is c.args.x (held c.args.x (search rules))
