-- `float::sign::is_negative`.
use mathlib.Core.Path.{sym, ◌∙◌}
use Rattle.float.proofs.SignLaws.{negative_same, nan_not_negative}
use Rattle.float.proofs.sign.is_negative.Goals as goal

pub returns-then-not-is_nan : goal.returns-then-not-is_nan
returns-then-not-is_nan c = c.is_sign_negative.ensures ∙ negative_same c.args.x

pub returns-else-not-is_nan : goal.returns-else-not-is_nan
returns-else-not-is_nan c = rw c.if-not-is_nan.false (nan_not_negative c.args.x (sym c.is_nan.ensures.value ∙ c.if-not-is_nan.false))
