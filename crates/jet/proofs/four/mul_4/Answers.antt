-- `jet::four::mul_4`.
use mathlib.Core.Path.{sym, ◌∙◌}
use Rattle.jet.proofs.UptoFour.{product_along}
use Rattle.jet.proofs.four.mul_4.Goals as goal

pub returns : goal.returns
returns c =
    c.along.ensures ∙ sym (product_along c.args.a.c c.args.b.c)
