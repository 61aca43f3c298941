-- `jet::four::div_4`.
use mathlib.Core.Path.{sym, ◌∙◌}
use Rattle.jet.proofs.UptoFour.{quotient_along}
use Rattle.jet.proofs.four.div_4.Goals as goal

pub returns : goal.returns
returns c =
    c.along.ensures ∙ sym (quotient_along c.args.a.c c.args.b.c)
