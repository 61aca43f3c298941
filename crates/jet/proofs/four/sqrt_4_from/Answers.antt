-- `jet::four::sqrt_4_from`.
use mathlib.Core.Path.{sym, ◌∙◌}
use Rattle.jet.proofs.UptoFour.{root_along}
use Rattle.jet.proofs.four.sqrt_4_from.Goals as goal

pub returns : goal.returns
returns c =
    c.along.ensures ∙ sym (root_along c.args.a.c c.args.r0 c.requires)
