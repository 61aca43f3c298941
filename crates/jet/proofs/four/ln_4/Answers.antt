-- `jet::four::ln_4`.
use mathlib.Core.Path.{sym, ◌∙◌}
use Rattle.jet.proofs.UptoFour.{logarithm_along}
use Rattle.jet.proofs.four.ln_4.Goals as goal

pub returns : goal.returns
returns c = c.along.ensures ∙ sym (logarithm_along c.args.a.c _ c.ln-l0.ensures)
