-- `jet::arith::recip`.
use mathlib.Core.Path.{ap, ◌∙◌}
use mathlib.Core.List.{List}
use lib.Ieee.{Float}
use Rattle.jet.specs.Coefficients.{quotient_of, recip_of}
use Rattle.jet.proofs.arith.recip.Goals as goal

pub returns : goal.returns
unfolding recip_of
returns c = c.div.ensures ∙ ap (λ (a : List Float). quotient_of a c.args.a.c) c.number.ensures
