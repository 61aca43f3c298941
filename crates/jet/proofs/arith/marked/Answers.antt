-- `jet::arith::marked`.
use mathlib.Core.Path.{ap, ◌∙◌}
use Rattle.jet.specs.Coefficients.{with_mark_of}
use Rattle.jet.proofs.WithMark.{with_mark_number}
use Rattle.jet.proofs.arith.marked.Goals as goal

pub returns : goal.returns
returns c = c.with_mark.ensures ∙ ap (with_mark_of c.args.m) c.number.ensures ∙ with_mark_number c.args.m c.args.x
