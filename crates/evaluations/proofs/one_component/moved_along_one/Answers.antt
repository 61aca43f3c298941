-- `evaluations::one_component::moved_along_one`.
use mathlib.Core.Path.{sym, ◌∙◌}
use Rattle.jet.proofs.Prefix.{is}
use Rattle.evaluations.proofs.One.{moved_by_mark}
use Rattle.evaluations.proofs.one_component.moved_along_one.Goals as goal

pub returns-then-is_one : goal.returns-then-is_one
returns-then-is_one c =
    is 12 c.marked.ensures ∙ sym (moved_by_mark c.args.z (c.is_one.ensures.1 c.if-is_one.true))

pub returns : goal.returns
returns c = c.moved.ensures ∙ is 12 (rw (c.number.ensures, c.number-2.ensures))
