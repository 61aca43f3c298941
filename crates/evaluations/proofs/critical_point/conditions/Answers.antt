-- `evaluations::critical_point::conditions`.
use mathlib.Core.Path.{◌∙◌}
use native.Mathlib.Omega.{arith}
use Rattle.evaluations.proofs.CriticalLaws.{count_two, count_one, two_marks, given_eigenvalue, given_third}
use Rattle.evaluations.proofs.critical_point.conditions.Goals as goal

pub at-pair-requires : goal.at-pair-requires
at-pair-requires c = (omega arith, two_marks)

pub returns-then-blend-eq2 : goal.returns-then-blend-eq2
returns-then-blend-eq2 c =
    let b = c.args.blend in
    let t = c.args.t.c in
    let v = c.args.v.c in
    let e = rw (c.at-pair.ensures.0, c.at-pair.ensures.1) at c.conditions.ensures in
    rw (count_two b c.if-blend-eq2.true) (e.0 ∙ given_eigenvalue b t v _ _ c.number.ensures c.number-then-blend-eq2.ensures, e.1 ∙ given_third b t v _ _ c.number.ensures c.number-then-blend-eq2.ensures)

pub returns : goal.returns
returns c =
    let same = c.at.ensures in
    rw (count_one c.args.blend c.if-blend-eq2.false) (rw (same.0, same.1, same.2) at c.conditions-2.ensures)
