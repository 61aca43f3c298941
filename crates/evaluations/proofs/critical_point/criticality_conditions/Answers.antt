-- `evaluations::critical_point::criticality_conditions`.
use mathlib.Core.Path.{◌∙◌}
use Rattle.evaluations.proofs.CriticalLaws.{criticality_law}
use Rattle.evaluations.proofs.critical_point.criticality_conditions.Goals as goal

pub returns : goal.returns
returns c =
    let a = c.args in
    let v = c.volume-v in
    let d = c.conditions in
    c.criticality.ensures
    ∙ criticality_law a.blend a.temperature a.density _ v.result.c v.ensures d.result.l.c d.result.c2.c c.marked-t.ensures d.ensures.0 d.ensures.1
