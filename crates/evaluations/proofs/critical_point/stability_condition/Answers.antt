-- `evaluations::critical_point::stability_condition`.
use Rattle.evaluations.proofs.CriticalLaws.{stability_law}
use Rattle.evaluations.proofs.critical_point.stability_condition.Goals as goal

pub returns : goal.returns
returns c =
    let a = c.args in
    let same = c.at.ensures in
    stability_law a.blend a.temperature a.density _ c.volume-v.result.c c.volume-v.ensures c.smallest-l.result.c c.number-t.ensures (rw (same.0, same.1, same.2) at c.smallest-l.ensures)
