-- `evaluations::critical_point::volume`.
use Rattle.evaluations.proofs.CriticalLaws.{volume_law}
use Rattle.evaluations.proofs.critical_point.volume.Goals as goal

pub returns : goal.returns
returns c =
    volume_law c.args.density _ _ _ c.number.ensures c.marked.ensures c.div.ensures
