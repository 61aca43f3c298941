-- `jet_gradient::sum_from`.
use Rattle.jet_gradient.specs.Beside.{sum_beside}
use Rattle.jet_gradient.proofs.sum_from.Goals as goal

pub returns : goal.returns
unfolding sum_beside
returns c = rw (c.at-y.ensures, c.at-x.ensures)
