-- `jet_gradient::difference_from`.
use Rattle.jet_gradient.specs.Beside.{difference_beside}
use Rattle.jet_gradient.proofs.difference_from.Goals as goal

pub returns : goal.returns
unfolding difference_beside
returns c = rw (c.at-y.ensures, c.at-x.ensures)
