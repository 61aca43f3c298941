-- `jet_gradient::root_from`.
use Rattle.jet_gradient.specs.Beside.{root_beside}
use Rattle.jet_gradient.proofs.root_from.Goals as goal

pub returns : goal.returns
unfolding root_beside
returns c = rw (c.at-u.ensures)
