-- `jet_gradient::logarithm_from`.
use Rattle.jet_gradient.specs.Beside.{weighted_beside, logarithm_beside}
use Rattle.jet_gradient.proofs.logarithm_from.Goals as goal

pub returns : goal.returns
unfolding weighted_beside logarithm_beside
returns c = rw (c.at-u.ensures, c.at-x.ensures)
