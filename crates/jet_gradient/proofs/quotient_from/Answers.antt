-- `jet_gradient::quotient_from`.
use Rattle.jet_gradient.specs.Beside.{quotient_beside}
use Rattle.jet_gradient.proofs.quotient_from.Goals as goal

pub returns : goal.returns
unfolding quotient_beside
returns c = rw (c.at-w.ensures, c.at-y.ensures, c.at-u.ensures)
