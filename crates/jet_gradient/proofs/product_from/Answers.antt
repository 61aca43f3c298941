-- `jet_gradient::product_from`.
use Rattle.jet_gradient.specs.Beside.{product_beside}
use Rattle.jet_gradient.proofs.product_from.Goals as goal

pub returns : goal.returns
unfolding product_beside
returns c = rw (c.at-w.ensures, c.at-y.ensures, c.at-u.ensures, c.at-x.ensures)
