-- `evaluations::residual::p_dpdrho`.
use Rattle.evaluations.specs.Residual.{p_dpdrho, p_dpdrho_d2pdrho2}
use Rattle.evaluations.proofs.residual.p_dpdrho.Goals as goal

pub returns : goal.returns
unfolding p_dpdrho p_dpdrho_d2pdrho2
returns c = rw c.p_dpdrho_d2pdrho2.ensures
