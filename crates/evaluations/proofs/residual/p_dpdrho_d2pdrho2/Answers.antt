-- `evaluations::residual::p_dpdrho_d2pdrho2`.
use Rattle.evaluations.proofs.Evaluations.{p_dpdrho_d2pdrho2_law}
use Rattle.evaluations.proofs.residual.p_dpdrho_d2pdrho2.Goals as goal

pub returns : goal.returns
returns c =
    let a = c.args in
    p_dpdrho_d2pdrho2_law a.blend a.temperature a.density _ c.along_volume.ensures _ _ _ c.pressure_from.ensures c.slope_from.ensures c.curvature_from.ensures
