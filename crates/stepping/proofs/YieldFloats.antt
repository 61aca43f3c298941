-- What a blend's evaluations yield that a search stores is a value of binary64: each is a sum or a product. Assumes nothing.
use lib.Ieee.{binary64}
use lib.Ieee.Fits.{add-fits, mul-fits}
use Rattle.eos.specs.declared.types.Blend.{Blend}
use Rattle.evaluations.specs.Residual.{pressure_from, curvature_from, p_dpdrho, p_dpdrho_d2pdrho2, chemical_potential}
use Rattle.solver.specs.Evaluated.{evaluated}
use Rattle.stepping.proofs.Yields.{YieldsFit}

pub yields_fit : (blend : Blend) → YieldsFit (evaluated blend)
unfolding evaluated pressure_from curvature_from p_dpdrho p_dpdrho_d2pdrho2 chemical_potential
yields_fit blend = record {
  slope_p = λ t ρ. add-fits binary64 _ _;
  curvature_p = λ t ρ. add-fits binary64 _ _;
  curvature_second = λ t ρ. mul-fits binary64 _ _;
  potential_fits = λ t ρ. add-fits binary64 _ _;
}
