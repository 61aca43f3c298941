-- What an equation of state yields that a search stores. Statement only.
use Rattle.std.proofs.Common.{T}
use lib.Ieee.{Float, binary64, fits}
use Rattle.solver.specs.Search.{Evaluator, slope, curvature, potential}

pub record YieldsFit (ev : Evaluator) : Type 0 where
  pub slope_p : (t ρ : Float) → T (fits binary64 (ev (slope t ρ)).p)
  pub curvature_p : (t ρ : Float) → T (fits binary64 (ev (curvature t ρ)).p)
  pub curvature_second : (t ρ : Float) → T (fits binary64 (ev (curvature t ρ)).d2p_drho2)
  pub potential_fits : (t ρ : Float) → T (fits binary64 (ev (potential t ρ)))
