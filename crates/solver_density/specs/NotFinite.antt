-- When kind 2 ends with 27. Definitions only.
use Rattle.std.specs.Prelude.{Bool, cond, not, ◌&&◌, Float}
use Rattle.std.specs.Float.Ieee.{lt}
use Rattle.float.specs.Ops.{◌⊗◌}
use Rattle.float.specs.Sign.{finite_of}
use Rattle.solver.specs.declared.types.DensityInitialization.TheVariants.{Vapor, Liquid}
use Rattle.solver.specs.declared.types.Values.{Values}
use Rattle.solver.specs.Search.{Evaluator, clean, answer_of, found_and, potential}
use Rattle.solver_density.specs.Density.{density_iteration}

-- a potential is not finite
unfoldable pub potentials_not_finite : Evaluator → (t : Float) → (liquid vapor : Values) → Bool
potentials_not_finite ev t liquid vapor = not (finite_of (ev (potential t liquid.first)) && finite_of (ev (potential t vapor.first)))

-- "A phase of kind 2 .. ended so counts as failed like any other; .. a potential that isn't finite ends kind 2 itself with 27".
-- Where p is not below the maximum density times T, the liquid's search is all of it.
unfoldable pub stable_not_finite : Evaluator → (maxdensity t p : Float) → Bool
stable_not_finite ev maxdensity t p =
    (let liquid = density_iteration maxdensity t p Liquid in
    let vapor = density_iteration maxdensity t p Vapor in
    cond (lt p (maxdensity ⊗ t)) (found_and (answer_of ev liquid) (λ l. found_and (answer_of ev vapor) (potentials_not_finite ev t l))) (not (clean ev liquid)))
