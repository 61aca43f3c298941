-- The conditions of one component written out: the smallest eigenvalue is the matrix's only entry, the vector 1. Statements only; proofs/OneComponent.antt proves them.
use Rattle.std.specs.Prelude.{◌≡◌, ℕ, List, Float}
use Rattle.float.specs.Ops.{f1}
use Rattle.jet.specs.Coefficients.{number_of, with_mark_of, root_of, derivative_of}
use Rattle.jet.specs.Ops.{◌⊞◌, ◌⊠◌, ◌⧄◌}
use Rattle.eos.specs.declared.types.Blend.{Blend}
use Rattle.eos.specs.Helmholtz.{helmholtz}
use Rattle.evaluations.specs.Critical.{eigenvalue, moved, ideal_term, third_derivative}

-- the energy over the temperature at the mole number n
abbrev pub energy_of_one : Blend → List Float → List Float → List Float → List Float
energy_of_one b t v n = helmholtz b 1 t v (λ i. n) ⧄ t

pub record OfOne (b : Blend) (t v : List Float) (z : ℕ → List Float) : Type 0 where
  pub value : eigenvalue b 1 t v z ≡ derivative_of 2 (energy_of_one b t v (with_mark_of 1 (z 0))) ⊠ (root_of (z 0) ⊠ root_of (z 0)) ⊞ number_of f1
  pub third : third_derivative b 1 t v z ≡ derivative_of 3 (energy_of_one b t v (moved (z 0) (number_of f1)) ⊞ ideal_term (moved (z 0) (number_of f1)) v)
