-- What the functions of two components go by: the positions that are worked out, the entries of a symmetric 2 by 2 matrix of jets, the third derivative at two mole numbers,
-- and the jets of two partial densities. Definitions only.
use Rattle.std.specs.Prelude.{◌≡◌, ℕ, ◌%◌, ◌≤◌, List, Float}
use Rattle.jet.specs.Coefficients.{Upto, recip_of, derivative_of}
use Rattle.jet.specs.Ops.{◌⊞◌, ◌⧄◌}
use Rattle.eos.specs.declared.types.Blend.{Blend}
use Rattle.eos.specs.Jets.{pair_of}
use Rattle.evaluations.specs.declared.types.SymmetricMatrix.{SymmetricMatrix}
use Rattle.evaluations.specs.declared.types.BinaryState.{BinaryState}
use Rattle.evaluations.specs.Critical.{energy_over_t, ideal_term}
use Rattle.evaluations.specs.CriticalBinary.{density_of}

-- how far coefficients are worked out: whole fours, up to those beside e3
pub record Width (w : ℕ) : Type 0 where
  pub some : 1 ≤ w
  pub most : w ≤ 20
  pub fours : w % 4 ≡ 0

-- the struct r holds the matrix m, given by row and column
pub record Entries (w : ℕ) (m : ℕ → ℕ → List Float) (r : SymmetricMatrix) : Type 0 where
  pub first : Upto w r.m11.c (m 0 0)
  pub mixed : Upto w r.m12.c (m 0 1)
  pub second : Upto w r.m22.c (m 1 1)

-- the third derivative by s, at the mole numbers n1 and n2
unfoldable pub third_at : Blend → (t v n1 n2 : List Float) → List Float
third_at b t v n1 n2 = derivative_of 3 (energy_over_t b 2 t v (pair_of n1 n2) ⊞ (ideal_term n1 v ⊞ ideal_term n2 v))

-- the struct s holds density, molar volume and fractions of two partial densities
pub record StateOf (w : ℕ) (ρ0 ρ1 : List Float) (s : BinaryState) : Type 0 where
  pub density : Upto w s.density.c (density_of ρ0 ρ1)
  pub volume : Upto w s.v.c (recip_of (density_of ρ0 ρ1))
  pub first : Upto w s.z0.c (ρ0 ⧄ density_of ρ0 ρ1)
  pub second : Upto w s.z1.c (ρ1 ⧄ density_of ρ0 ρ1)
