-- The blend that the numbers of a request block describe. Definitions only.
use Rattle.std.specs.Prelude.{ℕ, zero, suc, ◌+◌, ◌-◌, ◌*◌, ◌/◌, ◌%◌, cond, ◌&&◌, List, get_or, replicate, ltb, Float}
use Rattle.std.specs.Float.{nan}
use Rattle.float.specs.Ops.{f0, f1}
use Rattle.eos.specs.Cubic.{component_of, element_of, alone}
use Rattle.eos.specs.declared.types.Component.{Component}
use Rattle.eos.specs.declared.types.Blend.{Blend}
use Rattle.block.specs.Lists.{tabulate}
use Rattle.block.specs.declared.types.Numbers.{Numbers}

-- the i-th number of a row
abbrev pub at : List Float → ℕ → Float
at row i = get_or row i nan

-- component i: "critical temperature, critical pressure, acentric factor"
unfoldable pub of_row : List Float → ℕ → Component
of_row row i = component_of (at row (3 * i)) (at row (3 * i + 1)) (at row (3 * i + 2))

-- the same, of those that the blend has
unfoldable pub component_at : ℕ → List Float → ℕ → Component
component_at n row i = cond (ltb i n) (of_row row i) (record { tc = f0; a = f0; b = f0; kappa = f0 })

-- The interactions of the rows before row i. Row i has those with the j above i: n − 1 − i of them.
unfoldable pub rows_before : (n i : ℕ) → ℕ
rows_before n zero = 0
rows_before n (suc i) = rows_before n i + (n - 1 - i)

-- "k_ij by rows, i below j": the place of k_ij
unfoldable pub place : (n i j : ℕ) → ℕ
place n i j = rows_before n i + (j - i - 1)

-- "k_ji the same, k_ii 0"
unfoldable pub interaction_at : ℕ → List Float → (i j : ℕ) → Float
interaction_at n row i j = cond (ltb i j && ltb j n) (at row (place n i j)) (cond (ltb j i && ltb i n) (at row (place n j i)) f0)

unfoldable pub blend_of : ℕ → Numbers → Blend
blend_of n d = record {
  n = n;
  tc = tabulate 8 (λ i. (component_at n d.coefficients i).tc);
  a = tabulate 8 (λ i. (component_at n d.coefficients i).a);
  b = tabulate 8 (λ i. (component_at n d.coefficients i).b);
  kappa = tabulate 8 (λ i. (component_at n d.coefficients i).kappa);
  k_ij = tabulate 64 (λ q. interaction_at n d.interactions (q / 8) (q % 8));
  x = tabulate 8 (λ i. at d.fractions i);
}

-- a blend with the components of a row of numbers
abbrev pub with_components : ℕ → List Float → Blend → Blend
with_components n row b = record b {
  tc = tabulate 8 (λ i. (component_at n row i).tc);
  a = tabulate 8 (λ i. (component_at n row i).a);
  b = tabulate 8 (λ i. (component_at n row i).b);
  kappa = tabulate 8 (λ i. (component_at n row i).kappa);
}

-- with the interactions of a row
abbrev pub with_interactions : ℕ → List Float → Blend → Blend
with_interactions n row b = record b { k_ij = tabulate 64 (λ q. interaction_at n row (q / 8) (q % 8)) }

-- with the fractions of a row
abbrev pub with_fractions : List Float → Blend → Blend
with_fractions row b = record b { x = tabulate 8 (λ i. at row i) }

-- with component i first and alone, of fraction 1
abbrev pub with_component_alone : ℕ → Blend → Blend
with_component_alone i b = record b { n = 1; tc = alone (element_of b.tc i); a = alone (element_of b.a i); b = alone (element_of b.b i); kappa = alone (element_of b.kappa i); x = alone f1 }

-- no blend
unfoldable pub empty_blend : Blend
empty_blend = record { n = 0; tc = replicate 8 f0; a = replicate 8 f0; b = replicate 8 f0; kappa = replicate 8 f0; k_ij = replicate 64 f0; x = replicate 8 f0 }
