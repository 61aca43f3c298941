-- The checks of the supplier's data, 12 to 17, on the numbers that a job reads. Sentences of documents 01 and 02 are quoted above the definitions. Definitions only.
use Rattle.std.specs.Prelude.{ℕ, ◌+◌, ◌*◌, Bool, cond, not, ◌&&◌, ◌||◌, List, ltb, eqb, Float}
use Rattle.std.specs.Float.{binary64}
use Rattle.std.specs.Float.Ieee.{lt, le, to_bits, of_bits}
use Rattle.float.specs.Ops.{◌⊖◌, f0, f1}
use Rattle.float.specs.Sign.{finite_of, negative_of, abs_of}
use Rattle.eos.specs.declared.types.Component.{Component}
use Rattle.eos.specs.Indices.{total}
use Rattle.eos.specs.Cubic.{component_of}
use Rattle.block.specs.Lists.{all_below}
use Rattle.block.specs.Numbers.{interaction_count, reads_fractions, optional_temperature}
use Rattle.block.specs.Blend.{at}
use Rattle.block.specs.declared.types.Conditions.{Conditions}

-- "finite and positive"
unfoldable pub positive : Float → Bool
positive x = finite_of x && lt f0 x

-- +0, and not −0
unfoldable pub plus_zero : Float → Bool
plus_zero x = eqb (to_bits binary64 x) 0

unfoldable pub parameters_fit : Component → Bool
parameters_fit c = finite_of c.kappa && (positive c.a && positive c.b)

-- "critical values not finite and positive, acentric factor or kappa not finite, a or b not finite and positive"
unfoldable pub component_fits : (tc pc ω : Float) → Bool
component_fits tc pc ω = positive tc && (positive pc && (finite_of ω && parameters_fit (component_of tc pc ω)))

-- "12 in any component, used or not"
unfoldable pub components_fit : (n : ℕ) → List Float → Bool
components_fit n row = all_below n (λ i. component_fits (at row (3 * i)) (at row (3 * i + 1)) (at row (3 * i + 2)))

-- "13 interaction not finite"
unfoldable pub interactions_fit : (n : ℕ) → List Float → Bool
interactions_fit n row = all_below (interaction_count n) (λ k. finite_of (at row k))

unfoldable pub fraction_fits : Float → Bool
fraction_fits x = finite_of x && not (negative_of x)

-- "14 a read fraction not finite or with a minus sign"
unfoldable pub fractions_fit : (n : ℕ) → List Float → Bool
fractions_fit n row = all_below n (λ i. fraction_fits (at row i))

-- the float nearest to 10^−9
abbrev pub d1e_9 : Float
d1e_9 = of_bits binary64 0x3e11_2e0b_e826_d695

-- "their sum in ascending order of index"
unfoldable pub fraction_sum : (n : ℕ) → List Float → Float
fraction_sum n row = total n (λ i. at row i)

-- "must .. differ from 1 by at most 1e-9"
unfoldable pub near_one : Float → Bool
near_one sum = le (abs_of (sum ⊖ f1)) d1e_9

-- "17, sum of fractions", "where a kind reads fractions"
unfoldable pub sum_fits : (kind n : ℕ) → List Float → Bool
sum_fits kind n row = not (reads_fractions kind) || near_one (fraction_sum n row)

unfoldable pub temperature_fits : (kind : ℕ) → Float → Bool
temperature_fits kind t = positive t || (optional_temperature kind && plus_zero t)

-- "15 a used temperature not finite and positive (kind 5: or +0), used pressure or start not finite"; kind 7 as kind 5; "Kind 8's temperature
-- must be positive; kind 9 reads +0 as 300 and needs a finite pressure"
unfoldable pub conditions_fit : (kind : ℕ) → Conditions → Bool
conditions_fit kind c = temperature_fits kind c.temperature && (finite_of c.pressure && finite_of c.start)

-- "Choice: kind 1, 0 vapour, 1 liquid, 2 start; kind 4, 0 or 1 likewise; kinds 5 and 6, the component"
unfoldable pub choices : (kind n : ℕ) → ℕ
choices kind n = cond (eqb kind 1) 3 (cond (eqb kind 4) 2 (cond (reads_fractions kind) 1 n))

unfoldable pub choice_fits : (kind n choice : ℕ) → Bool
choice_fits kind n choice = ltb choice (choices kind n)
