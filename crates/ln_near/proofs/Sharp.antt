-- The bound of specs/LnNear.antt is no more than 32 times too wide: with 2^−55 for 2^−50 the law fails at the smallest float. Assumes nothing.
use mathlib.Core.Path.{◌≡◌, refl, subst}
use Prim.Native.Nat.{ℕ, ◌*◌}
use native.Mathlib.Nat.{not-le_of_lt}
use lib.Dec.{T, ltb, ltb→lt}
use lib.Ieee.{Float, binary64, size, round, of_int, of_bits, add, sub, mul, div, le}
use Rattle.float.specs.Above.{above}
use Rattle.float.specs.Nearest.{units_of}
use Rattle.float.specs.Ln.{odd_recip, horner, series, reduced_ln, ln_at, ln_units, ln_of}
use Rattle.ln_near.specs.Fractions.{Frac, ◌+ᶠ◌, ◌≤ᶠ◌, value_of}
use Rattle.ln_near.specs.LnNear.{term, terms, tail, without_tail, with_tail, place, ln_end, ln_upper, allowed, LnWithin}

-- 2^−1074, which is one unit, and its logarithm by `ln_of`
abbrev pub smallest : Float
smallest = of_bits binary64 1

abbrev result : Float
result = of_bits binary64 0xc087_4385_446d_71c3

result_is : ln_of smallest ≡ result
unfolding ln_of ln_units ln_at reduced_ln series horner odd_recip above of_bits of_int size round add sub mul div le
result_is = refl

one_unit : units_of smallest ≡ 1
unfolding units_of of_bits
one_unit = refl

first_place : place 1 ≡ 0
unfolding place of_bits size round le
first_place = refl

refute : (f g : Frac) → T (ltb (g.num * f.den) (f.num * g.den)) → f ≤ᶠ g → ⊥
refute f g t h = not-le_of_lt (ltb→lt _ _ t) h

-- the result is above the upper end by more than (|E| + 1)·2^−55
too_far : (value_of result).plus +ᶠ (ln_upper 20 1 0).minus ≤ᶠ (ln_upper 20 1 0).plus +ᶠ allowed 55 0 +ᶠ (value_of result).minus → ⊥
unfolding value_of of_bits ln_upper ln_end with_tail without_tail terms term tail
too_far h = refute ((value_of result).plus +ᶠ (ln_upper 20 1 0).minus) ((ln_upper 20 1 0).plus +ᶠ allowed 55 0 +ᶠ (value_of result).minus) tt h

pub not_55 : LnWithin 55 (units_of smallest) (place (units_of smallest)) (ln_of smallest) → ⊥
not_55 h = at_one (subst (λ (n : ℕ). LnWithin 55 n (place n) (ln_of smallest)) one_unit h)
  where
    at_one : LnWithin 55 1 (place 1) (ln_of smallest) → ⊥
    at_one h = at_result (subst (λ (p : ℕ). LnWithin 55 1 p (ln_of smallest)) first_place h)
      where
        at_result : LnWithin 55 1 0 (ln_of smallest) → ⊥
        at_result h = let l = subst (λ (r : Float). LnWithin 55 1 0 r) result_is h in too_far (l.near (ln_upper 20 1 0) l.upper_enclosed).0
