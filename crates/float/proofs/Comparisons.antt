-- What comparison and arithmetic tell of an f64: its sign, that it is finite, that it is no NaN, which of two is taken. The functions call the
-- library's tests; these laws hold of floats whatever a function does. Assumes nothing.
use mathlib.Core.Path.{◌≡◌, refl, sym, ap, ◌∙◌, subst}
use Prim.Native.Nat.{ℕ, ◌+◌, ◌-◌, ◌*◌, ◌^◌, ◌<◌}
use native.Mathlib.Nat.{mul-pos, zero-mul, le_refl, sub_self, eq_of_mul-eq-mul_right}
use mathlib.Core.Bool.{Bool, true, false, not, cond, ◌&&◌, ◌||◌, beq, true≢false, false≢true}
use lib.Dec.{T, ltb, eqb}
use borrow.Author.Tests.{le-ltb}
use lib.IntN.{ℤ}
use lib.Pow.{pow_pos}
use lib.Ieee.{Float, nan, inf, fin, binary64, up, down, is_nan, neg, sum, add, sub, div, lt, eq, ne, of_bits, to_bits, round}
use lib.Ieee.Fits.{down_pos}
use lib.Ieee.Exact.{HasValue, round_exact}
use lib.Ieee.Compare.{nan_differs, differs_from_itself}
use Rattle.float.specs.Ops.{f1}
use Rattle.float.specs.Sign.{negative_of, finite_of, abs_of, signum_of}
use Rattle.float.proofs.RoundTrip.{canonical}
use Rattle.float.proofs.SignLaws.{zero_is}

-- ---- no NaN
pub same_no_nan : (x : Float) → ne x x ≡ false → T (not (is_nan x))
unfolding is_nan
same_no_nan nan h = absurd (true≢false (sym nan_differs ∙ h))
same_no_nan (inf s) h = tt
same_no_nan (fin s m e) h = tt

pub equal_no_nan : (x : Float) → eq x x ≡ true → T (not (is_nan x))
unfolding eq is_nan
equal_no_nan nan h = absurd (false≢true h)
equal_no_nan (inf s) h = tt
equal_no_nan (fin s m e) h = tt

pub less_no_nan : (x y : Float) → lt x y ≡ true → T (not (is_nan x))
unfolding lt is_nan
less_no_nan nan y h = absurd (false≢true h)
less_no_nan (inf s) y h = tt
less_no_nan (fin s m e) y h = tt

pub nan_bits_lem : (x : Float) → eq x x ≡ false → to_bits binary64 x ≡ canonical
unfolding ne to_bits
nan_bits_lem x h = ap (to_bits binary64) (differs_from_itself x (subst (λ (b : Bool). T (not b)) (sym h) tt))

pub nan_quotient : div binary64 (of_bits binary64 0) (of_bits binary64 0) ≡ nan
unfolding div of_bits
nan_quotient = refl

pub minus_infinity_quotient : div binary64 (neg (of_bits binary64 0x3ff0_0000_0000_0000)) (of_bits binary64 0) ≡ inf true
unfolding div neg of_bits
minus_infinity_quotient = refl

-- ---- the sign
-- one divided by a zero is the infinity of the zero's sign
zero_quotient : (s : Bool) (e : ℤ) → lt (div binary64 f1 (fin s 0 e)) (of_bits binary64 0) ≡ negative_of (fin s 0 e)
unfolding lt div of_bits negative_of
zero_quotient true e = refl
zero_quotient false e = refl

pub zero_negative : (x : Float) → eq x (of_bits binary64 0) ≡ true → lt (div binary64 f1 x) (of_bits binary64 0) ≡ negative_of x
zero_negative x h = let z = zero_is x h in ap (λ (v : Float). lt (div binary64 f1 v) (of_bits binary64 0)) z.2 ∙ zero_quotient z.0 z.1 ∙ ap negative_of (sym z.2)

pub abs_is : (x : Float) (b : Bool) → negative_of x ≡ b → cond b (neg x) x ≡ abs_of x
unfolding negative_of abs_of neg
abs_is nan true h = refl
abs_is nan false h = refl
abs_is (inf true) true h = refl
abs_is (inf true) false h = absurd (true≢false h)
abs_is (inf false) true h = absurd (false≢true h)
abs_is (inf false) false h = refl
abs_is (fin true m e) true h = refl
abs_is (fin true m e) false h = absurd (true≢false h)
abs_is (fin false m e) true h = absurd (false≢true h)
abs_is (fin false m e) false h = refl

pub signum_nan : (x : Float) → ne x x ≡ true → x ≡ signum_of x
unfolding signum_of
signum_nan x h = let e = differs_from_itself x (subst T (sym h) tt) in e ∙ ap signum_of (sym e)

pub signum_is : (x : Float) (b : Bool) → ne x x ≡ false → negative_of x ≡ b → cond b (neg f1) f1 ≡ signum_of x
unfolding signum_of negative_of
signum_is nan b g h = absurd (true≢false (sym nan_differs ∙ g))
signum_is (inf s) b g h = ap (λ (t : Bool). cond t (neg f1) f1) (sym h)
signum_is (fin s m e) b g h = ap (λ (t : Bool). cond t (neg f1) f1) (sym h)

-- ---- the greater and the lesser of two: `before` is the test that gives the second number
pub second_of_nan : (x y : Float) (before : Bool) → ne x x ≡ true → y ≡ cond (is_nan x || before) y x
unfolding is_nan
second_of_nan x y before h = let e = differs_from_itself x (subst T (sym h) tt) in sym (ap (λ (v : Float). cond (is_nan v || before) y v) e)

pub one_of_two : (x y : Float) (before b : Bool) → ne x x ≡ false → before ≡ b → cond b y x ≡ cond (is_nan x || before) y x
unfolding is_nan
one_of_two nan y before b g h = absurd (true≢false (sym nan_differs ∙ g))
one_of_two (inf s) y before b g h = ap (λ (t : Bool). cond t y (inf s)) (sym h)
one_of_two (fin s m e) y before b g h = ap (λ (t : Bool). cond t y (fin s m e)) (sym h)

-- ---- x - x is zero where x is finite
is_zero : (v : Float) (c : ℕ) → 0 < c → HasValue v false 0 c → eq v (of_bits binary64 0) ≡ true
unfolding eq of_bits
is_zero nan c p h = absurd h
is_zero (inf s) c p h = absurd h
is_zero (fin s m e) c p h = go (m * up e) (down e) s (eq_of_mul-eq-mul_right c p (m * up e) 0 (h.1 ∙ zero-mul (down e) ∙ sym (zero-mul c)))
  where
    at_zero : (d : ℕ) (s : Bool) → eqb (0 * 1) (0 * 1 * d) && (beq s false || eqb (0 * 1) 0) ≡ true
    at_zero d true = ap (λ (k : ℕ). eqb 0 k && true) (zero-mul d)
    at_zero d false = ap (λ (k : ℕ). eqb 0 k && true) (zero-mul d)

    go : (a d : ℕ) (s : Bool) → a ≡ 0 → eqb (a * 1) (0 * 1 * d) && (beq s false || eqb (a * 1) 0) ≡ true
    go a d s e = ap (λ (k : ℕ). eqb (k * 1) (0 * 1 * d) && (beq s false || eqb (k * 1) 0)) e ∙ at_zero d s

nothing_left : (s : Bool) (a c : ℕ) → 0 < c → eq (sum binary64 s a (not s) a c) (of_bits binary64 0) ≡ true
unfolding sum
nothing_left s a c p = ap (λ (v : Float). eq v (of_bits binary64 0)) (by_sign s (ltb a a) (le-ltb a a (le_refl a)) (a - a) (sub_self a)) ∙ is_zero (round binary64 false 0 c) c p (round_exact binary64 false 0 c 0 0 p (pow_pos 53) (pow_pos 2098) (none c))
  where
    none : (c : ℕ) → 0 * 2 ^ 1074 ≡ 0 * 2 ^ 0 * c
    none c = zero-mul (2 ^ 1074) ∙ sym (zero-mul c)

    by_sign : (s b : Bool) → b ≡ false → (d : ℕ) → d ≡ 0 → cond (beq s (not s)) (round binary64 s (a + a) c) (cond b (round binary64 (not s) d c) (round binary64 (s && b) d c)) ≡ round binary64 false 0 c
    by_sign s true h d z = absurd (true≢false h)
    by_sign true false h d z = ap (λ (k : ℕ). round binary64 false k c) z
    by_sign false false h d z = ap (λ (k : ℕ). round binary64 false k c) z

pub finite_is : (x : Float) → eq (sub binary64 x x) (of_bits binary64 0) ≡ finite_of x
unfolding sub add neg finite_of
finite_is nan = unfold eq in refl
finite_is (inf true) = unfold eq in refl
finite_is (inf false) = unfold eq in refl
finite_is (fin s m e) = nothing_left s (m * up e * down e) (down e * down e) (mul-pos (down_pos e) (down_pos e))
