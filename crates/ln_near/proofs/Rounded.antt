-- How far a rounded value is from the exact one: num / den is rounded to a number of units of 2^−1074 that is off by no more than 2^−53 of it and one unit.
-- Assumes nothing.
use mathlib.Core.Path.{◌≡◌, refl, sym, ap, ◌∙◌, subst}
use Prim.Native.Nat.{ℕ, ◌+◌, ◌-◌, ◌*◌, ◌/◌, ◌%◌, ◌^◌, ◌≤◌, ◌<◌, compare, Ordering}
use native.Mathlib.Nat.{le_trans, le_of_eq, lt_of_not-le, lt_of_lt_of_le, mul_assoc, mul_right_comm, mul-one, mul-pos, mul-le-mul_right, mul-le-mul_left, div-add-mod', mod-lt, le-div_iff_mul-le}
use native.Mathlib.Decide.{dec_le}
use native.Mathlib.Omega.{arith}
use mathlib.Core.Bool.{Bool}
use lib.Dec.{lit≤}
use lib.Pow.{pow-add, pow_pos}
use lib.Ieee.{Float, binary64, size, nearest, round}
use lib.Ieee.Digits.{size_reaches}
use lib.Ieee.Fits.{round_is}
use lib.Ieee.Exact.{HasValue, units_val}
use lib.Ieee.Nearest.{closest}
use Rattle.float.proofs.Cmp.{Cmp, cmp}

-- a and b are no further apart than e
abbrev pub Near : ℕ → ℕ → ℕ → Type 0
Near a b e = (a ≤ b + e) × (b ≤ a + e)

-- ---- `closest` is within a half
module _ (S u : ℕ) (H : 0 < u) where
  within : (q r : ℕ) → q * u + r ≡ S → r < u → q % 2 * u ≤ 1 * u → (o : Ordering) → Cmp o (r * 2) u → Near (nearest q o * u * 2) (S * 2) u
  within q r d l f Ordering.lt c = (omega arith, omega arith)
  within q r d l f Ordering.eq c = (omega arith, omega arith)
  within q r d l f Ordering.gt c = (omega arith, omega arith)

  pub closest_half : Near (closest S u * u * 2) (S * 2) u
  closest_half =
      let q = S / u in
      let b : q % 2 ≤ 1 = omega arith in
      within q (S % u) (div-add-mod' S u) (mod-lt S H) (mul-le-mul_right u b) (compare (S % u * 2) u) (cmp (S % u * 2) u)

-- ---- g is c · t, with t = 2 ^ k; k digits are dropped, and where any is, t · 2 ^ 52 is no more than the number
few : (c t n den num U w : ℕ) → Near (c * (den * t) * 2) (n * 2) (den * t) → t ≡ 1 → n ≡ num * U → Near (c * t * den) (num * U) (num * w + den)
few c t n den num U w h e f = let g : den * t ≡ den = ap (λ (x : ℕ). den * x) e ∙ mul-one den in (omega arith, omega arith)

many : (c t n den num U w : ℕ) → Near (c * (den * t) * 2) (n * 2) (den * t) → t * 2 ^ 52 * den ≤ n → n ≡ num * U → U ≡ w * 2 ^ 53 → Near (c * t * den) (num * U) (num * w + den)
many c t n den num U w h l f s = last (half_of (t * den) (num * w) (le_trans (le_of_eq (mul_right_comm t den (2 ^ 52))) (le_trans l (le_of_eq (f ∙ ap (λ (x : ℕ). num * x) s ∙ sym (mul_assoc num w (2 ^ 53)))))))
  where
    half_of : (a b : ℕ) → a * 2 ^ 52 ≤ b * 2 ^ 53 → a ≤ 2 * b
    half_of a b h = omega arith

    rest : (v x : ℕ) → n ≡ v → t * den ≤ 2 * x → Near (c * t * den) v (x + den)
    rest v x f g = (omega (arith, h.0), omega (arith, h.1))

    last : t * den ≤ 2 * (num * w) → Near (c * t * den) (num * U) (num * w + den)
    last g = rest (num * U) (num * w) f g

-- ---- nothing overflows
room : (g den num B U w : ℕ) → 0 < den → num ≤ B * den → w ≤ U → 1 ≤ B * U → g * den ≤ num * U + (num * w + den) → g < 4 * (B * U)
room g den num B U w D l W O h =
    lt_of_not-le (λ (k : 4 * (B * U) ≤ g).
    let a : num * U ≤ B * den * U = mul-le-mul_right U l in
    let b : num * w ≤ num * U = mul-le-mul_left num W in
    let c : 1 * den ≤ B * U * den = mul-le-mul_right den O in
    let d : 4 * (B * U) * den ≤ g * den = mul-le-mul_right den k in
    omega arith)

-- what `round` gives
pub record Rounded (x : Float) (s : Bool) (num den : ℕ) : Type 0 where
  pub g : ℕ
  pub value : HasValue x s g (2 ^ 1074)
  pub near : Near (g * den) (num * 2 ^ 1074) (num * 2 ^ 1021 + den)

module _ (s : Bool) (num den : ℕ) (D : 0 < den) where
  dropped : ℕ
  dropped = size (num * 2 ^ 1074 / den) - 53

  kept : ℕ
  kept = closest (num * 2 ^ 1074) (den * 2 ^ dropped)

  half : Near (kept * (den * 2 ^ dropped) * 2) (num * 2 ^ 1074 * 2) (den * 2 ^ dropped)
  unfolding kept
  half = closest_half (num * 2 ^ 1074) (den * 2 ^ dropped) (mul-pos D (pow_pos dropped))

  off : Near (kept * 2 ^ dropped * den) (num * 2 ^ 1074) (num * 2 ^ 1021 + den)
  unfolding dropped
  off = go (dec_le (size (num * 2 ^ 1074 / den)) 53)
    where
      all : (z : ℕ) → z ≤ 53 → z - 53 ≡ 0
      all z h = omega arith

      under : (z : ℕ) → 53 < z → z - 53 + 52 < z
      under z h = omega arith

      go : Dec (size (num * 2 ^ 1074 / den) ≤ 53) → Near (kept * 2 ^ dropped * den) (num * 2 ^ 1074) (num * 2 ^ 1021 + den)
      go (yes h) = few kept (2 ^ dropped) (num * 2 ^ 1074) den num (2 ^ 1074) (2 ^ 1021) half (ap (λ (x : ℕ). 2 ^ x) (all (size (num * 2 ^ 1074 / den)) h)) refl
      go (no h) =
          many kept (2 ^ dropped) (num * 2 ^ 1074) den num (2 ^ 1074) (2 ^ 1021) half
          (le_trans (le_of_eq (ap (λ (x : ℕ). x * den) (sym (pow-add 2 dropped 52)))) ((le-div_iff_mul-le D).0 (size_reaches (num * 2 ^ 1074 / den) (dropped + 52) (under (size (num * 2 ^ 1074 / den)) (lt_of_not-le h)))))
          refl refl

  pub rounded : num ≤ 2 ^ 1000 * den → Rounded (round binary64 s num den) s num den
  unfolding dropped kept
  rounded l =
      let small : kept * 2 ^ dropped < 2 ^ 2098 = lt_of_lt_of_le (room (kept * 2 ^ dropped) den num (2 ^ 1000) (2 ^ 1074) (2 ^ 1021) D l (lit≤ tt) (lit≤ tt) off.0) (lit≤ tt) in
      record {
        g = kept * 2 ^ dropped;
        value = subst (λ (x : Float). HasValue x s (kept * 2 ^ dropped) (2 ^ 1074)) (sym (round_is binary64 s num den)) (units_val binary64 s kept dropped small);
        near = off;
      }
