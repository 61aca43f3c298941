-- The ends of specs/LnNear.antt enclose: with one term more the lower end goes up and the upper end goes down, first of one series, s = a / b below 1, then of ln x.
-- No denominator is zero, and the lower end is no more than the upper one. Assumes nothing.
use mathlib.Core.Path.{◌≡◌, sym, ap, subst}
use Prim.Native.Nat.{ℕ, suc, ◌+◌, ◌-◌, ◌*◌, ◌^◌, ◌≤◌, ◌<◌, zero-le}
use native.Mathlib.Nat.{le_trans, le_of_eq, le_of_lt, lt_of_le_of_lt, mul-pos, mul-le-mul_right, mul-le-mul_left, mul-lt-mul_of_pos_right, one-le-pow}
use native.Mathlib.Omega.{arith}
use lib.Pow.{pow_pos}
use Rattle.ln_near.specs.Fractions.{Frac, ◌+ᶠ◌, times, ◌≤ᶠ◌, Number, Proper, AtMost}
use Rattle.ln_near.specs.LnNear.{term, terms, tail, without_tail, with_tail, ln_end, ln_lower, ln_upper, Enclosed}
use Rattle.ln_near.proofs.Fractions.{sum_le, times_le, at_most, at_most_refl, at_most_trans}
use Rattle.ln_near.proofs.Series.{terms_pos, pow_next, odd_pos}

more_at : (m c n d : ℕ) → m * (c * d) ≤ (m * d + n * c) * c
more_at m c n d = omega arith

-- a sum is no less than its first part
more : (f g : Frac) → f ≤ᶠ f +ᶠ g
more f g = more_at f.num f.den g.num g.den

regroup_at : (xn xd yn yd un ud vn vd : ℕ) → (yn * ud + un * yd) * vd ≤ vn * (yd * ud) → ((xn * yd + yn * xd) * ud + un * (xd * yd)) * (xd * vd) ≤ (xn * vd + vn * xd) * (xd * yd * ud)
regroup_at xn xd yn yd un ud vn vd h =
    let a : (yn * ud + un * yd) * vd * (xd * xd) ≤ vn * (yd * ud) * (xd * xd) = mul-le-mul_right (xd * xd) h in
    omega (arith, a)

regroup : (x y u v : Frac) → y +ᶠ u ≤ᶠ v → x +ᶠ y +ᶠ u ≤ᶠ x +ᶠ v
regroup x y u v h = regroup_at x.num x.den y.num y.den u.num u.den v.num v.den h

-- 1 / q + z / q' / (1 − z) ≤ 1 / q / (1 − z), for q ≤ q', z = c / d and x = d − c; times a / e
tail_at : (a e c d q q' x : ℕ) → q' * x + c * q ≤ d * q' → (a * (e * d * q' * x) + a * c * d * (e * q)) * (e * q * x) ≤ a * d * (e * q * (e * d * q' * x))
tail_at a e c d q q' x h =
    le_trans (le_of_eq (ap (λ (v : ℕ). v * (e * q * x)) front)) (le_trans (mul-le-mul_right (e * q * x) (mul-le-mul_left (a * (e * d)) h)) (le_of_eq (back (e * q) (e * d))))
  where
    front : a * (e * d * q' * x) + a * c * d * (e * q) ≡ a * (e * d) * (q' * x + c * q)
    front = omega arith

    back : (y u : ℕ) → a * u * (d * q') * (y * x) ≡ a * d * (y * (u * q' * x))
    back y u = omega arith

tail_step : (a b n : ℕ) → a * a < b * b → term a b n +ᶠ tail a b (suc n) ≤ᶠ tail a b n
unfolding term tail
tail_step a b n l =
    subst (λ (e' : ℕ). (a ^ (2 * n + 1) * (e' * (2 * suc n + 1) * (b * b - a * a)) + a ^ (2 * suc n + 1) * (b * b) * (b ^ (2 * n + 1) * (2 * n + 1))) * (b ^ (2 * n + 1) * (2 * n + 1) * (b * b - a * a))
    ≤ a ^ (2 * n + 1) * (b * b) * (b ^ (2 * n + 1) * (2 * n + 1) * (e' * (2 * suc n + 1) * (b * b - a * a)))) (sym (pow_next b n))
    (subst (λ (a' : ℕ). (a ^ (2 * n + 1) * (b ^ (2 * n + 1) * (b * b) * (2 * suc n + 1) * (b * b - a * a)) + a' * (b * b) * (b ^ (2 * n + 1) * (2 * n + 1))) * (b ^ (2 * n + 1) * (2 * n + 1) * (b * b - a * a))
    ≤ a ^ (2 * n + 1) * (b * b) * (b ^ (2 * n + 1) * (2 * n + 1) * (b ^ (2 * n + 1) * (b * b) * (2 * suc n + 1) * (b * b - a * a)))) (sym (pow_next a n))
    (tail_at (a ^ (2 * n + 1)) (b ^ (2 * n + 1)) (a * a) (b * b) (2 * n + 1) (2 * suc n + 1) (b * b - a * a) (core n (a * a) (b * b) (b * b - a * a) (split (a * a) (b * b) l))))
  where
    split : (c d : ℕ) → c < d → d ≡ d - c + c
    split c d h = omega arith

    core : (n c d x : ℕ) → d ≡ x + c → (2 * suc n + 1) * x + c * (2 * n + 1) ≤ d * (2 * suc n + 1)
    core n c d x e = let f : d * (2 * suc n + 1) ≡ (x + c) * (2 * suc n + 1) = ap (λ (v : ℕ). v * (2 * suc n + 1)) e in omega (arith, f)

module _ (a b : ℕ) (l : a < b) where
  b_pos : 0 < b
  b_pos = lt_of_le_of_lt zero-le l

  squares : a * a < b * b
  squares = lt_of_le_of_lt (mul-le-mul_left a (le_of_lt l)) (mul-lt-mul_of_pos_right l b_pos)

  -- no denominator is zero
  pub terms_proper : (n : ℕ) → 0 < (terms a b n).den
  terms_proper n = terms_pos a b b_pos n

  pub tail_proper : (n : ℕ) → 0 < (tail a b n).den
  unfolding tail
  tail_proper n = mul-pos (mul-pos (one-le-pow (2 * n + 1) b b_pos) (odd_pos n)) (apart (a * a) (b * b) squares)
    where
      apart : (c d : ℕ) → c < d → 0 < d - c
      apart c d h = omega arith

  -- with one term more
  pub lower_rises : (n : ℕ) → terms a b n ≤ᶠ terms a b (suc n)
  unfolding terms
  lower_rises n = more (terms a b n) (term a b n)

  pub upper_falls : (n : ℕ) → terms a b (suc n) +ᶠ tail a b (suc n) ≤ᶠ terms a b n +ᶠ tail a b n
  unfolding terms
  upper_falls n = regroup (terms a b n) (term a b n) (tail a b (suc n)) (tail a b n) (tail_step a b n squares)

  pub in_order : (n : ℕ) → terms a b n ≤ᶠ terms a b n +ᶠ tail a b n
  in_order n = more (terms a b n) (tail a b n)

  -- the same of both sides of an end
  pub without_rises : (k : ℕ) → without_tail k a b ≤ᶠ without_tail (suc k) a b
  unfolding without_tail
  without_rises k = times_le 2 (terms a b k) (terms a b (suc k)) (lower_rises k)

  pub with_falls : (k : ℕ) → with_tail (suc k) a b ≤ᶠ with_tail k a b
  unfolding with_tail
  with_falls k = times_le 2 (terms a b (suc k) +ᶠ tail a b (suc k)) (terms a b k +ᶠ tail a b k) (upper_falls k)

  pub without_with : (k : ℕ) → without_tail k a b ≤ᶠ with_tail k a b
  unfolding without_tail with_tail
  without_with k = times_le 2 (terms a b k) (terms a b k +ᶠ tail a b k) (in_order k)

  pub without_proper : (k : ℕ) → 0 < (without_tail k a b).den
  unfolding without_tail
  without_proper k = terms_proper k

  pub with_proper : (k : ℕ) → 0 < (with_tail k a b).den
  unfolding with_tail
  with_proper k = mul-pos (terms_proper k) (tail_proper k)

-- ---- the ends for an x of n units
third : 1 < 3
third = omega arith

module _ (n p : ℕ) (N : 0 < n) where
  above : n - 2 ^ p < n + 2 ^ p
  above = go (2 ^ p) (pow_pos p)
    where
      go : (q : ℕ) → 0 < q → n - q < n + q
      go q h = omega arith

  below : 2 ^ p - n < n + 2 ^ p
  below = go (2 ^ p)
    where
      go : (q : ℕ) → q - n < n + q
      go q = omega (arith, N)

  -- an end's denominators, and which of two ends is the lower, from those of its fractions for any s below 1
  end_proper : (over under : ℕ → ℕ → Frac) → ((a b : ℕ) → a < b → 0 < (over a b).den) → ((a b : ℕ) → a < b → 0 < (under a b).den) → Proper (ln_end over under n p)
  unfolding ln_end
  end_proper over under h k = (mul-pos (h 1 3 third) (h (n - 2 ^ p) (n + 2 ^ p) above), mul-pos (k 1 3 third) (k (2 ^ p - n) (n + 2 ^ p) below))

  side_le : (e : ℕ) (f g : ℕ → ℕ → Frac) (a b : ℕ) → a < b → ((a b : ℕ) → a < b → f a b ≤ᶠ g a b) → times e (f 1 3) +ᶠ f a b ≤ᶠ times e (g 1 3) +ᶠ g a b
  side_le e f g a b l h = sum_le (times e (f 1 3)) (f a b) (times e (g 1 3)) (g a b) (times_le e (f 1 3) (g 1 3) (h 1 3 third)) (h a b l)

  end_le : (over under over' under' : ℕ → ℕ → Frac) → ((a b : ℕ) → a < b → over a b ≤ᶠ over' a b) → ((a b : ℕ) → a < b → under' a b ≤ᶠ under a b) → AtMost (ln_end over under n p) (ln_end over' under' n p)
  unfolding ln_end
  end_le over under over' under' h k =
      at_most (ln_end over under n p) (ln_end over' under' n p) (side_le (p - 1074) over over' (n - 2 ^ p) (n + 2 ^ p) above h) (side_le (1074 - p) under' under (2 ^ p - n) (n + 2 ^ p) below k)

  module _ (k : ℕ) where
    pub lower_proper : Proper (ln_lower k n p)
    unfolding ln_lower
    lower_proper = end_proper (without_tail k) (with_tail k) (λ a b l. without_proper a b l k) (λ a b l. with_proper a b l k)

    pub upper_proper : Proper (ln_upper k n p)
    unfolding ln_upper
    upper_proper = end_proper (with_tail k) (without_tail k) (λ a b l. with_proper a b l k) (λ a b l. without_proper a b l k)

    lower_upper : AtMost (ln_lower k n p) (ln_upper k n p)
    unfolding ln_lower ln_upper
    lower_upper = end_le (without_tail k) (with_tail k) (with_tail k) (without_tail k) (λ a b l. without_with a b l k) (λ a b l. without_with a b l k)

    pub lower_enclosed : Enclosed k n p (ln_lower k n p)
    lower_enclosed = record { proper = lower_proper; from = at_most_refl (ln_lower k n p); to = lower_upper }

    pub upper_enclosed : Enclosed k n p (ln_upper k n p)
    upper_enclosed = record { proper = upper_proper; from = lower_upper; to = at_most_refl (ln_upper k n p) }

    lower_up : AtMost (ln_lower k n p) (ln_lower (suc k) n p)
    unfolding ln_lower
    lower_up = end_le (without_tail k) (with_tail k) (without_tail (suc k)) (with_tail (suc k)) (λ a b l. without_rises a b l k) (λ a b l. with_falls a b l k)

    upper_down : AtMost (ln_upper (suc k) n p) (ln_upper k n p)
    unfolding ln_upper
    upper_down = end_le (with_tail (suc k)) (without_tail (suc k)) (with_tail k) (without_tail k) (λ a b l. with_falls a b l k) (λ a b l. without_rises a b l k)

-- what lies between the ends by one term more lies between the ends
pub narrows : (k n p : ℕ) → 0 < n → (v : Number) → Enclosed (suc k) n p v → Enclosed k n p v
narrows k n p N v e = record {
  proper = e.proper;
  from = at_most_trans (ln_lower k n p) (ln_lower (suc k) n p) v (lower_proper n p N (suc k)) (lower_up n p N k) e.from;
  to = at_most_trans v (ln_upper (suc k) n p) (ln_upper k n p) (upper_proper n p N (suc k)) e.to (upper_down n p N k);
}
