-- For every finite x above zero the float logarithm is within (|E| + 1)·2^−50 of the exact one, in the words of specs/LnNear.antt: the law stands at the end. Assumes nothing.
use mathlib.Core.Path.{◌≡◌, refl, sym, ap, ◌∙◌, subst}
use Prim.Native.Nat.{ℕ, suc, ◌+◌, ◌-◌, ◌*◌, ◌^◌, ◌≤◌, ◌<◌}
use native.Mathlib.Nat.{le_trans, le_of_eq, le_of_lt, le-add_left, lt_of_lt_of_le, lt_of_not-le, not-le_of_lt, mul-pos, mul_assoc, mul-one, mul-le-mul_right, mul-lt-mul_of_pos_right, lt_of_mul-lt-mul_right, eq_of_mul-eq-mul_right, zero-lt-suc, pow-succ'}
use native.Mathlib.Decide.{dec_le}
use native.Mathlib.Omega.{arith}
use mathlib.Core.Bool.{Bool, true, false, cond}
use lib.Dec.{T, lit≤}
use lib.Pow.{pow-add, pow_pos, pow_mono, shl_lt}
use lib.Ieee as Ieee
use lib.Ieee.{Float, nan, inf, fin, binary64, fits, size, round, lt, le, of_int, of_bits}
use lib.Ieee.Fits.{down_pos}
use lib.Ieee.Digits.{size-lt, size-le, size_reaches}
use lib.Ieee.Exact.{HasValue, round_exact}
use lib.Ieee.Order.{le_of_values}
use lib.Ieee.Positive.{positive, positive_of_value, values_of_le, mul_at}
use Rattle.float.specs.Ops.{◌⊕◌, ◌⊖◌, ◌⊗◌, ◌⊘◌, f0, f1, f2}
use Rattle.float.specs.Sign.{finite_of}
use Rattle.float.specs.Nearest.{units_of}
use Rattle.float.specs.Ln.{ln2_high, ln2_low, halves, series, reduced_ln, ln_at, ln_units, ln_of}
use Rattle.ln_near.specs.Fractions.{Frac, ◌+ᶠ◌, times, Proper, Within, value_of}
use Rattle.ln_near.specs.LnNear.{without_tail, with_tail, place, ln_end, ln_lower, ln_upper, allowed, LnWithin, LnNear}
use Rattle.ln_near.proofs.Rounded.{Near}
use Rattle.ln_near.proofs.Operations.{mul_near, add_near, plus, minus}
use Rattle.ln_near.proofs.Steps as steps
use Rattle.ln_near.proofs.Close.{Close, close_sum, close_times, close_within, value_close}
use Rattle.ln_near.proofs.Encloses.{lower_proper, upper_proper, lower_enclosed, upper_enclosed}
use Rattle.ln_near.proofs.Fractions.{between}
use Rattle.ln_near.proofs.Reduced.{room, in_units, ratio_above, ratio_below, series_near, W, UW', unlike_right}
use Rattle.ln_near.proofs.Ends.{allowed_close, Sides, sides_above, sides_below, high, low, high_value, low_value, ln2_without, ln2_with, exponent}
use Rattle.float.proofs.Above.{above_units}
use Rattle.float.proofs.Nearest.{shape, units_lt, units_exact, of_value, positive_units}

-- ---- what r has to meet, for x of n units and p the place after halving
record Good (n p : ℕ) (r : Float) : Type 0 where
  pub finite : finite_of r ≡ true
  pub lower : Within (allowed 50 p) (value_of r) (ln_lower 20 n p)
  pub upper : Within (allowed 50 p) (value_of r) (ln_upper 20 n p)

-- ---- the last sum: o − o' is the result, e − e' is E, r − r' is 2sh, q + q' how far that is off. s is |E| · w
halved : (s w o o' x x' : ℕ) → Near (2 * (o + x')) (2 * (o' + x)) (6 * s + 4 * w) → Near (o + x') (x + o') (3 * s + 2 * w)
halved s w o o' x x' h = (omega (arith, h.0), omega (arith, h.1))

budget : (w e e' q q' : ℕ) → q + q' ≤ 6 * w → 3 * ((e + e') * w) + 2 * w + (0 + 0 + (e * w + q + (e' * w + q'))) ≤ (e + e' + 1) * (8 * w)
budget w e e' q q' l = omega (arith, l)

-- F, F' close to ln 2, G and G' to the two sides of ln M
meets : (v : Float) (p : ℕ) (F F' G G' : Frac) (o : Bool) (O r r' q q' : ℕ) → HasValue v o O (2 ^ 1074) → q + q' ≤ 6 * 2 ^ 1021
    → Close (2 ^ 1074) F (high + low) (2 ^ 1021) → Close (2 ^ 1074) F' (high + low) (2 ^ 1021) → Close (2 ^ 1074) G r q → Close (2 ^ 1074) G' r' q'
    → Near (2 * (plus o O + ((1074 - p) * (high + low) + r'))) (2 * (minus o O + ((p - 1074) * (high + low) + r))) (6 * (((p - 1074) + (1074 - p)) * 2 ^ 1021) + 4 * 2 ^ 1021)
    → Within (allowed 50 p) (value_of v) (record { plus = times (p - 1074) F +ᶠ G; minus = times (1074 - p) F' +ᶠ G' })
meets v p F F' G G' o O r r' q q' x l cF cF' cG cG' h =
    let U = 2 ^ 1074 in
    let w = 2 ^ 1021 in
    let e = p - 1074 in
    let e' = 1074 - p in
    let L = high + low in
    close_within U (pow_pos 1074) (allowed 50 p) ((e + e' + 1) * (8 * w)) (allowed_close p) (value_of v) (record { plus = times e F +ᶠ G; minus = times e' F' +ᶠ G' })
    (plus o O) (minus o O) (e * L + r) (e' * L + r') 0 0 (e * w + q) (e' * w + q') (value_close v o O x).0 (value_close v o O x).1
    (close_sum U (times e F) G (e * L) r (e * w) q (close_times U e F L w cF) cG) (close_sum U (times e' F') G' (e' * L) r' (e' * w) q' (close_times U e' F' L w cF') cG')
    (3 * ((e + e') * w) + 2 * w) (halved ((e + e') * w) w (plus o O) (minus o O) (e * L + r) (e' * L + r') h) (budget w e e' q q' l)

-- ---- E · high + (E · low + 2sh), where 2sh is y
split_near : (s : Bool) (x k e e' h w : ℕ) → plus s k ≡ e → minus s k ≡ e' → Near x (k * h) (k * w + 1) → Near (plus s x) (e * h) (e * w + 1) × Near (minus s x) (e' * h) (e' * w + 1)
split_near false x k e e' h w i j n = (subst (λ (e : ℕ). Near x (e * h) (e * w + 1)) i n, subst (λ (e : ℕ). Near 0 (e * h) (e * w + 1)) j (nothing h w))
  where
    nothing : (h w : ℕ) → Near 0 (0 * h) (0 * w + 1)
    nothing h w = omega arith
split_near true x k e e' h w i j n = (subst (λ (e : ℕ). Near 0 (e * h) (e * w + 1)) i (nothing h w), subst (λ (e : ℕ). Near x (e * h) (e * w + 1)) j n)
  where
    nothing : (h w : ℕ) → Near 0 (0 * h) (0 * w + 1)
    nothing h w = omega arith

whole : (t : Bool) (R : ℕ) → plus t R + minus t R ≡ R
whole false R = omega arith
whole true R = omega arith

scaled : (E h : Float) (s : Bool) (e k : ℕ) → e ≤ 1100 → k ≤ 2 ^ 1074 → HasValue E s (e * 2 ^ 1074) (2 ^ 1074) → HasValue h false k (2 ^ 1074) → (x : ℕ) × HasValue (E ⊗ h) s x (2 ^ 1074) × Near x (e * k) (e * 2 ^ 1021 + 1)
scaled E h s e k few l v u =
    let r = mul_near E h s false (e * 2 ^ 1074) k v u (room (e * 2 ^ 1074) k (2 ^ 1074) (2 ^ 1000) (some e (2 ^ 1074) few) (one k (2 ^ 1074) l) (lit≤ tt)) in
    (r.g, subst (λ (b : Bool). HasValue (E ⊗ h) b r.g (2 ^ 1074)) (unlike_right s) r.value, steps.scale_near (2 ^ 1074) (2 ^ 1021) r.g e k (pow_pos 1074) l r.near)
  where
    some : (e U : ℕ) → e ≤ 1100 → e * U ≤ 2000 * U
    some e U h = mul-le-mul_right U (le_trans h (lit≤ tt))

    one : (k U : ℕ) → k ≤ U → k ≤ 2000 * U
    one k U h = omega arith

sum_good : (n p : ℕ) (y : Float) (t : Bool) (R : ℕ) → p ≤ 2100 → HasValue y t R (2 ^ 1074) → 20 * R ≤ 9 * 2 ^ 1074 → Sides t n (2 ^ p) R → Good n p (of_int binary64 (Ieee.minus p 1074) ⊗ ln2_high ⊕ (of_int binary64 (Ieee.minus p 1074) ⊗ ln2_low ⊕ y))
unfolding ln_lower ln_upper ln_end
sum_good n p y t R lp v small sides =
    let x = exponent p lp in
    let E = of_int binary64 (Ieee.minus p 1074) in
    let a = scaled E ln2_high x.s x.e high x.few (lit≤ tt) x.value high_value in
    let b = scaled E ln2_low x.s x.e low x.few (lit≤ tt) x.value low_value in
    let na = split_near x.s a.0 x.e (p - 1074) (1074 - p) high (2 ^ 1021) x.above x.below a.2 in
    let nb = split_near x.s b.0 x.e (p - 1074) (1074 - p) low (2 ^ 1021) x.above x.below b.2 in
    let ls = steps.low_small (2 ^ 1074) (2 ^ 1021) (p - 1074) (1074 - p) low (plus x.s b.0) (minus x.s b.0) W UW' (total p lp) (lit≤ tt) nb.0.0 nb.1.0 in
    let lr : 20 * (plus t R + minus t R) ≤ 9 * 2 ^ 1074 = subst (λ (k : ℕ). 20 * k ≤ 9 * 2 ^ 1074) (sym (whole t R)) small in
    let i = add_near 2 1 (zero-lt-suc 1) (lit≤ tt) (E ⊗ ln2_low) y x.s t b.0 R b.1 v (steps.inner_room (2 ^ 1074) (plus x.s b.0) (minus x.s b.0) (plus t R) (minus t R) ls lr) in
    let o = add_near 1 ((p - 1074) + (1074 - p) + 1) (zero-lt-suc 0) (le_trans (more p lp) (lit≤ tt)) (E ⊗ ln2_high) (E ⊗ ln2_low ⊕ y) x.s i.s a.0 i.g a.1 i.value
    (steps.outer_room (2 ^ 1074) (2 ^ 1021) (p - 1074) (1074 - p) high (plus x.s a.0) (minus x.s a.0) (plus x.s b.0) (minus x.s b.0) (plus t R) (minus t R) (plus i.s i.g) (minus i.s i.g) W UW' (lit≤ tt) ls lr na.0 na.1 i.near) in
    let near = steps.result_near (2 ^ 1021) (p - 1074) (1074 - p) high low (plus o.s o.g) (minus o.s o.g) (plus x.s a.0) (minus x.s a.0) (plus x.s b.0) (minus x.s b.0) (plus t R) (minus t R) (plus i.s i.g) (minus i.s i.g) W na.0 na.1 nb.0 nb.1 i.near o.near in
    let r = E ⊗ ln2_high ⊕ (E ⊗ ln2_low ⊕ y) in
    let six = le_of_eq (whole t (6 * 2 ^ 1021)) in
    record {
      finite = (of_value r o.s o.g o.value).1;
      lower = meets r p (without_tail 20 1 3) (with_tail 20 1 3) (without_tail 20 (n - 2 ^ p) (n + 2 ^ p)) (with_tail 20 (2 ^ p - n) (n + 2 ^ p)) o.s o.g (plus t R) (minus t R) (plus t (6 * 2 ^ 1021)) (minus t (6 * 2 ^ 1021)) o.value six ln2_without ln2_with sides.plus_without sides.minus_with near;
      upper = meets r p (with_tail 20 1 3) (without_tail 20 1 3) (with_tail 20 (n - 2 ^ p) (n + 2 ^ p)) (without_tail 20 (2 ^ p - n) (n + 2 ^ p)) o.s o.g (plus t R) (minus t R) (plus t (6 * 2 ^ 1021)) (minus t (6 * 2 ^ 1021)) o.value six ln2_with ln2_without sides.plus_with sides.minus_without near;
    }
  where
    total : (p : ℕ) → p ≤ 2100 → (p - 1074) + (1074 - p) ≤ 1100
    total p h = omega arith

    more : (p : ℕ) → p ≤ 2100 → (p - 1074) + (1074 - p) + 1 ≤ 2000
    more p h = omega arith

-- ---- M is n / 2 ^ p, exactly, and from 0.7 to 1 / 0.7
reduced_good : (n p : ℕ) (M : Float) (μ : ℕ) → p ≤ 2100 → HasValue M false μ (2 ^ 1074) → μ * 2 ^ p ≡ n * 2 ^ 1074 → 7 * 2 ^ p ≤ 10 * n → 7 * n ≤ 10 * 2 ^ p → Good n p (reduced_ln M (Ieee.minus p 1074))
unfolding reduced_ln
reduced_good n p M μ lp v e lo hi = go (dec_le (2 ^ p) n)
  where
    s : Float
    s = (M ⊖ f1) ⊘ (M ⊕ f1)

    B : 0 < n + 2 ^ p
    B = lt_of_lt_of_le (pow_pos p) (le-add_left (2 ^ p) n)

    go : Dec (2 ^ p ≤ n) → Good n p (of_int binary64 (Ieee.minus p 1074) ⊗ ln2_high ⊕ (of_int binary64 (Ieee.minus p 1074) ⊗ ln2_low ⊕ f2 ⊗ s ⊗ series s))
    go (yes h) =
        let q = ratio_above M μ n (2 ^ p) v (pow_pos p) e lo hi h in
        let r = series_near s false (n - 2 ^ p) (n + 2 ^ p) B q in
        sum_good n p (f2 ⊗ s ⊗ series s) false r.R lp r.value r.small (sides_above n (2 ^ p) r.R B h q.least r.near)
    go (no h) =
        let k : n < 2 ^ p = lt_of_not-le h in
        let q = ratio_below M μ n (2 ^ p) v (pow_pos p) e lo hi k in
        let r = series_near s true (2 ^ p - n) (n + 2 ^ p) B q in
        sum_good n p (f2 ⊗ s ⊗ series s) true r.R lp r.value r.small (sides_below n (2 ^ p) r.R B (le_of_lt k) q.least r.near)

-- ---- an n of 53 digits over a power of two is a float, exactly
module _ (n m k q : ℕ) (small : m < 2 ^ 53) (is : n ≡ m * 2 ^ k) (near : q ≤ 1074 + k) (below : n < 2 * 2 ^ q) where
  cross : n * 2 ^ 1074 ≡ m * 2 ^ (1074 + k - q) * 2 ^ q
  cross =
      ap (λ (x : ℕ). x * 2 ^ 1074) is ∙ mul_assoc m (2 ^ k) (2 ^ 1074) ∙ ap (λ (x : ℕ). m * x) (sym (pow-add 2 k 1074) ∙ ap (λ (x : ℕ). 2 ^ x) (back k q near) ∙ pow-add 2 (1074 + k - q) q)
      ∙ sym (mul_assoc m (2 ^ (1074 + k - q)) (2 ^ q))
    where
      back : (k q : ℕ) → q ≤ 1074 + k → k + 1074 ≡ 1074 + k - q + q
      back k q h = omega arith

  fine : m * 2 ^ (1074 + k - q) < 2 ^ 2098
  fine = lt_of_lt_of_le (lt_of_mul-lt-mul_right (2 ^ q) (go (m * 2 ^ (1074 + k - q)) (2 ^ q) (2 ^ 1074) (pow_pos 1074) below cross)) (lit≤ tt)
    where
      go : (μ Q U : ℕ) → 0 < U → n < 2 * Q → n * U ≡ μ * Q → μ * Q < 2 * U * Q
      go μ Q U H l e = let a : n * U < 2 * Q * U = mul-lt-mul_of_pos_right l H in omega (arith, a, e)

  pub fraction_value : (a c : ℕ) → 0 < c → a * 2 ^ q ≡ n * c → HasValue (round binary64 false a c) false (m * 2 ^ (1074 + k - q)) (2 ^ 1074)
  fraction_value a c C e =
      in_units (round binary64 false a c) false a c (m * 2 ^ (1074 + k - q)) (2 ^ 1074) C there
      (round_exact binary64 false a c m (1074 + k - q) C small fine there)
    where
      there : a * 2 ^ 1074 ≡ m * 2 ^ (1074 + k - q) * c
      there = go (2 ^ 1074) (2 ^ q) (m * 2 ^ (1074 + k - q)) (pow_pos q) e cross
        where
          go : (U Q μ : ℕ) → 0 < Q → a * Q ≡ n * c → n * U ≡ μ * Q → a * U ≡ μ * c
          go U Q μ H i j =
              let x : a * Q * U ≡ n * c * U = ap (λ (z : ℕ). z * U) i in
              let y : n * U * c ≡ μ * Q * c = ap (λ (z : ℕ). z * c) j in
              eq_of_mul-eq-mul_right Q H (a * U) (μ * c) (omega (arith, x, y))

-- ---- the halving
bound_value : HasValue (of_bits binary64 0x3ff6_a09e_667f_3bcd) false 0x16_a09e_667f_3bcd (2 ^ 52)
unfolding of_bits
bound_value = (refl, refl)

half_value : HasValue (of_bits binary64 0x3fe0_0000_0000_0000) false 1 2
unfolding of_bits
half_value = (refl, refl)

-- n = m · 2 ^ k, and j is the place of its highest digit
module _ (n m k j : ℕ) (small : m < 2 ^ 53) (is : n ≡ m * 2 ^ k) (lo : 2 ^ j ≤ n) (hi : n < 2 * 2 ^ j) (near : j ≤ 52 + k) (far : j ≤ 2098) where
  M : Float
  M = round binary64 false n (2 ^ j)

  M-units : HasValue M false (m * 2 ^ (1074 + k - j)) (2 ^ 1074)
  unfolding M
  M-units = fraction_value n m k j small is (le_trans near (more k)) hi n (2 ^ j) (pow_pos j) refl
    where
      more : (k : ℕ) → 52 + k ≤ 1074 + k
      more k = omega arith

  M-value : HasValue M false n (2 ^ j)
  M-value = in_units M false (m * 2 ^ (1074 + k - j)) (2 ^ 1074) n (2 ^ j) (pow_pos 1074) (sym (cross n m k j small is (le_trans near (more k)) hi)) M-units
    where
      more : (k : ℕ) → 52 + k ≤ 1074 + k
      more k = omega arith

  M-pos : T (positive M)
  M-pos = positive_of_value M n (2 ^ j) M-value (lt_of_lt_of_le (pow_pos j) lo)

  good : (b : Bool) → le (of_bits binary64 0x3ff6_a09e_667f_3bcd) M ≡ b → Good n (cond b (j + 1) j) (cond b (reduced_ln (M ⊗ of_bits binary64 0x3fe0_0000_0000_0000) (Ieee.minus (j + 1) 1074)) (reduced_ln M (Ieee.minus j 1074)))
  good false e =
      reduced_good n j M (m * 2 ^ (1074 + k - j)) (le_trans far (lit≤ tt)) M-units (sym (cross n m k j small is (le_trans near (more k)) hi)) (seven n (2 ^ j) lo) (ten n (2 ^ j) under)
    where
      more : (k : ℕ) → 52 + k ≤ 1074 + k
      more k = omega arith

      under : n * 2 ^ 52 < 0x16_a09e_667f_3bcd * 2 ^ j
      under = lt_of_not-le (λ (h : 0x16_a09e_667f_3bcd * 2 ^ j ≤ n * 2 ^ 52). subst T e (le_of_values (of_bits binary64 0x3ff6_a09e_667f_3bcd) M 0x16_a09e_667f_3bcd (2 ^ 52) n (2 ^ j) (pow_pos 52) (pow_pos j) bound_value M-value h))

      seven : (n P : ℕ) → P ≤ n → 7 * P ≤ 10 * n
      seven n P h = omega arith

      ten : (n P : ℕ) → n * 2 ^ 52 < 0x16_a09e_667f_3bcd * P → 7 * n ≤ 10 * P
      ten n P h = omega arith
  good true e =
      reduced_good n (j + 1) (M ⊗ of_bits binary64 0x3fe0_0000_0000_0000) (m * 2 ^ (1074 + k - (j + 1))) (plus_one j far)
      (subst (λ (x : Float). HasValue x false (m * 2 ^ (1074 + k - (j + 1))) (2 ^ 1074)) (sym (mul_at binary64 M (of_bits binary64 0x3fe0_0000_0000_0000) n (2 ^ j) 1 2 M-pos (positive_of_value (of_bits binary64 0x3fe0_0000_0000_0000) 1 2 half_value (zero-lt-suc 0)) (pow_pos j) (zero-lt-suc 1) M-value half_value))
      (fraction_value n m k (j + 1) small is next wide (n * 1) (2 ^ j * 2) (mul-pos (pow_pos j) (zero-lt-suc 1)) (same n (2 ^ j) (2 ^ (j + 1)) double)))
      (sym (cross n m k (j + 1) small is next wide))
      (seven n (2 ^ j) (2 ^ (j + 1)) double over) (ten n (2 ^ j) (2 ^ (j + 1)) double hi)
    where
      double : 2 ^ (j + 1) ≡ 2 ^ j * 2
      double = pow-add 2 j 1

      next : j + 1 ≤ 1074 + k
      next = omega (arith, near)

      plus_one : (j : ℕ) → j ≤ 2098 → j + 1 ≤ 2100
      plus_one j h = omega arith

      wide : n < 2 * 2 ^ (j + 1)
      wide = go n (2 ^ j) (2 ^ (j + 1)) double hi
        where
          go : (n P Q : ℕ) → Q ≡ P * 2 → n < 2 * P → n < 2 * Q
          go n P Q e h = omega arith

      same : (n P Q : ℕ) → Q ≡ P * 2 → n * 1 * Q ≡ n * (P * 2)
      same n P Q e = ap (λ (x : ℕ). n * 1 * x) e ∙ ap (λ (x : ℕ). x * (P * 2)) (mul-one n)

      over : 0x16_a09e_667f_3bcd * 2 ^ j ≤ n * 2 ^ 52
      over = values_of_le (of_bits binary64 0x3ff6_a09e_667f_3bcd) M 0x16_a09e_667f_3bcd (2 ^ 52) n (2 ^ j) (positive_of_value (of_bits binary64 0x3ff6_a09e_667f_3bcd) 0x16_a09e_667f_3bcd (2 ^ 52) bound_value (zero-lt-suc _)) M-pos bound_value M-value (subst T (sym e) tt)

      seven : (n P Q : ℕ) → Q ≡ P * 2 → 0x16_a09e_667f_3bcd * P ≤ n * 2 ^ 52 → 7 * Q ≤ 10 * n
      seven n P Q e h = omega arith

      ten : (n P Q : ℕ) → Q ≡ P * 2 → n < 2 * P → 7 * n ≤ 10 * Q
      ten n P Q e h = omega arith

-- ---- for x of n units, above zero
units_good : (n m k : ℕ) → 0 < n → n < 2 ^ 2098 → m < 2 ^ 53 → n ≡ m * 2 ^ k → Good n (place n) (ln_units n)
unfolding place ln_units ln_at M
units_good n m k N U small is =
    good n m k (size n - 1) small is (size_reaches n (size n - 1) (before (size n) some)) (subst (λ (x : ℕ). n < x) (ap (λ (x : ℕ). 2 ^ x) (next (size n) some) ∙ pow-succ' 2 (size n - 1)) (size-lt n))
    (digits (size n) k (size-le n (53 + k) (subst (λ (x : ℕ). x < 2 ^ (53 + k)) (sym is) (shl_lt 53 k small)))) (digits' (size n) (size-le n 2098 U))
    (le (of_bits binary64 0x3ff6_a09e_667f_3bcd) (round binary64 false n (2 ^ (size n - 1)))) refl
  where
    some : 0 < size n
    some = lt_of_not-le (λ (h : size n ≤ 0). not-le_of_lt (lt_of_lt_of_le (size-lt n) (pow_mono h)) N)

    before : (z : ℕ) → 0 < z → z - 1 < z
    before z h = omega arith

    next : (z : ℕ) → 0 < z → z ≡ suc (z - 1)
    next z h = omega arith

    digits : (z k : ℕ) → z ≤ 53 + k → z - 1 ≤ 52 + k
    digits z k h = omega arith

    digits' : (z : ℕ) → z ≤ 2098 → z - 1 ≤ 2098
    digits' z h = omega arith

ln_of_lem : (x : Float) (n : ℕ) → 0 < n → HasValue x false n (2 ^ 1074) → ln_of x ≡ ln_units n
unfolding ln_of
ln_of_lem x n N v = above_units (λ s e. inf true) ln_units x n N v

-- ---- from the ends to all that lies between them
value_proper : (r : Float) → Proper (value_of r)
unfolding value_of
value_proper nan = (zero-lt-suc 0, zero-lt-suc 0)
value_proper (inf s) = (zero-lt-suc 0, zero-lt-suc 0)
value_proper (fin false m e) = (down_pos e, zero-lt-suc 0)
value_proper (fin true m e) = (zero-lt-suc 0, down_pos e)

all : (n p : ℕ) (r : Float) → 0 < n → Good n p r → LnWithin 50 n p r
all n p r N g = record {
  finite = g.finite;
  value_proper = value_proper r;
  lower_enclosed = lower_enclosed n p N 20;
  upper_enclosed = upper_enclosed n p N 20;
  near = λ v e. between (allowed 50 p) (value_of r) (ln_lower 20 n p) (ln_upper 20 n p) v (pow_pos 50) (lower_proper n p N 20) (upper_proper n p N 20) g.lower g.upper e.from e.to;
}

-- ---- the E of the bound is the one that the result is worked out with
pub exponent_of_place : (n : ℕ) → let M = round binary64 false n (2 ^ (size n - 1)) in ln_units n ≡ reduced_ln (cond (halves M) (M ⊗ of_bits binary64 0x3fe0_0000_0000_0000) M) (Ieee.minus (place n) 1074)
unfolding ln_units ln_at place
exponent_of_place n = go (halves (round binary64 false n (2 ^ (size n - 1))))
  where
    M : Float
    M = round binary64 false n (2 ^ (size n - 1))

    go : (b : Bool) → cond b (reduced_ln (M ⊗ of_bits binary64 0x3fe0_0000_0000_0000) (Ieee.minus (size n - 1 + 1) 1074)) (reduced_ln M (Ieee.minus (size n - 1) 1074))
        ≡ reduced_ln (cond b (M ⊗ of_bits binary64 0x3fe0_0000_0000_0000) M) (Ieee.minus (cond b (size n - 1 + 1) (size n - 1)) 1074)
    go true = refl
    go false = refl

-- ---- the law: for every finite x above zero, `ln_of x` is within (|E| + 1)·2^−50 of the exact logarithm
pub ln_near : (x : Float) → T (fits binary64 x) → finite_of x ≡ true → lt f0 x ≡ true → LnNear x (ln_of x)
ln_near x F h p =
    let q = positive_units x F h p in
    let v : HasValue x false (units_of x) (2 ^ 1074) = subst (λ (s : Bool). HasValue x s (units_of x) (2 ^ 1074)) q.0 (units_exact x F h) in
    let f = shape x (units_of x) F v in
    let g = subst (λ (r : Float). Good (units_of x) (place (units_of x)) r) (sym (ln_of_lem x (units_of x) q.1 v)) (units_good (units_of x) f.0 f.1 q.1 (units_lt x (units_of x) F v) f.2 f.3) in
    all (units_of x) (place (units_of x)) (ln_of x) q.1 g
