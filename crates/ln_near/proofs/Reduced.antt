-- The floats of the logarithm's rule, from s on, and what they stand for. A float of g units of 2^−1074 stands for a fraction as near as so many units, 2^1021 of them being 2^−53. Assumes nothing.
use mathlib.Core.Path.{◌≡◌, refl, sym, ap, subst}
use Prim.Native.Nat.{ℕ, zero, suc, ◌+◌, ◌-◌, ◌*◌, ◌^◌, ◌≤◌, ◌<◌, zero-le}
use native.Mathlib.Nat.{le_trans, le_of_eq, le_of_lt, lt_of_mul-lt-mul_right, mul-lt-mul_of_pos_right, le-add_left, add_comm, one-mul, mul-one, mul-pos, mul-le-mul, mul-le-mul_right, le_of_mul-le-mul_right, eq_of_mul-eq-mul_right, zero-lt-suc}
use native.Mathlib.Omega.{arith}
use mathlib.Core.Bool.{Bool, true, false}
use lib.Dec.{lit≤}
use lib.IntN.{pos}
use lib.Pow.{pow_pos}
use lib.Ieee.{Float, nan, inf, fin, binary64, up, down, unlike, neg, sub, of_int, of_bits}
use lib.Ieee.Exact.{HasValue}
use lib.Ieee.Back.{round_whole}
use Rattle.float.specs.Ops.{◌⊕◌, ◌⊖◌, ◌⊗◌, ◌⊘◌, f1, f2}
use Rattle.float.specs.Ln.{odd_recip, horner, series}
use Rattle.ln_near.specs.Fractions.{Frac, none}
use Rattle.ln_near.proofs.Rounded.{Near}
use Rattle.ln_near.proofs.Operations.{mul_near, div_near, total_near, above_near, below_near}
use Rattle.ln_near.proofs.Steps as steps
use Rattle.ln_near.proofs.Close.{Close}
use Rattle.ln_near.proofs.Series.{step, nested, lead, small_step}

-- ---- how large a unit of error is
pub W : 1000 ≤ 2 ^ 1021
W = lit≤ tt

UW : 1000 * 2 ^ 1021 ≤ 2 ^ 1074
UW = lit≤ tt

pub UW' : 1000000 * 2 ^ 1021 ≤ 2 ^ 1074
UW' = lit≤ tt

-- ---- signs of products
unlike_left : (s : Bool) → unlike false s ≡ s
unlike_left true = refl
unlike_left false = refl

pub unlike_right : (s : Bool) → unlike s false ≡ s
unlike_right true = refl
unlike_right false = refl

unlike_same : (s : Bool) → unlike s s ≡ false
unlike_same true = refl
unlike_same false = refl

-- nothing here overflows
pub room : (a b U B : ℕ) → a ≤ 2000 * U → b ≤ 2000 * U → 4000000 ≤ B → a * b ≤ B * (U * U)
room a b U B l k h =
    let p : a * b ≤ 2000 * U * (2000 * U) = mul-le-mul l k in
    let q : 4000000 * (U * U) ≤ B * (U * U) = mul-le-mul_right (U * U) h in
    omega (arith, p, q)

-- a value in units
pub in_units : (x : Float) (s : Bool) (a c k U : ℕ) → 0 < c → a * U ≡ k * c → HasValue x s a c → HasValue x s k U
in_units nan s a c k U H e v = v
in_units (inf t) s a c k U H e v = v
in_units (fin t m z) s a c k U H e v = (v.0, cancel (m * up z) (down z) v.1)
  where
    cancel : (x d : ℕ) → x * c ≡ a * d → x * U ≡ k * d
    cancel x d h =
        let i : x * c * U ≡ a * d * U = ap (λ (y : ℕ). y * U) h in
        let j : a * U * d ≡ k * c * d = ap (λ (y : ℕ). y * d) e in
        eq_of_mul-eq-mul_right c H (x * U) (k * d) (omega (arith, i, j))

pub one_value : HasValue f1 false (2 ^ 1074) (2 ^ 1074)
unfolding of_bits
one_value = (refl, refl)

two_value : HasValue f2 false (2 * 2 ^ 1074) (2 ^ 1074)
unfolding of_bits
two_value = (refl, refl)

pub whole_value : (s : Bool) (n : ℕ) (x : Float) → HasValue x s n 1 → HasValue x s (n * 2 ^ 1074) (2 ^ 1074)
whole_value s n x v = in_units x s n 1 (n * 2 ^ 1074) (2 ^ 1074) (zero-lt-suc 0) (sym (mul-one (n * 2 ^ 1074))) v

-- ---- 1 / (2k + 1)
recip_near : (k : ℕ) → 2 * k + 1 ≤ 2 ^ 53 → (r : ℕ) × HasValue (odd_recip k) false r (2 ^ 1074) × Near (r * (2 * k + 1)) (2 ^ 1074) (2 ^ 1021 + (2 * k + 1))
unfolding odd_recip of_int
recip_near k l =
    let q = 2 * k + 1 in
    let r = div_near f1 (of_int binary64 (pos q)) false false (2 ^ 1074) (q * 2 ^ 1074) one_value (whole_value false q (of_int binary64 (pos q)) (round_whole binary64 false q l)) (mul-pos (le-add_left 1 (2 * k)) (pow_pos 1074)) (some q (2 ^ 1074) (2 ^ 1000) (le-add_left 1 (2 * k)) (lit≤ tt)) in
    (r.g, r.value, cancel r.g q (2 ^ 1074) (2 ^ 1021) (pow_pos 1074) r.near)
  where
    some : (q U B : ℕ) → 1 ≤ q → 1 ≤ B → U ≤ B * (q * U)
    some q U B h k =
        let a : 1 * U ≤ q * U = mul-le-mul_right U h in
        let b : 1 * (q * U) ≤ B * (q * U) = mul-le-mul_right (q * U) k in
        omega (arith, a, b)

    cancel : (r q U w : ℕ) → 0 < U → Near (r * (q * U)) (U * U) (U * w + q * U) → Near (r * q) U (w + q)
    cancel r q U w H h = (le_of_mul-le-mul_right {k = U} (omega (arith, h.0)) H, le_of_mul-le-mul_right {k = U} (omega (arith, h.1)) H)

-- ---- h
pub record Approx (h : Float) (f : Frac) : Type 0 where
  pub g : ℕ
  pub value : HasValue h false g (2 ^ 1074)
  pub near : Near (g * f.den) (f.num * 2 ^ 1074) (4 * 2 ^ 1021 * f.den)
  pub small : 20 * f.num ≤ 21 * f.den
  pub pos : 0 < f.den

module _ (z : Float) (c d Z : ℕ) (D : 0 < d) (l : 32 * c ≤ d) (v : HasValue z false Z (2 ^ 1074)) (n : Near (2 * (Z * d)) (2 * (c * 2 ^ 1074)) (2 ^ 1021 * d)) where
  Z-small : 30 * Z ≤ 2 ^ 1074
  Z-small = steps.square_small (2 ^ 1074) (2 ^ 1021) W UW Z c d D n l

  horner_step : (k : ℕ) (h : Float) (f : Frac) → 2 * k + 1 ≤ 2 ^ 53 → Approx h f → Approx (h ⊗ z ⊕ odd_recip k) (step c d (2 * k + 1) f)
  horner_step k h f b a =
      let q = 2 * k + 1 in
      let Q : 0 < q = le-add_left 1 (2 * k) in
      let G-small = steps.sum_small (2 ^ 1074) (2 ^ 1021) W UW a.g f.num f.den a.pos a.near a.small in
      let p = mul_near h z false false a.g Z a.value v (room a.g Z (2 ^ 1074) (2 ^ 1000) (two a.g (2 ^ 1074) G-small) (thirty Z (2 ^ 1074) Z-small) (lit≤ tt)) in
      let R-small = steps.product_small (2 ^ 1074) (2 ^ 1021) W UW a.g Z p.g (pow_pos 1074) G-small Z-small p.near.0 in
      let P = steps.product_near (2 ^ 1074) (2 ^ 1021) W UW a.g f.num f.den Z c d p.g (pow_pos 1074) G-small Z-small a.small a.near n p.near in
      let r = recip_near k b in
      let r_small = steps.recip_small (2 ^ 1074) (2 ^ 1021) W UW r.0 q Q r.2.0 in
      let s = total_near 1 2 (zero-lt-suc 0) (lit≤ tt) (h ⊗ z) (odd_recip k) p.g r.0 p.value r.1 (fits p.g r.0 (2 ^ 1074) (2 ^ 1021) UW W R-small r_small) in
      record {
        g = s.0;
        value = s.1;
        near = steps.horner_near (2 ^ 1074) (2 ^ 1021) W UW s.0 p.g r.0 q (d * f.den) (c * f.num) Q (at s.0 p.g r.0 (2 ^ 1021) s.2) r.2 P;
        small = small_step c d D l q f Q a.small;
        pos = mul-pos Q (mul-pos D a.pos);
      }
    where
      two : (G U : ℕ) → 50 * G ≤ 53 * U → G ≤ 2000 * U
      two G U h = omega arith

      thirty : (Z U : ℕ) → 30 * Z ≤ U → Z ≤ 2000 * U
      thirty Z U h = omega arith

      fits : (R r U w : ℕ) → 1000 * w ≤ U → 1000 ≤ w → 2 * R ≤ U → r ≤ U + w + 1 → (R + r) * 1 ≤ 2 * U
      fits R r U w a b c d = omega arith

      at : (g R r w : ℕ) → Near (g * 1) ((R + r) * 1) (2 * w + 1) → Near g (R + r) (2 * w + 1)
      at g R r w h = omega arith

  horner_approx : (k : ℕ) (h : Float) (f : Frac) → 2 * k + 1 ≤ 2 ^ 53 → Approx h f → Approx (horner z k h) (nested c d k f)
  unfolding horner nested
  horner_approx zero h f b a = a
  horner_approx (suc k) h f b a = horner_approx k (h ⊗ z ⊕ odd_recip k) (step c d (2 * k + 1) f) (less k (2 ^ 53) b) (horner_step k h f (less k (2 ^ 53) b) a)
    where
      less : (k B : ℕ) → 2 * suc k + 1 ≤ B → 2 * k + 1 ≤ B
      less k B h = omega arith

  first_approx : Approx (odd_recip 10) (step c d 21 none)
  first_approx =
      let r = recip_near 10 (lit≤ tt) in
      record {
        g = r.0;
        value = r.1;
        near = shape r.0 d (2 ^ 1074) (2 ^ 1021) (steps.first_near (2 ^ 1074) (2 ^ 1021) W UW r.0 21 d (zero-lt-suc 20) r.2);
        small = small_step c d D l 21 none (zero-lt-suc 20) zero-le;
        pos = mul-pos {m = 21} (zero-lt-suc 20) (mul-pos D (zero-lt-suc 0));
      }
    where
      shape : (r d U w : ℕ) → Near (r * (21 * d)) (d * U) (4 * w * (21 * d)) → Near (r * (21 * (d * 1))) ((d * 1 + 21 * (c * 0)) * U) (4 * w * (21 * (d * 1)))
      shape r d U w h = (omega (arith, h.0), omega (arith, h.1))

  pub sum_approx : Approx (horner z 10 (odd_recip 10)) (nested c d 11 none)
  unfolding nested
  sum_approx = horner_approx 10 (odd_recip 10) (step c d 21 none) (lit≤ tt) first_approx

-- ---- s, which stands for A / b
pub record Ratio (s : Float) (t : Bool) (A b : ℕ) : Type 0 where
  pub S : ℕ
  pub value : HasValue s t S (2 ^ 1074)
  pub small : 5 * S ≤ 2 ^ 1074
  pub near : Near (S * b) (A * 2 ^ 1074) (2 ^ 1021 * b)
  pub least : 17 * A ≤ 3 * b

minus_one : HasValue (neg f1) true (2 ^ 1074) (2 ^ 1074)
unfolding neg of_bits
minus_one = (refl, refl)

-- M is μ units, and n / D
module _ (M : Float) (μ n D : ℕ) (v : HasValue M false μ (2 ^ 1074)) (D0 : 0 < D) (e : μ * D ≡ n * 2 ^ 1074) (lo : 7 * D ≤ 10 * n) (hi : 7 * n ≤ 10 * D) where
  μ_lo : 7 * 2 ^ 1074 ≤ 10 * μ
  μ_lo = go (2 ^ 1074) e
    where
      go : (U : ℕ) → μ * D ≡ n * U → 7 * U ≤ 10 * μ
      go U e = let a : 7 * D * U ≤ 10 * n * U = mul-le-mul_right U lo in le_of_mul-le-mul_right {k = D} (omega (arith, a, e)) D0

  μ_hi : 7 * μ ≤ 10 * 2 ^ 1074
  μ_hi = go (2 ^ 1074) e
    where
      go : (U : ℕ) → μ * D ≡ n * U → 7 * μ ≤ 10 * U
      go U e = let a : 7 * n * U ≤ 10 * D * U = mul-le-mul_right U hi in le_of_mul-le-mul_right {k = D} (omega (arith, a, e)) D0

  apart : Near (μ * 2) (2 ^ 1074 * 2) (1 * 2 ^ 1074)
  apart = go (2 ^ 1074) μ_lo μ_hi
    where
      go : (U : ℕ) → 7 * U ≤ 10 * μ → 7 * μ ≤ 10 * U → Near (μ * 2) (U * 2) (1 * U)
      go U a b = omega (arith, a, b)

  sum_of : (g : ℕ) × HasValue (M ⊕ f1) false g (2 ^ 1074) × Near (g * 1) ((μ + 2 ^ 1074) * 1) (3 * 2 ^ 1021 + 1)
  sum_of = total_near 1 3 (zero-lt-suc 0) (lit≤ tt) M f1 μ (2 ^ 1074) v one_value (go (2 ^ 1074) μ_hi)
    where
      go : (U : ℕ) → 7 * μ ≤ 10 * U → (μ + U) * 1 ≤ 3 * U
      go U b = omega (arith, b)

  ratio : (t : Bool) (α A g0 : ℕ) → HasValue (M ⊖ f1) t g0 (2 ^ 1074) → Near (g0 * 2) (α * 2) (1 * 2 ^ 1021 + 2) → 17 * α ≤ 3 * (μ + 2 ^ 1074) → α * D ≡ A * 2 ^ 1074 → 17 * A ≤ 3 * (n + D) → Ratio ((M ⊖ f1) ⊘ (M ⊕ f1)) t A (n + D)
  ratio t α A g0 v0 n0 l p lA =
      let g1 = sum_of.0 in
      let n1 = one g1 (μ + 2 ^ 1074) (3 * 2 ^ 1021 + 1) sum_of.2 in
      let n0' = two g0 α (2 ^ 1021) n0 in
      let B : 17 * 2 ^ 1074 ≤ 10 * (μ + 2 ^ 1074) = base (2 ^ 1074) μ_lo in
      let P : 0 < g1 = some g1 μ (2 ^ 1074) (2 ^ 1021) W UW n1.1 in
      let r = div_near (M ⊖ f1) (M ⊕ f1) t false g0 g1 v0 sum_of.1 P (most g0 g1 α μ (2 ^ 1074) (2 ^ 1021) (2 ^ 1000) W UW n1.1 n0'.0 l (lit≤ tt)) in
      let small = steps.quotient_small (2 ^ 1074) (2 ^ 1021) W UW r.g g0 g1 α (μ + 2 ^ 1074) P n1 n0' r.near l B in
      record {
        S = r.g;
        value = subst (λ (b : Bool). HasValue ((M ⊖ f1) ⊘ (M ⊕ f1)) b r.g (2 ^ 1074)) (unlike_right t) r.value;
        small = small;
        near = steps.rescaled (2 ^ 1074) (2 ^ 1021) W UW r.g α (μ + 2 ^ 1074) A (n + D) D (pow_pos 1074) p (both (2 ^ 1074) e) (steps.quotient (2 ^ 1074) (2 ^ 1021) W UW r.g g0 g1 α (μ + 2 ^ 1074) small n1 n0' r.near l B);
        least = lA;
      }
    where
      one : (g x E : ℕ) → Near (g * 1) (x * 1) E → Near g x E
      one g x E h = omega (arith, h)

      two : (g a w : ℕ) → Near (g * 2) (a * 2) (1 * w + 2) → Near (2 * g) (2 * a) (w + 2)
      two g a w h = omega (arith, h)

      base : (U : ℕ) → 7 * U ≤ 10 * μ → 17 * U ≤ 10 * (μ + U)
      base U h = omega (arith, h)

      some : (g μ U w : ℕ) → 1000 ≤ w → 1000 * w ≤ U → μ + U ≤ g + (3 * w + 1) → 0 < g
      some g μ U w a b c = omega (arith, a, b, c)

      most : (g0 g1 α μ U w B : ℕ) → 1000 ≤ w → 1000 * w ≤ U → μ + U ≤ g1 + (3 * w + 1) → 2 * g0 ≤ 2 * α + (w + 2) → 17 * α ≤ 3 * (μ + U) → 1 ≤ B → g0 ≤ B * g1
      most g0 g1 α μ U w B a b c d f h = le_trans (below g0 g1 α (μ + U) U w a b c d f (le-add_left U μ)) (le_trans (le_of_eq (sym (one-mul g1))) (mul-le-mul_right g1 h))
        where
          below : (g0 g1 α β U w : ℕ) → 1000 ≤ w → 1000 * w ≤ U → β ≤ g1 + (3 * w + 1) → 2 * g0 ≤ 2 * α + (w + 2) → 17 * α ≤ 3 * β → U ≤ β → g0 ≤ g1
          below g0 g1 α β U w a b c d f h = omega (arith, a, b, c, d, f, h)

      both : (U : ℕ) → μ * D ≡ n * U → (μ + U) * D ≡ (n + D) * U
      both U e = omega (arith, e)

  -- the larger of two is the smaller and the difference, which is no more than 3 / 17 of the sum
  split : (x y : ℕ) → x ≤ y → y ≡ x + (y - x)
  split x y h = omega arith

  part : (x y d s : ℕ) → 7 * y ≤ 10 * x → y ≡ x + d → s ≡ x + y → 17 * d ≤ 3 * s
  part x y d s a b c = omega (arith, a, b, c)

  pub ratio_above : D ≤ n → Ratio ((M ⊖ f1) ⊘ (M ⊕ f1)) false (n - D) (n + D)
  unfolding sub
  ratio_above l =
      let r = above_near 2 1 (zero-lt-suc 1) (lit≤ tt) M (neg f1) μ (2 ^ 1074) v minus_one apart (order (2 ^ 1074) e) in
      ratio false r.d (n - D) r.g r.value r.near (part (2 ^ 1074) μ r.d (μ + 2 ^ 1074) μ_hi r.apart (add_comm μ (2 ^ 1074))) (cross r.d (n - D) (2 ^ 1074) e r.apart (split D n l)) (part D n (n - D) (n + D) hi (split D n l) (add_comm n D))
    where
      order : (U : ℕ) → μ * D ≡ n * U → U ≤ μ
      order U e = let a : D * U ≤ n * U = mul-le-mul_right U l in le_of_mul-le-mul_right {k = D} (omega (arith, a, e)) D0

      cross : (α A U : ℕ) → μ * D ≡ n * U → μ ≡ U + α → n ≡ D + A → α * D ≡ A * U
      cross α A U e f g =
          let a : μ * D ≡ (U + α) * D = ap (λ (x : ℕ). x * D) f in
          let b : n * U ≡ (D + A) * U = ap (λ (x : ℕ). x * U) g in
          omega (arith, a, b, e)

  pub ratio_below : n < D → Ratio ((M ⊖ f1) ⊘ (M ⊕ f1)) true (D - n) (n + D)
  unfolding sub
  ratio_below l =
      let r = below_near 2 1 (zero-lt-suc 1) (lit≤ tt) M (neg f1) μ (2 ^ 1074) v minus_one apart (order (2 ^ 1074) (pow_pos 1074) e) in
      ratio true r.d (D - n) r.g r.value r.near (part μ (2 ^ 1074) r.d (μ + 2 ^ 1074) μ_lo r.apart refl) (cross r.d (D - n) (2 ^ 1074) e r.apart (split n D (le_of_lt l))) (part n D (D - n) (n + D) lo (split n D (le_of_lt l)) refl)
    where
      order : (U : ℕ) → 0 < U → μ * D ≡ n * U → μ < U
      order U H e = let a : n * U < D * U = mul-lt-mul_of_pos_right l H in lt_of_mul-lt-mul_right D (omega (arith, a, e))

      cross : (α A U : ℕ) → μ * D ≡ n * U → U ≡ μ + α → D ≡ n + A → α * D ≡ A * U
      cross α A U e f g =
          let a : U * D ≡ (μ + α) * D = ap (λ (x : ℕ). x * D) f in
          let b : D * U ≡ (n + A) * U = ap (λ (x : ℕ). x * U) g in
          omega (arith, a, b, e)

-- ---- (2 · s) · h
pub record Series (x : Float) (t : Bool) (A b : ℕ) : Type 0 where
  pub R : ℕ
  pub value : HasValue x t R (2 ^ 1074)
  pub small : 20 * R ≤ 9 * 2 ^ 1074
  pub near : Close (2 ^ 1074) (lead A b (nested (A * A) (b * b) 11 none)) R (5 * 2 ^ 1021)

pub square_le : (A b : ℕ) → 17 * A ≤ 3 * b → 32 * (A * A) ≤ b * b
square_le A b h = let a : 17 * A * (17 * A) ≤ 3 * b * (3 * b) = mul-le-mul h h in omega (arith, a)

pub series_near : (s : Float) (t : Bool) (A b : ℕ) → 0 < b → Ratio s t A b → Series (f2 ⊗ s ⊗ series s) t A b
unfolding series
series_near s t A b B r =
    let z = mul_near s s t t r.S r.S r.value r.value (room r.S r.S (2 ^ 1074) (2 ^ 1000) (five r.S (2 ^ 1074) r.small) (five r.S (2 ^ 1074) r.small) (lit≤ tt)) in
    let zv = subst (λ (u : Bool). HasValue (s ⊗ s) u z.g (2 ^ 1074)) (unlike_same t) z.value in
    let zn = steps.square (2 ^ 1074) (2 ^ 1021) W UW r.S b A z.g (pow_pos 1074) r.small r.least r.near z.near in
    let h = sum_approx (s ⊗ s) (A * A) (b * b) z.g (mul-pos B B) (square_le A b r.least) zv zn in
    let P = nested (A * A) (b * b) 11 none in
    let hs = steps.sum_small (2 ^ 1074) (2 ^ 1021) W UW h.g P.num P.den h.pos h.near h.small in
    let d = mul_near f2 s false t (2 * 2 ^ 1074) r.S two_value r.value (room (2 * 2 ^ 1074) r.S (2 ^ 1074) (2 ^ 1000) (mul-le-mul_right {m = 2} {n = 2000} (2 ^ 1074) (lit≤ tt)) (five r.S (2 ^ 1074) r.small) (lit≤ tt)) in
    let dv = subst (λ (u : Bool). HasValue (f2 ⊗ s) u d.g (2 ^ 1074)) (unlike_left t) d.value in
    let dn = steps.double_near (2 ^ 1074) (2 ^ 1021) W UW r.S d.g (pow_pos 1074) r.small d.near in
    let ds = steps.double_small (2 ^ 1074) (2 ^ 1021) W UW r.S d.g r.small dn in
    let x = mul_near (f2 ⊗ s) (horner (s ⊗ s) 10 (odd_recip 10)) t false d.g h.g dv h.value (room d.g h.g (2 ^ 1074) (2 ^ 1000) (half d.g (2 ^ 1074) ds) (two h.g (2 ^ 1074) hs) (lit≤ tt)) in
    record {
      R = x.g;
      value = subst (λ (u : Bool). HasValue (f2 ⊗ s ⊗ horner (s ⊗ s) 10 (odd_recip 10)) u x.g (2 ^ 1074)) (unlike_right t) x.value;
      small = steps.last_small (2 ^ 1074) (2 ^ 1021) d.g h.g x.g W UW' (pow_pos 1074) ds hs x.near.0;
      near = steps.last_near (2 ^ 1074) (2 ^ 1021) W UW r.S b A d.g h.g P.num P.den x.g (pow_pos 1074) h.small hs ds r.near dn h.near x.near;
    }
  where
    five : (S U : ℕ) → 5 * S ≤ U → S ≤ 2000 * U
    five S U h = omega (arith, h)

    half : (D U : ℕ) → 50 * D ≤ 21 * U → D ≤ 2000 * U
    half D U h = omega (arith, h)

    two : (G U : ℕ) → 50 * G ≤ 53 * U → G ≤ 2000 * U
    two G U h = omega (arith, h)
