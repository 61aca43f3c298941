-- The terms of 2·(s + s³/3 + ...) that specs/LnNear.antt adds up, in Horner's order, and what is lost by leaving the later ones out. Assumes nothing.
use mathlib.Core.Path.{◌≡◌, refl, sym, ap, ap₂, ◌∙◌, subst}
use Prim.Native.Nat.{ℕ, zero, suc, ◌+◌, ◌-◌, ◌*◌, ◌^◌, ◌≤◌, ◌<◌}
use native.Mathlib.Nat.{mul-pos, mul_assoc, mul_comm, mul-le-mul_right, mul-le-mul_left, le_of_mul-le-mul_right, one-le-pow, zero-lt-suc, one-mul, pow-zero, pow-suc}
use native.Mathlib.Omega.{arith}
use Rattle.ln_near.specs.Fractions.{Frac, ◌+ᶠ◌, times, none}
use Rattle.ln_near.specs.LnNear.{term, terms, tail, without_tail, with_tail}
use Rattle.ln_near.proofs.Close.{Close, ◌≈◌, same_number}
use Rattle.ln_near.proofs.Steps.{bounded, tail_near}

-- ---- Horner's order: 1 / q + (c / d) · f, and k of these steps, for q = 2k−1 down to 1
abbrev pub step : ℕ → ℕ → ℕ → Frac → Frac
step c d q f = record { num = d * f.den + q * (c * f.num); den = q * (d * f.den) }

unfoldable pub nested : ℕ → ℕ → ℕ → Frac → Frac
nested c d zero f = f
nested c d (suc k) f = nested c d k (step c d (2 * k + 1) f)

pub odd_pos : (k : ℕ) → 0 < 2 * k + 1
odd_pos k = omega arith

pub nested_pos : (c d : ℕ) → 0 < d → (k : ℕ) (f : Frac) → 0 < f.den → 0 < (nested c d k f).den
unfolding nested
nested_pos c d D zero f H = H
nested_pos c d D (suc k) f H = nested_pos c d D k (step c d (2 * k + 1) f) (mul-pos (odd_pos k) (mul-pos D H))

-- 2 · (A / b) · f
abbrev pub lead : ℕ → ℕ → Frac → Frac
lead A b f = record { num = 2 * (A * f.num); den = b * f.den }

-- ---- the terms that are left out
gap_core : (x y z c d q t T : ℕ) → 32 * c ≤ d → x * T ≤ y * T + t * z → (d * z + q * (c * x)) * (T * 32) ≤ (d * z + q * (c * y)) * (T * 32) + t * (q * (d * z))
gap_core x y z c d q t T l h =
    let a : x * T * (c * q * 32) ≤ (y * T + t * z) * (c * q * 32) = mul-le-mul_right (c * q * 32) h in
    let b : 32 * c * (t * z * q) ≤ d * (t * z * q) = mul-le-mul_right (t * z * q) l in
    omega (arith, a, b)

gap_flat : (P Q S c d q : ℕ) → (d * Q + q * (c * P)) * (q * (d * S)) ≡ q * d * (d * (Q * S) + q * (c * (P * S)))
gap_flat P Q S c d q = omega arith

gap_den : (Q S d q : ℕ) → q * (d * Q) * (q * (d * S)) ≡ q * d * (q * (d * (Q * S)))
gap_den Q S d q = omega arith

gap_lift : (m u v w t E : ℕ) → u * E ≤ v * E + t * w → m * u * E ≤ m * v * E + t * (m * w)
gap_lift m u v w t E h = let a : m * (u * E) ≤ m * (v * E + t * w) = mul-le-mul_left m h in omega (arith, a)

gap_step : (P Q R S c d q t T : ℕ) → 32 * c ≤ d → P * S * T ≤ R * Q * T + t * (Q * S) → (d * Q + q * (c * P)) * (q * (d * S)) * (T * 32) ≤ (d * S + q * (c * R)) * (q * (d * Q)) * (T * 32) + t * (q * (d * Q) * (q * (d * S)))
gap_step P Q R S c d q t T l h =
    rw (gap_flat P Q S c d q, gap_flat R S Q c d q, gap_den Q S d q, mul_comm S Q) (gap_lift (q * d) (d * (Q * S) + q * (c * (P * S))) (d * (Q * S) + q * (c * (R * Q))) (q * (d * (Q * S))) t (T * 32) (gap_core (P * S) (R * Q) (Q * S) c d q t T l h))

-- how far f is above g at the most: t / T
abbrev Gap : Frac → Frac → ℕ → ℕ → Type 0
Gap f g t T = f.num * g.den * T ≤ g.num * f.den * T + t * (f.den * g.den)

gap : (c d : ℕ) → 32 * c ≤ d → (t k : ℕ) (f g : Frac) (T : ℕ) → Gap f g t T → Gap (nested c d k f) (nested c d k g) t (T * 32 ^ k)
unfolding nested
gap c d l t zero f g T h = shape (f.num * g.den) (g.num * f.den) (f.den * g.den) T h
  where
    shape : (x y z T : ℕ) → x * T ≤ y * T + t * z → x * (T * 1) ≤ y * (T * 1) + t * z
    shape x y z T h = omega (arith, h)
gap c d l t (suc k) f g T h =
    let i = gap c d l t k (step c d (2 * k + 1) f) (step c d (2 * k + 1) g) (T * 32) (gap_step f.num f.den g.num g.den c d (2 * k + 1) t T l h) in
    rw (pow-suc 32 k) (shape (nested c d k (step c d (2 * k + 1) f)) (nested c d k (step c d (2 * k + 1) g)) (32 ^ k) i)
  where
    flat : (x y z p : ℕ) → x * (T * 32 * p) ≤ y * (T * 32 * p) + t * z → x * (T * (p * 32)) ≤ y * (T * (p * 32)) + t * z
    flat x y z p h = omega (arith, h)

    shape : (f g : Frac) (p : ℕ) → Gap f g t (T * 32 * p) → Gap f g t (T * (p * 32))
    shape f g p h = flat (f.num * g.den) (g.num * f.den) (f.den * g.den) p h

-- ---- the sum of the terms is that of Horner's order
pow_one : (a : ℕ) → a ^ 1 ≡ a
pow_one a = pow-suc a 0 ∙ ap (λ (x : ℕ). x * a) (pow-zero a) ∙ one-mul a

pub pow_next : (a k : ℕ) → a ^ (2 * suc k + 1) ≡ a ^ (2 * k + 1) * (a * a)
pow_next a k = ap (λ (x : ℕ). a ^ x) (two k) ∙ pow-suc a (suc (2 * k + 1)) ∙ ap (λ (x : ℕ). x * a) (pow-suc a (2 * k + 1)) ∙ mul_assoc (a ^ (2 * k + 1)) a a
  where
    two : (k : ℕ) → 2 * suc k + 1 ≡ suc (suc (2 * k + 1))
    two k = omega arith

-- (A / b)^(2k+1) · f, and (A / b) · f
abbrev power : ℕ → ℕ → ℕ → Frac → Frac
power A b k f = record { num = A ^ (2 * k + 1) * f.num; den = b ^ (2 * k + 1) * f.den }

abbrev once : ℕ → ℕ → Frac → Frac
once A b f = record { num = A * f.num; den = b * f.den }

fold_at : (a e n y q : ℕ) → (a * (e * n) + a * y * (e * q)) * (e * (q * n)) ≡ a * (n + q * y) * (e * q * (e * n))
fold_at a e n y q = ap (λ (x : ℕ). x * (e * (q * n))) front ∙ back (n + q * y)
  where
    front : a * (e * n) + a * y * (e * q) ≡ a * e * (n + q * y)
    front = omega arith

    back : (v : ℕ) → a * e * v * (e * (q * n)) ≡ a * v * (e * q * (e * n))
    back v = omega arith

fold_as : (a e c d q P Q a' e' : ℕ) → a' ≡ a * c → e' ≡ e * d → (a * (e' * Q) + a' * P * (e * q)) * (e * (q * (d * Q))) ≡ a * (d * Q + q * (c * P)) * (e * q * (e' * Q))
fold_as a e c d q P Q a' e' i j =
    ap₂ (λ (x y : ℕ). (a * x + y * (e * q)) * (e * (q * (d * Q)))) j' i' ∙ fold_at a e (d * Q) (c * P) q ∙ ap (λ (x : ℕ). a * (d * Q + q * (c * P)) * (e * q * x)) (sym j')
  where
    j' : e' * Q ≡ e * (d * Q)
    j' = ap (λ (x : ℕ). x * Q) j ∙ mul_assoc e d Q

    i' : a' * P ≡ a * (c * P)
    i' = ap (λ (x : ℕ). x * P) i ∙ mul_assoc a c P

fold : (A b k : ℕ) (f : Frac) → term A b k +ᶠ power A b (suc k) f ≈ power A b k (step (A * A) (b * b) (2 * k + 1) f)
unfolding term
fold A b k f = fold_as (A ^ (2 * k + 1)) (b ^ (2 * k + 1)) (A * A) (b * b) (2 * k + 1) f.num f.den (A ^ (2 * suc k + 1)) (b ^ (2 * suc k + 1)) (pow_next A k) (pow_next b k)

regroup_at : (xn xd yn yd wn wd vn vd : ℕ) → (yn * wd + wn * yd) * vd ≡ vn * (yd * wd) → ((xn * yd + yn * xd) * wd + wn * (xd * yd)) * (xd * vd) ≡ (xn * vd + vn * xd) * (xd * yd * wd)
regroup_at xn xd yn yd wn wd vn vd h =
    let a : (yn * wd + wn * yd) * vd * (xd * xd) ≡ vn * (yd * wd) * (xd * xd) = ap (λ (x : ℕ). x * (xd * xd)) h in
    omega (arith, a)

regroup : (x y u v : Frac) → y +ᶠ u ≈ v → x +ᶠ y +ᶠ u ≈ x +ᶠ v
regroup x y u v h = regroup_at x.num x.den y.num y.den u.num u.den v.num v.den h

module _ (A b : ℕ) (B : 0 < b) where
  pow_pos : (k : ℕ) → 0 < b ^ k
  pow_pos k = one-le-pow k b B

  pub terms_pos : (k : ℕ) → 0 < (terms A b k).den
  unfolding terms term
  terms_pos zero = zero-lt-suc 0
  terms_pos (suc k) = mul-pos (terms_pos k) (mul-pos (pow_pos (2 * k + 1)) (odd_pos k))

  sum_nested : (k : ℕ) (f : Frac) → 0 < f.den → terms A b k +ᶠ power A b k f ≈ once A b (nested (A * A) (b * b) k f)
  unfolding terms nested
  sum_nested zero f H = rw (pow_one A, pow_one b) (base f.num f.den)
    where
      base : (P Q : ℕ) → (0 * (b * Q) + A * P * 1) * (b * Q) ≡ A * P * (1 * (b * Q))
      base P Q = omega arith
  sum_nested (suc k) f H =
      same_number (terms A b k +ᶠ term A b k +ᶠ power A b (suc k) f) (terms A b k +ᶠ power A b k (step (A * A) (b * b) (2 * k + 1) f)) (once A b (nested (A * A) (b * b) k (step (A * A) (b * b) (2 * k + 1) f)))
      (mul-pos (terms_pos k) (mul-pos (pow_pos (2 * k + 1)) (mul-pos (odd_pos k) (mul-pos (mul-pos B B) H))))
      (regroup (terms A b k) (term A b k) (power A b (suc k) f) (power A b k (step (A * A) (b * b) (2 * k + 1) f)) (fold A b k f))
      (sum_nested k (step (A * A) (b * b) (2 * k + 1) f) (mul-pos (odd_pos k) (mul-pos (mul-pos B B) H)))

  doubled : (f g : Frac) → f ≈ once A b g → lead A b g ≈ times 2 f
  doubled f g h = two f.num f.den (A * g.num) (b * g.den) h
    where
      two : (n d m c : ℕ) → n * c ≡ m * d → 2 * m * d ≡ 2 * n * c
      two n d m c h = omega (arith, h)

  pub without_nested : lead A b (nested (A * A) (b * b) 20 none) ≈ without_tail 20 A b
  unfolding without_tail
  without_nested =
      doubled (terms A b 20) (nested (A * A) (b * b) 20 none)
      (same_number (terms A b 20) (terms A b 20 +ᶠ power A b 20 none) (once A b (nested (A * A) (b * b) 20 none)) (mul-pos (terms_pos 20) (mul-pos (pow_pos 41) (zero-lt-suc 0)))
      (bare (terms A b 20).num (terms A b 20).den (A ^ 41) (b ^ 41)) (sum_nested 20 none (zero-lt-suc 0)))
    where
      bare : (n d p q : ℕ) → n * (d * (q * 1)) ≡ (n * (q * 1) + p * 0 * d) * d
      bare n d p q = omega arith

  -- the tail is the 20 th power of s, times 1 / 41 · 1 / (1 − s²)
  abbrev pub start : Frac
  start = record { num = b * b; den = 41 * (b * b - A * A) }

  pub with_nested : 0 < b * b - A * A → lead A b (nested (A * A) (b * b) 20 start) ≈ with_tail 20 A b
  unfolding with_tail tail
  with_nested H =
      doubled (terms A b 20 +ᶠ tail A b 20) (nested (A * A) (b * b) 20 start)
      (rw (mul_assoc (b ^ 41) 41 (b * b - A * A)) (sum_nested 20 start (mul-pos (zero-lt-suc 40) H)))

-- ---- from the 11 terms that the code adds up to the 20, and the tail, of the enclosure
module _ (c d : ℕ) (D : 0 < d) (l : 32 * c ≤ d) where
  later : Frac → Frac
  later f = step c d 23 (step c d 25 (step c d 27 (step c d 29 (step c d 31 (step c d 33 (step c d 35 (step c d 37 (step c d 39 f))))))))

  split : (f : Frac) → nested c d 20 f ≡ nested c d 11 (later f)
  unfolding nested later
  split f = refl

  abbrev Small : Frac → Type 0
  Small f = 20 * f.num ≤ 21 * f.den

  pub small_step : (q : ℕ) (f : Frac) → 0 < q → Small f → Small (step c d q f)
  small_step q f Q h = bounded f.num f.den c d q Q l h

  later_small : (f : Frac) → Small f → Small (later f)
  unfolding later
  later_small f h =
      let a = small_step 39 f (zero-lt-suc 38) h in
      let b = small_step 37 (step c d 39 f) (zero-lt-suc 36) a in
      let e = small_step 35 _ (zero-lt-suc 34) b in
      let g = small_step 33 _ (zero-lt-suc 32) e in
      let i = small_step 31 _ (zero-lt-suc 30) g in
      let j = small_step 29 _ (zero-lt-suc 28) i in
      let k = small_step 27 _ (zero-lt-suc 26) j in
      let m = small_step 25 _ (zero-lt-suc 24) k in
      small_step 23 _ (zero-lt-suc 22) m

  later_above : (f : Frac) → (nested c d 11 none).num * (nested c d 11 f).den ≤ (nested c d 11 f).num * (nested c d 11 none).den
  later_above f = drop ((nested c d 11 none).num * (nested c d 11 f).den) ((nested c d 11 f).num * (nested c d 11 none).den) _ (32 ^ 11) (zero-lt-suc _) (gap c d l 0 11 none f 1 (base f.num f.den))
    where
      base : (P Q : ℕ) → 0 * Q * 1 ≤ P * 1 * 1 + 0 * (1 * Q)
      base P Q = omega arith

      drop : (x y z T : ℕ) → 0 < T → x * (1 * T) ≤ y * (1 * T) + 0 * z → x ≤ y
      drop x y z T H h = le_of_mul-le-mul_right {k = T} (omega (arith, h)) H

  later_below : (f : Frac) → Small f → Gap (nested c d 11 f) (nested c d 11 none) 21 (20 * 32 ^ 11)
  later_below f h = gap c d l 21 11 f none 20 (base f.num f.den h)
    where
      base : (P Q : ℕ) → 20 * P ≤ 21 * Q → P * 1 * 20 ≤ 0 * Q * 20 + 21 * (Q * 1)
      base P Q h = omega arith

  pub close_later : (U w R A b : ℕ) (f : Frac) → 17 * A ≤ 3 * b → 42 * U ≤ 20 * 32 ^ 11 * w → Small f → Close U (lead A b (nested c d 11 none)) R (5 * w) → Close U (lead A b (nested c d 20 f)) R (6 * w)
  close_later U w R A b f lA lU h k =
      subst (λ (g : Frac). Close U (lead A b g) R (6 * w)) (sym (split f))
      (tail_near U w R b A (nested c d 11 none).num (nested c d 11 none).den (nested c d 11 (later f)).num (nested c d 11 (later f)).den (20 * 32 ^ 11)
      (nested_pos c d D 11 none (zero-lt-suc 0)) (zero-lt-suc _) lA lU (later_above (later f)) (later_below (later f) (later_small f h)) k)
