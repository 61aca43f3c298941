-- The error of each step of the logarithm, over whole numbers. U is how many units 1 is, and w is 2^−53 of U: of them only that w is 1000 at least, and U 1000 w.
-- A float that is g units is g / U. Each law takes what rounding says of the step (Operations.antt) and how far the arguments are off. Assumes nothing.
use mathlib.Core.Path.{◌≡◌, refl, sym, ap, subst}
use Prim.Native.Nat.{ℕ, ◌+◌, ◌*◌, ◌≤◌, ◌<◌}
use native.Mathlib.Nat.{le_trans, le_of_eq, le-add_left, le-add_right, add_comm, mul_comm, one-mul, mul-pos, mul-le-mul, mul-le-mul_right, mul-le-mul_left, le_of_mul-le-mul_right}
use native.Mathlib.Omega.{arith}
use Rattle.ln_near.proofs.Rounded.{Near}

module _ (U w : ℕ) (W : 1000 ≤ w) (UW : 1000 * w ≤ U) where
  -- ---- s = α / β, for α = |M − 1| and β = M + 1, from the floats g0 and g1 for these
  pub quotient_small : (S g0 g1 α β : ℕ) → 0 < g1 → Near g1 β (3 * w + 1) → Near (2 * g0) (2 * α) (w + 2) → Near (S * g1) (g0 * U) (g0 * w + g1) → 17 * α ≤ 3 * β → 17 * U ≤ 10 * β → 5 * S ≤ U
  quotient_small S g0 g1 α β G n1 n0 ns l k =
      let a : 2 * g0 * U ≤ (2 * α + (w + 2)) * U = mul-le-mul_right U n0.0 in
      let b : 17 * α * U ≤ 3 * β * U = mul-le-mul_right U l in
      let c : β * U ≤ (g1 + (3 * w + 1)) * U = mul-le-mul_right U n1.1 in
      let d : 1000 * w * U ≤ U * U = mul-le-mul_right U UW in
      let e : 17 * U * U ≤ 10 * β * U = mul-le-mul_right U k in
      let f : g0 * (1000 * w) ≤ g0 * U = mul-le-mul_left g0 UW in
      let m : 1000000 ≤ U = omega arith in
      let g : g1 * 1000000 ≤ g1 * U = mul-le-mul_left g1 m in
      let h : U * 1000 ≤ U * w = mul-le-mul_left U W in
      let i = ns.0 in
      le_of_mul-le-mul_right {k = g1} (omega arith) G

  quotient_budget : (S g0 g1 α β : ℕ) → 5 * S ≤ U → g1 ≤ β + (3 * w + 1) → 2 * g0 ≤ 2 * α + (w + 2) → 17 * α ≤ 3 * β → 17 * U ≤ 10 * β → 2 * (S * (3 * w + 1)) + 2 * (g0 * w + g1) + (w + 2) * U ≤ 2 * (w * β)
  quotient_budget S g0 g1 α β small n1 n0 l k =
      let s3 : 5 * S * w ≤ U * w = mul-le-mul_right w small in
      let t3 : 2 * g0 * w ≤ (2 * α + (w + 2)) * w = mul-le-mul_right w n0 in
      let t4 : 17 * α * w ≤ 3 * β * w = mul-le-mul_right w l in
      let t5 : 17 * U * w ≤ 10 * β * w = mul-le-mul_right w k in
      let t6 : 1000 * β ≤ w * β = mul-le-mul_right β W in
      let t7 : 1000 * w * w ≤ U * w = mul-le-mul_right w UW in
      let t8 : U * 1000 ≤ U * w = mul-le-mul_left U W in
      omega arith

  pub quotient : (S g0 g1 α β : ℕ) → 5 * S ≤ U → Near g1 β (3 * w + 1) → Near (2 * g0) (2 * α) (w + 2) → Near (S * g1) (g0 * U) (g0 * w + g1) → 17 * α ≤ 3 * β → 17 * U ≤ 10 * β → Near (S * β) (α * U) (w * β)
  quotient S g0 g1 α β small n1 n0 ns l k =
      go (mul-le-mul_left S n1.1) (mul-le-mul_left S n1.0) (mul-le-mul_right U n0.0) (mul-le-mul_right U n0.1) ns (quotient_budget S g0 g1 α β small n1.0 n0.0 l k)
    where
      go : S * β ≤ S * (g1 + (3 * w + 1)) → S * g1 ≤ S * (β + (3 * w + 1)) → 2 * g0 * U ≤ (2 * α + (w + 2)) * U → 2 * α * U ≤ (2 * g0 + (w + 2)) * U → Near (S * g1) (g0 * U) (g0 * w + g1)
          → 2 * (S * (3 * w + 1)) + 2 * (g0 * w + g1) + (w + 2) * U ≤ 2 * (w * β) → Near (S * β) (α * U) (w * β)
      go s1 s2 t1 t2 ns b = (omega (arith, s1, t1, ns.0, b), omega (arith, s2, t2, ns.1, b))

  -- α / β is A / b
  pub rescaled : (S α β A b D : ℕ) → 0 < U → α * D ≡ A * U → β * D ≡ b * U → Near (S * β) (α * U) (w * β) → Near (S * b) (A * U) (w * b)
  rescaled S α β A b D H p q h =
      let e1 : S * (β * D) ≡ S * (b * U) = ap (λ (x : ℕ). S * x) q in
      let e2 : α * D * U ≡ A * U * U = ap (λ (x : ℕ). x * U) p in
      let e3 : w * (β * D) ≡ w * (b * U) = ap (λ (x : ℕ). w * x) q in
      let f1 : S * β * D ≤ (α * U + w * β) * D = mul-le-mul_right D h.0 in
      let f2 : α * U * D ≤ (S * β + w * β) * D = mul-le-mul_right D h.1 in
      (le_of_mul-le-mul_right {k = U} (omega arith) H, le_of_mul-le-mul_right {k = U} (omega arith) H)

  -- ---- z = s · s. With X = S · b, Y = A · U and C = b · U
  square_core : (Z C X Y : ℕ) → Near (X * U) (Y * U) (w * C) → 5 * X ≤ C → 17 * Y ≤ 3 * C → Near (Z * (C * C)) (X * X * U) (X * X * w + C * C) → Near (2 * (Z * (C * C))) (2 * (Y * Y * U)) (w * (C * C))
  square_core Z C X Y h l k r =
      let a1 : X * (X * U) ≤ X * (Y * U + w * C) = mul-le-mul_left X h.0 in
      let a2 : Y * (X * U) ≤ Y * (Y * U + w * C) = mul-le-mul_left Y h.0 in
      let b1 : X * (Y * U) ≤ X * (X * U + w * C) = mul-le-mul_left X h.1 in
      let b2 : Y * (Y * U) ≤ Y * (X * U + w * C) = mul-le-mul_left Y h.1 in
      let c1 : 5 * X * (w * C) ≤ C * (w * C) = mul-le-mul_right (w * C) l in
      let c2 : 17 * Y * (w * C) ≤ 3 * C * (w * C) = mul-le-mul_right (w * C) k in
      let c3 : 5 * X * (w * X) ≤ C * (w * X) = mul-le-mul_right (w * X) l in
      let d : 1000 * (C * C) ≤ w * (C * C) = mul-le-mul_right (C * C) W in
      (omega arith, omega arith)

  pub square : (S b A Z : ℕ) → 0 < U → 5 * S ≤ U → 17 * A ≤ 3 * b → Near (S * b) (A * U) (w * b) → Near (Z * (U * U)) (S * S * U) (S * S * w + U * U) → Near (2 * (Z * (b * b))) (2 * (A * A * U)) (w * (b * b))
  square S b A Z H small l h r =
      let C = b * U in
      let X = S * b in
      let Y = A * U in
      let f1 : S * b * U ≤ (A * U + w * b) * U = mul-le-mul_right U h.0 in
      let f2 : A * U * U ≤ (S * b + w * b) * U = mul-le-mul_right U h.1 in
      let g1 : 5 * S * b ≤ U * b = mul-le-mul_right b small in
      let g2 : 17 * A * U ≤ 3 * b * U = mul-le-mul_right U l in
      let r1 : Z * (U * U) * (b * b) ≤ (S * S * U + (S * S * w + U * U)) * (b * b) = mul-le-mul_right (b * b) r.0 in
      let r2 : S * S * U * (b * b) ≤ (Z * (U * U) + (S * S * w + U * U)) * (b * b) = mul-le-mul_right (b * b) r.1 in
      let core = square_core Z (b * U) (S * b) (A * U) (omega arith, omega arith) (omega arith) (omega arith) (omega arith, omega arith) in
      (le_of_mul-le-mul_right {k = U * U} (omega (arith, core.0)) (mul-pos H H), le_of_mul-le-mul_right {k = U * U} (omega (arith, core.1)) (mul-pos H H))

  -- ---- Horner's step, from h, which is G units and stands for P / Q, and z, which is Z units and stands for c / d
  pub sum_small : (G P Q : ℕ) → 0 < Q → Near (G * Q) (P * U) (4 * w * Q) → 20 * P ≤ 21 * Q → 50 * G ≤ 53 * U
  sum_small G P Q H h l =
      let a : 20 * P * U ≤ 21 * Q * U = mul-le-mul_right U l in
      let b : 1000 * w * Q ≤ U * Q = mul-le-mul_right Q UW in
      le_of_mul-le-mul_right {k = Q} (omega (arith, h.0)) H

  pub square_small : (Z c d : ℕ) → 0 < d → Near (2 * (Z * d)) (2 * (c * U)) (w * d) → 32 * c ≤ d → 30 * Z ≤ U
  square_small Z c d H h l =
      let a : 32 * c * U ≤ d * U = mul-le-mul_right U l in
      let b : 1000 * w * d ≤ U * d = mul-le-mul_right d UW in
      le_of_mul-le-mul_right {k = d} (omega (arith, h.0)) H

  -- ---- a product: of G units, standing for P / Q within e units, and of Z units, standing for c / d within f / 2 units, all within t / 2m units
  product_core : (R B C x y X Y e f : ℕ) → Near (x * U) (y * U) (e * B) → Near (2 * X * U) (2 * Y * U) (f * C) → Near (R * (B * C)) (x * X * U) (x * X * w + B * C)
      → Near (2 * (R * (B * C))) (2 * (y * Y * U)) (2 * (X * (e * B)) + y * (f * C) + 2 * (x * X * w + B * C))
  product_core R B C x y X Y e f h k r = (up (mul-le-mul_left X h.0) (mul-le-mul_left y k.0) r.0, down (mul-le-mul_left X h.1) (mul-le-mul_left y k.1) r.1)
    where
      up : X * (x * U) ≤ X * (y * U + e * B) → y * (2 * X * U) ≤ y * (2 * Y * U + f * C) → R * (B * C) ≤ x * X * U + (x * X * w + B * C) → 2 * (R * (B * C)) ≤ 2 * (y * Y * U) + (2 * (X * (e * B)) + y * (f * C) + 2 * (x * X * w + B * C))
      up a b c = omega (arith, a, b, c)

      down : X * (y * U) ≤ X * (x * U + e * B) → y * (2 * Y * U) ≤ y * (2 * X * U + f * C) → x * X * U ≤ R * (B * C) + (x * X * w + B * C) → 2 * (y * Y * U) ≤ 2 * (R * (B * C)) + (2 * (X * (e * B)) + y * (f * C) + 2 * (x * X * w + B * C))
      down a b c = omega (arith, a, b, c)

  near_times : (m a b E T : ℕ) → Near a b E → m * E ≤ T → Near (m * a) (m * b) T
  near_times m a b E T h l = (go (mul-le-mul_left m h.0), go' (mul-le-mul_left m h.1))
    where
      go : m * a ≤ m * (b + E) → m * a ≤ m * b + T
      go i = omega (arith, i, l)

      go' : m * b ≤ m * (a + E) → m * b ≤ m * a + T
      go' i = omega (arith, i, l)

  product : (m t e f G P Q Z c d R : ℕ) → 0 < U → Near (G * Q) (P * U) (e * Q) → Near (2 * (Z * d)) (2 * (c * U)) (f * d) → Near (R * (U * U)) (G * Z * U) (G * Z * w + U * U)
      → m * (2 * (Z * d * (e * (U * Q))) + P * U * (f * (U * d)) + 2 * (G * Q * (Z * d) * w + U * Q * (U * d))) ≤ t * (U * Q * (U * d)) → Near (m * (2 * (R * (Q * d)))) (m * (2 * (P * c * U))) (t * (Q * d))
  product m t e f G P Q Z c d R H h k r budget =
      let core = near_times m (2 * (R * (U * Q * (U * d)))) (2 * (P * U * (c * U) * U)) (2 * (Z * d * (e * (U * Q))) + P * U * (f * (U * d)) + 2 * (G * Q * (Z * d) * w + U * Q * (U * d))) (t * (U * Q * (U * d)))
      (product_core R (U * Q) (U * d) (G * Q) (P * U) (Z * d) (c * U) e f
      (one (mul-le-mul_right U h.0), one' (mul-le-mul_right U h.1)) (two (mul-le-mul_right U k.0), two' (mul-le-mul_right U k.1))
      (three (mul-le-mul_right (d * Q) r.0), three' (mul-le-mul_right (d * Q) r.1))) budget in
      (le_of_mul-le-mul_right {k = U * U} (four core.0) (mul-pos H H), le_of_mul-le-mul_right {k = U * U} (four' core.1) (mul-pos H H))
    where
      one : G * Q * U ≤ (P * U + e * Q) * U → G * Q * U ≤ P * U * U + e * (U * Q)
      one a = omega (arith, a)

      one' : P * U * U ≤ (G * Q + e * Q) * U → P * U * U ≤ G * Q * U + e * (U * Q)
      one' a = omega (arith, a)

      two : 2 * (Z * d) * U ≤ (2 * (c * U) + f * d) * U → 2 * (Z * d) * U ≤ 2 * (c * U) * U + f * (U * d)
      two a = omega (arith, a)

      two' : 2 * (c * U) * U ≤ (2 * (Z * d) + f * d) * U → 2 * (c * U) * U ≤ 2 * (Z * d) * U + f * (U * d)
      two' a = omega (arith, a)

      three : R * (U * U) * (d * Q) ≤ (G * Z * U + (G * Z * w + U * U)) * (d * Q) → R * (U * Q * (U * d)) ≤ G * Q * (Z * d) * U + (G * Q * (Z * d) * w + U * Q * (U * d))
      three a = omega (arith, a)

      three' : G * Z * U * (d * Q) ≤ (R * (U * U) + (G * Z * w + U * U)) * (d * Q) → G * Q * (Z * d) * U ≤ R * (U * Q * (U * d)) + (G * Q * (Z * d) * w + U * Q * (U * d))
      three' a = omega (arith, a)

      four : m * (2 * (R * (U * Q * (U * d)))) ≤ m * (2 * (P * U * (c * U) * U)) + t * (U * Q * (U * d)) → m * (2 * (R * (Q * d))) * (U * U) ≤ (m * (2 * (P * c * U)) + t * (Q * d)) * (U * U)
      four a = omega (arith, a)

      four' : m * (2 * (P * U * (c * U) * U)) ≤ m * (2 * (R * (U * Q * (U * d)))) + t * (U * Q * (U * d)) → m * (2 * (P * c * U)) * (U * U) ≤ (m * (2 * (R * (Q * d))) + t * (Q * d)) * (U * U)
      four' a = omega (arith, a)

  wide : (a b x y k l : ℕ) → y * k ≡ l → a * x ≤ b * y → a * (x * k) ≤ b * l
  wide a b x y k l e h = subst (λ (l : ℕ). a * (x * k) ≤ b * l) e (go (mul-le-mul_right k h))
    where
      go : a * x * k ≤ b * y * k → a * (x * k) ≤ b * (y * k)
      go i = omega (arith, i)

  -- h · z
  pub product_near : (G P Q Z c d R : ℕ) → 0 < U → 50 * G ≤ 53 * U → 30 * Z ≤ U → 20 * P ≤ 21 * Q → Near (G * Q) (P * U) (4 * w * Q) → Near (2 * (Z * d)) (2 * (c * U)) (w * d) → Near (R * (U * U)) (G * Z * U) (G * Z * w + U * U)
      → Near (5 * (R * (d * Q))) (5 * (c * P * U)) (4 * w * (d * Q))
  product_near G P Q Z c d R H lg lz lp h k r =
      half (product 5 (8 * w) (4 * w) w G P Q Z c d R H h k r (budget (U * Q) (U * d) (G * Q) (P * U) (Z * d) (wide 50 53 G U Q (U * Q) refl lg) (wide 30 1 Z U d (U * d) refl (le_trans lz (le_of_eq (sym (one-mul U))))) (wide 20 21 P Q U (U * Q) (mul_comm Q U) lp)))
    where
      budget : (B C x y X : ℕ) → 50 * x ≤ 53 * B → 30 * X ≤ 1 * C → 20 * y ≤ 21 * B → 5 * (2 * (X * (4 * w * B)) + y * (w * C) + 2 * (x * X * w + B * C)) ≤ 8 * w * (B * C)
      budget B C x y X lx lX ly =
          let a : 30 * X * (w * B) ≤ 1 * C * (w * B) = mul-le-mul_right (w * B) lX in
          let b : 20 * y * (w * C) ≤ 21 * B * (w * C) = mul-le-mul_right (w * C) ly in
          let e : 50 * x * (X * w) ≤ 53 * B * (X * w) = mul-le-mul_right (X * w) lx in
          let f : 1000 * (B * C) ≤ w * (B * C) = mul-le-mul_right (B * C) W in
          omega (arith, a, b, e, f)

      half : Near (5 * (2 * (R * (Q * d)))) (5 * (2 * (P * c * U))) (8 * w * (Q * d)) → Near (5 * (R * (d * Q))) (5 * (c * P * U)) (4 * w * (d * Q))
      half a = (omega (arith, a.0), omega (arith, a.1))

  pub product_small : (G Z R : ℕ) → 0 < U → 50 * G ≤ 53 * U → 30 * Z ≤ U → R * (U * U) ≤ G * Z * U + (G * Z * w + U * U) → 2 * R ≤ U
  product_small G Z R H lg lz r =
      let a : 50 * G * (30 * Z) ≤ 53 * U * U = mul-le-mul lg lz in
      let b : 50 * G * (30 * Z) * U ≤ 53 * U * U * U = mul-le-mul_right U a in
      let c : 50 * G * (30 * Z) * w ≤ 53 * U * U * w = mul-le-mul_right w a in
      let d : 1000 * w * (U * U) ≤ U * (U * U) = mul-le-mul_right (U * U) UW in
      let e : 1000 * (U * U) ≤ w * (U * U) = mul-le-mul_right (U * U) W in
      le_of_mul-le-mul_right {k = U * U} (omega (arith, r, b, c, d, e)) (mul-pos H H)

  pub recip_small : (r q : ℕ) → 0 < q → r * q ≤ U + (w + q) → r ≤ U + w + 1
  recip_small r q H h = let a : (U + w) * 1 ≤ (U + w) * q = mul-le-mul_left (U + w) H in le_of_mul-le-mul_right {k = q} (omega (arith, a, h)) H

  pub horner_near : (G R r q m x : ℕ) → 0 < q → Near G (R + r) (2 * w + 1) → Near (r * q) U (w + q) → Near (5 * (R * m)) (5 * (x * U)) (4 * w * m) → Near (G * (q * m)) ((m + q * x) * U) (4 * w * (q * m))
  horner_near G R r q m x H h k l =
      let a : 1 * (w * m) ≤ q * (w * m) = mul-le-mul_right (w * m) H in
      let b : 1000 * (q * m) ≤ w * (q * m) = mul-le-mul_right (q * m) W in
      (up (mul-le-mul_right (q * m) h.0) (mul-le-mul_right m k.0) (mul-le-mul_right q l.0) a b, down (mul-le-mul_right (q * m) h.1) (mul-le-mul_right m k.1) (mul-le-mul_right q l.1) a b)
    where
      up : G * (q * m) ≤ (R + r + (2 * w + 1)) * (q * m) → r * q * m ≤ (U + (w + q)) * m → 5 * (R * m) * q ≤ (5 * (x * U) + 4 * w * m) * q → 1 * (w * m) ≤ q * (w * m) → 1000 * (q * m) ≤ w * (q * m)
          → G * (q * m) ≤ (m + q * x) * U + 4 * w * (q * m)
      up a1 a2 a3 a b = omega (arith, a1, a2, a3, a, b)

      down : (R + r) * (q * m) ≤ (G + (2 * w + 1)) * (q * m) → U * m ≤ (r * q + (w + q)) * m → 5 * (x * U) * q ≤ (5 * (R * m) + 4 * w * m) * q → 1 * (w * m) ≤ q * (w * m) → 1000 * (q * m) ≤ w * (q * m)
          → (m + q * x) * U ≤ G * (q * m) + 4 * w * (q * m)
      down a1 a2 a3 a b = omega (arith, a1, a2, a3, a, b)

  -- the first h, 1 / 21, with nothing after it
  pub first_near : (r q d : ℕ) → 0 < q → Near (r * q) U (w + q) → Near (r * (q * d)) (d * U) (4 * w * (q * d))
  first_near r q d H k =
      let a : 1 * (w * d) ≤ q * (w * d) = mul-le-mul_right (w * d) H in
      let b : 1000 * (q * d) ≤ w * (q * d) = mul-le-mul_right (q * d) W in
      (up (mul-le-mul_right d k.0) a b, down (mul-le-mul_right d k.1) a b)
    where
      up : r * q * d ≤ (U + (w + q)) * d → 1 * (w * d) ≤ q * (w * d) → 1000 * (q * d) ≤ w * (q * d) → r * (q * d) ≤ d * U + 4 * w * (q * d)
      up c a b = omega (arith, a, b, c)

      down : U * d ≤ (r * q + (w + q)) * d → 1 * (w * d) ≤ q * (w * d) → 1000 * (q * d) ≤ w * (q * d) → d * U ≤ r * (q * d) + 4 * w * (q * d)
      down c a b = omega (arith, a, b, c)

  -- ---- (2 · s) · h, where s is S units, standing for A / b, 2 · s is D units and h is G units, standing for P / Q
  pub double_near : (S D : ℕ) → 0 < U → 5 * S ≤ U → Near (D * (U * U)) (2 * U * S * U) (2 * U * S * w + U * U) → Near (2 * D) (4 * S) w
  double_near S D H l r =
      let a : 5 * S * (U * w) ≤ U * (U * w) = mul-le-mul_right (U * w) l in
      let b : 1000 * (U * U) ≤ w * (U * U) = mul-le-mul_right (U * U) W in
      (le_of_mul-le-mul_right {k = U * U} (omega (arith, a, b, r.0)) (mul-pos H H), le_of_mul-le-mul_right {k = U * U} (omega (arith, a, b, r.1)) (mul-pos H H))

  pub double_small : (S D : ℕ) → 5 * S ≤ U → Near (2 * D) (4 * S) w → 50 * D ≤ 21 * U
  double_small S D l h = omega (arith, h.0, UW, l)

  pub last_near : (S b A D G P Q R : ℕ) → 0 < U → 20 * P ≤ 21 * Q → 50 * G ≤ 53 * U → 50 * D ≤ 21 * U → Near (S * b) (A * U) (w * b) → Near (2 * D) (4 * S) w → Near (G * Q) (P * U) (4 * w * Q) → Near (R * (U * U)) (D * G * U) (D * G * w + U * U)
      → Near (R * (b * Q)) (2 * (A * P) * U) (5 * w * (b * Q))
  last_near S b A D G P Q R H lP lG lD s d h r =
      half (product 1 (10 * w) (4 * w) (5 * w) G P Q D (2 * A) b R H h (twice (mul-le-mul_right b d.0) s.0, twice' (mul-le-mul_right b d.1) s.1) (swap r)
      (budget (U * Q) (U * b) (G * Q) (P * U) (D * b) (wide 50 53 G U Q (U * Q) refl lG) (wide 50 21 D U b (U * b) refl lD) (wide 20 21 P Q U (U * Q) (mul_comm Q U) lP)))
    where
      twice : 2 * D * b ≤ (4 * S + w) * b → S * b ≤ A * U + w * b → 2 * (D * b) ≤ 2 * (2 * A * U) + 5 * w * b
      twice a c = omega (arith, a, c)

      twice' : 4 * S * b ≤ (2 * D + w) * b → A * U ≤ S * b + w * b → 2 * (2 * A * U) ≤ 2 * (D * b) + 5 * w * b
      twice' a c = omega (arith, a, c)

      swap : Near (R * (U * U)) (D * G * U) (D * G * w + U * U) → Near (R * (U * U)) (G * D * U) (G * D * w + U * U)
      swap a = (omega (arith, a.0), omega (arith, a.1))

      budget : (B C x y X : ℕ) → 50 * x ≤ 53 * B → 50 * X ≤ 21 * C → 20 * y ≤ 21 * B → 1 * (2 * (X * (4 * w * B)) + y * (5 * w * C) + 2 * (x * X * w + B * C)) ≤ 10 * w * (B * C)
      budget B C x y X lx lX ly =
          let a : 50 * X * (w * B) ≤ 21 * C * (w * B) = mul-le-mul_right (w * B) lX in
          let b : 20 * y * (w * C) ≤ 21 * B * (w * C) = mul-le-mul_right (w * C) ly in
          let e : 50 * x * (X * w) ≤ 53 * B * (X * w) = mul-le-mul_right (X * w) lx in
          let f : 1000 * (B * C) ≤ w * (B * C) = mul-le-mul_right (B * C) W in
          omega (arith, a, b, e, f)

      half : Near (1 * (2 * (R * (Q * b)))) (1 * (2 * (P * (2 * A) * U))) (10 * w * (Q * b)) → Near (R * (b * Q)) (2 * (A * P) * U) (5 * w * (b * Q))
      half a = (omega (arith, a.0), omega (arith, a.1))

-- ---- 1 / q + (c / d) · (P / Q) is no more than 21 / 20
pub bounded : (P Q c d q : ℕ) → 0 < q → 32 * c ≤ d → 20 * P ≤ 21 * Q → 20 * (d * Q + q * (c * P)) ≤ 21 * (q * (d * Q))
bounded P Q c d q H l k =
    let a : 20 * P * (q * c) ≤ 21 * Q * (q * c) = mul-le-mul_right (q * c) k in
    let b : 32 * c * (q * Q) ≤ d * (q * Q) = mul-le-mul_right (q * Q) l in
    let e : 1 * (d * Q) ≤ q * (d * Q) = mul-le-mul_right (d * Q) H in
    omega (arith, a, b, e)

-- ---- the terms that are left out: P / Q is what is added up, and Px / Qx is more by 21 / T at the most
pub tail_near : (U w R b A P Q Px Qx T : ℕ) → 0 < Q → 0 < T → 17 * A ≤ 3 * b → 42 * U ≤ T * w → P * Qx ≤ Px * Q → Px * Q * T ≤ P * Qx * T + 21 * (Qx * Q) → Near (R * (b * Q)) (2 * (A * P) * U) (5 * w * (b * Q))
    → Near (R * (b * Qx)) (2 * (A * Px) * U) (6 * w * (b * Qx))
tail_near U w R b A P Q Px Qx T q t lA lU low high h = (
  le_of_mul-le-mul_right {k = Q} (up (mul-le-mul_right Qx h.0) (mul-le-mul_left (2 * A * U) low)) q,
  le_of_mul-le-mul_right {k = Q} (down (mul-le-mul_right Qx h.1) (le_of_mul-le-mul_right {k = T} (over (Px * Q) (P * Qx) (Qx * Q) (mul-le-mul_left (A * U) high) (mul-le-mul_right (A * (Qx * Q)) lU) (mul-le-mul_right (T * w * (Qx * Q)) lA)) t)) q,
)
  where
    up : R * (b * Q) * Qx ≤ (2 * (A * P) * U + 5 * w * (b * Q)) * Qx → 2 * A * U * (P * Qx) ≤ 2 * A * U * (Px * Q) → R * (b * Qx) * Q ≤ (2 * (A * Px) * U + 6 * w * (b * Qx)) * Q
    up a c = omega (arith, a, c)

    over : (x y m : ℕ) → A * U * (x * T) ≤ A * U * (y * T + 21 * m) → 42 * U * (A * m) ≤ T * w * (A * m) → 17 * A * (T * w * m) ≤ 3 * b * (T * w * m) → 2 * (A * U * x) * T ≤ (2 * (A * U * y) + w * (b * m)) * T
    over x y m a1 a2 a3 = omega (arith, a1, a2, a3)

    down : 2 * (A * P) * U * Qx ≤ (R * (b * Q) + 5 * w * (b * Q)) * Qx → 2 * (A * U * (Px * Q)) ≤ 2 * (A * U * (P * Qx)) + w * (b * (Qx * Q)) → 2 * (A * Px) * U * Q ≤ (R * (b * Qx) + 6 * w * (b * Qx)) * Q
    down a c = omega (arith, a, c)

-- ---- the sums: E · high + (E · low + 2sh)
pub last_small : (U w D G R : ℕ) → 1000 ≤ w → 1000000 * w ≤ U → 0 < U → 50 * D ≤ 21 * U → 50 * G ≤ 53 * U → R * (U * U) ≤ D * G * U + (D * G * w + U * U) → 20 * R ≤ 9 * U
last_small U w D G R W UW H lD lG r =
    let a : 50 * D * (50 * G) ≤ 21 * U * (53 * U) = mul-le-mul lD lG in
    let b : 50 * D * (50 * G) * U ≤ 21 * U * (53 * U) * U = mul-le-mul_right U a in
    let c : 50 * D * (50 * G) * w ≤ 21 * U * (53 * U) * w = mul-le-mul_right w a in
    let d : 1000000 * w * (U * U) ≤ U * (U * U) = mul-le-mul_right (U * U) UW in
    let e : 1000 * (U * U) ≤ w * (U * U) = mul-le-mul_right (U * U) W in
    le_of_mul-le-mul_right {k = U * U} (omega (arith, r, b, c, d, e)) (mul-pos H H)

-- E · high and E · low
pub scale_near : (U w x e h : ℕ) → 0 < U → h ≤ U → Near (x * (U * U)) (e * U * h * U) (e * U * h * w + U * U) → Near x (e * h) (e * w + 1)
scale_near U w x e h H l r =
    let a : h * (e * U * w) ≤ U * (e * U * w) = mul-le-mul_right (e * U * w) l in
    (le_of_mul-le-mul_right {k = U * U} (omega (arith, a, r.0)) (mul-pos H H), le_of_mul-le-mul_right {k = U * U} (omega (arith, a, r.1)) (mul-pos H H))

-- From here on every number is a difference: E is e − e', E · high is a − a', E · low is b − b', 2sh is r − r', the inner sum i − i' and the outer o − o'.
pub low_small : (U w e e' l b b' : ℕ) → 1000 ≤ w → 1000000 * w ≤ U → e + e' ≤ 1100 → 1000000 * l ≤ U → b ≤ e * l + (e * w + 1) → b' ≤ e' * l + (e' * w + 1) → 50 * (b + b') ≤ U
low_small U w e e' l b b' W UW few ll nb nb' =
    let a : (e + e') * l ≤ 1100 * l = mul-le-mul_right l few in
    let c : (e + e') * w ≤ 1100 * w = mul-le-mul_right w few in
    omega arith

pub inner_room : (U b b' r r' : ℕ) → 50 * (b + b') ≤ U → 20 * (r + r') ≤ 9 * U → Near ((b + r) * 2) ((b' + r') * 2) (1 * U)
inner_room U b b' r r' l k = omega arith

outer_half : (U w a i j b r x y z : ℕ) → 1000 ≤ w → 1000000 * w ≤ U → 50 * b ≤ U → 20 * r ≤ 9 * U → i * 2 ≤ (b + r + j) * 2 + (1 * w + 2) → a ≤ x + (y + 1) → 10 * x ≤ 7 * z → 1000000 * y ≤ z → a + i ≤ j + (z + U)
outer_half U w a i j b r x y z W UW lb lr li la lx ly = omega arith

outer_whole : (e e' U x a i : ℕ) → x ≤ i + (e * U + U) → x * 1 ≤ (a + i) * 1 + (e + e' + 1) * U
outer_whole e e' U x a i h = omega arith

pub outer_room : (U w e e' h a a' b b' r r' i i' : ℕ) → 1000 ≤ w → 1000000 * w ≤ U → 10 * h ≤ 7 * U → 50 * (b + b') ≤ U → 20 * (r + r') ≤ 9 * U → Near a (e * h) (e * w + 1) → Near a' (e' * h) (e' * w + 1)
    → Near ((i + (b' + r')) * 2) ((b + r + i') * 2) (1 * w + 2) → Near ((a + i) * 1) ((a' + i') * 1) ((e + e' + 1) * U)
outer_room U w e e' h a a' b b' r r' i i' W UW lh lb lr na na' ni = (
  left (outer_half U w a i i' b r (e * h) (e * w) (e * U) W UW (first lb) (second lr) (less ni.0) na.0 (order e (mul-le-mul_left e lh)) (order' e (mul-le-mul_left e UW))),
  right (outer_half U w a' i' i b' r' (e' * h) (e' * w) (e' * U) W UW (third lb) (fourth lr) (less' ni.1) na'.0 (order e' (mul-le-mul_left e' lh)) (order' e' (mul-le-mul_left e' UW))),
)
  where
    first : 50 * (b + b') ≤ U → 50 * b ≤ U
    first h = omega (arith, h)

    third : 50 * (b + b') ≤ U → 50 * b' ≤ U
    third h = omega (arith, h)

    second : 20 * (r + r') ≤ 9 * U → 20 * r ≤ 9 * U
    second h = omega (arith, h)

    fourth : 20 * (r + r') ≤ 9 * U → 20 * r' ≤ 9 * U
    fourth h = omega (arith, h)

    less : (i + (b' + r')) * 2 ≤ (b + r + i') * 2 + (1 * w + 2) → i * 2 ≤ (b + r + i') * 2 + (1 * w + 2)
    less h = le_trans (mul-le-mul_right 2 (le-add_right i (b' + r'))) h

    less' : (b + r + i') * 2 ≤ (i + (b' + r')) * 2 + (1 * w + 2) → i' * 2 ≤ (b' + r' + i) * 2 + (1 * w + 2)
    less' h = le_trans (mul-le-mul_right 2 (le-add_left i' (b + r))) (le_trans h (le_of_eq (ap (λ (x : ℕ). x * 2 + (1 * w + 2)) (add_comm i (b' + r')))))

    order : (e : ℕ) → e * (10 * h) ≤ e * (7 * U) → 10 * (e * h) ≤ 7 * (e * U)
    order e h = omega (arith, h)

    order' : (e : ℕ) → e * (1000000 * w) ≤ e * U → 1000000 * (e * w) ≤ e * U
    order' e h = omega (arith, h)

    left : a + i ≤ i' + (e * U + U) → (a + i) * 1 ≤ (a' + i') * 1 + (e + e' + 1) * U
    left h = outer_whole e e' U (a + i) a' i' h

    right : a' + i' ≤ i + (e' * U + U) → (a' + i') * 1 ≤ (a + i) * 1 + (e + e' + 1) * U
    right h = subst (λ (k : ℕ). (a' + i') * 1 ≤ (a + i) * 1 + (k + 1) * U) (add_comm e' e) (outer_whole e' e U (a' + i') a i h)

result_half : (w o o' a a' b b' r r' i i' u u' v v' x y : ℕ) → 1000 ≤ w → (o + (a' + i')) * 1 ≤ (a + i + o') * 1 + (x + y + w + 1) → (i + (b' + r')) * 2 ≤ (b + r + i') * 2 + (1 * w + 2)
    → a ≤ u + (x + 1) → u' ≤ a' + (y + 1) → b ≤ v + (x + 1) → v' ≤ b' + (y + 1) → 2 * (o + (u' + v' + r')) ≤ 2 * (o' + (u + v + r)) + (6 * (x + y) + 4 * w)
result_half w o o' a a' b b' r r' i i' u u' v v' x y W k l m m' n n' = omega arith

pub result_near : (w e e' h l o o' a a' b b' r r' i i' : ℕ) → 1000 ≤ w → Near a (e * h) (e * w + 1) → Near a' (e' * h) (e' * w + 1) → Near b (e * l) (e * w + 1) → Near b' (e' * l) (e' * w + 1)
    → Near ((i + (b' + r')) * 2) ((b + r + i') * 2) (1 * w + 2) → Near ((o + (a' + i')) * 1) ((a + i + o') * 1) ((e + e' + 1) * w + 1)
    → Near (2 * (o + (e' * (h + l) + r'))) (2 * (o' + (e * (h + l) + r))) (6 * ((e + e') * w) + 4 * w)
result_near w e e' h l o o' a a' b b' r r' i i' W na na' nb nb' ni k = (
  up (result_half w o o' a a' b b' r r' i i' (e * h) (e' * h) (e * l) (e' * l) (e * w) (e' * w) W (out k.0) ni.0 na.0 na'.1 nb.0 nb'.1),
  down (result_half w o' o a' a b' b r' r i' i (e' * h) (e * h) (e' * l) (e * l) (e' * w) (e * w) W (out' k.1) (in' ni.1) na'.0 na.1 nb'.0 nb.1),
)
  where
    out : (o + (a' + i')) * 1 ≤ (a + i + o') * 1 + ((e + e' + 1) * w + 1) → (o + (a' + i')) * 1 ≤ (a + i + o') * 1 + (e * w + e' * w + w + 1)
    out h = subst (λ (x : ℕ). (o + (a' + i')) * 1 ≤ (a + i + o') * 1 + x) (flat e e' w) h
      where
        flat : (e e' w : ℕ) → (e + e' + 1) * w + 1 ≡ e * w + e' * w + w + 1
        flat e e' w = omega arith

    out' : (a + i + o') * 1 ≤ (o + (a' + i')) * 1 + ((e + e' + 1) * w + 1) → (o' + (a + i)) * 1 ≤ (a' + i' + o) * 1 + (e' * w + e * w + w + 1)
    out' h = swap (a + i) (a' + i') e e' h
      where
        swap : (x y e e' : ℕ) → (x + o') * 1 ≤ (o + y) * 1 + ((e + e' + 1) * w + 1) → (o' + x) * 1 ≤ (y + o) * 1 + (e' * w + e * w + w + 1)
        swap x y e e' h = omega (arith, h)

    in' : (b + r + i') * 2 ≤ (i + (b' + r')) * 2 + (1 * w + 2) → (i' + (b + r)) * 2 ≤ (b' + r' + i) * 2 + (1 * w + 2)
    in' h = swap (b + r) (b' + r') h
      where
        swap : (x y : ℕ) → (x + i') * 2 ≤ (i + y) * 2 + (1 * w + 2) → (i' + x) * 2 ≤ (y + i) * 2 + (1 * w + 2)
        swap x y h = omega (arith, h)

    up : 2 * (o + (e' * h + e' * l + r')) ≤ 2 * (o' + (e * h + e * l + r)) + (6 * (e * w + e' * w) + 4 * w) → 2 * (o + (e' * (h + l) + r')) ≤ 2 * (o' + (e * (h + l) + r)) + (6 * ((e + e') * w) + 4 * w)
    up x = omega (arith, x)

    down : 2 * (o' + (e * h + e * l + r)) ≤ 2 * (o + (e' * h + e' * l + r')) + (6 * (e' * w + e * w) + 4 * w) → 2 * (o' + (e * (h + l) + r)) ≤ 2 * (o + (e' * (h + l) + r')) + (6 * ((e + e') * w) + 4 * w)
    down x = omega (arith, x)
