-- Numbers of units that are close to fractions: sums, multiples, orders, floats. Assumes nothing.
use mathlib.Core.Path.{◌≡◌, ap}
use Prim.Native.Nat.{ℕ, ◌+◌, ◌*◌, ◌^◌, ◌≤◌, ◌<◌}
use native.Mathlib.Nat.{mul-le-mul_right, mul-le-mul_left, le_of_mul-le-mul_right, eq_of_mul-eq-mul_right}
use native.Mathlib.Omega.{arith}
use mathlib.Core.Bool.{Bool, true, false, true≢false, false≢true}
use lib.Ieee.{Float, nan, inf, fin, up, down}
use lib.Ieee.Exact.{HasValue}
use Rattle.ln_near.specs.Fractions.{Frac, ◌+ᶠ◌, times, none, ◌≤ᶠ◌, Number, AtMost, raised, Within, value_of}
use Rattle.ln_near.proofs.Rounded.{Near}
use Rattle.ln_near.proofs.Operations.{plus, minus}

-- ---- g units are as near to a fraction as e units
abbrev pub Close : ℕ → Frac → ℕ → ℕ → Type 0
Close U f g e = Near (g * f.den) (f.num * U) (e * f.den)

-- the same number
infix 50 ◌≈◌
abbrev pub ◌≈◌ : Frac → Frac → Type 0
f ≈ g = f.num * g.den ≡ g.num * f.den

same_trans : (a b c d e f : ℕ) → 0 < d → a * d ≡ c * b → c * f ≡ e * d → a * f ≡ e * b
same_trans a b c d e f H p q =
    let i : a * d * f ≡ c * b * f = ap (λ (x : ℕ). x * f) p in
    let j : c * f * b ≡ e * d * b = ap (λ (x : ℕ). x * b) q in
    eq_of_mul-eq-mul_right d H (a * f) (e * b) (omega (arith, i, j))

pub same_number : (f g h : Frac) → 0 < g.den → f ≈ g → g ≈ h → f ≈ h
same_number f g h H p q = same_trans f.num f.den g.num g.den h.num h.den H p q

close_at : (U n d m c g e : ℕ) → 0 < d → n * c ≡ m * d → Near (g * d) (n * U) (e * d) → Near (g * c) (m * U) (e * c)
close_at U n d m c g e H p h =
    let a : n * c * U ≡ m * d * U = ap (λ (x : ℕ). x * U) p in
    (le_of_mul-le-mul_right {k = d} (up a (mul-le-mul_right c h.0)) H, le_of_mul-le-mul_right {k = d} (down a (mul-le-mul_right c h.1)) H)
  where
    up : n * c * U ≡ m * d * U → g * d * c ≤ (n * U + e * d) * c → g * c * d ≤ (m * U + e * c) * d
    up a b = omega (arith, a, b)

    down : n * c * U ≡ m * d * U → n * U * c ≤ (g * d + e * d) * c → m * U * d ≤ (g * c + e * c) * d
    down a b = omega (arith, a, b)

pub close_same : (U : ℕ) (f h : Frac) (g e : ℕ) → 0 < f.den → f ≈ h → Close U f g e → Close U h g e
close_same U f h g e H p c = close_at U f.num f.den h.num h.den g e H p c

-- ---- sums, multiples, orders
sum_at_lem : (U m c n d a b e f : ℕ) → Near (a * c) (m * U) (e * c) → Near (b * d) (n * U) (f * d) → Near ((a + b) * (c * d)) ((m * d + n * c) * U) ((e + f) * (c * d))
sum_at_lem U m c n d a b e f h k = (up (mul-le-mul_right d h.0) (mul-le-mul_right c k.0), down (mul-le-mul_right d h.1) (mul-le-mul_right c k.1))
  where
    up : a * c * d ≤ (m * U + e * c) * d → b * d * c ≤ (n * U + f * d) * c → (a + b) * (c * d) ≤ (m * d + n * c) * U + (e + f) * (c * d)
    up x y = omega (arith, x, y)

    down : m * U * d ≤ (a * c + e * c) * d → n * U * c ≤ (b * d + f * d) * c → (m * d + n * c) * U ≤ (a + b) * (c * d) + (e + f) * (c * d)
    down x y = omega (arith, x, y)

pub close_sum : (U : ℕ) (f g : Frac) (a b d e : ℕ) → Close U f a d → Close U g b e → Close U (f +ᶠ g) (a + b) (d + e)
close_sum U f g a b d e h k = sum_at_lem U f.num f.den g.num g.den a b d e h k

times_at : (U m c a e k : ℕ) → Near (a * c) (m * U) (e * c) → Near (k * a * c) (k * m * U) (k * e * c)
times_at U m c a e k h = (up (mul-le-mul_left k h.0), down (mul-le-mul_left k h.1))
  where
    up : k * (a * c) ≤ k * (m * U + e * c) → k * a * c ≤ k * m * U + k * e * c
    up x = omega (arith, x)

    down : k * (m * U) ≤ k * (a * c + e * c) → k * m * U ≤ k * a * c + k * e * c
    down x = omega (arith, x)

pub close_times : (U : ℕ) (k : ℕ) (f : Frac) (a e : ℕ) → Close U f a e → Close U (times k f) (k * a) (k * e)
close_times U k f a e h = times_at U f.num f.den a e k h

le_at : (U m c n d a b e f : ℕ) → 0 < U → m * U ≤ a * c + e * c → b * d ≤ n * U + f * d → a + e + f ≤ b → m * d ≤ n * c
le_at U m c n d a b e f H h k l = le_of_mul-le-mul_right {k = U} (go (mul-le-mul_right d h) (mul-le-mul_right c k) (mul-le-mul_right (c * d) l)) H
  where
    go : m * U * d ≤ (a * c + e * c) * d → b * d * c ≤ (n * U + f * d) * c → (a + e + f) * (c * d) ≤ b * (c * d) → m * d * U ≤ n * c * U
    go x y z = omega (arith, x, y, z)

pub close_le : (U : ℕ) (f g : Frac) (a b d e : ℕ) → 0 < U → Close U f a d → Close U g b e → a + d + e ≤ b → f ≤ᶠ g
close_le U f g a b d e H h k l = le_at U f.num f.den g.num g.den a b d e H h.1 k.0 l

-- u is at most v + e, and the two are no further apart than e, where the units that they are close to leave room for it
module _ (U : ℕ) (H : 0 < U) (e : Frac) (x : ℕ) (ce : Close U e x 0) where
  close_at_most : (u v : Number) (a b c d α β γ δ : ℕ) → Close U u.plus a α → Close U u.minus b β → Close U v.plus c γ → Close U v.minus d δ → (t : ℕ) → a + d ≤ c + b + t → t + (α + β + (γ + δ)) ≤ x → AtMost u (raised v e)
  close_at_most u v a b c d α β γ δ ca cb cc cd t h room =
      close_le U (u.plus +ᶠ v.minus) (v.plus +ᶠ e +ᶠ u.minus) (a + d) (c + x + b) (α + δ) (γ + 0 + β) H (close_sum U u.plus v.minus a d α δ ca cd)
      (close_sum U (v.plus +ᶠ e) u.minus (c + x) b (γ + 0) β (close_sum U v.plus e c x γ 0 cc ce) cb) (omega (arith, h, room))

  pub close_within : (u v : Number) (a b c d α β γ δ : ℕ) → Close U u.plus a α → Close U u.minus b β → Close U v.plus c γ → Close U v.minus d δ → (t : ℕ) → Near (a + d) (c + b) t → t + (α + β + (γ + δ)) ≤ x → Within e u v
  close_within u v a b c d α β γ δ ca cb cc cd t h room =
      (close_at_most u v a b c d α β γ δ ca cb cc cd t h.0 room, close_at_most v u c d a b γ δ α β cc cd ca cb t h.1 (omega (arith, room)))

-- ---- a float is its own value
pub exact_at : (x y d : ℕ) → x ≡ y → Near y x (0 * d)
exact_at x y d h = omega arith

none_close : (U : ℕ) → Close U none 0 0
none_close U = omega arith

pub value_close : (r : Float) (o : Bool) (g : ℕ) → HasValue r o g (2 ^ 1074) → Close (2 ^ 1074) (value_of r).plus (plus o g) 0 × Close (2 ^ 1074) (value_of r).minus (minus o g) 0
unfolding value_of
value_close nan o g v = absurd v
value_close (inf s) o g v = absurd v
value_close (fin false m e) false g v = (exact_at (m * up e * 2 ^ 1074) (g * down e) (down e) v.1, none_close (2 ^ 1074))
value_close (fin false m e) true g v = absurd (false≢true v.0)
value_close (fin true m e) false g v = absurd (true≢false v.0)
value_close (fin true m e) true g v = (none_close (2 ^ 1074), exact_at (m * up e * 2 ^ 1074) (g * down e) (down e) v.1)
