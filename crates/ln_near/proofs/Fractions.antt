-- Laws of fractions and of numbers of either sign: orders, and what lies between two ends. Assumes nothing.
use mathlib.Core.Path.{◌≡◌}
use Prim.Native.Nat.{ℕ, ◌+◌, ◌*◌, ◌≤◌, ◌<◌}
use native.Mathlib.Nat.{le_refl, mul-pos, mul-le-mul_right, mul-le-mul_left, le_of_mul-le-mul_right}
use native.Mathlib.Omega.{arith}
use Rattle.ln_near.specs.Fractions.{Frac, ◌+ᶠ◌, times, ◌≤ᶠ◌, Number, Proper, AtMost, raised, Within}

-- ---- fractions
sum_at_lem : (a A b B c C d D : ℕ) → a * C ≤ c * A → b * D ≤ d * B → (a * B + b * A) * (C * D) ≤ (c * D + d * C) * (A * B)
sum_at_lem a A b B c C d D h k =
    let x : a * C * (B * D) ≤ c * A * (B * D) = mul-le-mul_right (B * D) h in
    let y : b * D * (A * C) ≤ d * B * (A * C) = mul-le-mul_right (A * C) k in
    omega (arith, x, y)

pub sum_le : (f g h k : Frac) → f ≤ᶠ h → g ≤ᶠ k → f +ᶠ g ≤ᶠ h +ᶠ k
sum_le f g h k i j = sum_at_lem f.num f.den g.num g.den h.num h.den k.num k.den i j

times_at : (k a A b B : ℕ) → a * B ≤ b * A → k * a * B ≤ k * b * A
times_at k a A b B h = let x : k * (a * B) ≤ k * (b * A) = mul-le-mul_left k h in omega (arith, x)

pub times_le : (k : ℕ) (f g : Frac) → f ≤ᶠ g → times k f ≤ᶠ times k g
times_le k f g h = times_at k f.num f.den g.num g.den h

-- ---- numbers
pub at_most : (u v : Number) → u.plus ≤ᶠ v.plus → v.minus ≤ᶠ u.minus → AtMost u v
at_most u v h k = sum_le u.plus v.minus v.plus u.minus h k

pub at_most_refl : (u : Number) → AtMost u u
at_most_refl u = le_refl _

-- A number over the product of its denominators: (over − under) / whole
abbrev over : Number → ℕ
over u = u.plus.num * u.minus.den

abbrev under : Number → ℕ
under u = u.minus.num * u.plus.den

abbrev whole : Number → ℕ
whole u = u.plus.den * u.minus.den

flat_at : (a A b B c C d D : ℕ) → (a * D + d * A) * (C * B) ≤ (c * B + b * C) * (A * D) → a * B * (C * D) + d * C * (A * B) ≤ c * D * (A * B) + b * A * (C * D)
flat_at a A b B c C d D h = omega (arith, h)

flat : (u v : Number) → AtMost u v → over u * whole v + under v * whole u ≤ over v * whole u + under u * whole v
flat u v h = flat_at u.plus.num u.plus.den u.minus.num u.minus.den v.plus.num v.plus.den v.minus.num v.minus.den h

back_at : (a A b B c C d D : ℕ) → a * B * (C * D) + d * C * (A * B) ≤ c * D * (A * B) + b * A * (C * D) → (a * D + d * A) * (C * B) ≤ (c * B + b * C) * (A * D)
back_at a A b B c C d D h = omega (arith, h)

back : (u v : Number) → over u * whole v + under v * whole u ≤ over v * whole u + under u * whole v → AtMost u v
back u v h = back_at u.plus.num u.plus.den u.minus.num u.minus.den v.plus.num v.plus.den v.minus.num v.minus.den h

trans_at : (x x' X y y' Y z z' Z : ℕ) → 0 < Y → x * Y + y' * X ≤ y * X + x' * Y → y * Z + z' * Y ≤ z * Y + y' * Z → x * Z + z' * X ≤ z * X + x' * Z
trans_at x x' X y y' Y z z' Z p h k =
    let i : (x * Y + y' * X) * Z ≤ (y * X + x' * Y) * Z = mul-le-mul_right Z h in
    let j : (y * Z + z' * Y) * X ≤ (z * Y + y' * Z) * X = mul-le-mul_right X k in
    le_of_mul-le-mul_right {k = Y} (omega (arith, i, j)) p

pub at_most_trans : (u v w : Number) → Proper v → AtMost u v → AtMost v w → AtMost u w
at_most_trans u v w p h k = back u w (trans_at (over u) (under u) (whole u) (over v) (under v) (whole v) (over w) (under w) (whole w) (mul-pos p.0 p.1) (flat u v h) (flat v w k))

raised_le : (u v : Number) (e : Frac) → AtMost u v → AtMost (raised u e) (raised v e)
raised_le u v e h = back (raised u e) (raised v e) (go u.plus.num u.plus.den u.minus.num u.minus.den v.plus.num v.plus.den v.minus.num v.minus.den e.num e.den (flat u v h))
  where
    -- both sides over E times the denominators
    lift : (x x' X y y' Y e E : ℕ) → x * Y + y' * X ≤ y * X + x' * Y → (x * E + e * X) * (Y * E) + y' * E * (X * E) ≤ (y * E + e * Y) * (X * E) + x' * E * (Y * E)
    lift x x' X y y' Y e E h = let i : (x * Y + y' * X) * (E * E) ≤ (y * X + x' * Y) * (E * E) = mul-le-mul_right (E * E) h in omega (arith, i)

    swap : (a B e E A : ℕ) → (a * E + e * A) * B ≡ a * B * E + e * (A * B)
    swap a B e E A = omega arith

    side : (b A E : ℕ) → b * (A * E) ≡ b * A * E
    side b A E = omega arith

    part : (A B E : ℕ) → A * E * B ≡ A * B * E
    part A B E = omega arith

    go : (a A b B c C d D e E : ℕ) → a * B * (C * D) + d * C * (A * B) ≤ c * D * (A * B) + b * A * (C * D)
        → (a * E + e * A) * B * (C * E * D) + d * (C * E) * (A * E * B) ≤ (c * E + e * C) * D * (A * E * B) + b * (A * E) * (C * E * D)
    go a A b B c C d D e E h = rw (swap a B e E A, swap c D e E C, side b A E, side d C E, part A B E, part C D E) (lift (a * B) (b * A) (A * B) (c * D) (d * C) (C * D) e E h)

-- what is within e of both ends is within e of all that lies between them
pub between : (e : Frac) (r lower upper v : Number) → 0 < e.den → Proper lower → Proper upper → Within e r lower → Within e r upper → AtMost lower v → AtMost v upper → Within e r v
between e r lower upper v d p q h k i j =
    (at_most_trans r (raised lower e) (raised v e) (mul-pos p.0 d, p.1) h.0 (raised_le lower v e i), at_most_trans v upper (raised r e) q j k.1)
