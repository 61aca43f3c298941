-- How far a float sum, product or quotient is from the exact one, for arguments that are numbers of units of 2^−1074. Assumes nothing.
use mathlib.Core.Path.{◌≡◌, sym, ap, ap₂, ◌∙◌, subst}
use Prim.Native.Nat.compare
use Prim.Native.Nat.{ℕ, zero, suc, ◌+◌, ◌-◌, ◌*◌, ◌^◌, ◌≤◌, ◌<◌, Ordering}
use native.Mathlib.Nat.{le_trans, le_of_eq, le_of_lt, not-le_of_lt, zero-mul, zero-lt-suc, lt_of_le_of_lt, lt_of_lt_of_le, lt_of_mul-lt-mul_right, mul-lt-mul_of_pos_right, mul-pos, mul-le-mul_right, mul-le-mul_left, le_of_mul-le-mul_right, eq_of_mul-eq-mul_right, mul-mul-mul_comm}
use native.Mathlib.Omega.{arith}
use mathlib.Core.Bool.{Bool, true, false, not, ◌&&◌, cond}
use lib.Dec.{T, compare_is_eq, eqb, ltb, ltb→lt, nltb→le}
use borrow.Author.Tests.{le-ltb, lt-ltb}
use lib.Pow.{pow_pos}
use lib.Ieee.{Float, nan, inf, fin, binary64, up, down, unlike, round, sum, add, mul, div}
use lib.Ieee.Fits.{up_pos, down_pos}
use lib.Ieee.Exact.{HasValue}
use lib.Ieee.Scale.{round_same}
use Rattle.ln_near.proofs.Rounded.{Near, Rounded, rounded}

-- ---- the exact fraction, from the arguments x / de and y / dd, which are a / U and b / U
cross_mul : (x y de dd a b U : ℕ) → x * U ≡ a * de → y * U ≡ b * dd → x * y * (U * U) ≡ a * b * (de * dd)
cross_mul x y de dd a b U p q = mul-mul-mul_comm x y U U ∙ ap₂ (λ (u v : ℕ). u * v) p q ∙ mul-mul-mul_comm a de b dd

cross_div : (x y de dd a b U : ℕ) → 0 < U → x * U ≡ a * de → y * U ≡ b * dd → x * dd * b ≡ a * (y * de)
cross_div x y de dd a b U H p q =
    let p' : x * U * (b * dd) ≡ a * de * (b * dd) = ap (λ (v : ℕ). v * (b * dd)) p in
    let q' : y * U * (a * de) ≡ b * dd * (a * de) = ap (λ (v : ℕ). v * (a * de)) q in
    eq_of_mul-eq-mul_right U H (x * dd * b) (a * (y * de)) (omega arith)

cross_left : (x de dd a U : ℕ) → x * U ≡ a * de → x * dd * U ≡ a * (de * dd)
cross_left x de dd a U p = let p' : x * U * dd ≡ a * de * dd = ap (λ (v : ℕ). v * dd) p in omega arith

cross_right : (y de dd b U : ℕ) → y * U ≡ b * dd → y * de * U ≡ b * (de * dd)
cross_right y de dd b U q = let q' : y * U * de ≡ b * dd * de = ap (λ (v : ℕ). v * de) q in omega arith

-- ---- products and quotients
pub mul_near : (x y : Float) (s t : Bool) (a b : ℕ) → HasValue x s a (2 ^ 1074) → HasValue y t b (2 ^ 1074) → a * b ≤ 2 ^ 1000 * (2 ^ 1074 * 2 ^ 1074) → Rounded (mul binary64 x y) (unlike s t) (a * b) (2 ^ 1074 * 2 ^ 1074)
unfolding mul
mul_near nan y s t a b v w l = absurd v
mul_near (inf q) y s t a b v w l = absurd v
mul_near (fin s' m e) nan s t a b v w l = absurd w
mul_near (fin s' m e) (inf q) s t a b v w l = absurd w
mul_near (fin s' m e) (fin t' n d) s t a b v w l =
    subst (λ (z : Float). Rounded z (unlike s t) (a * b) (2 ^ 1074 * 2 ^ 1074))
    (sym (ap₂ (λ (i j : Bool). round binary64 (unlike i j) (m * up e * (n * up d)) (down e * down d)) v.0 w.0
    ∙ round_same binary64 (unlike s t) (m * up e * (n * up d)) (down e * down d) (a * b) (2 ^ 1074 * 2 ^ 1074) (mul-pos (down_pos e) (down_pos d)) (mul-pos (pow_pos 1074) (pow_pos 1074))
    (cross_mul (m * up e) (n * up d) (down e) (down d) a b (2 ^ 1074) v.1 w.1)))
    (rounded (unlike s t) (a * b) (2 ^ 1074 * 2 ^ 1074) (mul-pos (pow_pos 1074) (pow_pos 1074)) l)

pub div_near : (x y : Float) (s t : Bool) (a b : ℕ) → HasValue x s a (2 ^ 1074) → HasValue y t b (2 ^ 1074) → 0 < b → a ≤ 2 ^ 1000 * b → Rounded (div binary64 x y) (unlike s t) a b
unfolding div
div_near nan y s t a b v w B l = absurd v
div_near (inf q) y s t a b v w B l = absurd v
div_near (fin s' m e) nan s t a b v w B l = absurd w
div_near (fin s' m e) (inf q) s t a b v w B l = absurd w
div_near (fin s' m e) (fin t' zero d) s t a b v w B l = absurd (not-le_of_lt (mul-pos B (down_pos d)) (le_of_eq (sym w.1 ∙ ap (λ (x : ℕ). x * 2 ^ 1074) (zero-mul (up d)) ∙ zero-mul (2 ^ 1074))))
div_near (fin s' m e) (fin t' (suc n) d) s t a b v w B l =
    subst (λ (z : Float). Rounded z (unlike s t) a b)
    (sym (ap (λ (o : Ordering). cond (compare_is_eq o) (cond (eqb m 0) nan (inf (unlike s' t'))) (round binary64 (unlike s' t') (m * up e * down d) (suc n * up d * down e))) (compare.suc-zero n)
    ∙ ap₂ (λ (i j : Bool). round binary64 (unlike i j) (m * up e * down d) (suc n * up d * down e)) v.0 w.0
    ∙ round_same binary64 (unlike s t) (m * up e * down d) (suc n * up d * down e) a b (mul-pos (mul-pos (zero-lt-suc n) (up_pos d)) (down_pos e)) B
    (cross_div (m * up e) (suc n * up d) (down e) (down d) a b (2 ^ 1074) (pow_pos 1074) v.1 w.1)))
    (rounded (unlike s t) a b B l)

-- ---- sums
-- a number of g units, negative where s is true, as a difference of two numbers
abbrev pub plus : Bool → ℕ → ℕ
plus s g = cond s 0 g

abbrev pub minus : Bool → ℕ → ℕ
minus s g = cond s g 0

-- x is (p − n) units rounded, which is no more than K / c in size
pub record Summed (x : Float) (p n c K : ℕ) : Type 0 where
  pub s : Bool
  pub g : ℕ
  pub value : HasValue x s g (2 ^ 1074)
  pub near : Near ((plus s g + n) * c) ((p + minus s g) * c) (K * 2 ^ 1021 + c)

-- x is larger − smaller units rounded, d of them, negative where t is true, and no more than K / c in size
pub record Difference (x : Float) (t : Bool) (larger smaller c K : ℕ) : Type 0 where
  pub d : ℕ
  pub g : ℕ
  pub apart : larger ≡ smaller + d
  pub value : HasValue x t g (2 ^ 1074)
  pub near : Near (g * c) (d * c) (K * 2 ^ 1021 + c)

shrink : (g d U w c K : ℕ) → 0 < U → d * c ≤ K * U → Near (g * U) (d * U) (d * w + U) → Near (g * c) (d * c) (K * w + c)
shrink g d U w c K H l h =
    let a : d * c * w ≤ K * U * w = mul-le-mul_right w l in
    let i : g * U * c ≤ (d * U + (d * w + U)) * c = mul-le-mul_right c h.0 in
    let j : d * U * c ≤ (g * U + (d * w + U)) * c = mul-le-mul_right c h.1 in
    (le_of_mul-le-mul_right {k = U} (omega arith) H, le_of_mul-le-mul_right {k = U} (omega arith) H)

module _ (c K : ℕ) (c1 : 0 < c) (K1 : K ≤ 2 ^ 1000) where
  settle : (u : Bool) (d : ℕ) → d * c ≤ K * 2 ^ 1074 → (g : ℕ) × HasValue (round binary64 u d (2 ^ 1074)) u g (2 ^ 1074) × Near (g * c) (d * c) (K * 2 ^ 1021 + c)
  settle u d l =
      let r = rounded u d (2 ^ 1074) (pow_pos 1074) (le_trans (whole d c c1) (le_trans l (mul-le-mul_right (2 ^ 1074) K1))) in
      (r.g, r.value, shrink r.g d (2 ^ 1074) (2 ^ 1021) c K (pow_pos 1074) l r.near)
    where
      whole : (d c : ℕ) → 0 < c → d ≤ d * c
      whole d c h = let a : d * 1 ≤ d * c = mul-le-mul_left d h in omega arith

  -- X / C is a / U, and Y / C is a + δ / U
  apart : (X Y C a b U : ℕ) → 0 < C → X * U ≡ a * C → Y * U ≡ b * C → X ≤ Y → (d : ℕ) × (b ≡ a + d) × ((Y - X) * U ≡ d * C)
  apart X Y C a b U H p q l =
      let k : X * U ≤ Y * U = mul-le-mul_right U l in
      let m : a ≤ b = le_of_mul-le-mul_right {k = C} (omega arith) H in
      (b - a, more a b m, far (Y - X) (b - a) (more X Y l) (more a b m))
    where
      more : (a b : ℕ) → a ≤ b → b ≡ a + (b - a)
      more a b h = omega arith

      far : (e d : ℕ) → Y ≡ X + e → b ≡ a + d → e * U ≡ d * C
      far e d f g =
          let i : Y * U ≡ (X + e) * U = ap (λ (v : ℕ). v * U) f in
          let j : b * C ≡ (a + d) * C = ap (λ (v : ℕ). v * C) g in
          omega arith

  less_of : (X Y C a b : ℕ) → 0 < C → X * 2 ^ 1074 ≡ a * C → Y * 2 ^ 1074 ≡ b * C → (u : Bool) → X ≤ Y → Near (b * c) (a * c) (K * 2 ^ 1074)
      → (d : ℕ) × (g : ℕ) × (b ≡ a + d) × HasValue (round binary64 u (Y - X) C) u g (2 ^ 1074) × Near (g * c) (d * c) (K * 2 ^ 1021 + c)
  less_of X Y C a b H p q u l h =
      let f = apart X Y C a b (2 ^ 1074) H p q l in
      let r = settle u f.0 (over f.0 (K * 2 ^ 1074) f.1 h.0) in
      (f.0, r.0, f.1, subst (λ (z : Float). HasValue z u r.0 (2 ^ 1074)) (sym (round_same binary64 u (Y - X) C f.0 (2 ^ 1074) H (pow_pos 1074) f.2)) r.1, r.2)
    where
      over : (d E : ℕ) → b ≡ a + d → b * c ≤ a * c + E → d * c ≤ E
      over d E f h = let g : b * c ≡ (a + d) * c = ap (λ (v : ℕ). v * c) f in omega arith

  module _ (X Y C a b : ℕ) (H : 0 < C) (p : X * 2 ^ 1074 ≡ a * C) (q : Y * 2 ^ 1074 ≡ b * C) where
    same : (u : Bool) → (a + b) * c ≤ K * 2 ^ 1074 → (g : ℕ) × HasValue (round binary64 u (X + Y) C) u g (2 ^ 1074) × Near (g * c) ((a + b) * c) (K * 2 ^ 1021 + c)
    same u l =
        let r = settle u (a + b) l in
        (r.0, subst (λ (z : Float). HasValue z u r.0 (2 ^ 1074)) (sym (round_same binary64 u (X + Y) C (a + b) (2 ^ 1074) H (pow_pos 1074) (total X Y C a b (2 ^ 1074) p q))) r.1, r.2)
      where
        total : (X Y C a b U : ℕ) → X * U ≡ a * C → Y * U ≡ b * C → (X + Y) * U ≡ (a + b) * C
        total X Y C a b U p q = omega arith

    less : (u : Bool) → X ≤ Y → Near (b * c) (a * c) (K * 2 ^ 1074) → (d : ℕ) × (g : ℕ) × (b ≡ a + d) × HasValue (round binary64 u (Y - X) C) u g (2 ^ 1074) × Near (g * c) (d * c) (K * 2 ^ 1021 + c)
    less u l h = less_of X Y C a b H p q u l h

    more_than : Y ≤ X → (u : Bool) → Near (a * c) (b * c) (K * 2 ^ 1074) → (d : ℕ) × (g : ℕ) × (a ≡ b + d) × HasValue (round binary64 u (X - Y) C) u g (2 ^ 1074) × Near (g * c) (d * c) (K * 2 ^ 1021 + c)
    more_than l u h = less_of Y X C b a H q p u l h

    sum_near : (s t : Bool) → Near ((plus s a + plus t b) * c) ((minus s a + minus t b) * c) (K * 2 ^ 1074) → Summed (sum binary64 s X t Y C) (plus s a + plus t b) (minus s a + minus t b) c K
    unfolding sum
    sum_near false false h = let r = same false (first (K * 2 ^ 1074) h.0) in record { s = false; g = r.0; value = r.1; near = back r.0 (K * 2 ^ 1021 + c) r.2 }
      where
        first : (E : ℕ) → (a + b) * c ≤ (0 + 0) * c + E → (a + b) * c ≤ E
        first E h = omega arith

        back : (g E : ℕ) → Near (g * c) ((a + b) * c) E → Near ((g + (0 + 0)) * c) ((a + b + 0) * c) E
        back g E h = omega arith
    sum_near true true h = let r = same true (first (K * 2 ^ 1074) h.1) in record { s = true; g = r.0; value = r.1; near = back r.0 (K * 2 ^ 1021 + c) r.2 }
      where
        first : (E : ℕ) → (a + b) * c ≤ (0 + 0) * c + E → (a + b) * c ≤ E
        first E h = omega arith

        back : (g E : ℕ) → Near (g * c) ((a + b) * c) E → Near ((0 + (a + b)) * c) ((0 + 0 + g) * c) E
        back g E h = omega arith
    sum_near false true h = go (ltb X Y) (ltb→lt X Y) (nltb→le X Y)
      where
        near' : (E : ℕ) → Near ((a + 0) * c) ((0 + b) * c) E → Near (b * c) (a * c) E
        near' E h = omega arith

        near'' : (E : ℕ) → Near ((a + 0) * c) ((0 + b) * c) E → Near (a * c) (b * c) E
        near'' E h = omega arith

        up' : (g d E : ℕ) → b ≡ a + d → Near (g * c) (d * c) E → Near ((0 + (0 + b)) * c) ((a + 0 + g) * c) E
        up' g d E f h = let i : b * c ≡ (a + d) * c = ap (λ (v : ℕ). v * c) f in omega arith

        down' : (g d E : ℕ) → a ≡ b + d → Near (g * c) (d * c) E → Near ((g + (0 + b)) * c) ((a + 0 + 0) * c) E
        down' g d E f h = let i : a * c ≡ (b + d) * c = ap (λ (v : ℕ). v * c) f in omega arith

        go : (o : Bool) → (T o → X < Y) → (T (not o) → Y ≤ X) → Summed (cond o (round binary64 true (Y - X) C) (round binary64 false (X - Y) C)) (a + 0) (0 + b) c K
        go true l k = let r = less true (le_of_lt (l tt)) (near' (K * 2 ^ 1074) h) in record { s = true; g = r.1; value = r.3; near = up' r.1 r.0 (K * 2 ^ 1021 + c) r.2 r.4 }
        go false l k = let r = more_than (k tt) false (near'' (K * 2 ^ 1074) h) in record { s = false; g = r.1; value = r.3; near = down' r.1 r.0 (K * 2 ^ 1021 + c) r.2 r.4 }
    sum_near true false h = go (ltb X Y) (ltb→lt X Y) (nltb→le X Y)
      where
        near' : (E : ℕ) → Near ((0 + b) * c) ((a + 0) * c) E → Near (b * c) (a * c) E
        near' E h = omega arith

        near'' : (E : ℕ) → Near ((0 + b) * c) ((a + 0) * c) E → Near (a * c) (b * c) E
        near'' E h = omega arith

        up' : (g d E : ℕ) → b ≡ a + d → Near (g * c) (d * c) E → Near ((g + (a + 0)) * c) ((0 + b + 0) * c) E
        up' g d E f h = let i : b * c ≡ (a + d) * c = ap (λ (v : ℕ). v * c) f in omega arith

        down' : (g d E : ℕ) → a ≡ b + d → Near (g * c) (d * c) E → Near ((0 + (a + 0)) * c) ((0 + b + g) * c) E
        down' g d E f h = let i : a * c ≡ (b + d) * c = ap (λ (v : ℕ). v * c) f in omega arith

        -- the difference is zero
        level : (g d E : ℕ) → a ≡ b + d → a ≤ b → Near (g * c) (d * c) E → Near ((g + (a + 0)) * c) ((0 + b + 0) * c) E
        level g d E f l h = let z : d ≡ 0 = omega arith in let j : d * c ≡ 0 * c = ap (λ (v : ℕ). v * c) z in let i : a * c ≡ (b + d) * c = ap (λ (v : ℕ). v * c) f in omega arith

        order : X ≤ Y → a ≤ b
        order l = le_of_mul-le-mul_right {k = C} (le_trans (le_of_eq (sym p)) (le_trans (mul-le-mul_right (2 ^ 1074) l) (le_of_eq q))) H

        inner : Y ≤ X → (o : Bool) → (T (not o) → X ≤ Y) → Summed (round binary64 (true && o) (X - Y) C) (0 + b) (a + 0) c K
        inner k true m = let r = more_than k true (near'' (K * 2 ^ 1074) h) in record { s = true; g = r.1; value = r.3; near = down' r.1 r.0 (K * 2 ^ 1021 + c) r.2 r.4 }
        inner k false m = let r = more_than k false (near'' (K * 2 ^ 1074) h) in record { s = false; g = r.1; value = r.3; near = level r.1 r.0 (K * 2 ^ 1021 + c) r.2 (order (m tt)) r.4 }

        go : (o : Bool) → (T o → X < Y) → (T (not o) → Y ≤ X) → Summed (cond o (round binary64 false (Y - X) C) (round binary64 (true && ltb Y X) (X - Y) C)) (0 + b) (a + 0) c K
        go true l k = let r = less false (le_of_lt (l tt)) (near' (K * 2 ^ 1074) h) in record { s = false; g = r.1; value = r.3; near = up' r.1 r.0 (K * 2 ^ 1021 + c) r.2 r.4 }
        go false l k = inner (k tt) (ltb Y X) (nltb→le Y X)

  pub add_near : (x y : Float) (s t : Bool) (a b : ℕ) → HasValue x s a (2 ^ 1074) → HasValue y t b (2 ^ 1074)
      → Near ((plus s a + plus t b) * c) ((minus s a + minus t b) * c) (K * 2 ^ 1074)
      → Summed (add binary64 x y) (plus s a + plus t b) (minus s a + minus t b) c K
  unfolding add
  add_near nan y s t a b v w h = absurd v
  add_near (inf q) y s t a b v w h = absurd v
  add_near (fin s' m e) nan s t a b v w h = absurd w
  add_near (fin s' m e) (inf q) s t a b v w h = absurd w
  add_near (fin s' m e) (fin t' n d) s t a b v w h =
      subst (λ (z : Float). Summed z (plus s a + plus t b) (minus s a + minus t b) c K)
      (sym (ap₂ (λ (i j : Bool). sum binary64 i (m * up e * down d) j (n * up d * down e) (down e * down d)) v.0 w.0))
      (sum_near (m * up e * down d) (n * up d * down e) (down e * down d) a b (mul-pos (down_pos e) (down_pos d))
      (cross_left (m * up e) (down e) (down d) a (2 ^ 1074) v.1) (cross_right (n * up d) (down e) (down d) b (2 ^ 1074) w.1) s t h)

  -- a difference of positive numbers, with its sign
  both_near : (x y : Float) (a b : ℕ) → HasValue x false a (2 ^ 1074) → HasValue y true b (2 ^ 1074) → Near (a * c) (b * c) (K * 2 ^ 1074) → (b ≤ a → Difference (add binary64 x y) false a b c K) × (a < b → Difference (add binary64 x y) true b a c K)
  unfolding add sum
  both_near nan y a b v u h = absurd v
  both_near (inf q) y a b v u h = absurd v
  both_near (fin s m e) nan a b v u h = absurd u
  both_near (fin s m e) (inf q) a b v u h = absurd u
  both_near (fin s m e) (fin t n f) a b v u h =
      let X = m * up e * down f in
      let Y = n * up f * down e in
      let C = down e * down f in
      let H : 0 < C = mul-pos (down_pos e) (down_pos f) in
      let p : X * 2 ^ 1074 ≡ a * C = cross_left (m * up e) (down e) (down f) a (2 ^ 1074) v.1 in
      let q : Y * 2 ^ 1074 ≡ b * C = cross_right (n * up f) (down e) (down f) b (2 ^ 1074) u.1 in
      let is : (o : Bool) → ltb X Y ≡ o → sum binary64 s X t Y C ≡ cond o (round binary64 true (Y - X) C) (round binary64 false (X - Y) C) =
      λ o i. ap₂ (λ (i j : Bool). sum binary64 i X j Y C) v.0 u.0 ∙ ap (λ (o : Bool). cond o (round binary64 true (Y - X) C) (round binary64 false (X - Y) C)) i in (
        (λ l.
            let k : Y ≤ X = le_of_mul-le-mul_right {k = 2 ^ 1074} (le_trans (le_of_eq q) (le_trans (mul-le-mul_right C l) (le_of_eq (sym p)))) (pow_pos 1074) in
            let r = less_of Y X C b a H q p false k h in
            record { d = r.0; g = r.1; apart = r.2; value = subst (λ (z : Float). HasValue z false r.1 (2 ^ 1074)) (sym (is false (le-ltb X Y k))) r.3; near = r.4 }),
        (λ l.
            let k : X < Y = lt_of_mul-lt-mul_right (2 ^ 1074) (lt_of_le_of_lt (le_of_eq p) (lt_of_lt_of_le (mul-lt-mul_of_pos_right l H) (le_of_eq (sym q)))) in
            let r = less_of X Y C a b H p q true (le_of_lt k) (h.1, h.0) in
            record { d = r.0; g = r.1; apart = r.2; value = subst (λ (z : Float). HasValue z true r.1 (2 ^ 1074)) (sym (is true (lt-ltb X Y k))) r.3; near = r.4 }),
      )

  module _ (x y : Float) (a b : ℕ) (v : HasValue x false a (2 ^ 1074)) (u : HasValue y true b (2 ^ 1074)) (h : Near (a * c) (b * c) (K * 2 ^ 1074)) where
    pub above_near : b ≤ a → Difference (add binary64 x y) false a b c K
    above_near = (both_near x y a b v u h).0

    pub below_near : a < b → Difference (add binary64 x y) true b a c K
    below_near = (both_near x y a b v u h).1

  -- a sum of positive numbers
  pub total_near : (x y : Float) (a b : ℕ) → HasValue x false a (2 ^ 1074) → HasValue y false b (2 ^ 1074) → (a + b) * c ≤ K * 2 ^ 1074
      → (g : ℕ) × HasValue (add binary64 x y) false g (2 ^ 1074) × Near (g * c) ((a + b) * c) (K * 2 ^ 1021 + c)
  unfolding add sum
  total_near nan y a b v u h = absurd v
  total_near (inf q) y a b v u h = absurd v
  total_near (fin s m e) nan a b v u h = absurd u
  total_near (fin s m e) (inf q) a b v u h = absurd u
  total_near (fin s m e) (fin t n f) a b v u h =
      let X = m * up e * down f in
      let Y = n * up f * down e in
      let C = down e * down f in
      let r = same X Y C a b (mul-pos (down_pos e) (down_pos f)) (cross_left (m * up e) (down e) (down f) a (2 ^ 1074) v.1) (cross_right (n * up f) (down e) (down f) b (2 ^ 1074) u.1) false h in
      (r.0, subst (λ (z : Float). HasValue z false r.0 (2 ^ 1074)) (sym (ap₂ (λ (i j : Bool). sum binary64 i X j Y C) v.0 u.0)) r.1, r.2)
