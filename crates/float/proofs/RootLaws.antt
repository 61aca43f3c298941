-- The library's square root is the one of specs/Root.antt: it takes the root to 1197 binary places more, which rounding does not see. Assumes nothing.
use mathlib.Core.Path.{◌≡◌, refl, sym, ap, ◌∙◌}
use Prim.Native.Nat.{ℕ, zero, suc, ◌+◌, ◌-◌, ◌*◌, ◌/◌, ◌^◌, ◌≤◌, ◌<◌, compare}
use native.Mathlib.Nat.{le_antisymm, mul_assoc, mul_right_comm, mul-pos, mul-div_cancel, add-zero, pow-suc, zero-lt-suc, zero-mul, le_of_eq, not-le_of_lt, le-div_iff_mul-le, div-mul-le_self}
use native.Mathlib.Omega.{arith}
use mathlib.Core.Bool.{Bool, true, false, cond}
use lib.Dec.{T, eqb, eqb→eq}
use lib.IntN.{ℤ, pos, negsuc}
use lib.Pow.{pow-add, pow_pos}
use lib.Ieee.{Float, nan, inf, fin, binary64, up, down, size, units, round, fits, root_below, root_twice, sqrt}
use lib.Ieee.Fits.{round_is, up_pos, down_pos}
use lib.Ieee.Nearest.{closest, closest_same, div_same}
use lib.Ieee.Root.{whole_part}
use Rattle.float.specs.Above.{above}
use Rattle.float.specs.Root.{sticky, root_of, root}
use Rattle.float.specs.Sign.{finite_of, negative_of}
use Rattle.float.specs.Nearest.{units_of}
use Rattle.float.proofs.Cmp.{reach, closest_by}
use Rattle.float.proofs.Isqrt.{sticky_is, sticky_scale}
use Rattle.float.proofs.Rounding.{size_is, round_of}
use Rattle.float.proofs.Nearest.{dropped, lo, hi, units_exact, units_lt}

-- the two definitions of the whole part and what is left
twice_is : (n : ℕ) → root_twice n ≡ sticky n
unfolding root_twice
twice_is n =
    let r = root_below (size n) n in
    go r (eqb (r * r) n) ∙ sym (sticky_is n r (whole_part n))
  where
    go : (r : ℕ) (b : Bool) → 2 * r + cond b 0 1 ≡ cond b (2 * r) (2 * r + 1)
    go r true = add-zero (2 * r)
    go r false = refl

less_53 : (k : ℕ) → suc (52 + k) - 53 ≡ k
less_53 k = omega arith

-- ---- S is the root of a number in units, and U that of the number times p * p
module _ (S U p : ℕ) (P : 0 < p) (scaled : (w : ℕ) → compare U (w * (2 * p)) ≡ compare S (w * 2)) where
  over : 0 < 2 * p
  over = omega arith

  whole : U / (2 * p) ≡ S / 2
  whole =
      le_antisymm
      (let q = U / (2 * p) in (le-div_iff_mul-le (zero-lt-suc 1)).1 (reach U (q * (2 * p)) S (q * 2) (scaled q) (div-mul-le_self U (2 * p))))
      (let q = S / 2 in (le-div_iff_mul-le over).1 (reach S (q * 2) U (q * (2 * p)) (sym (scaled q)) (div-mul-le_self S 2)))

  -- halfway points between multiples of 2 * h are whole
  kept : (h : ℕ) → 0 < h → closest U (2 * (h * (2 * p))) ≡ closest S (2 * (h * 2))
  kept h H =
      closest_by U (h * (2 * p)) S (h * 2) (mul-pos H over) (mul-pos H (zero-lt-suc 1))
      (λ w. ap (compare U) (sym (mul_assoc w h (2 * p))) ∙ scaled (w * h) ∙ ap (compare S) (mul_assoc w h 2))

shuffle : (u a h p : ℕ) → u * a * (2 * (h * (2 * p))) ≡ u * (a * 2 * p * (h * 2))
shuffle u a h p = omega arith

-- ---- `round` of U / (2 * 2 ^ t) units is that of S / 2, of which i + 1 digits are dropped
module _ (S U t i : ℕ) (scaled : (w : ℕ) → compare U (w * (2 * 2 ^ t)) ≡ compare S (w * 2)) (lo : 2 ^ (52 + suc i) ≤ S / 2) (hi : S / 2 < 2 ^ suc (52 + suc i)) where
  den : 2 ^ 1075 * 2 ^ t ≡ 2 ^ (1075 + t)
  den = sym (pow-add 2 1075 t)

  whole_units : U * 2 ^ 1074 / 2 ^ (1075 + t) ≡ S / 2
  whole_units =
      div_same (U * 2 ^ 1074) (2 ^ (1075 + t)) U (2 * 2 ^ t) (pow_pos (1075 + t)) (mul-pos (zero-lt-suc 1) (pow_pos t))
      (mul_assoc U (2 ^ 1074) (2 * 2 ^ t) ∙ ap (λ (x : ℕ). U * x) (sym (mul_assoc (2 ^ 1074) 2 (2 ^ t)) ∙ den))
      ∙ whole S U (2 ^ t) (pow_pos t) scaled

  round_scaled : round binary64 false U (2 ^ (1075 + t)) ≡ round binary64 false S (2 ^ 1075)
  round_scaled =
      round_is binary64 false U (2 ^ (1075 + t))
      ∙ ap (λ (z : ℕ). units binary64 false (closest (U * 2 ^ 1074) (2 ^ (1075 + t) * 2 ^ z)) z) (ap (λ (x : ℕ). size x - 53) whole_units ∙ ap (λ (x : ℕ). x - 53) (size_is (S / 2) (52 + suc i) lo hi) ∙ less_53 (suc i))
      ∙ ap (λ (z : ℕ). units binary64 false z (suc i))
      (closest_same (U * 2 ^ 1074) (2 ^ (1075 + t) * 2 ^ suc i) U (2 * (2 ^ i * (2 * 2 ^ t))) (mul-pos (pow_pos (1075 + t)) (pow_pos (suc i))) (mul-pos (zero-lt-suc 1) (mul-pos (pow_pos i) (mul-pos (zero-lt-suc 1) (pow_pos t))))
      (shuffle U (2 ^ 1074) (2 ^ i) (2 ^ t) ∙ ap (λ (x : ℕ). U * (x * (2 ^ i * 2))) den ∙ ap (λ (x : ℕ). U * (2 ^ (1075 + t) * x)) (sym (pow-suc 2 i)))
      ∙ kept S U (2 ^ t) (pow_pos t) scaled (2 ^ i) (pow_pos i)
      ∙ ap (λ (x : ℕ). closest S (2 * x)) (sym (pow-suc 2 i)))
      ∙ sym (round_of S (suc i) lo hi)

-- ---- of n units, above zero
units_scaled : (n : ℕ) → 0 < n → n < 2 ^ 2098 → round binary64 false (sticky (n * 2 ^ 1074 * (2 ^ 1197 * 2 ^ 1197))) (2 ^ (1075 + 1197)) ≡ root_of n
unfolding root_of
units_scaled n N H =
    let d = dropped n N H in
    round_scaled (sticky (n * 2 ^ 1074)) (sticky (n * 2 ^ 1074 * (2 ^ 1197 * 2 ^ 1197))) 1197 d.0 (λ w. sticky_scale (n * 2 ^ 1074) (2 ^ 1197) w (pow_pos 1197)) (lo n N H) (hi n N H)

-- the radicand that the library takes
radicand : (a d n A B : ℕ) → 0 < d → a * A ≡ n * d → a * (A * B) / d ≡ n * B
radicand a d n A B D e =
    let x : a * (A * B) ≡ n * B * d = sym (mul_assoc a A B) ∙ ap (λ (y : ℕ). y * B) e ∙ mul_right_comm n d B in
    ap (λ (y : ℕ). y / d) x ∙ mul-div_cancel (n * B) D

some : (n k d : ℕ) → 0 < n → n ≡ k * d → 0 < k
some n zero d q z = absurd (not-le_of_lt q (le_of_eq (z ∙ zero-mul d)))
some n (suc k) d q z = zero-lt-suc k

pub sqrt_is : (x : Float) → T (fits binary64 x) → sqrt binary64 x ≡ root x
unfolding sqrt root above fits units_of negative_of finite_of
sqrt_is nan F = refl
sqrt_is (inf true) F = refl
sqrt_is (inf false) F = refl
sqrt_is (fin s zero e) F = ap (fin s 0) (zero_place e F)
  where
    zero_place : (e : ℤ) → T (fits binary64 (fin s zero e)) → pos 0 ≡ e
    zero_place (pos zero) F = refl
    zero_place (pos (suc a)) F = absurd (omega (arith, eqb→eq (2 ^ suc a * 1) 1 F))
    zero_place (negsuc a) F = absurd (omega (arith, eqb→eq (1 * 2 ^ suc a) 1 F))
sqrt_is (fin true (suc m) e) F = refl
sqrt_is (fin false (suc m) e) F =
    let x = fin false (suc m) e in
    let n = suc m * up e * 2 ^ 1074 / down e in
    let v = units_exact x F refl in
    let N : 0 < n = some (suc m * up e * 2 ^ 1074) n (down e) (mul-pos (mul-pos (zero-lt-suc m) (up_pos e)) (pow_pos 1074)) v.1 in
    let B = 2 ^ 1197 * 2 ^ 1197 in
    ap (λ (k : ℕ). round binary64 false (root_twice k) (2 ^ (1075 + 1197))) (radicand (suc m * up e) (down e) n (2 ^ 1074) (2 ^ 1074 * B) (down_pos e) v.1 ∙ sym (mul_assoc n (2 ^ 1074) B))
    ∙ ap (λ (k : ℕ). round binary64 false k (2 ^ (1075 + 1197))) (twice_is (n * 2 ^ 1074 * B))
    ∙ units_scaled n N (units_lt x n F v)
