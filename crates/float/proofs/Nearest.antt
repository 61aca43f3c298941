-- `root x` is the value of binary64 that is nearest to √x, in the words of specs/Nearest.antt: the law stands at the end. Assumes nothing.
use mathlib.Core.Path.{◌≡◌, refl, sym, ap, ◌∙◌, subst}
use Prim.Native.Nat.{ℕ, zero, suc, ◌+◌, ◌-◌, ◌*◌, ◌/◌, ◌%◌, ◌^◌, ◌≤◌, ◌<◌, zero-le, compare, Ordering}
use native.Mathlib.Nat.{le_trans, le_of_eq, le_of_lt, le_of_suc-le-suc, lt_of_lt_of_le, lt_of_not-le, not-le_of_lt, zero-lt-suc, mul_assoc, mul-one, one-mul, le-div_iff_mul-le, le_of_mul-le-mul_right, zero-mul, pow-succ', mul-le-mul, mul-le-mul_right, mul-lt-mul_of_pos_right, lt_of_mul-lt-mul_right, div-add-mod', mod-lt, eq_of_mul-eq-mul_right, div-lt_iff_lt-mul, mul-div_cancel, mul-pos, add-zero}
use native.Mathlib.Decide.{dec_le}
use native.Mathlib.Omega.{arith}
use mathlib.Core.Bool.{Bool, true, false, ◌&&◌, true≢false, false≢true}
use lib.Dec.{T, lit≤, leb, ltb, eqb, ltb→lt, leb→le}
use lib.IntN.{ℤ, pos, negsuc}
use lib.Pow.{pow-add, pow_pos, pow_mono, pow-lt, shl_lt}
use lib.Ieee.{Float, nan, inf, fin, binary64, up, down, size, nearest, fits, lt, of_bits}
use lib.Ieee.Digits.{size-lt, size-le, size_reaches}
use lib.Ieee.Fits.{and_l, and_r, up_pos, down_pos, round-fits}
use lib.Ieee.Exact.{HasValue, units_val}
use lib.Ieee.Nearest.{closest}
use Rattle.float.specs.Ops.{f0}
use Rattle.float.specs.Sign.{finite_of, negative_of}
use Rattle.float.specs.Nearest.{units_of, AsNear, NearestRoot}
use Rattle.float.specs.Root.{sticky, root_of, root}
use Rattle.float.proofs.Cmp.{Cmp, cmp, reach, short, under}
use Rattle.float.proofs.Isqrt.{sticky_cmp}
use Rattle.float.proofs.Rounding.{round_of}
use Rattle.float.proofs.Above.{small, above_units}

-- ---- `closest` is within a half
module _ (S h : ℕ) (H : 0 < h) where
  within : (o : Ordering) → Cmp o (S % (2 * h) * 2) (2 * h) → (nearest (S / (2 * h)) o * 2 * h ≤ S + h) × (S ≤ (nearest (S / (2 * h)) o * 2 + 1) * h)
  within o c =
      let q = S / (2 * h) in
      let r = S % (2 * h) in
      let p : 0 < 2 * h = omega arith in
      let d : q * (2 * h) + r ≡ S = div-add-mod' S (2 * h) in
      let l : r < 2 * h = mod-lt S p in
      let b : q % 2 ≤ 1 = omega arith in
      let f : q % 2 * h ≤ 1 * h = mul-le-mul_right h b in
      go q r d l f o c
    where
      go : (q r : ℕ) → q * (2 * h) + r ≡ S → r < 2 * h → q % 2 * h ≤ 1 * h → (o : Ordering) → Cmp o (r * 2) (2 * h) → (nearest q o * 2 * h ≤ S + h) × (S ≤ (nearest q o * 2 + 1) * h)
      go q r d l f Ordering.lt c = (omega arith, omega arith)
      go q r d l f Ordering.eq c = (omega arith, omega arith)
      go q r d l f Ordering.gt c = (omega arith, omega arith)

  pub closest_within : (closest S (2 * h) * 2 * h ≤ S + h) × (S ≤ (closest S (2 * h) * 2 + 1) * h)
  closest_within = within (compare (S % (2 * h) * 2) (2 * h)) (cmp (S % (2 * h) * 2) (2 * h))

-- ---- no value of binary64 lies between two neighbouring multiples of 2 ^ k from 2 ^ (52 + k) on
module _ (m j k : ℕ) (M : m < 2 ^ 53) where
  fine : j < k → m * 2 ^ j < 2 ^ 52 * 2 ^ k
  fine l = lt_of_lt_of_le (shl_lt 53 j M) (le_trans (pow_mono {i = 53 + j} {j = 52 + k} (omega arith)) (le_of_eq (pow-add 2 52 k)))

  coarse : k ≤ j → m * 2 ^ j ≡ m * 2 ^ (j - k) * 2 ^ k
  coarse l = ap (λ (x : ℕ). m * 2 ^ x) (back j k l) ∙ ap (λ (x : ℕ). m * x) (pow-add 2 (j - k) k) ∙ sym (mul_assoc m (2 ^ (j - k)) (2 ^ k))
    where
      back : (j k : ℕ) → k ≤ j → j ≡ j - k + k
      back j k l = omega arith

  pub gap_below : (P : ℕ) → 2 ^ 52 ≤ P → m * 2 ^ j < suc P * 2 ^ k → m * 2 ^ j ≤ P * 2 ^ k
  gap_below P h l = go (dec_le k j)
    where
      go : Dec (k ≤ j) → m * 2 ^ j ≤ P * 2 ^ k
      go (yes g) = le_trans (le_of_eq (coarse g)) (mul-le-mul_right (2 ^ k) (le_of_suc-le-suc (lt_of_mul-lt-mul_right (2 ^ k) (subst (λ (x : ℕ). x < suc P * 2 ^ k) (coarse g) l))))
      go (no g) = le_trans (le_of_lt (fine (lt_of_not-le g))) (mul-le-mul_right (2 ^ k) h)

  pub gap_above : (Q : ℕ) → 2 ^ 52 ≤ Q → Q * 2 ^ k < m * 2 ^ j → suc Q * 2 ^ k ≤ m * 2 ^ j
  gap_above Q h l = go (dec_le k j)
    where
      go : Dec (k ≤ j) → suc Q * 2 ^ k ≤ m * 2 ^ j
      go (yes g) = le_trans (mul-le-mul_right (2 ^ k) (lt_of_mul-lt-mul_right (2 ^ k) (subst (λ (x : ℕ). Q * 2 ^ k < x) (coarse g) l))) (le_of_eq (sym (coarse g)))
      go (no g) = absurd (not-le_of_lt l (le_trans (le_of_lt (fine (lt_of_not-le g))) (mul-le-mul_right (2 ^ k) h)))

-- ---- a value that fits has 53 digits at most
abbrev pub Few : ℕ → Type 0
Few b = (m : ℕ) × (j : ℕ) × (m < 2 ^ 53) × (b ≡ m * 2 ^ j)

pow_le_back : (i p : ℕ) → 2 ^ i ≤ 2 ^ p → i ≤ p
pow_le_back i p h = le_of_suc-le-suc (lt_of_not-le (λ (g : suc p ≤ i). not-le_of_lt (pow-lt g) h))

-- the units of 1 in two parts
in_parts : (k : ℕ) → k ≤ 1074 → 2 ^ 1074 ≡ 2 ^ (1074 - k) * 2 ^ k
in_parts k l = ap (λ (x : ℕ). 2 ^ x) (back k l) ∙ pow-add 2 (1074 - k) k
  where
    back : (k : ℕ) → k ≤ 1074 → 1074 ≡ 1074 - k + k
    back k l = omega arith

few : (m b : ℕ) (e : ℤ) → m < 2 ^ 53 → down e ≤ 2 ^ 1074 → m * up e * 2 ^ 1074 ≡ b * down e → Few b
few m b (pos a) M d v = (m, a + 1074, M, sym (mul-one b) ∙ sym v ∙ mul_assoc m (2 ^ a) (2 ^ 1074) ∙ ap (λ (x : ℕ). m * x) (sym (pow-add 2 a 1074)))
few m b (negsuc a) M d v =
    let l : suc a ≤ 1074 = pow_le_back (suc a) 1074 d in (
      m,
      1074 - suc a,
      M,
      eq_of_mul-eq-mul_right (2 ^ suc a) (pow_pos (suc a)) b (m * 2 ^ (1074 - suc a))
          (sym v ∙ ap (λ (x : ℕ). x * 2 ^ 1074) (mul-one m) ∙ ap (λ (x : ℕ). m * x) (in_parts (suc a) l) ∙ sym (mul_assoc m (2 ^ (1074 - suc a)) (2 ^ suc a))),
    )

pub shape : (y : Float) (b : ℕ) → T (fits binary64 y) → HasValue y false b (2 ^ 1074) → Few b
unfolding fits
shape nan b f v = absurd v
shape (inf s) b f v = absurd v
shape (fin s zero e) b f v =
    (0, 0, pow_pos 53, eq_of_mul-eq-mul_right (down e) (down_pos e) b 0 (sym v.1 ∙ ap (λ (x : ℕ). x * 2 ^ 1074) (zero-mul (up e)) ∙ zero-mul (2 ^ 1074) ∙ sym (zero-mul (down e))))
shape (fin s (suc m) e) b f v =
    let A = eqb (suc m % 2) 1 in
    let B = ltb (suc m) (2 ^ 53) in
    let C = leb (down e) (2 ^ 1074) in
    let g = and_l (A && B && C) (ltb (suc m * up e) (2 ^ 1024 * down e)) f in
    few (suc m) b e (ltb→lt (suc m) (2 ^ 53) (and_r A B (and_l (A && B) C g))) (leb→le (down e) (2 ^ 1074) (and_r (A && B) C g)) v.1

-- ---- the law, for the root of v, in units: S is `sticky v`, Q digits are kept of it and k are dropped
twice : (w v : ℕ) → w * w ≤ v → 2 * w * (2 * w) ≤ 4 * v
twice w v h = omega arith

twice' : (w v : ℕ) → v ≤ w * w → 4 * v ≤ 2 * w * (2 * w)
twice' w v h = omega arith

module _ (v S p Q b : ℕ) (P : 0 < p) (near : (w : ℕ) → compare S (2 * w) ≡ compare v (w * w)) (lo : 2 ^ 52 * (2 * p) * 2 ≤ S)
    (within : (Q * 2 * (2 * p) ≤ S + 2 * p) × (S ≤ (Q * 2 + 1) * (2 * p)))
    (gap : ((R : ℕ) → 2 ^ 52 ≤ R → b < suc R * (2 * p) → b ≤ R * (2 * p)) × ((R : ℕ) → 2 ^ 52 ≤ R → R * (2 * p) < b → suc R * (2 * p) ≤ b)) where
  over : (w : ℕ) → 2 * w ≤ S → w * w ≤ v
  over w l = reach S (2 * w) v (w * w) (near w) l

  not_over : (w : ℕ) → S ≤ 2 * w → v ≤ w * w
  not_over w l = under S (2 * w) v (w * w) (near w) l

  pub smaller : b < Q * (2 * p) → (Q * (2 * p) + b) * (Q * (2 * p) + b) ≤ 4 * v
  smaller l = go (dec_le (2 * (Q * (2 * p))) S)
    where
      down_one : (Q : ℕ) → Q * 2 * (2 * p) ≤ S + 2 * p → b < Q * (2 * p) → S < 2 * (Q * (2 * p)) → (Q * (2 * p) + b) * (Q * (2 * p) + b) ≤ 4 * v
      down_one zero n l y = absurd (not-le_of_lt l (le_trans (le_of_eq (zero-mul (2 * p))) zero-le))
      down_one (suc R) n l y =
          let t : 2 ^ 52 * (2 * p * 2) < suc R * (2 * p * 2) = omega (arith, lo) in
          let r : 2 ^ 52 ≤ R = le_of_suc-le-suc (lt_of_mul-lt-mul_right (2 * p * 2) t) in
          let g : b ≤ R * (2 * p) = gap.0 R r l in
          let w : ℕ = (2 * R + 1) * p in
          let x : 2 * ((2 * R + 1) * p) ≤ S = omega arith in
          let s : suc R * (2 * p) + b ≤ 2 * ((2 * R + 1) * p) = omega arith in
          le_trans (mul-le-mul s s) (twice ((2 * R + 1) * p) v (over ((2 * R + 1) * p) x))

      go : Dec (2 * (Q * (2 * p)) ≤ S) → (Q * (2 * p) + b) * (Q * (2 * p) + b) ≤ 4 * v
      go (yes y) = let s : Q * (2 * p) + b ≤ 2 * (Q * (2 * p)) = omega arith in le_trans (mul-le-mul s s) (twice (Q * (2 * p)) v (over (Q * (2 * p)) y))
      go (no y) = down_one Q within.0 l (lt_of_not-le y)

  pub larger : Q * (2 * p) < b → 4 * v ≤ (Q * (2 * p) + b) * (Q * (2 * p) + b)
  larger l = go (dec_le S (2 * (Q * (2 * p))))
    where
      go : Dec (S ≤ 2 * (Q * (2 * p))) → 4 * v ≤ (Q * (2 * p) + b) * (Q * (2 * p) + b)
      go (yes y) = let s : 2 * (Q * (2 * p)) ≤ Q * (2 * p) + b = omega arith in le_trans (twice' (Q * (2 * p)) v (not_over (Q * (2 * p)) y)) (mul-le-mul s s)
      go (no y) =
          let t : 2 ^ 53 * (2 * p) ≤ (Q * 2 + 1) * (2 * p) = omega (arith, lo, within.1) in
          let P' : 0 < 2 * p = omega arith in
          let r' : 2 ^ 53 ≤ Q * 2 + 1 = le_of_mul-le-mul_right t P' in
          let r : 2 ^ 52 ≤ Q = omega arith in
          let g : suc Q * (2 * p) ≤ b = gap.1 Q r l in
          let x : S ≤ 2 * ((2 * Q + 1) * p) = omega (arith, within.1) in
          let s : 2 * ((2 * Q + 1) * p) ≤ Q * (2 * p) + b = omega arith in
          le_trans (twice' ((2 * Q + 1) * p) v (not_over ((2 * Q + 1) * p) x)) (mul-le-mul s s)

-- ---- √n units squared, for an n above 0
low_end : (i S : ℕ) → 2 ^ (52 + suc i) ≤ S / 2 → 2 ^ 52 * (2 * 2 ^ i) * 2 ≤ S
low_end i S l = let e = pow-add 2 52 (suc i) in let f = pow-succ' 2 i in omega arith

module _ (n : ℕ) (N : 0 < n) (U : n < 2 ^ 2098) where
  big : 2 ^ 538 ≤ sticky (n * 2 ^ 1074)
  big = reach (n * 2 ^ 1074) (2 ^ 537 * 2 ^ 537) (sticky (n * 2 ^ 1074)) (2 * 2 ^ 537) (sym (sticky_cmp (n * 2 ^ 1074) (2 ^ 537))) (le_trans (le_of_eq (sym (one-mul (2 ^ 1074)))) (mul-le-mul_right (2 ^ 1074) N))

  not_big : sticky (n * 2 ^ 1074) < 2 ^ 1587
  not_big = short (n * 2 ^ 1074) (2 ^ 1586 * 2 ^ 1586) (sticky (n * 2 ^ 1074)) (2 * 2 ^ 1586) (sym (sticky_cmp (n * 2 ^ 1074) (2 ^ 1586))) (mul-lt-mul_of_pos_right U (pow_pos 1074))

  -- i + 1 digits are dropped
  pub dropped : (i : ℕ) × (size (sticky (n * 2 ^ 1074) / 2) ≡ suc (52 + suc i)) × (i < 1600)
  dropped =
      let s = sticky (n * 2 ^ 1074) / 2 in
      let z = size s in
      let g : 537 < z = lt_of_not-le (λ (g : z ≤ 537). not-le_of_lt (lt_of_lt_of_le (size-lt s) (pow_mono g)) half_lo) in
      let h : z ≤ 1586 = size-le s 1586 half_hi in
      (z - 54, at z g, room z h)
    where
      half_lo : 2 ^ 537 ≤ sticky (n * 2 ^ 1074) / 2
      half_lo = (le-div_iff_mul-le (zero-lt-suc 1)).1 big

      half_hi : sticky (n * 2 ^ 1074) / 2 < 2 ^ 1586
      half_hi = (div-lt_iff_lt-mul (zero-lt-suc 1)).1 not_big

      at : (z : ℕ) → 537 < z → z ≡ suc (52 + suc (z - 54))
      at z g = omega arith

      room : (z : ℕ) → z ≤ 1586 → z - 54 < 1600
      room z h = omega arith

  pub lo : 2 ^ (52 + suc dropped.0) ≤ sticky (n * 2 ^ 1074) / 2
  lo = size_reaches (sticky (n * 2 ^ 1074) / 2) (52 + suc dropped.0) (le_of_eq (sym dropped.1))

  pub hi : sticky (n * 2 ^ 1074) / 2 < 2 ^ suc (52 + suc dropped.0)
  hi = subst (λ (z : ℕ). sticky (n * 2 ^ 1074) / 2 < 2 ^ z) dropped.1 (size-lt (sticky (n * 2 ^ 1074) / 2))

  -- the root in units: what is kept, Q, and 2 ^ (i + 1) for each
  Q : ℕ
  Q = closest (sticky (n * 2 ^ 1074)) (2 * 2 ^ suc dropped.0)

  is_within : (Q * 2 * 2 ^ suc dropped.0 ≤ sticky (n * 2 ^ 1074) + 2 ^ suc dropped.0) × (sticky (n * 2 ^ 1074) ≤ (Q * 2 + 1) * 2 ^ suc dropped.0)
  unfolding Q
  is_within = closest_within (sticky (n * 2 ^ 1074)) (2 ^ suc dropped.0) (pow_pos (suc dropped.0))

  room : Q * 2 ^ suc dropped.0 < 2 ^ 2098
  room = lt_of_lt_of_le (less (Q * 2 ^ suc dropped.0) (sticky (n * 2 ^ 1074)) (2 ^ suc dropped.0) (2 ^ 1587) (2 ^ 1600) twice_is not_big (pow_mono {i = suc dropped.0} {j = 1600} dropped.2)) (lit≤ tt)
    where
      twice_is : Q * 2 ^ suc dropped.0 * 2 ≤ sticky (n * 2 ^ 1074) + 2 ^ suc dropped.0
      twice_is = let a = is_within.0 in omega arith

      less : (x s h A B : ℕ) → x * 2 ≤ s + h → s < A → h ≤ B → x < A + B
      less x s h A B a b c = omega arith

  root_units : HasValue (root_of n) false (Q * 2 ^ suc dropped.0) (2 ^ 1074)
  unfolding root_of Q
  root_units =
      subst (λ (r : Float). HasValue r false (Q * 2 ^ suc dropped.0) (2 ^ 1074)) (sym (round_of (sticky (n * 2 ^ 1074)) (suc dropped.0) lo hi))
      (units_val binary64 false Q (suc dropped.0) room)

  root_near : (m j : ℕ) → m < 2 ^ 53 → AsNear (n * 2 ^ 1074) (Q * 2 ^ suc dropped.0) false (m * 2 ^ j)
  root_near m j M =
      let p = 2 ^ dropped.0 in
      let e : 2 ^ suc dropped.0 ≡ 2 * 2 ^ dropped.0 = pow-succ' 2 dropped.0 in
      let l : 2 ^ 52 * (2 * 2 ^ dropped.0) * 2 ≤ sticky (n * 2 ^ 1074) = low_end dropped.0 (sticky (n * 2 ^ 1074)) lo in
      let w = rw e at is_within in
      let g : ((R : ℕ) → 2 ^ 52 ≤ R → m * 2 ^ j < suc R * (2 * p) → m * 2 ^ j ≤ R * (2 * p)) × ((R : ℕ) → 2 ^ 52 ≤ R → R * (2 * p) < m * 2 ^ j → suc R * (2 * p) ≤ m * 2 ^ j) =
      subst (λ (h : ℕ). ((R : ℕ) → 2 ^ 52 ≤ R → m * 2 ^ j < suc R * h → m * 2 ^ j ≤ R * h) × ((R : ℕ) → 2 ^ 52 ≤ R → R * h < m * 2 ^ j → suc R * h ≤ m * 2 ^ j)) e (gap_below m j (suc dropped.0) M, gap_above m j (suc dropped.0) M) in
      subst (λ (h : ℕ). AsNear (n * 2 ^ 1074) (Q * h) false (m * 2 ^ j)) (sym e)
      (smaller (n * 2 ^ 1074) (sticky (n * 2 ^ 1074)) p Q (m * 2 ^ j) (pow_pos dropped.0) (sticky_cmp (n * 2 ^ 1074)) l w g, larger (n * 2 ^ 1074) (sticky (n * 2 ^ 1074)) p Q (m * 2 ^ j) (pow_pos dropped.0) (sticky_cmp (n * 2 ^ 1074)) l w g)

-- ---- of values
pub units_lt : (x : Float) (n : ℕ) → T (fits binary64 x) → HasValue x false n (2 ^ 1074) → n < 2 ^ 2098
units_lt nan n f v = absurd v
units_lt (inf s) n f v = absurd v
units_lt (fin true m e) n f v = absurd (true≢false v.0)
units_lt (fin false m e) n f v = lt_of_mul-lt-mul_right (down e) (subst (λ (a : ℕ). a < 2 ^ 2098 * down e) v.1 (small m e f))

root_of_lem : (x : Float) (n : ℕ) → 0 < n → HasValue x false n (2 ^ 1074) → root x ≡ root_of n
unfolding root
root_of_lem x n N v = above_units (λ s e. fin s 0 e) root_of x n N v

-- at a value that is not negative
near_positive : (x : Float) (n : ℕ) (F : T (fits binary64 x)) (v : HasValue x false n (2 ^ 1074)) (N : 0 < n) (y : Float) (b : ℕ) → T (fits binary64 y) → HasValue y false b (2 ^ 1074)
    → AsNear (n * 2 ^ 1074) (Q n N (units_lt x n F v) * 2 ^ suc (dropped n N (units_lt x n F v)).0) false b
near_positive x n F v N y b g w =
    let U = units_lt x n F v in
    let s = shape y b g w in
    subst (λ (b : ℕ). AsNear (n * 2 ^ 1074) (Q n N U * 2 ^ suc (dropped n N U).0) false b) (sym s.3) (root_near n N U s.0 s.1 s.2)

-- where a is as near as 0, it is as near as any number below 0
near_negative : (v a b : ℕ) → AsNear v a false 0 → (a - b) * (a - b) ≤ 4 * v
near_negative v zero b h = le_trans (le_of_eq (ap (λ (k : ℕ). k * k) (none b))) zero-le
  where
    none : (b : ℕ) → 0 - b ≡ 0
    none b = omega arith
near_negative v (suc a) b h = le_trans (mul-le-mul less less) (subst (λ (k : ℕ). k * k ≤ 4 * v) (add-zero (suc a)) (h.0 (zero-lt-suc a)))
  where
    less : suc a - b ≤ suc a
    less = omega arith

-- ---- a value in units
exact : (m : ℕ) (e : ℤ) → down e ≤ 2 ^ 1074 → m * up e * 2 ^ 1074 ≡ m * up e * 2 ^ 1074 / down e * down e
exact m (pos a) d = by_one (m * 2 ^ a * 2 ^ 1074)
  where
    by_one : (n : ℕ) → n ≡ n / 1 * 1
    by_one n = omega arith
exact m (negsuc a) d =
    let l : suc a ≤ 1074 = pow_le_back (suc a) 1074 d in
    let k = m * 2 ^ (1074 - suc a) in
    let t : m * 1 * 2 ^ 1074 ≡ m * 2 ^ (1074 - suc a) * 2 ^ suc a = ap (λ (x : ℕ). x * 2 ^ 1074) (mul-one m) ∙ ap (λ (x : ℕ). m * x) (in_parts (suc a) l) ∙ sym (mul_assoc m (2 ^ (1074 - suc a)) (2 ^ suc a)) in
    t ∙ ap (λ (x : ℕ). x * 2 ^ suc a) (sym (mul-div_cancel k (pow_pos (suc a)))) ∙ ap (λ (x : ℕ). x / 2 ^ suc a * 2 ^ suc a) (sym t)

pub units_exact : (x : Float) → T (fits binary64 x) → finite_of x ≡ true → HasValue x (negative_of x) (units_of x) (2 ^ 1074)
unfolding fits finite_of negative_of units_of
units_exact nan F h = absurd (false≢true h)
units_exact (inf s) F h = absurd (false≢true h)
units_exact (fin s zero e) F h = (refl, nothing (0 * up e * 2 ^ 1074) (down e) (ap (λ (x : ℕ). x * 2 ^ 1074) (zero-mul (up e)) ∙ zero-mul (2 ^ 1074)) (down_pos e))
  where
    nothing : (n d : ℕ) → n ≡ 0 → 0 < d → n ≡ n / d * d
    nothing n d z p = z ∙ sym (zero-mul d) ∙ ap (λ (k : ℕ). k * d) (sym (ap (λ (k : ℕ). k / d) (z ∙ sym (zero-mul d)) ∙ mul-div_cancel 0 p))
units_exact (fin s (suc m) e) F h =
    let A = eqb (suc m % 2) 1 in
    let B = ltb (suc m) (2 ^ 53) in
    let C = leb (down e) (2 ^ 1074) in
    let g = and_l (A && B && C) (ltb (suc m * up e) (2 ^ 1024 * down e)) F in
    (refl, exact (suc m) e (leb→le (down e) (2 ^ 1074) (and_r (A && B) C g)))

pub of_value : (v : Float) (s : Bool) (a : ℕ) → HasValue v s a (2 ^ 1074) → (units_of v ≡ a) × (finite_of v ≡ true) × (negative_of v ≡ s)
unfolding finite_of negative_of units_of
of_value nan s a h = absurd h
of_value (inf t) s a h = absurd h
of_value (fin t m e) s a h = (ap (λ (x : ℕ). x / down e) h.1 ∙ mul-div_cancel a (down_pos e), refl, h.0)

-- above zero
pub positive_units : (x : Float) → T (fits binary64 x) → finite_of x ≡ true → lt f0 x ≡ true → (negative_of x ≡ false) × (0 < units_of x)
unfolding lt of_bits finite_of negative_of
positive_units nan F h p = absurd (false≢true h)
positive_units (inf s) F h p = absurd (false≢true h)
positive_units (fin true m e) F h p = absurd (false≢true p)
positive_units (fin false zero e) F h p = absurd (not-le_of_lt (ltb→lt (0 * 1 * down e) (0 * up e * 1) (subst T (sym p) tt)) (le_trans (le_of_eq (ap (λ (x : ℕ). x * 1) (zero-mul (up e)))) zero-le))
positive_units (fin false (suc m) e) F h p = (refl, some (suc m * up e * 2 ^ 1074) (units_of (fin false (suc m) e)) (down e) (mul-pos (mul-pos (zero-lt-suc m) (up_pos e)) (pow_pos 1074)) (units_exact (fin false (suc m) e) F h).1)
  where
    some : (n k d : ℕ) → 0 < n → n ≡ k * d → 0 < k
    some n zero d q z = absurd (not-le_of_lt q (le_of_eq (z ∙ zero-mul d)))
    some n (suc k) d q z = zero-lt-suc k

root_fits : (n : ℕ) → T (fits binary64 (root_of n))
unfolding root_of
root_fits n = round-fits binary64 false (sticky (n * 2 ^ 1074)) (2 ^ 1075)

-- ---- the law: for every finite x above zero, no value of binary64 is nearer to √x than `root x`
pub root_nearest : (x : Float) → T (fits binary64 x) → finite_of x ≡ true → lt f0 x ≡ true → NearestRoot x (root x)
root_nearest x F h p =
    let q = positive_units x F h p in
    let n = units_of x in
    let v : HasValue x false (units_of x) (2 ^ 1074) = subst (λ (s : Bool). HasValue x s (units_of x) (2 ^ 1074)) q.0 (units_exact x F h) in
    let U = units_lt x n F v in
    let a = Q n q.1 U * 2 ^ suc (dropped n q.1 U).0 in
    let r = of_value (root x) false a (subst (λ (r : Float). HasValue r false a (2 ^ 1074)) (sym (root_of_lem x n q.1 v)) (root_units n q.1 U)) in
    let zero-near : AsNear (n * 2 ^ 1074) a false 0 = root_near n q.1 U 0 0 (pow_pos 53) in
    record {
      held = subst (λ (r : Float). T (fits binary64 r)) (sym (root_of_lem x n q.1 v)) (root_fits n);
      finite = r.1;
      not_negative = r.2;
      as_near = λ y G g. subst (λ (k : ℕ). AsNear (n * 2 ^ 1074) k (negative_of y) (units_of y)) (sym r.0) (by_sign n a (near_positive x n F v q.1) zero-near y G (negative_of y) (units_exact y G g));
    }
  where
    by_sign : (n a : ℕ) → ((y : Float) (b : ℕ) → T (fits binary64 y) → HasValue y false b (2 ^ 1074) → AsNear (n * 2 ^ 1074) a false b) → AsNear (n * 2 ^ 1074) a false 0 → (y : Float) → T (fits binary64 y) → (s : Bool) → HasValue y s (units_of y) (2 ^ 1074) → AsNear (n * 2 ^ 1074) a s (units_of y)
    by_sign n a f z y G false w = f y (units_of y) G w
    by_sign n a f z y G true w = near_negative (n * 2 ^ 1074) a (units_of y) z
