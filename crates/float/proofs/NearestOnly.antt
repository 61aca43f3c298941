-- What specs/Nearest.antt says of a root is true of one value: half way between two nearest ones would lie a third, and nearer. Assumes nothing.
use mathlib.Core.Path.{◌≡◌, sym, ap, ◌∙◌, subst}
use Prim.Native.Nat.{ℕ, zero, suc, ◌+◌, ◌*◌, ◌/◌, ◌%◌, ◌^◌, ◌≤◌, ◌<◌, compare, Ordering}
use native.Mathlib.Nat.{le_trans, le_of_eq, lt_trans, lt_of_not-le, not-le_of_lt, mul_assoc, mul-one, mul-le-mul, add-zero, pow-succ'}
use native.Mathlib.Omega.{arith}
use mathlib.Core.Bool.{Bool, true, false}
use lib.Dec.{T, lit≤}
use lib.Pow.{pow-add, pow_pos}
use lib.Ieee.{Float, binary64, fits, lt, round, of_bits}
use lib.Ieee.Fits.{round-fits}
use lib.Ieee.Bits.{of_bits-to_bits}
use lib.Ieee.Exact.{HasValue, round_exact}
use Rattle.float.specs.Ops.{f0}
use Rattle.float.specs.Sign.{finite_of, negative_of}
use Rattle.float.specs.Nearest.{units_of, AsNear, NearestRoot}
use Rattle.float.proofs.Cmp.{Cmp, cmp}
use Rattle.float.proofs.Rounding.{to_bits_of}
use Rattle.float.proofs.Nearest.{Few, shape, units_lt, units_exact, of_value, positive_units}

-- ---- a value is told by its units
same_value : (r q : Float) (a : ℕ) → T (fits binary64 r) → T (fits binary64 q) → HasValue r false a (2 ^ 1074) → HasValue q false a (2 ^ 1074) → r ≡ q
same_value r q a F G v w = sym (of_bits-to_bits binary64 r F) ∙ ap (of_bits binary64) (to_bits_of r a v ∙ sym (to_bits_of q a w)) ∙ of_bits-to_bits binary64 q G

-- ---- the root of a square of few digits has few digits
half_root : (s v : ℕ) → s * s ≡ 4 * v → (h : ℕ) × (s ≡ 2 * h) × (h * h ≡ v)
half_root s v e = go (s / 2) (s % 2) (omega arith) (omega arith)
  where
    go : (h r : ℕ) → s ≡ 2 * h + r → r < 2 → (h : ℕ) × (s ≡ 2 * h) × (h * h ≡ v)
    go h zero d l = let f : 2 * h * (2 * h) ≡ 4 * v = subst (λ (x : ℕ). x * x ≡ 4 * v) (d ∙ add-zero (2 * h)) e in (h, d ∙ add-zero (2 * h), omega arith)
    go h (suc zero) d l = let f : (2 * h + 1) * (2 * h + 1) ≡ 4 * v = subst (λ (x : ℕ). x * x ≡ 4 * v) d e in absurd (omega arith)
    go h (suc (suc r)) d l = absurd (omega arith)

small_root : (s n : ℕ) → n < 2 ^ 54 → s * s ≡ n → s < 2 ^ 53
small_root s n N e = lt_of_not-le (λ (g : 2 ^ 53 ≤ s). not-le_of_lt N (le_trans (le_trans (lit≤ tt) (mul-le-mul g g)) (le_of_eq e)))

few_root : (k m s : ℕ) → m < 2 ^ 53 → s * s ≡ m * 2 ^ k → Few s
few_root zero m s M e = (s, 0, small_root s (m * 1) (omega arith) e, sym (mul-one s))
few_root (suc zero) m s M e = (s, 0, small_root s (m * 2) (omega arith) e, sym (mul-one s))
few_root (suc (suc k)) m s M e =
    let h = half_root s (m * 2 ^ k) (e ∙ sym (doubled m (suc k)) ∙ ap (λ (x : ℕ). 2 * x) (sym (doubled m k)) ∙ sym (mul_assoc 2 2 (m * 2 ^ k))) in
    let r = few_root k m h.0 M h.2 in
    (r.0, suc r.1, r.2, h.1 ∙ ap (λ (x : ℕ). 2 * x) r.3 ∙ doubled r.0 r.1)
  where
    doubled : (m j : ℕ) → 2 * (m * 2 ^ j) ≡ m * 2 ^ suc j
    doubled m j = rw (pow-succ' 2 j) (omega arith)

-- ---- half way between two nearest values
-- the value of h units
at : (h : ℕ) → Few h → h < 2 ^ 2098 → HasValue (round binary64 false h (2 ^ 1074)) false h (2 ^ 1074)
at h f l = round_exact binary64 false h (2 ^ 1074) f.0 f.1 (pow_pos 1074) f.2 (subst (λ (x : ℕ). x < 2 ^ 2098) f.3 l) (ap (λ (x : ℕ). x * 2 ^ 1074) f.3)

module _ (x : Float) (F : T (fits binary64 x)) (f : finite_of x ≡ true) (p : lt f0 x ≡ true) where
  -- √x is √v, in units
  v : ℕ
  v = units_of x * 2 ^ 1074

  near : (r y : Float) → NearestRoot x r → T (fits binary64 y) → finite_of y ≡ true → negative_of y ≡ false → AsNear v (units_of r) false (units_of y)
  unfolding v
  near r y n G g z = subst (λ (s : Bool). AsNear (units_of x * 2 ^ 1074) (units_of r) s (units_of y)) z (n.as_near y G g)

  of_nearest : (r : Float) → NearestRoot x r → HasValue r false (units_of r) (2 ^ 1074)
  of_nearest r n = subst (λ (s : Bool). HasValue r s (units_of r) (2 ^ 1074)) n.not_negative (units_exact r n.held n.finite)

  few_half : (h : ℕ) → h * h ≡ v → Few h
  unfolding v
  few_half h e =
      let u = shape x (units_of x) F (subst (λ (s : Bool). HasValue x s (units_of x) (2 ^ 1074)) (positive_units x F f p).0 (units_exact x F f)) in
      few_root (u.1 + 1074) u.0 h u.2 (e ∙ ap (λ (k : ℕ). k * 2 ^ 1074) u.3 ∙ mul_assoc u.0 (2 ^ u.1) (2 ^ 1074) ∙ ap (λ (k : ℕ). u.0 * k) (sym (pow-add 2 u.1 1074)))

  no_tie : (r q : Float) → NearestRoot x r → NearestRoot x q → units_of r < units_of q → ⊥
  no_tie r q n m l =
      let a = units_of r in
      let b = units_of q in
      let above : 4 * v ≤ (a + b) * (a + b) = (near r q n m.held m.finite m.not_negative).1 l in
      let below : (b + a) * (b + a) ≤ 4 * v = (near q r m n.held n.finite n.not_negative).0 l in
      let s = half_root (a + b) v (squares a b v above below) in
      let h = s.0 in
      let few = few_half h s.2 in
      let small : h < 2 ^ 2098 = lt_trans (middle_lt a b h s.1 l) (units_lt q b m.held (of_nearest q m)) in
      let y = round binary64 false h (2 ^ 1074) in
      let w = of_value y false h (at h few small) in
      let c : a < h = middle_gt a b h s.1 l in
      let d : 4 * v ≤ (a + h) * (a + h) = (subst (λ (k : ℕ). AsNear v a false k) w.0 (near r y n (round-fits binary64 false h (2 ^ 1074)) w.1 w.2)).1 c in
      too_near a h v s.2 c d
    where
      squares : (a b v : ℕ) → 4 * v ≤ (a + b) * (a + b) → (b + a) * (b + a) ≤ 4 * v → (a + b) * (a + b) ≡ 4 * v
      squares a b v u l = omega arith

      middle_lt : (a b h : ℕ) → a + b ≡ 2 * h → a < b → h < b
      middle_lt a b h e l = omega arith

      middle_gt : (a b h : ℕ) → a + b ≡ 2 * h → a < b → a < h
      middle_gt a b h e l = omega arith

      too_near : (a h v : ℕ) → h * h ≡ v → a < h → 4 * v ≤ (a + h) * (a + h) → ⊥
      too_near a h v e l d = let t : suc (a + h) ≤ 2 * h = omega arith in omega (arith, mul-le-mul t t)

  -- the law: values that are nearest to √x, for a finite x above zero, are the same
  pub nearest_only : (r q : Float) → NearestRoot x r → NearestRoot x q → r ≡ q
  nearest_only r q n m = go (compare (units_of r) (units_of q)) (cmp (units_of r) (units_of q))
    where
      go : (o : Ordering) → Cmp o (units_of r) (units_of q) → r ≡ q
      go Ordering.lt l = absurd (no_tie r q n m l)
      go Ordering.eq e = same_value r q (units_of r) n.held m.held (of_nearest r n) (subst (λ (a : ℕ). HasValue q false a (2 ^ 1074)) (sym e) (of_nearest q m))
      go Ordering.gt l = absurd (no_tie q r m n l)
