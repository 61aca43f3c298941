-- The test of 17 is the exact comparison. Rounding keeps the order, so that a difference of at most 10^−9 stays at most the float 1e-9; and a sum that differs by more
-- differs by at least 9,007,200·2^−53, which is a float above it: near 1 sums are multiples of 2^−53. Assumes nothing.
use mathlib.Core.Path.{◌≡◌, refl, sym, ap, ◌∙◌, subst}
use Prim.Native.Nat.{ℕ, zero, suc, ◌+◌, ◌-◌, ◌*◌, ◌%◌, ◌^◌, ◌≤◌, ◌<◌}
use native.Mathlib.Nat.{mul_comm, mul_assoc, mul_right_comm, mul-one, one-mul, mul-le-mul_right, mul-lt-mul_of_pos_right}
use native.Mathlib.Omega.{arith}
use mathlib.Core.Bool.{Bool, true, false, cond, not, ◌&&◌, ◌||◌}
use mathlib.Core.List.{List}
use lib.IntN.{ℤ, pos, negsuc}
use lib.Dec.{T, ltb, leb, eqb, ltb→lt}
use lib.Pow.{pow-add, pow_pos, pow_mono}
use lib.Ieee.{Float, nan, inf, fin, Format, binary64, prec, emax, low, up, down, size, odd, units, round, neg, sum, add, sub, lt, eq, le, fits, of_bits}
use lib.Ieee.Fits.{and_l, and_r, down_pos, add-fits, cond-fits}
use lib.Ieee.Order.{round_mono}
use lib.Ieee.Positive.{positive, between, le_trans_positive}
use borrow.Author.Tests.{leb-true, leb-false, ltb-true, ltb-false}
use lib.Ieee.Bits.{of_bits-fits}
use Rattle.float.specs.Ops.{◌⊕◌, f0, f1}
use Rattle.float.specs.Sign.{abs_of}
use Rattle.eos.specs.Indices.{fold_from, total}
use Rattle.block.specs.Pairs.{offset_of, fractions}
use Rattle.block.specs.Numbers.{floats_at, reads_fractions, fraction_count}
use Rattle.block.specs.Blend.{at}
use Rattle.block.specs.Checks.{d1e_9, fraction_sum, near_one, sum_fits}
use Rattle.block.proofs.Lists.{get_d_tabulate}
use Rattle.block.proofs.NumberLaws.{numbers_rows}
use Rattle.block.specs.NearOne.{from_one, within_billionth, SumsExact}

-- ---- the size of a difference is the difference rounded without its sign

abs_odd : (d : ℕ) (s : Bool) (q k l : ℕ) → abs_of (odd d s q k l) ≡ odd d false q k l
unfolding abs_of odd
abs_odd d s zero k l = refl
abs_odd d s (suc q) k l = refl

abs_units : (f : Format) (s : Bool) (q k : ℕ) → abs_of (units f s q k) ≡ units f false q k
unfolding abs_of units
abs_units f s q k = go (ltb (q * 2 ^ k) (2 ^ (low f + suc (emax f))))
  where
    go : (b : Bool) → abs_of (cond b (odd (suc (prec f)) s q k (low f)) (inf s)) ≡ cond b (odd (suc (prec f)) false q k (low f)) (inf false)
    go true = abs_odd (suc (prec f)) s q k (low f)
    go false = refl

abs_round : (f : Format) (s : Bool) (a c : ℕ) → abs_of (round f s a c) ≡ round f false a c
unfolding round
abs_round f s a c = abs_units f s _ _

sub_one : (s : Bool) (m : ℕ) (e : ℤ) → sub binary64 (fin s m e) f1 ≡ sum binary64 s (m * up e) true (down e) (down e)
unfolding sub add neg of_bits
sub_one s m e = rw (mul-one (m * up e), one-mul (down e), mul-one (down e))

abs_sum : (s : Bool) (a c : ℕ) → abs_of (sum binary64 s a true c c) ≡ round binary64 false (from_one s a c) c
unfolding sum from_one
abs_sum true a c = abs_round binary64 true (a + c) c
abs_sum false a c = go (ltb a c) refl
  where
    go : (b : Bool) → ltb a c ≡ b → abs_of (cond b (round binary64 true (c - a) c) (round binary64 false (a - c) c)) ≡ round binary64 false (a - c + (c - a)) c
    go true p = let e : c - a ≡ a - c + (c - a) = omega (arith, ltb-true a c p) in abs_round binary64 true (c - a) c ∙ ap (λ (x : ℕ). round binary64 false x c) e
    go false p = let e : a - c ≡ a - c + (c - a) = omega (arith, ltb-false a c p) in abs_round binary64 false (a - c) c ∙ ap (λ (x : ℕ). round binary64 false x c) e

-- ---- the two floats between which the bound lies

-- 1e-9 as a fraction
tolerance : round binary64 false 4835703278458517 (2 ^ 82) ≡ d1e_9
unfolding round size units odd of_bits
tolerance = refl

next : Float
next = round binary64 false 9007200 (2 ^ 53)

next_positive : T (positive next)
unfolding next round size units odd
next_positive = tt

next_beyond : T (le next d1e_9) → ⊥
unfolding next round size units odd of_bits le lt eq
next_beyond t = t

within : (a c : ℕ) → 0 < c → a * 10 ^ 9 ≤ c → T (le (round binary64 false a c) d1e_9)
within a c p h =
    let g : a * 2 ^ 82 ≤ 4835703278458517 * c = omega arith in
    subst (λ (x : Float). T (le (round binary64 false a c) x)) tolerance (round_mono binary64 a c 4835703278458517 (2 ^ 82) p (pow_pos 82) g)

beyond : (a c : ℕ) → 0 < c → 9007200 * c ≤ a * 2 ^ 53 → T (le (round binary64 false a c) d1e_9) → ⊥
beyond a c p h t =
    let x = round binary64 false a c in
    let l : T (le next x) = unfold next in (round_mono binary64 9007200 (2 ^ 53) a c (pow_pos 53) p h) in
    let hi : T (positive d1e_9) = unfold of_bits in tt in
    next_beyond (le_trans_positive next x d1e_9 next_positive (between next x d1e_9 next_positive hi l t) hi l t)

-- ---- a sum that differs from 1 by more than 10^−9 differs by 9,007,200·2^−53 or more

-- a fraction whose denominator c divides 2^53 is a multiple of 2^−53
of_steps : (a c t : ℕ) → 0 < t → c * t ≡ 2 ^ 53 → c < a * 10 ^ 9 → 9007200 * c ≤ a * 2 ^ 53
of_steps a c t p e h =
    let g = mul-lt-mul_of_pos_right h p in
    let q : a * 10 ^ 9 * t ≡ a * t * 10 ^ 9 = mul_right_comm a (10 ^ 9) t in
    let k : 9007200 ≤ a * t = omega arith in
    let r : a * t * c ≡ a * 2 ^ 53 = mul_assoc a t c ∙ ap (λ (x : ℕ). a * x) (mul_comm t c ∙ e) in
    let w = mul-le-mul_right c k in
    omega arith

far : (s : Bool) (m : ℕ) (e : ℤ) → m < 2 ^ 53 → down e < from_one s (m * up e) (down e) * 10 ^ 9 → 9007200 * down e ≤ from_one s (m * up e) (down e) * 2 ^ 53
unfolding from_one
far s m (pos k) l h = omega arith
far true m (negsuc k) l h = omega arith
far false m (negsuc k) l h = go (leb (suc k) 53) refl
  where
    go : (b : Bool) → leb (suc k) 53 ≡ b → 9007200 * 2 ^ suc k ≤ (m * 1 - 2 ^ suc k + (2 ^ suc k - m * 1)) * 2 ^ 53
    go true p =
        let n : suc k ≤ 53 = leb-true (suc k) 53 p in
        let j : suc k + (53 - suc k) ≡ 53 = omega arith in
        of_steps (m * 1 - 2 ^ suc k + (2 ^ suc k - m * 1)) (2 ^ suc k) (2 ^ (53 - suc k)) (pow_pos (53 - suc k)) (sym (pow-add 2 (suc k) (53 - suc k)) ∙ ap (λ (x : ℕ). 2 ^ x) j) h
    go false p =
        let n = leb-false (suc k) 53 p in
        let c = pow_mono {i = 54} {j = suc k} (omega arith) in
        omega arith

-- ---- one sum

small : (s : Bool) (m : ℕ) (e : ℤ) → T (fits binary64 (fin s m e)) → m < 2 ^ 53
unfolding fits
small s zero e h = pow_pos 53
small s (suc m) e h =
    let A = eqb (suc m % 2) 1 in
    let B = ltb (suc m) (2 ^ 53) in
    let C = leb (down e) (2 ^ 1074) in
    ltb→lt (suc m) (2 ^ 53) (and_r A B (and_l (A && B) C (and_l (A && B && C) (ltb (suc m * up e) (2 ^ 1024 * down e)) h)))

finite_exact : (s : Bool) (m : ℕ) (e : ℤ) → m < 2 ^ 53 → le (round binary64 false (from_one s (m * up e) (down e)) (down e)) d1e_9 ≡ leb (from_one s (m * up e) (down e) * 10 ^ 9) (down e)
finite_exact s m e l = go (leb (a * 10 ^ 9) (down e)) refl (le (round binary64 false a (down e)) d1e_9) refl
  where
    a : ℕ
    a = from_one s (m * up e) (down e)

    go : (x : Bool) → leb (a * 10 ^ 9) (down e) ≡ x → (y : Bool) → le (round binary64 false a (down e)) d1e_9 ≡ y → y ≡ x
    go true p true q = refl
    go false p false q = refl
    go true p false q = absurd (subst T q (within a (down e) (down_pos e) (leb-true _ _ p)))
    go false p true q = absurd (beyond a (down e) (down_pos e) (far s m e l (leb-false _ _ p)) (subst T (sym q) tt))

near_one_exact : (sum : Float) → T (fits binary64 sum) → near_one sum ≡ within_billionth sum
unfolding near_one within_billionth abs_of sub add neg of_bits le lt eq
near_one_exact nan h = refl
near_one_exact (inf s) h = refl
near_one_exact (fin s m e) h = ap (λ (x : Float). le (abs_of x) d1e_9) (sub_one s m e) ∙ ap (λ (x : Float). le x d1e_9) (abs_sum s (m * up e) (down e)) ∙ finite_exact s m e (small s m e h)

-- ---- a request's sum

-- what is added in binary64 stays in it
fold_fits : (f : ℕ → Float) (k i : ℕ) (s : Float) → T (fits binary64 s) → T (fits binary64 (fold_from (λ s i. s ⊕ f i) k i s))
unfolding fold_from
fold_fits f zero i s h = h
fold_fits f (suc k) i s h = fold_fits f k (suc i) (s ⊕ f i) (add-fits binary64 s (f i))

first_fits : (count : ℕ) (s : List ℕ) (from : ℕ) → T (fits binary64 (at (floats_at count s from) 0))
unfolding floats_at
first_fits count s from =
    subst (λ (x : Float). T (fits binary64 x)) (sym (get_d_tabulate 28 _ 0 nan (omega arith)))
    (cond-fits binary64 (ltb 0 count) _ f0 (of_bits-fits binary64 _) (of_bits-fits binary64 0))

pub sums_exact : SumsExact
unfolding sum_fits fraction_sum total
sums_exact kind n block =
    let row = floats_at (fraction_count kind n) block (offset_of block fractions) in
    rw (numbers_rows kind n block)
    (ap (λ (b : Bool). not (reads_fractions kind) || b) (near_one_exact _ (fold_fits (λ i. at row i) (n - 1) 1 (at row 0) (first_fits (fraction_count kind n) block (offset_of block fractions)))))
