-- The rows that a block's parts stand for, number by number, as the loops that read them cite them. Assumes nothing.
use mathlib.Core.Path.{◌≡◌, refl, sym, ap, ◌∙◌}
use Prim.Native.Nat.{ℕ, ◌+◌, ◌*◌, ◌≤◌, ◌<◌}
use native.Mathlib.Omega.{arith}
use mathlib.Core.Bool.{Bool, true, false, cond, not, ◌||◌}
use mathlib.Core.List.{List}
use lib.Dec.{ltb}
use lib.Ieee.{Float, nan}
use borrow.Author.Tests.{ltb-false, lt-ltb, le-ltb}
use Rattle.float.specs.Ops.{f0}
use Rattle.float.specs.Sign.{finite_of, negative_of}
use Rattle.buf.specs.Bytes.{f64_at}
use Rattle.eos.specs.Cubic.{component_of}
use Rattle.eos.proofs.Totals.{total_same}
use Rattle.eos.specs.declared.types.Component.{Component}
use Rattle.block.specs.Lists.{tabulate, all_below}
use Rattle.block.specs.Numbers.{floats_at, reads_fractions}
use Rattle.block.specs.Blend.{at, of_row, component_at}
use Rattle.block.specs.Checks.{positive, component_fits, fraction_fits, fraction_sum, near_one, sum_fits}
use Rattle.block.proofs.PairLaws.{both}
use Rattle.block.proofs.Lists.{get_d_tabulate, tabulate_same, upto, all_rest}

-- a reader that stops says nothing of what it leaves
pub stopped : {fits : Bool} {Stored : Type 0} → false ≡ fits → (false ≡ fits) × (false ≡ true → Stored)
stopped e = (e, λ p. let z : ◌≡◌ {A = ℕ} 0 1 = cc in absurd (omega arith))

-- the i-th number of a row
pub read_at : (count : ℕ) (s : List ℕ) (from i : ℕ) → i < count → i < 28 → f64_at s (from + 8 * i) ≡ at (floats_at count s from) i
unfolding floats_at
read_at count s from i h b = sym (get_d_tabulate 28 _ i nan b ∙ rw (lt-ltb i count h))

-- past the count, +0
pub read_past : (count : ℕ) (s : List ℕ) (from i : ℕ) → count ≤ i → i < 28 → f0 ≡ at (floats_at count s from) i
unfolding floats_at
read_past count s from i h b = sym (get_d_tabulate 28 _ i nan b ∙ rw (le-ltb i count h))

-- ---- components

-- what check 12 tests of a component
abbrev pub component_test : List Float → ℕ → Bool
component_test row i = component_fits (at row (3 * i)) (at row (3 * i + 1)) (at row (3 * i + 2))

-- the numbers of a component that fits are finite
pub positive_finite : (x : Float) → positive x ≡ true → finite_of x ≡ true
unfolding positive
positive_finite x e = (both (finite_of x) e).0

pub component_finite : (t p w : Float) → component_fits t p w ≡ true → (finite_of t ≡ true) × ((finite_of p ≡ true) × (finite_of w ≡ true))
unfolding component_fits
component_finite t p w e =
    let f = both (positive t) e in
    let g = both (positive p) f.1 in
    (positive_finite t f.0, (positive_finite p g.0, (both (finite_of w) g.1).0))

-- its three numbers
pub component_numbers : (n : ℕ) (s : List ℕ) (from i : ℕ) → i < n → n ≤ 8
    → (f64_at s (from + 24 * i) ≡ at (floats_at (3 * n) s from) (3 * i))
    × ((f64_at s (from + 24 * i + 8) ≡ at (floats_at (3 * n) s from) (3 * i + 1)) × (f64_at s (from + 24 * i + 16) ≡ at (floats_at (3 * n) s from) (3 * i + 2)))
component_numbers n s from i h b =
    let place : (k : ℕ) → k < 3 → f64_at s (from + 8 * (3 * i + k)) ≡ at (floats_at (3 * n) s from) (3 * i + k) = λ k l. read_at (3 * n) s from (3 * i + k) (omega arith) (omega arith) in
    let first : from + 24 * i ≡ from + 8 * (3 * i + 0) = omega arith in
    let second : from + 24 * i + 8 ≡ from + 8 * (3 * i + 1) = omega arith in
    let third : from + 24 * i + 16 ≡ from + 8 * (3 * i + 2) = omega arith in
    let none : 3 * i + 0 ≡ 3 * i = omega arith in (
      ap (f64_at s) first ∙ place 0 (omega arith) ∙ ap (at (floats_at (3 * n) s from)) none,
      (ap (f64_at s) second ∙ place 1 (omega arith), ap (f64_at s) third ∙ place 2 (omega arith)),
    )

pub component_tested : (row : List Float) (i : ℕ) (t p w : Float) (u : Bool) → (t ≡ at row (3 * i)) × ((p ≡ at row (3 * i + 1)) × (w ≡ at row (3 * i + 2))) → component_fits t p w ≡ u
    → component_test row i ≡ u
component_tested row i t p w u e q = rw (← e.0, ← e.1.0, ← e.1.1, q)

pub component_made : (row : List Float) (i : ℕ) (t p w : Float) (c : Component) → (t ≡ at row (3 * i)) × ((p ≡ at row (3 * i + 1)) × (w ≡ at row (3 * i + 2))) → c ≡ component_of t p w → c ≡ of_row row i
unfolding of_row
component_made row i t p w c e ec = rw (← e.0, ← e.1.0, ← e.1.1, ← ec)

-- the arrays that are filled with a component's numbers, at the end
pub component_stored : (n : ℕ) (row : List Float) (field : Component → Float) (i : ℕ) (l : List Float) → field (record { tc = f0; a = f0; b = f0; kappa = f0 }) ≡ f0 → n ≤ i → i ≤ n
    → l ≡ tabulate 8 (upto f0 (λ k. field (of_row row k)) i) → l ≡ tabulate 8 (λ k. field (component_at n row k))
unfolding component_at
component_stored n row field i l z a b e =
    let q : i ≡ n = omega arith in
    e ∙ tabulate_same 8 _ _ (λ k h. ap (λ (m : ℕ). cond (ltb k m) (field (of_row row k)) f0) q ∙ sym (go k (ltb k n)))
  where
    go : (k : ℕ) (t : Bool) → field (cond t (of_row row k) (record { tc = f0; a = f0; b = f0; kappa = f0 })) ≡ cond t (field (of_row row k)) f0
    go k true = refl
    go k false = z

-- ---- fractions

-- what check 14 tests of a fraction
abbrev pub fraction_test : List Float → ℕ → Bool
fraction_test row i = fraction_fits (at row i)

pub fraction_tested : (count : ℕ) (s : List ℕ) (from i : ℕ) (x : Float) (r t : Bool) → i < count → count ≤ 8 → x ≡ f64_at s (from + 8 * i) → r ≡ fraction_fits x → r ≡ t
    → fraction_test (floats_at count s from) i ≡ t
fraction_tested count s from i x r t h b ex er e = ap fraction_fits (sym (ex ∙ read_at count s from i h (omega arith))) ∙ sym er ∙ e

-- where no more are read
pub fractions_stored : (count : ℕ) (s : List ℕ) (from i : ℕ) (l : List Float) → count ≤ i → i ≤ count → l ≡ tabulate 8 (upto f0 (at (floats_at count s from)) i)
    → l ≡ tabulate 8 (λ k. at (floats_at count s from) k)
fractions_stored count s from i l a b e =
    let q : i ≡ count = omega arith in
    e ∙ tabulate_same 8 _ _ (λ k h. ap (λ (m : ℕ). cond (ltb k m) (at (floats_at count s from) k) f0) q ∙ go k h (ltb k count) refl)
  where
    go : (k : ℕ) → k < 8 → (t : Bool) → ltb k count ≡ t → cond (ltb k count) (at (floats_at count s from) k) f0 ≡ at (floats_at count s from) k
    go k h true p = rw p
    go k h false p = rw p (read_past count s from k (ltb-false k count p) (omega arith))

-- +0 is a fraction that fits
zero_fits : fraction_fits f0 ≡ true
unfolding fraction_fits finite_of negative_of lib.Ieee.of_bits
zero_fits = refl

pub fractions_all : (count n : ℕ) (s : List ℕ) (from i : ℕ) → count ≤ i → i ≤ count → count ≤ n → n ≤ 8 → all_below i (fraction_test (floats_at count s from)) ≡ true
    → true ≡ all_below n (fraction_test (floats_at count s from))
fractions_all count n s from i a b c m h =
    let q : i ≡ count = omega arith in
    sym h
    ∙ ap (λ (t : ℕ). all_below t (fraction_test (floats_at count s from))) q
    ∙ all_rest (fraction_test (floats_at count s from)) count n c (λ k l g. ap fraction_fits (sym (read_past count s from k l (omega arith))) ∙ zero_fits)

-- ---- the sum of the fractions

-- what the two ways through the test say
module _ (kind n : ℕ) (row : List Float) {r : Bool} where
  pub sum_not_read : r ≡ reads_fractions kind → r ≡ false → true ≡ sum_fits kind n row
  unfolding sum_fits
  sum_not_read e f = rw (← e, f)

  pub sum_tested : {sum : Float} {t : Bool} → r ≡ reads_fractions kind → r ≡ true → sum ≡ fraction_sum n row → t ≡ near_one sum → t ≡ sum_fits kind n row
  unfolding sum_fits
  sum_tested e f g h = rw (← e, f, ← g) h

-- a row of eight has all that are added
pub sum_row : (kind n : ℕ) (row : List Float) → 1 ≤ n → n ≤ 8 → sum_fits kind n (tabulate 8 (λ i. at row i)) ≡ sum_fits kind n row
unfolding sum_fits fraction_sum
sum_row kind n row h m =
    ap (λ (sum : Float). not (reads_fractions kind) || near_one sum) (total_same n _ _ h (λ i l. get_d_tabulate 8 (λ i. at row i) i nan (omega arith)))
