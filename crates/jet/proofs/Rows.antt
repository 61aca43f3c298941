-- The coefficient rules in the form in which the loops work them out. Assumes nothing.
use mathlib.Core.Path.{◌≡◌, refl, ap, ◌∙◌}
use Prim.Native.Nat.{ℕ, zero, suc, ◌+◌, ◌-◌, ◌≤◌, ◌<◌, min}
use native.Mathlib.Omega.{arith}
use native.Mathlib.Numerals.{add-one}
use native.Mathlib.Nat.{sub-zero, not-suc-le-zero, le_of_suc-le-suc, eq-or-lt_of_le, min-eq_left, min-eq_right}
use mathlib.Core.Logic.{⊎_elim}
use mathlib.Core.Bool.{Bool, true, false}
use mathlib.Core.List.{List, [], ◌++◌, foldl}
use lib.ListN.{length, take, drop, set, replicate}
use lib.Seq.{take_all, get_or-set_same, get_or-set_other}
use lib.Ieee.{Float, nan}
use lib.Dec.{leb}
use borrow.Author.Tests.{leb-true, leb-false}
use Rattle.float.specs.Ops.{◌⊗◌, ◌⊘◌, f0, f2}
use Rattle.jet.specs.Positions.{positions, among, pairs_of, before, between, weight_of}
use Rattle.jet.specs.Coefficients.{at, build, total, less, product_at, quotient_at, root_at, logarithm_at, cut}
use Rattle.jet.proofs.Among.{In, pairs_first}
use Rattle.jet.proofs.Build.{length_build, build_at, cut_at, length_cut, cut_all}
use Rattle.jet.proofs.Next.{Next, between_from}
use Rattle.jet.proofs.Fold.{adding}
use Rattle.jet.proofs.Rules.{less_cong}

pub product_row : (a b c : List Float) (m : ℕ) → foldl (adding a b m) (at a 0 ⊗ at b m) (drop 1 (pairs_of m)) ≡ product_at a b c m
unfolding product_at total
product_row a b c m = rw (pairs_first m, sub-zero)

pub quotient_row : (a b q : List Float) (m : ℕ) (s : Float) → s ≡ less (λ p. at q p ⊗ at b (m - p)) (at a m) (among (m - 0) 0 m) → s ⊘ at b 0 ≡ quotient_at a b q m
unfolding quotient_at before
quotient_row a b q m s e = rw (e, sub-zero)

-- q is the first position after 0 that is not above m
pub root_row : (a r : List Float) (m q : ℕ) (s d : Float) → 1 ≤ m → Next 0 m q → s ≡ less (λ p. at r p ⊗ at r (m - p)) (at a m) (among (m - q) q m) → d ≡ at r 0 → s ⊘ (f2 ⊗ d) ≡ root_at a r m
unfolding root_at
root_row a r zero q s d h n e g = absurd (not-suc-le-zero h)
root_row a r (suc k) q s d h n e g = rw (e, g, ← between_from k q n)

between_cong : (f g : ℕ → Float) (x : Float) (k : ℕ) → ((q : ℕ) → In k 1 (suc k) q → f q ≡ g q) → less f x (between (suc k)) ≡ less g x (between (suc k))
unfolding between
between_cong f g x k h = less_cong f g x k 1 (suc k) h

-- wl are the coefficients of l, each times its weight
pub logarithm_row : (a l wl : List Float) (m q : ℕ) (s w : Float) → 1 ≤ m → Next 0 m q → ((p : ℕ) → 1 ≤ p → p < m → at wl p ≡ weight_of p ⊗ at l p) → w ≡ weight_of m → s ≡ less (λ p. at wl p ⊗ at a (m - p)) (w ⊗ at a m) (among (m - q) q m) → s ⊘ (w ⊗ at a 0) ≡ logarithm_at a l m
unfolding logarithm_at
logarithm_row a l wl zero q s w h n e g d = absurd (not-suc-le-zero h)
logarithm_row a l wl (suc k) q s w h n e g d =
    rw (d, g, ← between_from k q n)
    (ap (λ (y : Float). y ⊘ (weight_of (suc k) ⊗ at a 0))
    (between_cong (λ p. at wl p ⊗ at a (suc k - p)) (λ p. (weight_of p ⊗ at l p) ⊗ at a (suc k - p)) (weight_of (suc k) ⊗ at a (suc k)) k
    (λ p i. ap (λ (y : Float). y ⊗ at a (suc k - p)) (e p i.from (omega (arith, i.to))))))

-- one more weighted coefficient
pub weighted_turn : (l wl : List Float) (m : ℕ) (v w : Float) → m < length l → m < length wl → w ≡ weight_of m → ((p : ℕ) → 1 ≤ p → p < m → at wl p ≡ weight_of p ⊗ at l p) → (p : ℕ) → 1 ≤ p → p < m + 1 → at (set wl m (w ⊗ v)) p ≡ weight_of p ⊗ at (set l m v) p
weighted_turn l wl m v w hl hw g e p h k =
    ⊎_elim
    (λ (q : p ≡ m). rw (q, get_or-set_same wl m (w ⊗ v) nan hw, get_or-set_same l m v nan hl, g))
    (λ (q : p < m). rw (get_or-set_other wl m p (w ⊗ v) nan (λ d. omega arith), get_or-set_other l m p v nan (λ d. omega arith)) (e p h q))
    (eq-or-lt_of_le (le_of_suc-le-suc (rw add-one at k)))

-- the first coefficient, while a jet is filled
pub first_filled : (f : List Float → ℕ → Float) (m : ℕ) → 1 ≤ m → m ≤ positions → at (cut m (build f positions)) 0 ≡ f [] 0
unfolding build
first_filled f m h k = cut_at m 0 (build f positions) h (rw (length_build f positions) k) ∙ build_at f positions 0 (omega arith)

pub length_filled : (f : List Float → ℕ → Float) (m : ℕ) → m ≤ positions → length (cut m (build f positions)) ≡ positions
length_filled f m h = length_cut m (build f positions) (rw (length_build f positions) h) h

pub cut_min : (n : ℕ) (a : List Float) → length a ≡ positions → cut (min n positions) a ≡ cut n a
unfolding cut
cut_min n a h = go (leb n positions) refl
  where
    go : (b : Bool) → leb n positions ≡ b → take (min n positions) a ++ replicate (positions - min n positions) f0 ≡ take n a ++ replicate (positions - n) f0
    go true e = let l : n ≤ positions = leb-true n positions e in rw (min-eq_left l)
    go false e =
        let l : positions < n = leb-false n positions e in
        let g : positions ≤ n = omega arith in
        let z : positions - n ≡ 0 = omega arith in
        rw (min-eq_right g, z, take_all positions a (rw h (omega arith)), take_all n a (rw h g))

-- a loop up to `end` is at its end
pub filled : (f : List Float → ℕ → Float) (end m : ℕ) (c : List Float) → m ≡ end → c ≡ cut m (build f positions) → c ≡ cut end (build f positions)
filled f end m c h e = e ∙ ap (λ (k : ℕ). cut k (build f positions)) h

-- one up to the lesser of n and the number of positions, and one over every position
pub cut_at_most : (f : List Float → ℕ → Float) (n k : ℕ) (c : List Float) → k ≡ min n positions → c ≡ cut k (build f positions) → c ≡ cut n (build f positions)
cut_at_most f n k c h e = filled f (min n positions) k c h e ∙ cut_min n (build f positions) (length_build f positions)

pub cut_full : (f : List Float → ℕ → Float) (c : List Float) → c ≡ cut positions (build f positions) → c ≡ build f positions
cut_full f c e = e ∙ cut_all (build f positions) (length_build f positions)
