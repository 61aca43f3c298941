-- The first sixteen coefficients of what an operation of jets of 32 gives are what jets of 16 give of the first sixteen of its operands. Assumes nothing.
use mathlib.Core.Path.{◌≡◌, refl, ap, ◌∙◌}
use Prim.Native.Nat.{ℕ, zero, suc, ◌-◌, ◌<◌}
use native.Mathlib.Omega.{arith}
use mathlib.Core.Bool.{Bool, true, false, cond}
use mathlib.Core.List.{List, [], ◌∷◌}
use lib.ListN.{take, set}
use lib.Dec.{eqb}
use lib.Ieee.{Float}
use Rattle.float.specs.Ops.{f1}
use Rattle.jet.specs.Positions.{positions}
use Rattle.jet.specs.Coefficients.{at, build, number_of, marked_of, with_mark_at, with_mark_of, sum_at, sum_of, difference_at, difference_of, product_at, product_of, quotient_at, quotient_of, recip_of, root_at, root_of, logarithm_at, logarithm_of, derivative_at, derivative_of}
use Rattle.jet.proofs.Build.{take_build}
use Rattle.eos.specs.Indices.{fold_from, jet_total}
use Rattle.jet_sixteen.specs.Sixteen.{number16, marked16, with_mark16_at, with_mark16, sum16_at, sum16, difference16_at, difference16, product16_at, product16, quotient16_at, quotient16, root16_at, root16, logarithm16_at, logarithm16, derivative16_at, derivative16, jet16}
use Rattle.jet_sixteen.specs.Evaluations.{recip16, total16}
use Rattle.jet_sixteen.proofs.Rules.{first, product_same, quotient_same, root_same, logarithm_same, derivative_same}

-- x has the first sixteen coefficients of a
pub record Sixteen (a x : List Float) : Type 0 where
  pub same : take 16 a ≡ x

-- what position m holds
pub reads : {a x : List Float} → Sixteen a x → (m : ℕ) → m < 16 → at a m ≡ at x m
reads {a} h m l = first a m l ∙ ap (λ (y : List Float). at y m) h.same

-- rules that agree below n give the same coefficients
build_same : (f g : List Float → ℕ → Float) (n : ℕ) → ((m : ℕ) (c : List Float) → m < n → f c m ≡ g c m) → build f n ≡ build g n
unfolding build
build_same f g zero h = refl
build_same f g (suc n) h = let r = build_same f g n (λ m c l. h m c (omega arith)) in rw (r, h n (build g n) (omega arith))

-- and below 16 the same first sixteen
by_rule : (f g : List Float → ℕ → Float) → ((m : ℕ) (c : List Float) → m < 16 → f c m ≡ g c m) → take 16 (build f positions) ≡ jet16 g
by_rule f g h = take_build f positions 16 (omega arith) ∙ build_same f g 16 h

-- ---- each operation

pub numbers : (x : Float) → Sixteen (number_of x) (number16 x)
unfolding number_of number16
numbers x = record { same = refl }

-- a mark stands among the first sixteen, or beyond them in both
take_set : (n m : ℕ) (l : List Float) (x : Float) → take n (set l m x) ≡ set (take n l) m x
take_set zero m l x = refl
take_set (suc n) m [] x = refl
take_set (suc n) zero (y ∷ l) x = refl
take_set (suc n) (suc m) (y ∷ l) x = ap (λ (r : List Float). y ∷ r) (take_set n m l x)

pub marks : (m : ℕ) (x : Float) → Sixteen (marked_of m x) (marked16 m x)
unfolding marked_of marked16
marks m x = record { same = take_set 16 m (number_of x) f1 ∙ ap (λ (l : List Float). set l m f1) (numbers x).same }

pub with_marks : (m : ℕ) {a x : List Float} → Sixteen a x → Sixteen (with_mark_of m a) (with_mark16 m x)
unfolding with_mark_of with_mark16
with_marks m {a} {x} h = record { same = by_rule (with_mark_at m a) (with_mark16_at m x) (λ p c l. ap (cond (eqb p m) f1) (reads h p l)) }

module _ {a x b y : List Float} (h : Sixteen a x) (k : Sixteen b y) where
  pub sums : Sixteen (sum_of a b) (sum16 x y)
  unfolding sum_of sum16
  sums = record { same = by_rule (sum_at a b) (sum16_at x y) (λ m c l. rw (reads h m l, reads k m l)) }

  pub differences : Sixteen (difference_of a b) (difference16 x y)
  unfolding difference_of difference16
  differences = record { same = by_rule (difference_at a b) (difference16_at x y) (λ m c l. rw (reads h m l, reads k m l)) }

  pub products : Sixteen (product_of a b) (product16 x y)
  unfolding product_of product16
  products = record { same = rw (← h.same, ← k.same) (by_rule (product_at a b) (product16_at (take 16 a) (take 16 b)) (λ m c l. product_same a b c m l)) }

  pub quotients : Sixteen (quotient_of a b) (quotient16 x y)
  unfolding quotient_of quotient16
  quotients = record { same = rw (← h.same, ← k.same) (by_rule (quotient_at a b) (quotient16_at (take 16 a) (take 16 b)) (λ m c l. quotient_same a b c m l)) }

module _ {a x : List Float} (h : Sixteen a x) where
  pub roots : Sixteen (root_of a) (root16 x)
  unfolding root_of root16
  roots = record { same = rw (← h.same) (by_rule (root_at a) (root16_at (take 16 a)) (λ m c l. root_same a c m l)) }

  pub logarithms : Sixteen (logarithm_of a) (logarithm16 x)
  unfolding logarithm_of logarithm16
  logarithms = record { same = rw (← h.same) (by_rule (logarithm_at a) (logarithm16_at (take 16 a)) (λ m c l. logarithm_same a c m l)) }

  pub derivatives : (k : ℕ) → Sixteen (derivative_of k a) (derivative16 k x)
  unfolding derivative_of derivative16
  derivatives k = record { same = rw (← h.same) (by_rule (derivative_at k a) (derivative16_at k (take 16 a)) (λ m c l. derivative_same a c k m l)) }

  pub recips : Sixteen (recip_of a) (recip16 x)
  unfolding recip_of recip16
  recips = quotients (numbers f1) h

-- ---- branches and totals

pub branches : (t : Bool) {a x b y : List Float} → Sixteen a x → Sixteen b y → Sixteen (cond t a b) (cond t x y)
branches true h k = h
branches false h k = k

pub folds : (f g : List Float → ℕ → List Float) → ((s r : List Float) (i : ℕ) → Sixteen s r → Sixteen (f s i) (g r i)) → (k i : ℕ) {s r : List Float} → Sixteen s r → Sixteen (fold_from f k i s) (fold_from g k i r)
unfolding fold_from
folds f g h zero i e = e
folds f g h (suc k) i {s} {r} e = folds f g h k (suc i) (h s r i e)

pub totals : (n : ℕ) (f g : ℕ → List Float) → ((i : ℕ) → Sixteen (f i) (g i)) → Sixteen (jet_total n f) (total16 n g)
unfolding jet_total total16
totals n f g h = folds (λ s i. sum_of s (f i)) (λ s i. sum16 s (g i)) (λ s r i e. sums e (h i)) (n - 1) 1 (h 0)
