-- A coefficient depends on the operands' coefficients at positions not above its own, and on no others. So the coefficients of first order below w of a result
-- need only those of its operands. Assumes nothing.
use mathlib.Core.Path.{◌≡◌, refl, sym, ap, ◌∙◌}
use mathlib.Core.Logic.{⊎_elim}
use Prim.Native.Nat.{ℕ, zero, suc, ◌+◌, ◌-◌, ◌/◌, ◌%◌, ◌≤◌, ◌<◌}
use native.Mathlib.Omega.{arith}
use native.Mathlib.Nat.{le_trans, le_of_suc-le-suc, not-suc-le-zero, eq-or-lt_of_le}
use mathlib.Core.Bool.{Bool, true, false, cond, ◌&&◌}
use mathlib.Core.List.{List, [], ◌∷◌}
use lib.ListN.{length}
use lib.Dec.{leb, ltb, eqb}
use borrow.Author.Tests.{le-leb, leb-true, ltb-true, ltb-false, eqb-true}
use lib.Ieee.{Float, nan}
use Rattle.float.specs.Ops.{◌⊕◌, ◌⊗◌, f0, f1}
use Rattle.float.specs.Root.{root}
use Rattle.float.specs.Ln.{ln_of}
use Rattle.jet.specs.Positions.{positions, degree1, degree2, degree3, first_order, not_above, among, pairs_of, before, between, weight_of}
use Rattle.jet.specs.Coefficients.{at, build, total, cut, upto, Upto, product_at, product_of, quotient_at, quotient_of, root_at, root_of, logarithm_at, logarithm_of, with_mark_at, with_mark_of, sum_at, sum_of, difference_at, difference_of, negation_at, negation_of, factorial_of, derivative_at, derivative_of}
use Rattle.jet.proofs.Every.{Every, none, more, every_map, fold_cong}
use Rattle.jet.proofs.Among.{In, amongs, told, least, itself, through, rest, no_larger}
use Rattle.jet.proofs.Build.{length_build, build_at, cut_at, depends}
use Rattle.jet.proofs.Rules.{less_cong}

-- a and b have the same coefficients at the positions not above m
abbrev pub Same : ℕ → List Float → List Float → Type 0
Same m a b = (p : ℕ) → not_above p m ≡ true → at a p ≡ at b p

total_each : (f g : ℕ → Float) (l : List ℕ) → Every (λ q. f q ≡ g q) l → total f l ≡ total g l
unfolding total
total_each f g [] none = refl
total_each f g (q ∷ l) (more e r) =
    fold_cong (λ s p. s ⊕ f p) (λ s p. s ⊕ g p) l (f q) (g q) e
    (every_map (λ p. f p ≡ g p) (λ p. (s : Float) → s ⊕ f p ≡ s ⊕ g p) (λ p d s. ap (λ (y : Float). s ⊕ y) d) l r)

pub total_cong : (f g : ℕ → Float) (k p m : ℕ) → ((q : ℕ) → In k p m q → f q ≡ g q) → total f (among k p m) ≡ total g (among k p m)
total_cong f g k p m h = total_each f g (among k p m) (every_map (In k p m) (λ q. f q ≡ g q) h (among k p m) (amongs k p m))

module _ (m : ℕ) (h : m < positions) (a a' : List Float) (A : Same m a a') where
  module _ (b b' : List Float) (B : Same m b b') where
    product_alike : (j : ℕ) → not_above j m ≡ true → (c d : List Float) → ((p : ℕ) → p < j → not_above p j ≡ true → at c p ≡ at d p) → product_at a b c j ≡ product_at a' b' d j
    unfolding product_at pairs_of
    product_alike j u c d e =
        total_cong (λ p. at a p ⊗ at b (j - p)) (λ p. at a' p ⊗ at b' (j - p)) (suc j) 0 j
        (λ q i. let x = A q (through q j m i.under u) in let y = B (j - q) (through (j - q) j m (rest q j i.under) u) in rw (x, y))

    pub product_depends : at (product_of a b) m ≡ at (product_of a' b') m
    unfolding product_of
    product_depends = depends (product_at a b) (product_at a' b') m product_alike positions m h (itself m)

    quotient_alike : (j : ℕ) → not_above j m ≡ true → (c d : List Float) → ((p : ℕ) → p < j → not_above p j ≡ true → at c p ≡ at d p) → quotient_at a b c j ≡ quotient_at a' b' d j
    unfolding quotient_at before
    quotient_alike j u c d e =
        let terms =
        less_cong (λ p. at c p ⊗ at b (j - p)) (λ p. at d p ⊗ at b' (j - p)) (at a j) j 0 j
        (λ q i.
        let x = e q (omega (arith, i.to)) i.under in
        let y = B (j - q) (through (j - q) j m (rest q j i.under) u) in
        rw (x, y)) in
        rw (terms, A j u, B 0 (least m))

    pub quotient_depends : at (quotient_of a b) m ≡ at (quotient_of a' b') m
    unfolding quotient_of
    quotient_depends = depends (quotient_at a b) (quotient_at a' b') m quotient_alike positions m h (itself m)

  root_alike : (j : ℕ) → not_above j m ≡ true → (c d : List Float) → ((p : ℕ) → p < j → not_above p j ≡ true → at c p ≡ at d p) → root_at a c j ≡ root_at a' d j
  unfolding root_at between
  root_alike zero u c d e = ap root (A 0 (least m))
  root_alike (suc k) u c d e =
      let terms =
      less_cong (λ p. at c p ⊗ at c (suc k - p)) (λ p. at d p ⊗ at d (suc k - p)) (at a (suc k)) k 1 (suc k)
      (λ q i.
      let x = e q (omega (arith, i.to)) i.under in
      let y = e (suc k - q) (omega (arith, i.from)) (rest q (suc k) i.under) in
      rw (x, y)) in
      let first = e 0 (omega arith) (least (suc k)) in
      rw (terms, A (suc k) u, first)

  pub root_depends : at (root_of a) m ≡ at (root_of a') m
  unfolding root_of
  root_depends = depends (root_at a) (root_at a') m root_alike positions m h (itself m)

  logarithm_alike : (j : ℕ) → not_above j m ≡ true → (c d : List Float) → ((p : ℕ) → p < j → not_above p j ≡ true → at c p ≡ at d p) → logarithm_at a c j ≡ logarithm_at a' d j
  unfolding logarithm_at between
  logarithm_alike zero u c d e = ap ln_of (A 0 (least m))
  logarithm_alike (suc k) u c d e =
      let terms =
      less_cong (λ p. (weight_of p ⊗ at c p) ⊗ at a (suc k - p)) (λ p. (weight_of p ⊗ at d p) ⊗ at a' (suc k - p)) (weight_of (suc k) ⊗ at a (suc k)) k 1 (suc k)
      (λ q i.
      let x = e q (omega (arith, i.to)) i.under in
      let y = A (suc k - q) (through (suc k - q) (suc k) m (rest q (suc k) i.under) u) in
      rw (x, y)) in
      rw (terms, A (suc k) u, A 0 (least m))

  pub logarithm_depends : at (logarithm_of a) m ≡ at (logarithm_of a') m
  unfolding logarithm_of
  logarithm_depends = depends (logarithm_at a) (logarithm_at a') m logarithm_alike positions m h (itself m)

-- ---- the coefficients of first order below w of a result, from those of its operands

one_less : (a b c d : ℕ) → a ≤ b → c ≤ d → a + c ≤ b + d
one_less a b c d h k = omega arith

-- a position not above one of first order is of first order
first_below : (p m : ℕ) → not_above p m ≡ true → first_order m ≡ true → first_order p ≡ true
unfolding first_order
first_below p m e f =
    let t = told p m e in
    le-leb (degree1 p + degree2 p + degree3 p) 1
    (le_trans (one_less (degree1 p + degree2 p) (degree1 m + degree2 m) (degree3 p) (degree3 m) (one_less (degree1 p) (degree1 m) (degree2 p) (degree2 m) t.in1 t.in2) t.in3) (leb-true (degree1 m + degree2 m + degree3 m) 1 f))

abbrev first : Float → List Float → Float
first d [] = d
first d (x ∷ l) = x

abbrev others : List Float → List Float
others [] = []
others (x ∷ l) = l

last : (k : ℕ) (a b : List Float) → Upto (suc k) a b → first_order k ≡ true → at a k ≡ at b k
unfolding upto
last k a b e f = let d : ◌≡◌ {A = List Float} (at a k ∷ upto k a) (at b k ∷ upto k b) = rw f at e in ap (first nan) d

inner : (k : ℕ) (a b : List Float) → Upto (suc k) a b → Upto k a b
unfolding upto
inner k a b e = go (first_order k) e
  where
    go : (x : Bool) → cond x (at a k ∷ upto k a) (upto k a) ≡ cond x (at b k ∷ upto k b) (upto k b) → Upto k a b
    go true d = ap others d
    go false d = d

-- a coefficient of first order below w
pub taken : (w m : ℕ) (a b : List Float) → Upto w a b → m < w → first_order m ≡ true → at a m ≡ at b m
taken zero m a b e h f = absurd (not-suc-le-zero h)
taken (suc k) m a b e h f =
    ⊎_elim
    (λ (q : m ≡ k). rw q (last k a b e (sym (ap first_order q) ∙ f)))
    (λ (l : m < k). taken k m a b (inner k a b e) l f)
    (eq-or-lt_of_le (le_of_suc-le-suc h))

one_more : (k : ℕ) (a b : List Float) → Upto k a b → (first_order k ≡ true → at a k ≡ at b k) → Upto (suc k) a b
unfolding upto
one_more k a b e h = go (first_order k) refl
  where
    go : (x : Bool) → first_order k ≡ x → cond x (at a k ∷ upto k a) (upto k a) ≡ cond x (at b k ∷ upto k b) (upto k b)
    go true f = rw (h f, e)
    go false f = e

pub upto_ext : (w : ℕ) (a b : List Float) → ((m : ℕ) → m < w → first_order m ≡ true → at a m ≡ at b m) → Upto w a b
unfolding upto
upto_ext zero a b h = refl
upto_ext (suc k) a b h = one_more k a b (upto_ext k a b (λ m l f. h m (omega arith) f)) (h k (omega arith))

same : (w m : ℕ) (a b : List Float) → Upto w a b → m < w → first_order m ≡ true → Same m a b
same w m a b e h f p u = taken w p a b e (le_trans (succ_le (no_larger p m u)) h) (first_below p m u f)
  where
    succ_le : {p m : ℕ} → p ≤ m → suc p ≤ suc m
    succ_le l = omega arith

-- no coefficient stands beyond the last
beyond : (l : List Float) (m : ℕ) → length l ≤ m → at l m ≡ nan
beyond [] m h = refl
beyond (x ∷ l) zero h = absurd (not-suc-le-zero h)
beyond (x ∷ l) (suc m) h = beyond l m (le_of_suc-le-suc h)

build_ext : (f g : List Float → ℕ → Float) (w : ℕ) → ((m : ℕ) → m < w → first_order m ≡ true → m < positions → at (build f positions) m ≡ at (build g positions) m) → Upto w (build f positions) (build g positions)
build_ext f g w h = upto_ext w (build f positions) (build g positions) (λ m l e. go m l e (ltb m positions) refl)
  where
    go : (m : ℕ) → m < w → first_order m ≡ true → (x : Bool) → ltb m positions ≡ x → at (build f positions) m ≡ at (build g positions) m
    go m l e true t = h m l e (ltb-true m positions t)
    go m l e false t =
        let b : positions ≤ m = ltb-false m positions t in
        beyond (build f positions) m (rw (length_build f positions) b) ∙ sym (beyond (build g positions) m (rw (length_build g positions) b))

module _ (w : ℕ) (a a' : List Float) (A : Upto w a a') where
  module _ (b b' : List Float) (B : Upto w b b') where
    pub sum_first : Upto w (sum_of a b) (sum_of a' b')
    unfolding sum_of
    sum_first = build_ext (sum_at a b) (sum_at a' b') w (λ m h f k. build_at (sum_at a b) positions m k ∙ rw (taken w m a a' A h f, taken w m b b' B h f) (sym (build_at (sum_at a' b') positions m k)))

    pub difference_first : Upto w (difference_of a b) (difference_of a' b')
    unfolding difference_of
    difference_first = build_ext (difference_at a b) (difference_at a' b') w (λ m h f k. build_at (difference_at a b) positions m k ∙ rw (taken w m a a' A h f, taken w m b b' B h f) (sym (build_at (difference_at a' b') positions m k)))

    pub product_first : Upto w (product_of a b) (product_of a' b')
    unfolding product_of
    product_first = build_ext (product_at a b) (product_at a' b') w (λ m h f k. product_depends m k a a' (same w m a a' A h f) b b' (same w m b b' B h f))

    pub quotient_first : Upto w (quotient_of a b) (quotient_of a' b')
    unfolding quotient_of
    quotient_first = build_ext (quotient_at a b) (quotient_at a' b') w (λ m h f k. quotient_depends m k a a' (same w m a a' A h f) b b' (same w m b b' B h f))

  pub mark_first : (m : ℕ) → Upto w (with_mark_of m a) (with_mark_of m a')
  unfolding with_mark_of
  mark_first m = build_ext (with_mark_at m a) (with_mark_at m a') w (λ p h f k. build_at (with_mark_at m a) positions p k ∙ ap (cond (eqb p m) f1) (taken w p a a' A h f) ∙ sym (build_at (with_mark_at m a') positions p k))

  pub negation_first : Upto w (negation_of a) (negation_of a')
  unfolding negation_of
  negation_first = build_ext (negation_at a) (negation_at a') w (λ m h f k. build_at (negation_at a) positions m k ∙ rw (taken w m a a' A h f) (sym (build_at (negation_at a') positions m k)))

  pub root_first : Upto w (root_of a) (root_of a')
  unfolding root_of
  root_first = build_ext (root_at a) (root_at a') w (λ m h f k. root_depends m k a a' (same w m a a' A h f))

  pub logarithm_first : Upto w (logarithm_of a) (logarithm_of a')
  unfolding logarithm_of
  logarithm_first = build_ext (logarithm_at a) (logarithm_at a') w (λ m h f k. logarithm_depends m k a a' (same w m a a' A h f))

-- what a function `.._to` gives
pub cut_upto : (n : ℕ) (f : List Float → ℕ → Float) → n ≤ positions → Upto n (cut n (build f positions)) (build f positions)
cut_upto n f h = upto_ext n (cut n (build f positions)) (build f positions) (λ m l e. cut_at n m (build f positions) l (rw (length_build f positions) h))

-- ---- a derivative by e0, w a multiple of four

-- the position above m by k in e0 is of the same order
raised : (m k : ℕ) → m % 4 ≡ 0 → k ≤ 3 → first_order m ≡ true → first_order (m + k) ≡ true
unfolding first_order
raised m k z l f =
    let q : (m + k) / 4 ≡ m / 4 = omega arith in
    let r : (m + k) / 8 ≡ m / 8 = omega arith in
    let s : (m + k) / 16 ≡ m / 16 = omega arith in
    rw (q, r, s) f

derivative_at_lem : (w k : ℕ) (a b c d : List Float) (m : ℕ) → m < w → first_order m ≡ true → w % 4 ≡ 0 → Upto w a b → derivative_at k a c m ≡ derivative_at k b d m
unfolding derivative_at
derivative_at_lem w k a b c d m h o f e = go (leb k 3) refl (eqb (m % 4) 0) refl
  where
    go : (x : Bool) → leb k 3 ≡ x → (y : Bool) → eqb (m % 4) 0 ≡ y → cond (x && y) (factorial_of k ⊗ at a (m + k)) f0 ≡ cond (x && y) (factorial_of k ⊗ at b (m + k)) f0
    go true p true q =
        let l = leb-true k 3 p in
        let z = eqb-true (m % 4) 0 q in
        ap (λ (v : Float). factorial_of k ⊗ v) (taken w (m + k) a b e (omega arith) (raised m k z l o))
    go true p false q = refl
    go false p y q = refl

pub derivative_first : (w k : ℕ) (a b : List Float) → w % 4 ≡ 0 → Upto w a b → Upto w (derivative_of k a) (derivative_of k b)
unfolding derivative_of
derivative_first w k a b f e =
    build_ext (derivative_at k a) (derivative_at k b) w
    (λ m h o l. build_at (derivative_at k a) positions m l ∙ derivative_at_lem w k a b _ _ m h o f e ∙ sym (build_at (derivative_at k b) positions m l))
