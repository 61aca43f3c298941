-- The rules of document 01's stand-ins for a jet's coefficients. A jet is the list of its coefficients. Definitions only.
use Rattle.std.specs.Prelude.{◌≡◌, ℕ, zero, suc, ◌+◌, ◌-◌, ◌*◌, cond, ◌&&◌, get_or, set, take, replicate, pos, eqb, leb, ltb, Float}
use mathlib.Core.List.{List, [], ◌∷◌, ◌++◌, foldl}
use Rattle.std.specs.Float.{nan, binary64}
use Rattle.std.specs.Float.Ieee.{neg, of_int}
use Rattle.float.specs.Ops.{◌⊕◌, ◌⊖◌, ◌⊗◌, ◌⊘◌, f0, f1, f2}
use Rattle.float.specs.Root.{root}
use Rattle.float.specs.Ln.{ln_of}
use Rattle.jet.specs.Positions.{positions, degree0, first_order, pairs_of, before, between, weight_of}

-- the coefficient at position m
abbrev pub at : List Float → ℕ → Float
at a m = get_or a m nan

-- the coefficient at position m; beyond the last position NaN
unfoldable pub coefficient_of : List Float → ℕ → Float
coefficient_of a m = cond (ltb m positions) (at a m) nan

-- n coefficients, each by the rule f from those before it
abbrev pub append : (List Float → ℕ → Float) → ℕ → List Float → List Float
append f m c = c ++ (f c m ∷ [])

unfoldable pub build : (List Float → ℕ → Float) → ℕ → List Float
build f zero = []
build f (suc n) = append f n (build f n)

-- "A plain number beside a jet is a jet with zeros after it."
unfoldable pub number_of : Float → List Float
number_of x = x ∷ replicate (positions - 1) f0

-- a number with 1 at the position of a mark: 1 for e0, 4 for e1, 8 for e2, 16 for e3
unfoldable pub marked_of : ℕ → Float → List Float
marked_of m x = set (number_of x) m f1

-- a jet with 1 at the position of a mark: what it is derived by
abbrev pub with_mark_at : ℕ → List Float → List Float → ℕ → Float
with_mark_at m a c p = cond (eqb p m) f1 (at a p)

unfoldable pub with_mark_of : ℕ → List Float → List Float
with_mark_of m a = build (with_mark_at m a) positions

abbrev pub sum_at : List Float → List Float → List Float → ℕ → Float
sum_at a b c m = at a m ⊕ at b m

unfoldable pub sum_of : List Float → List Float → List Float
sum_of a b = build (sum_at a b) positions

abbrev pub difference_at : List Float → List Float → List Float → ℕ → Float
difference_at a b c m = at a m ⊖ at b m

unfoldable pub difference_of : List Float → List Float → List Float
difference_of a b = build (difference_at a b) positions

abbrev pub negation_at : List Float → List Float → ℕ → Float
negation_at a c m = neg (at a m)

unfoldable pub negation_of : List Float → List Float
negation_of a = build (negation_at a) positions

-- a sum from its first term
unfoldable pub total : (ℕ → Float) → List ℕ → Float
total f [] = f0
total f (p ∷ ps) = foldl (λ s q. s ⊕ f q) (f p) ps

-- x less each term in turn
unfoldable pub less : (ℕ → Float) → Float → List ℕ → Float
less f x ps = foldl (λ s p. s ⊖ f p) x ps

-- "Product: coefficient m sums a(p)·b(m−p), ascending p, from the first term."
unfoldable pub product_at : List Float → List Float → List Float → ℕ → Float
product_at a b c m = total (λ p. at a p ⊗ at b (m - p)) (pairs_of m)

unfoldable pub product_of : List Float → List Float → List Float
product_of a b = build (product_at a b) positions

-- "Quotient: a(m), less q(p)·b(m−p) for each p before m in turn, divided by b(0)."
unfoldable pub quotient_at : List Float → List Float → List Float → ℕ → Float
quotient_at a b q m = less (λ p. at q p ⊗ at b (m - p)) (at a m) (before m) ⊘ at b 0

unfoldable pub quotient_of : List Float → List Float → List Float
quotient_of a b = build (quotient_at a b) positions

-- "`recip` is 1 over it; `powi(2)` is a product."
unfoldable pub recip_of : List Float → List Float
recip_of a = quotient_of (number_of f1) a

unfoldable pub square_of : List Float → List Float
square_of a = product_of a a

-- "Root: r(0) is IEEE 754's square root, nearest even; then a(m) less r(p)·r(m−p) for p other than 0 and m, over 2·r(0)."
unfoldable pub root_at : List Float → List Float → ℕ → Float
root_at a r zero = root (at a 0)
root_at a r (suc k) = less (λ p. at r p ⊗ at r (suc k - p)) (at a (suc k)) (between (suc k)) ⊘ (f2 ⊗ at r 0)

unfoldable pub root_of : List Float → List Float
root_of a = build (root_at a) positions

-- "Logarithm: with w the degree sum, w(m)·a(m) less (w(p)·l(p))·a(m−p) for p other than 0 and m, over w(m)·a(0)."
unfoldable pub logarithm_at : List Float → List Float → ℕ → Float
logarithm_at a l zero = ln_of (at a 0)
logarithm_at a l (suc k) =
    less (λ p. (weight_of p ⊗ at l p) ⊗ at a (suc k - p)) (weight_of (suc k) ⊗ at a (suc k)) (between (suc k))
    ⊘ (weight_of (suc k) ⊗ at a 0)

unfoldable pub logarithm_of : List Float → List Float
logarithm_of a = build (logarithm_at a) positions

-- k factorial
unfoldable pub factorial : ℕ → ℕ
factorial zero = 1
factorial (suc k) = suc k * factorial k

unfoldable pub factorial_of : ℕ → Float
factorial_of k = of_int binary64 (pos (factorial k))

-- "A k-th derivative by e0 is k factorial times that coefficient, a jet free of e0." From the fourth on it is zero.
unfoldable pub derivative_at : ℕ → List Float → List Float → ℕ → Float
derivative_at k a c m = cond (leb k 3 && eqb (degree0 m) 0) (factorial_of k ⊗ at a (m + k)) f0

unfoldable pub derivative_of : ℕ → List Float → List Float
derivative_of k a = build (derivative_at k a) positions

-- the first n coefficients, and +0 at the other positions
unfoldable pub cut : ℕ → List Float → List Float
cut n a = take n a ++ replicate (positions - n) f0

-- the coefficients of first order in e1, e2 and e3 at positions below w, from the last: all four of w = 4, all twelve of w = 12, and of w = 20 positions 0 to 11 and 16 to 19
unfoldable pub upto : ℕ → List Float → List Float
upto zero a = []
upto (suc m) a = cond (first_order m) (at a m ∷ upto m a) (upto m a)

-- a and b have the same ones
abbrev pub Upto : ℕ → List Float → List Float → Type 0
Upto w a b = upto w a ≡ upto w b
