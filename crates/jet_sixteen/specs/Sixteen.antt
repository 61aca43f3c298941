-- Document 01's jets as they stood before document 02's mark e3: 16 floats in the marks e0, e1 and e2, with the pairs of positions of three degrees and the same rules. Definitions
-- only.
use Rattle.std.specs.Prelude.{ℕ, zero, suc, ◌+◌, ◌-◌, ◌/◌, ◌%◌, Bool, cond, ◌&&◌, List, [], ◌∷◌, leb, eqb, pos, set, replicate, Float}
use Rattle.std.specs.Float.{binary64}
use Rattle.std.specs.Float.Ieee.{of_int}
use Rattle.float.specs.Ops.{◌⊕◌, ◌⊖◌, ◌⊗◌, ◌⊘◌, f0, f1, f2}
use Rattle.float.specs.Root.{root}
use Rattle.float.specs.Ln.{ln_of}
use Rattle.jet.specs.Coefficients.{at, build, total, less, factorial_of}

-- "at position i + 4j + 8k"; "p not above m in any mark"
unfoldable pub not_above16 : ℕ → ℕ → Bool
not_above16 p m = leb (p % 4) (m % 4) && leb (p / 4 % 2) (m / 4 % 2) && leb (p / 8) (m / 8)

-- of the k positions from p on, those not above m, ascending
unfoldable pub among16 : ℕ → ℕ → ℕ → List ℕ
among16 zero p m = []
among16 (suc k) p m = cond (not_above16 p m) (p ∷ among16 k (suc p) m) (among16 k (suc p) m)

unfoldable pub weight16 : ℕ → Float
weight16 m = of_int binary64 (pos (m % 4 + m / 4 % 2 + m / 8))

unfoldable pub number16 : Float → List Float
number16 x = x ∷ replicate 15 f0

unfoldable pub marked16 : ℕ → Float → List Float
marked16 m x = set (number16 x) m f1

abbrev pub with_mark16_at : ℕ → List Float → List Float → ℕ → Float
with_mark16_at m a c p = cond (eqb p m) f1 (at a p)

abbrev pub sum16_at : List Float → List Float → List Float → ℕ → Float
sum16_at a b c m = at a m ⊕ at b m

abbrev pub difference16_at : List Float → List Float → List Float → ℕ → Float
difference16_at a b c m = at a m ⊖ at b m

unfoldable pub product16_at : List Float → List Float → List Float → ℕ → Float
product16_at a b c m = total (λ p. at a p ⊗ at b (m - p)) (among16 (suc m) 0 m)

unfoldable pub quotient16_at : List Float → List Float → List Float → ℕ → Float
quotient16_at a b q m = less (λ p. at q p ⊗ at b (m - p)) (at a m) (among16 m 0 m) ⊘ at b 0

unfoldable pub root16_at : List Float → List Float → ℕ → Float
root16_at a r zero = root (at a 0)
root16_at a r (suc k) = less (λ p. at r p ⊗ at r (suc k - p)) (at a (suc k)) (among16 k 1 (suc k)) ⊘ (f2 ⊗ at r 0)

unfoldable pub logarithm16_at : List Float → List Float → ℕ → Float
logarithm16_at a l zero = ln_of (at a 0)
logarithm16_at a l (suc k) =
    less (λ p. (weight16 p ⊗ at l p) ⊗ at a (suc k - p)) (weight16 (suc k) ⊗ at a (suc k)) (among16 k 1 (suc k)) ⊘ (weight16 (suc k) ⊗ at a 0)

unfoldable pub derivative16_at : ℕ → List Float → List Float → ℕ → Float
derivative16_at k a c m = cond (leb k 3 && eqb (m % 4) 0) (factorial_of k ⊗ at a (m + k)) f0

-- the jet of a rule
abbrev pub jet16 : (List Float → ℕ → Float) → List Float
jet16 f = build f 16

unfoldable pub with_mark16 : ℕ → List Float → List Float
with_mark16 m a = jet16 (with_mark16_at m a)

unfoldable pub sum16 : List Float → List Float → List Float
sum16 a b = jet16 (sum16_at a b)

unfoldable pub difference16 : List Float → List Float → List Float
difference16 a b = jet16 (difference16_at a b)

unfoldable pub product16 : List Float → List Float → List Float
product16 a b = jet16 (product16_at a b)

unfoldable pub quotient16 : List Float → List Float → List Float
quotient16 a b = jet16 (quotient16_at a b)

unfoldable pub root16 : List Float → List Float
root16 a = jet16 (root16_at a)

unfoldable pub logarithm16 : List Float → List Float
logarithm16 a = jet16 (logarithm16_at a)

unfoldable pub derivative16 : ℕ → List Float → List Float
derivative16 k a = jet16 (derivative16_at k a)

-- as operators
abbrev pub ◌⊞'◌ : List Float → List Float → List Float
◌⊞'◌ = sum16

abbrev pub ◌⊟'◌ : List Float → List Float → List Float
◌⊟'◌ = difference16

abbrev pub ◌⊠'◌ : List Float → List Float → List Float
◌⊠'◌ = product16

abbrev pub ◌⧄'◌ : List Float → List Float → List Float
◌⧄'◌ = quotient16

infixl 60 ◌⊞'◌
infixl 60 ◌⊟'◌
infixl 70 ◌⊠'◌
infixl 70 ◌⧄'◌
