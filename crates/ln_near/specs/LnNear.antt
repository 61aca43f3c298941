-- What it means that a value is near to a natural logarithm, in whole numbers. Definitions only.
-- P4 of document 02: "For every finite positive x the result must now be within (|E| + 1)·2^−50 of the exact logarithm, E being the exponent after halving.
-- The exact value is enclosed between whole-number fractions: the first 20 terms of 2·(s + s³/3 + ...) for the exact s, with and without a geometric tail,
-- and likewise for ln 2."
use Rattle.std.specs.Prelude.{◌≡◌, ℕ, zero, suc, ◌+◌, ◌-◌, ◌*◌, ◌^◌, true, false, cond, Float}
use Rattle.std.specs.Float.{binary64}
use Rattle.std.specs.Float.Ieee.{size, round}
use Rattle.float.specs.Sign.{finite_of}
use Rattle.float.specs.Nearest.{units_of}
use Rattle.float.specs.Ln.{halves}
use Rattle.ln_near.specs.Fractions.{Frac, ◌+ᶠ◌, times, none, Number, Proper, AtMost, Within, value_of}

-- ---- "2·(s + s³/3 + ...)", for s = a / b
-- s^(2k+1) / (2k+1)
unfoldable pub term : (a b k : ℕ) → Frac
term a b k = record { num = a ^ (2 * k + 1); den = b ^ (2 * k + 1) * (2 * k + 1) }

-- the first k terms
unfoldable pub terms : (a b k : ℕ) → Frac
terms a b zero = none
terms a b (suc k) = terms a b k +ᶠ term a b k

-- "a geometric tail" after k terms: s^(2k+1) / (2k+1) · 1 / (1 − s²). The terms from the k-th on come to no more, since none is divided by less than 2k+1.
unfoldable pub tail : (a b k : ℕ) → Frac
tail a b k = record { num = a ^ (2 * k + 1) * (b * b); den = b ^ (2 * k + 1) * (2 * k + 1) * (b * b - a * a) }

-- "the first .. terms .., with and without a geometric tail"
unfoldable pub without_tail : (k a b : ℕ) → Frac
without_tail k a b = times 2 (terms a b k)

unfoldable pub with_tail : (k a b : ℕ) → Frac
with_tail k a b = times 2 (terms a b k +ᶠ tail a b k)

-- ---- x = n·2^−1074 = M·2^E, with M = n / 2^p and E = p − 1074
-- p "after halving": the place of n's highest digit, so that M is in [1, 2), and one more where M is halved
unfoldable pub place : ℕ → ℕ
place n = let j = size n - 1 in cond (halves (round binary64 false n (2 ^ j))) (j + 1) j

-- ln x = E·ln 2 + ln M, with s = (M−1)/(M+1) for ln M and 1/3 for ln 2. M−1 over M+1 is n − 2^p over n + 2^p; where n is below 2^p, and so s below zero, what
-- stands after the minus counts. A difference of ℕ is 0 where it would be below zero, so of the two sides for ln M, and of the two for E·ln 2, one is always 0.
-- `over` are the fractions that stand after the plus, `under` those after the minus.
unfoldable pub ln_end : (over under : ℕ → ℕ → Frac) (n p : ℕ) → Number
ln_end over under n p = record {
  plus = times (p - 1074) (over 1 3) +ᶠ over (n - 2 ^ p) (n + 2 ^ p);
  minus = times (1074 - p) (under 1 3) +ᶠ under (2 ^ p - n) (n + 2 ^ p);
}

-- the lower and the upper end, by k terms
unfoldable pub ln_lower : (k n p : ℕ) → Number
ln_lower k = ln_end (without_tail k) (with_tail k)

unfoldable pub ln_upper : (k n p : ℕ) → Number
ln_upper k = ln_end (with_tail k) (without_tail k)

-- v lies between the ends
pub record Enclosed (k n p : ℕ) (v : Number) : Type 0 where
  pub proper : Proper v
  pub from : AtMost (ln_lower k n p) v
  pub to : AtMost v (ln_upper k n p)

-- (|E| + 1)·2^−bits
abbrev pub allowed : (bits p : ℕ) → Frac
allowed bits p = record { num = (p - 1074) + (1074 - p) + 1; den = 2 ^ bits }

-- r is within (|E| + 1)·2^−bits of both ends of what encloses ln x, for x of n units and p its place, and so of every number between them.
pub record LnWithin (bits n p : ℕ) (r : Float) : Type 0 where
  pub finite : finite_of r ≡ true
  pub value_proper : Proper (value_of r)
  pub lower_enclosed : Enclosed 20 n p (ln_lower 20 n p)
  pub upper_enclosed : Enclosed 20 n p (ln_upper 20 n p)
  pub near : (v : Number) → Enclosed 20 n p v → Within (allowed bits p) (value_of r) v

-- "within (|E| + 1)·2^−50 of the exact logarithm"
abbrev pub LnNear : (x r : Float) → Type 0
LnNear x r = LnWithin 50 (units_of x) (place (units_of x)) r
