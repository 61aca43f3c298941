-- Which bit patterns are those of finite values: those below the infinity's, the sign aside. Assumes nothing.
use mathlib.Core.Path.{◌≡◌, refl, sym, ap, ◌∙◌}
use Prim.Native.Nat.{ℕ, zero, suc, ◌+◌, ◌/◌, ◌%◌, ◌^◌, ◌≤◌, ◌<◌}
use native.Mathlib.Omega.{arith}
use mathlib.Core.Bool.{Bool, true, false, cond}
use lib.Dec.{ltb, leb, eqb}
use borrow.Author.Tests.{ne_eqb, ltb-true, ltb-false}
use lib.Ieee.{nan, inf, binary64, odd, of_fields, of_bits}
use Rattle.float.specs.Sign.{finite_of}
use Rattle.float.proofs.Patterns.{top}

odd_finite : (d : ℕ) (s : Bool) (q k l : ℕ) → finite_of (odd d s q k l) ≡ true
unfolding odd finite_of
odd_finite d s zero k l = refl
odd_finite d s (suc q) k l = refl

all_ones : (s c : Bool) → finite_of (cond c (inf s) nan) ≡ false
unfolding finite_of
all_ones s true = refl
all_ones s false = refl

fields_finite : (s : Bool) (x t : ℕ) → x < 2047 → finite_of (of_fields binary64 s x t) ≡ true
unfolding of_fields
fields_finite s zero t h = odd_finite 53 s t 0 1074
fields_finite s (suc x) t h = rw (ne_eqb (suc x) 2047 (λ e. omega arith)) (odd_finite 53 s (2 ^ 52 + t) x 1074)

fields_infinite : (s : Bool) (x t : ℕ) → x ≡ 2047 → finite_of (of_fields binary64 s x t) ≡ false
unfolding of_fields
fields_infinite s x t e = ap (λ (y : ℕ). finite_of (of_fields binary64 s y t)) e ∙ all_ones s (eqb t 0)

pub finite_bits : (b : ℕ) → ltb (b % 2 ^ 63) top ≡ finite_of (of_bits binary64 b)
unfolding of_bits
finite_bits b = go (ltb (b % 2 ^ 63) top) refl
  where
    go : (c : Bool) → ltb (b % 2 ^ 63) top ≡ c → c ≡ finite_of (of_fields binary64 (leb (2 ^ 63) b) (b % 2 ^ 63 / 2 ^ 52) (b % 2 ^ 52))
    go true h =
        let l = ltb-true (b % 2 ^ 63) top h in
        let e : b % 2 ^ 63 / 2 ^ 52 < 2047 = omega arith in
        sym (fields_finite (leb (2 ^ 63) b) _ (b % 2 ^ 52) e)
    go false h =
        let l = ltb-false (b % 2 ^ 63) top h in
        let e : b % 2 ^ 63 / 2 ^ 52 ≡ 2047 = omega arith in
        sym (fields_infinite (leb (2 ^ 63) b) _ (b % 2 ^ 52) e)

-- a finite value's pattern is no NaN's
pub finite_no_nan : (b : ℕ) → finite_of (of_bits binary64 b) ≡ true → b % 2 ^ 63 ≤ top
finite_no_nan b h = let l = ltb-true (b % 2 ^ 63) top (finite_bits b ∙ h) in omega arith
