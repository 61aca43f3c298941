-- The fractions of the enclosure: close to what floats for ln M, ln 2 and E have in units. Assumes nothing.
use mathlib.Core.Path.{◌≡◌, refl, sym, ap, subst}
use Prim.Native.Nat.{ℕ, ◌+◌, ◌-◌, ◌*◌, ◌^◌, ◌≤◌, ◌<◌}
use native.Mathlib.Nat.{le_of_lt, lt_of_not-le, mul-pos, mul_assoc, zero-lt-suc, sub-eq-zero_of_le}
use native.Mathlib.Decide.{dec_le}
use native.Mathlib.Omega.{arith}
use mathlib.Core.Bool.{Bool, true, false, not}
use lib.Dec.{lit≤}
use lib.IntN.{pos}
use lib.Ieee as Ieee
use lib.Ieee.{Float, nan, inf, fin, binary64, neg, of_int, of_bits}
use lib.Ieee.Exact.{HasValue}
use lib.Ieee.Back.{round_whole}
use Rattle.float.specs.Ln.{ln2_high, ln2_low}
use Rattle.ln_near.specs.Fractions.{Frac, none}
use Rattle.ln_near.specs.LnNear.{term, terms, tail, without_tail, with_tail, allowed}
use Rattle.ln_near.proofs.Rounded.{Near}
use Rattle.ln_near.proofs.Operations.{plus, minus}
use Rattle.float.proofs.LnLaws.{minus_ge, minus_lt}
use Rattle.ln_near.proofs.Close.{Close, close_same, exact_at}
use Rattle.ln_near.proofs.Series.{close_later, nested, nested_pos, lead, start, without_nested, with_nested}
use Rattle.ln_near.proofs.Reduced.{whole_value, square_le}

-- ---- the bound
pub allowed_close : (p : ℕ) → Close (2 ^ 1074) (allowed 50 p) (((p - 1074) + (1074 - p) + 1) * (8 * 2 ^ 1021)) 0
allowed_close p = exact_at (((p - 1074) + (1074 - p) + 1) * 2 ^ 1074) (((p - 1074) + (1074 - p) + 1) * (8 * 2 ^ 1021) * 2 ^ 50) (2 ^ 50) (sym (mul_assoc ((p - 1074) + (1074 - p) + 1) (8 * 2 ^ 1021) (2 ^ 50)))

-- ---- the series for ln M
module _ (A b R : ℕ) (B : 0 < b) (l : 17 * A ≤ 3 * b) (h : Close (2 ^ 1074) (lead A b (nested (A * A) (b * b) 11 none)) R (5 * 2 ^ 1021)) where
  left : (x y : ℕ) → 0 < y → 32 * x ≤ y → (0 < y - x) × (20 * y ≤ 21 * (41 * (y - x)))
  left x y p q = omega arith

  without_close : Close (2 ^ 1074) (without_tail 20 A b) R (6 * 2 ^ 1021)
  without_close =
      close_same (2 ^ 1074) (lead A b (nested (A * A) (b * b) 20 none)) (without_tail 20 A b) R (6 * 2 ^ 1021) (mul-pos B (nested_pos (A * A) (b * b) (mul-pos B B) 20 none (zero-lt-suc 0))) (without_nested A b B)
      (close_later (A * A) (b * b) (mul-pos B B) (square_le A b l) (2 ^ 1074) (2 ^ 1021) R A b none l (lit≤ tt) (lit≤ tt) h)

  with_close : Close (2 ^ 1074) (with_tail 20 A b) R (6 * 2 ^ 1021)
  with_close =
      let k = left (A * A) (b * b) (mul-pos B B) (square_le A b l) in
      close_same (2 ^ 1074) (lead A b (nested (A * A) (b * b) 20 (start A b B))) (with_tail 20 A b) R (6 * 2 ^ 1021) (mul-pos B (nested_pos (A * A) (b * b) (mul-pos B B) 20 (start A b B) (mul-pos (zero-lt-suc 40) k.0))) (with_nested A b B k.0)
      (close_later (A * A) (b * b) (mul-pos B B) (square_le A b l) (2 ^ 1074) (2 ^ 1021) R A b (start A b B) l (lit≤ tt) k.1 h)

-- at s = 0
module _ (b : ℕ) (B : 0 < b) where
  lead_none : (U : ℕ) (f : Frac) → Close U (lead 0 b f) 0 0
  lead_none U f = go f.num f.den
    where
      go : (P Q : ℕ) → Near (0 * (b * Q)) (2 * (0 * P) * U) (0 * (b * Q))
      go P Q = omega arith

  without_none : (U : ℕ) → Close U (without_tail 20 0 b) 0 0
  without_none U = close_same U (lead 0 b (nested (0 * 0) (b * b) 20 none)) (without_tail 20 0 b) 0 0 (mul-pos B (nested_pos (0 * 0) (b * b) (mul-pos B B) 20 none (zero-lt-suc 0))) (without_nested 0 b B) (lead_none U (nested (0 * 0) (b * b) 20 none))

  with_none : (U : ℕ) → Close U (with_tail 20 0 b) 0 0
  with_none U =
      close_same U (lead 0 b (nested (0 * 0) (b * b) 20 (start 0 b B))) (with_tail 20 0 b) 0 0 (mul-pos B (nested_pos (0 * 0) (b * b) (mul-pos B B) 20 (start 0 b B) (mul-pos (zero-lt-suc 40) whole))) (with_nested 0 b B whole) (lead_none U (nested (0 * 0) (b * b) 20 (start 0 b B)))
    where
      go : (y : ℕ) → 0 < y → 0 < y - 0 * 0
      go y h = omega arith

      whole : 0 < b * b - 0 * 0
      whole = go (b * b) (mul-pos B B)

-- both sides: s is (n − D) / (n + D), and t says whether it is below zero
pub record Sides (t : Bool) (n D R : ℕ) : Type 0 where
  pub plus_without : Close (2 ^ 1074) (without_tail 20 (n - D) (n + D)) (plus t R) (plus t (6 * 2 ^ 1021))
  pub plus_with : Close (2 ^ 1074) (with_tail 20 (n - D) (n + D)) (plus t R) (plus t (6 * 2 ^ 1021))
  pub minus_without : Close (2 ^ 1074) (without_tail 20 (D - n) (n + D)) (minus t R) (minus t (6 * 2 ^ 1021))
  pub minus_with : Close (2 ^ 1074) (with_tail 20 (D - n) (n + D)) (minus t R) (minus t (6 * 2 ^ 1021))

pub sides_above : (n D R : ℕ) → 0 < n + D → D ≤ n → 17 * (n - D) ≤ 3 * (n + D) → Close (2 ^ 1074) (lead (n - D) (n + D) (nested ((n - D) * (n - D)) ((n + D) * (n + D)) 11 none)) R (5 * 2 ^ 1021) → Sides false n D R
sides_above n D R B k l h = record {
  plus_without = without_close (n - D) (n + D) R B l h;
  plus_with = with_close (n - D) (n + D) R B l h;
  minus_without = subst (λ (a : ℕ). Close (2 ^ 1074) (without_tail 20 a (n + D)) 0 0) (sym (sub-eq-zero_of_le k)) (without_none (n + D) B (2 ^ 1074));
  minus_with = subst (λ (a : ℕ). Close (2 ^ 1074) (with_tail 20 a (n + D)) 0 0) (sym (sub-eq-zero_of_le k)) (with_none (n + D) B (2 ^ 1074));
}

pub sides_below : (n D R : ℕ) → 0 < n + D → n ≤ D → 17 * (D - n) ≤ 3 * (n + D) → Close (2 ^ 1074) (lead (D - n) (n + D) (nested ((D - n) * (D - n)) ((n + D) * (n + D)) 11 none)) R (5 * 2 ^ 1021) → Sides true n D R
sides_below n D R B k l h = record {
  plus_without = subst (λ (a : ℕ). Close (2 ^ 1074) (without_tail 20 a (n + D)) 0 0) (sym (sub-eq-zero_of_le k)) (without_none (n + D) B (2 ^ 1074));
  plus_with = subst (λ (a : ℕ). Close (2 ^ 1074) (with_tail 20 a (n + D)) 0 0) (sym (sub-eq-zero_of_le k)) (with_none (n + D) B (2 ^ 1074));
  minus_without = without_close (D - n) (n + D) R B l h;
  minus_with = with_close (D - n) (n + D) R B l h;
}

-- ---- ln 2, in two parts
abbrev pub high : ℕ
high = 0x16_2e42_fee0_0000 * 2 ^ 1021

abbrev pub low : ℕ
low = 0x1a_39ef_3579_3c76 * 2 ^ 989

pub high_value : HasValue ln2_high false high (2 ^ 1074)
unfolding of_bits
high_value = (refl, refl)

pub low_value : HasValue ln2_low false low (2 ^ 1074)
unfolding of_bits
low_value = (refl, refl)

pub ln2_without : Close (2 ^ 1074) (without_tail 20 1 3) (high + low) (2 ^ 1021)
unfolding without_tail terms term
ln2_without = (lit≤ tt, lit≤ tt)

pub ln2_with : Close (2 ^ 1074) (with_tail 20 1 3) (high + low) (2 ^ 1021)
unfolding with_tail terms term tail
ln2_with = (lit≤ tt, lit≤ tt)

-- ---- E
pub record Exponent (p : ℕ) : Type 0 where
  pub s : Bool
  pub e : ℕ
  pub value : HasValue (of_int binary64 (Ieee.minus p 1074)) s (e * 2 ^ 1074) (2 ^ 1074)
  pub above : plus s e ≡ p - 1074
  pub below : minus s e ≡ 1074 - p
  pub few : e ≤ 1100

neg_value : (x : Float) (a c : ℕ) → HasValue x false a c → HasValue (neg x) true a c
unfolding neg
neg_value nan a c v = absurd v
neg_value (inf s) a c v = absurd v
neg_value (fin s m e) a c v = (ap not v.0, v.1)

small_int : (n : ℕ) → n ≤ 2 ^ 53 → HasValue (of_int binary64 (pos n)) false (n * 2 ^ 1074) (2 ^ 1074)
unfolding of_int
small_int n h = whole_value false n (of_int binary64 (pos n)) (round_whole binary64 false n h)

pub exponent : (p : ℕ) → p ≤ 2100 → Exponent p
exponent p l = go (dec_le 1074 p)
  where
    under : (e : ℕ) → e ≤ 1100 → e ≤ 2 ^ 53
    under e h = omega arith

    less : (p : ℕ) → p ≤ 2100 → p - 1074 ≤ 1100
    less p h = omega arith

    less' : (p : ℕ) → 1074 - p ≤ 1100
    less' p = omega arith

    go : Dec (1074 ≤ p) → Exponent p
    go (yes h) = record {
      s = false;
      e = p - 1074;
      value = subst (λ (x : Float). HasValue x false ((p - 1074) * 2 ^ 1074) (2 ^ 1074)) (minus_ge p h) (small_int (p - 1074) (under (p - 1074) (less p l)));
      above = refl;
      below = sym (sub-eq-zero_of_le h);
      few = less p l;
    }
    go (no h) =
        let k : p < 1074 = lt_of_not-le h in
        record {
          s = true;
          e = 1074 - p;
          value = subst (λ (x : Float). HasValue x true ((1074 - p) * 2 ^ 1074) (2 ^ 1074)) (minus_lt p k) (neg_value (of_int binary64 (pos (1074 - p))) ((1074 - p) * 2 ^ 1074) (2 ^ 1074) (small_int (1074 - p) (under (1074 - p) (less' p))));
          above = sym (sub-eq-zero_of_le (le_of_lt k));
          below = refl;
          few = less' p;
        }
