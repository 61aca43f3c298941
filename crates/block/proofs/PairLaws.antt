-- What check 11 shows of the four parts: each lies within the block. Assumes nothing.
use mathlib.Core.Path.{◌≡◌, refl}
use Prim.Native.Nat.{ℕ, ◌+◌, ◌-◌, ◌*◌, ◌≤◌}
use native.Mathlib.Omega.{arith}
use mathlib.Core.Bool.{Bool, true, false, cond, ◌&&◌}
use mathlib.Core.List.{List}
use lib.Dec.{leb, eqb}
use borrow.Author.Tests.{eqb-true, leb-true}
use Rattle.block.specs.Pairs.{offset_of, length_of, end_of, coefficients, interactions, fractions, conditions, lengths_fit, offsets_fit, pairs_fit}
use Rattle.block.specs.Numbers.{reads_fractions, fraction_count}

pub both : (a : Bool) {b : Bool} → a && b ≡ true → (a ≡ true) × (b ≡ true)
both true h = (refl, h)
both false h = let z : ◌≡◌ {A = ℕ} 0 1 = cc in absurd (omega arith)

pub record Within (n : ℕ) (s : List ℕ) : Type 0 where
  pub coefficients_end : offset_of s coefficients + 24 * n ≤ 640
  pub interactions_end : offset_of s interactions + 4 * (n * (n - 1)) ≤ 640
  pub fractions_end : offset_of s fractions + 8 * n ≤ 640
  pub conditions_end : offset_of s conditions + 32 ≤ 640

made : (n : ℕ) (s : List ℕ) → length_of s coefficients ≡ 24 * n → length_of s interactions ≡ 4 * (n * (n - 1)) → length_of s fractions ≡ 8 * n → length_of s conditions ≡ 32
    → end_of s coefficients ≤ offset_of s interactions → end_of s interactions ≤ offset_of s fractions → end_of s fractions ≤ offset_of s conditions → end_of s conditions ≤ 640 → Within n s
made n s a b c d e f g h = record { coefficients_end = omega arith; interactions_end = omega arith; fractions_end = omega arith; conditions_end = omega arith }

pub within : (n : ℕ) (s : List ℕ) → pairs_fit n s ≡ true → Within n s
unfolding pairs_fit lengths_fit offsets_fit
within n s h =
    let p = both (lengths_fit n s) h in
    let l = both (eqb (length_of s coefficients) (24 * n)) p.0 in
    let l₁ = both (eqb (length_of s interactions) (4 * (n * (n - 1)))) l.1 in
    let l₂ = both (eqb (length_of s fractions) (8 * n)) l₁.1 in
    let o = both (leb 16 (offset_of s coefficients)) p.1 in
    let o₁ = both (leb (end_of s coefficients) (offset_of s interactions)) o.1 in
    let o₂ = both (leb (end_of s interactions) (offset_of s fractions)) o₁.1 in
    let o₃ = both (leb (end_of s fractions) (offset_of s conditions)) o₂.1 in
    made n s (eqb-true _ _ l.0) (eqb-true _ _ l₁.0) (eqb-true _ _ l₂.0) (eqb-true _ _ l₂.1)
    (leb-true _ _ o₁.0) (leb-true _ _ o₂.0) (leb-true _ _ o₃.0) (leb-true _ _ o₃.1)

pub fractions_most : (kind n : ℕ) → fraction_count kind n ≤ n
unfolding fraction_count
fractions_most kind n = go (reads_fractions kind)
  where
    go : (b : Bool) → cond b n 0 ≤ n
    go true = omega arith
    go false = omega arith
