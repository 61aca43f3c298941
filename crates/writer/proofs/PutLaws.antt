-- Pairs and parts stored one after the other. Assumes nothing.
use mathlib.Core.Path.{◌≡◌, sym, ap, ◌∙◌}
use Prim.Native.Nat.{ℕ, suc, ◌+◌, ◌*◌, ◌≤◌, ◌<◌}
use native.Mathlib.Omega.{arith}
use native.Mathlib.Nat.{zero-add, eq-or-lt_of_le}
use mathlib.Core.Bool.{true}
use mathlib.Core.Logic.{⊎_elim}
use mathlib.Core.List.{List, ◌++◌}
use lib.ListN.{length, drop, drop_of_length-le}
use lib.Seq.{drop-cons}
use lib.Dec.{T}
use lib.Ieee.{Float, nan, binary64, to_bits, fits}
use Rattle.buf.specs.Bytes.{bytes_of, splice, put_num, put_u64, put_f64}
use Rattle.buf.proofs.Laws.{length_bytes_of, splice_append, splice_nil}
use Rattle.block.specs.declared.types.Conditions.{Conditions}
use Rattle.block.specs.declared.types.Numbers.{Numbers}
use Rattle.block.specs.Pairs.{interactions_length}
use Rattle.block.specs.Blend.{at}
use Rattle.block.proofs.Sizes.{product}
use Rattle.writer.specs.Packed.{interactions_from, fractions_from, conditions_from, pair_bytes, pairs_bytes, floats_bytes, condition_bytes, filled}
use Rattle.writer.specs.Written.{lists_fit}
use Rattle.writer.specs.Laws.{Binary64}
use Rattle.writer.proofs.PackedLaws.{length_pair, length_pairs, length_floats, coefficients_bytes, interactions_bytes, fractions_bytes}

-- u stored from i on and v behind it
behind : (s u v s₁ s₂ : List ℕ) (i j : ℕ) → s₁ ≡ splice s i u → s₂ ≡ splice s₁ j v → j ≡ i + length u → s₂ ≡ splice s i (u ++ v)
behind s u v s₁ s₂ i j e₁ e₂ ej = e₂ ∙ rw (e₁, ej) (sym (splice_append u v s i))

pub pair_put : (s s₁ s₂ : List ℕ) (i o l : ℕ) → s₁ ≡ put_num 2 s i o → s₂ ≡ put_num 2 s₁ (i + 2) l → s₂ ≡ splice s i (pair_bytes o l)
unfolding pair_bytes put_num
pair_put s s₁ s₂ i o l e₁ e₂ = behind s (bytes_of 2 o) (bytes_of 2 l) s₁ s₂ i (i + 2) e₁ e₂ (rw length_bytes_of)

pub pairs_put : (n : ℕ) (s s₁ s₂ s₃ s₄ : List ℕ) (o₁ l₁ o₂ o₃ : ℕ) → o₁ ≡ interactions_from n → l₁ ≡ interactions_length n → o₂ ≡ fractions_from n → o₃ ≡ conditions_from n
    → s₁ ≡ splice s 0 (pair_bytes 16 (24 * n)) → s₂ ≡ splice s₁ 4 (pair_bytes o₁ l₁) → s₃ ≡ splice s₂ 8 (pair_bytes o₂ (8 * n)) → s₄ ≡ splice s₃ 12 (pair_bytes o₃ 32)
    → s₄ ≡ splice s 0 (pairs_bytes n)
unfolding pairs_bytes
pairs_put n s s₁ s₂ s₃ s₄ o₁ l₁ o₂ o₃ f₁ g₁ f₂ f₃ e₁ e₂ e₃ e₄ =
    rw (e₄, e₃, e₂, e₁, f₁, g₁, f₂, f₃) (sym (simp (splice_append, length_pair)))

-- ---- floats

-- the next float of the list
pub float_step : (s : List ℕ) (l : List Float) (from i : ℕ) (x : Float) → i < length l → x ≡ at l i
    → splice s (from + 8 * i) (floats_bytes (drop i l)) ≡ splice (put_f64 s (from + 8 * i) x) (from + 8 * (i + 1)) (floats_bytes (drop (i + 1) l))
unfolding floats_bytes put_num
float_step s l from i x h e =
    let next : suc i ≡ i + 1 = omega arith in
    let place : from + 8 * i + 8 ≡ from + 8 * (i + 1) = omega arith in
    ap (λ (t : List Float). splice s (from + 8 * i) (floats_bytes t)) (drop-cons l i nan h)
    ∙ splice_append (bytes_of 8 (to_bits binary64 (at l i))) (floats_bytes (drop (suc i) l)) s (from + 8 * i)
    ∙ rw (length_bytes_of, place, next, e)

pub floats_put : (s w : List ℕ) (l : List Float) (from i : ℕ) → length l ≤ i → splice s (from + 8 * i) (floats_bytes (drop i l)) ≡ w → s ≡ w
unfolding floats_bytes
floats_put s w l from i h e = sym (splice_nil s (from + 8 * i)) ∙ ap (λ (t : List Float). splice s (from + 8 * i) (floats_bytes t)) (sym (drop_of_length-le l h)) ∙ e

-- those before i are of binary64
abbrev pub Before : List Float → ℕ → Type 0
Before l i = (k : ℕ) → k < i → T (fits binary64 (at l k))

pub before_next : (l : List Float) (i : ℕ) (x : Float) → x ≡ at l i → T (fits binary64 x) → Before l i → Before l (i + 1)
before_next l i x e f b k h = ⊎_elim (λ (q : k ≡ i). rw (q, ← e) f) (λ (g : k < i). b k g) (eq-or-lt_of_le (omega arith))

pub before_all : (l : List Float) (i : ℕ) → length l ≤ i → Before l i → Binary64 l
before_all l i h b k g = b k (omega arith)

-- ---- the conditions and the whole

pub conditions_put : (s s₁ s₂ s₃ s₄ : List ℕ) (i : ℕ) (c : Conditions) → s₁ ≡ put_u64 s i c.choice → s₂ ≡ put_f64 s₁ (i + 8) c.temperature → s₃ ≡ put_f64 s₂ (i + 16) c.pressure
    → s₄ ≡ put_f64 s₃ (i + 24) c.start → s₄ ≡ splice s i (condition_bytes c)
unfolding condition_bytes floats_bytes put_num
conditions_put s s₁ s₂ s₃ s₄ i c e₁ e₂ e₃ e₄ =
    let second : i + 8 + 8 ≡ i + 16 = omega arith in
    let third : i + 16 + 8 ≡ i + 24 = omega arith in
    rw (e₄, e₃, e₂, e₁) (sym (simp (splice_append, length_bytes_of, splice_nil, second, third)))

pub filled_put : (n : ℕ) (d : Numbers) (s s₁ s₂ s₃ s₄ s₅ : List ℕ) (o₁ o₂ o₃ : ℕ) → lists_fit n d ≡ true → o₁ ≡ interactions_from n → o₂ ≡ fractions_from n → o₃ ≡ conditions_from n
    → s₁ ≡ splice s 0 (pairs_bytes n) → s₂ ≡ splice s₁ 16 (floats_bytes d.coefficients) → s₃ ≡ splice s₂ o₁ (floats_bytes d.interactions) → s₄ ≡ splice s₃ o₂ (floats_bytes d.fractions)
    → s₅ ≡ splice s₄ o₃ (condition_bytes d.conditions) → s₅ ≡ splice s 0 (filled n d)
unfolding filled
filled_put n d s s₁ s₂ s₃ s₄ s₅ o₁ o₂ o₃ fit f₁ f₂ f₃ e₁ e₂ e₃ e₄ e₅ =
    rw (e₅, e₄, e₃, e₂, e₁, f₁, f₂, f₃) (sym (simp (splice_append, length_pairs, coefficients_bytes n d fit, interactions_bytes n d fit, fractions_bytes n d fit, zero-add)))

-- each list fits where it is stored
module _ (n : ℕ) (d : Numbers) (h : n ≤ 8) (fit : lists_fit n d ≡ true) where
  pub coefficients_room : 16 + 8 * length d.coefficients ≤ 640
  coefficients_room = let e = length_floats d.coefficients in let b = coefficients_bytes n d fit in omega arith

  pub interactions_room : interactions_from n + 8 * length d.interactions ≤ 640
  interactions_room = let e = length_floats d.interactions in let b = interactions_bytes n d fit in let p = product n h in omega arith

  pub fractions_room : fractions_from n + 8 * length d.fractions ≤ 640
  fractions_room = let e = length_floats d.fractions in let b = fractions_bytes n d fit in let p = product n h in omega arith
