-- Below position 16 the pairs, the weights and each coefficient rule of jets of 32 are those of jets of 16. Assumes nothing.
use mathlib.Core.Path.{◌≡◌, refl, sym, ap, ◌∙◌}
use Prim.Native.Nat.{ℕ, zero, suc, ◌+◌, ◌-◌, ◌/◌, ◌%◌, ◌≤◌, ◌<◌}
use native.Mathlib.Omega.{arith}
use mathlib.Core.Bool.{Bool, true, false, cond, ◌&&◌}
use mathlib.Core.List.{List}
use lib.Dec.{leb, eqb}
use lib.IntN.{pos}
use lib.ListN.{take}
use lib.Seq.{get_or-take}
use lib.Ieee.{Float, nan, binary64, of_int}
use borrow.Author.Tests.{leb-true, eqb-true, le-leb}
use Rattle.float.specs.Ops.{◌⊗◌, f0}
use Rattle.float.specs.Root.{root}
use Rattle.float.specs.Ln.{ln_of}
use Rattle.jet.specs.Positions.{not_above, among, pairs_of, before, between, weight_of}
use Rattle.jet.specs.Coefficients.{at, total, product_at, quotient_at, root_at, logarithm_at, derivative_at, factorial_of}
use Rattle.jet.proofs.Depends.{total_cong}
use Rattle.jet.proofs.Rules.{less_cong}
use Rattle.jet_sixteen.specs.Sixteen.{not_above16, among16, weight16, product16_at, quotient16_at, root16_at, logarithm16_at, derivative16_at}

-- ---- positions

and_yes : (x : Bool) → (x && true) ≡ x
and_yes true = refl
and_yes false = refl

above_same : (p m : ℕ) → p < 16 → m < 16 → not_above p m ≡ not_above16 p m
unfolding not_above not_above16
above_same p m h k =
    let p8 : p / 8 % 2 ≡ p / 8 = omega arith in
    let m8 : m / 8 % 2 ≡ m / 8 = omega arith in
    let z : leb (p / 16) (m / 16) ≡ true = le-leb (p / 16) (m / 16) (omega arith) in
    rw (p8, m8, z) (and_yes _)

pub among_same : (k p m : ℕ) → p + k ≤ 16 → m < 16 → among k p m ≡ among16 k p m
unfolding among among16
among_same zero p m h l = refl
among_same (suc k) p m h l = rw (above_same p m (omega arith) l, among_same k (suc p) m (omega arith) l)

weight_same : (m : ℕ) → m < 16 → weight_of m ≡ weight16 m
unfolding weight_of weight16
weight_same m h =
    let m8 : m / 8 % 2 ≡ m / 8 = omega arith in
    let m16 : m / 16 ≡ 0 = omega arith in
    let s : m % 4 + m / 4 % 2 + m / 8 % 2 + m / 16 ≡ m % 4 + m / 4 % 2 + m / 8 = rw (m8, m16) (omega arith) in
    ap (λ (n : ℕ). of_int binary64 (pos n)) s

-- a coefficient of the first sixteen
pub first : (a : List Float) (m : ℕ) → m < 16 → at a m ≡ at (take 16 a) m
first a m h = sym (get_or-take 16 a m nan h)

-- ---- the rules

module _ (a b c : List Float) (m : ℕ) (h : m < 16) where
  pub product_same : product_at a b c m ≡ product16_at (take 16 a) (take 16 b) c m
  unfolding product_at product16_at pairs_of
  product_same =
      total_cong (λ p. at a p ⊗ at b (m - p)) (λ p. at (take 16 a) p ⊗ at (take 16 b) (m - p)) (suc m) 0 m
      (λ q i. let t = i.to in rw (first a q (omega arith), first b (m - q) (omega arith)))
      ∙ ap (total (λ p. at (take 16 a) p ⊗ at (take 16 b) (m - p))) (among_same (suc m) 0 m (omega arith) h)

  pub quotient_same : quotient_at a b c m ≡ quotient16_at (take 16 a) (take 16 b) c m
  unfolding quotient_at quotient16_at before
  quotient_same =
      let terms =
      less_cong (λ p. at c p ⊗ at b (m - p)) (λ p. at c p ⊗ at (take 16 b) (m - p)) (at a m) m 0 m
      (λ q i. let t = i.to in ap (λ (y : Float). at c q ⊗ y) (first b (m - q) (omega arith))) in
      rw (terms, first a m h, first b 0 (omega arith), among_same m 0 m (omega arith) h)

module _ (a c : List Float) where
  pub root_same : (m : ℕ) → m < 16 → root_at a c m ≡ root16_at (take 16 a) c m
  unfolding root_at root16_at between
  root_same zero h = ap root (first a 0 (omega arith))
  root_same (suc k) h = rw (first a (suc k) h, among_same k 1 (suc k) (omega arith) h)

  pub logarithm_same : (m : ℕ) → m < 16 → logarithm_at a c m ≡ logarithm16_at (take 16 a) c m
  unfolding logarithm_at logarithm16_at between
  logarithm_same zero h = ap ln_of (first a 0 (omega arith))
  logarithm_same (suc k) h =
      let terms =
      less_cong (λ p. (weight_of p ⊗ at c p) ⊗ at a (suc k - p)) (λ p. (weight16 p ⊗ at c p) ⊗ at (take 16 a) (suc k - p)) (weight_of (suc k) ⊗ at a (suc k)) k 1 (suc k)
      (λ q i. let t = i.to in rw (weight_same q (omega arith), first a (suc k - q) (omega arith))) in
      rw (terms, weight_same (suc k) h, first a (suc k) h, first a 0 (omega arith), among_same k 1 (suc k) (omega arith) h)

  pub derivative_same : (k m : ℕ) → m < 16 → derivative_at k a c m ≡ derivative16_at k (take 16 a) c m
  unfolding derivative_at derivative16_at
  derivative_same k m h = go (leb k 3) refl (eqb (m % 4) 0) refl
    where
      go : (x : Bool) → leb k 3 ≡ x → (y : Bool) → eqb (m % 4) 0 ≡ y → cond (x && y) (factorial_of k ⊗ at a (m + k)) f0 ≡ cond (x && y) (factorial_of k ⊗ at (take 16 a) (m + k)) f0
      go true p true q =
          let l = leb-true k 3 p in
          let z = eqb-true (m % 4) 0 q in
          ap (λ (y : Float). factorial_of k ⊗ y) (first a (m + k) (omega arith))
      go true p false q = refl
      go false p y q = refl
