-- A fold over the positions not above m, as a loop makes it that steps from one to the next. Assumes nothing.
use mathlib.Core.Path.{◌≡◌, sym, ap, ◌∙◌}
use Prim.Native.Nat.{ℕ, suc, ◌-◌, ◌≤◌, ◌<◌}
use native.Mathlib.Omega.{arith}
use mathlib.Core.Bool.{true}
use mathlib.Core.List.{List, foldl}
use lib.Ieee.{Float}
use Rattle.float.specs.Ops.{◌⊕◌, ◌⊖◌, ◌⊗◌}
use Rattle.jet.specs.Positions.{not_above, among}
use Rattle.jet.specs.Coefficients.{at}
use Rattle.jet.proofs.Among.{among_first}
use Rattle.jet.proofs.Next.{Next, after, before}

-- s with the term of p more, or less
abbrev pub adding : List Float → List Float → ℕ → Float → ℕ → Float
adding a b m s p = s ⊕ at a p ⊗ at b (m - p)

abbrev pub subtracting : List Float → List Float → ℕ → Float → ℕ → Float
subtracting a b m s p = s ⊖ at a p ⊗ at b (m - p)

module _ (f : Float → ℕ → Float) (m : ℕ) (w : Float) where
  -- a turn that leaves the whole fold as it was: step to r, then take its term in
  pub step_then_term : (p r : ℕ) (s : Float) → Next p m r → foldl f s (among (m - p) (suc p) m) ≡ w → foldl f (f s r) (among (m - r) (suc r) m) ≡ w
  step_then_term p r s n e = sym (ap (λ (l : List ℕ). foldl f s l) (after p m r n)) ∙ e

  -- take the term of p in, then step to r
  pub term_then_step : (p r : ℕ) (s : Float) → p < m → not_above p m ≡ true → Next p m r → foldl f s (among (m - p) p m) ≡ w → foldl f (f s p) (among (m - r) r m) ≡ w
  term_then_step p r s h u n e =
      let c : m - p ≡ suc (m - suc p) = omega arith in
      sym (ap (λ (l : List ℕ). foldl f s l) (ap (λ (k : ℕ). among k p m) c ∙ among_first (m - suc p) p m u) ∙ ap (λ (l : List ℕ). foldl f (f s p) l) (before p m r n)) ∙ e

  -- none is left from m on
  pub fold_end : (p q : ℕ) (s : Float) → m ≤ p → foldl f s (among (m - p) q m) ≡ w → s ≡ w
  unfolding among
  fold_end p q s h e = let z : m - p ≡ 0 = omega arith in rw z at e
