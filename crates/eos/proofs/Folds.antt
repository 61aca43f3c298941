-- Folds over the indices, as loops make them: exactly, and in the first w coefficients of a jet. Assumes nothing.
use mathlib.Core.Path.{◌≡◌, refl, sym, ap, ◌∙◌}
use Prim.Native.Nat.{ℕ, zero, suc, ◌+◌, ◌-◌, ◌≤◌, ◌<◌}
use native.Mathlib.Omega.{arith}
use native.Mathlib.Numerals.{add-one}
use mathlib.Core.List.{List}
use lib.Ieee.{Float}
use Rattle.jet.specs.Coefficients.{Upto}
use Rattle.jet.proofs.Prefix.{is}
use Rattle.eos.specs.Indices.{fold_from}

-- one turn of a loop, and its end
pub fold_next : {A : Type 0} (f : A → ℕ → A) (n i : ℕ) (s : A) → i < n → fold_from f (n - i) i s ≡ fold_from f (n - (i + 1)) (i + 1) (f s i)
unfolding fold_from
fold_next f n i s h = let e : n - i ≡ suc (n - (i + 1)) = omega arith in rw (e, add-one)

pub fold_end : {A : Type 0} (f : A → ℕ → A) (n i : ℕ) (s : A) → n ≤ i → fold_from f (n - i) i s ≡ s
unfolding fold_from
fold_end f n i s h = let e : n - i ≡ 0 = omega arith in rw e

pub fold_turn : {A : Type 0} (f : A → ℕ → A) (n i : ℕ) (s t w : A) → i < n → t ≡ f s i → fold_from f (n - i) i s ≡ w → fold_from f (n - (i + 1)) (i + 1) t ≡ w
fold_turn f n i s t w h g e = rw g (sym (fold_next f n i s h) ∙ e)

-- two folds whose steps are the same at the indices that they pass
pub fold_same : {A : Type 0} (f g : A → ℕ → A) (k i : ℕ) (s : A) → ((j : ℕ) (t : A) → i ≤ j → j < i + k → f t j ≡ g t j) → fold_from f k i s ≡ fold_from g k i s
unfolding fold_from
fold_same f g zero i s h = refl
fold_same f g (suc k) i s h = fold_same f g k (suc i) (f s i) (λ j t l m. h j t (omega arith) (omega arith)) ∙ ap (fold_from g k (suc i)) (h i s (omega arith) (omega arith))

-- ---- jets, in their first w coefficients

-- two folds whose steps agree at the indices that they pass
pub fold_cong : (w : ℕ) (f g : List Float → ℕ → List Float) (k i : ℕ) → ((j : ℕ) (s t : List Float) → i ≤ j → j < i + k → Upto w s t → Upto w (f s j) (g t j)) → (s t : List Float) → Upto w s t → Upto w (fold_from f k i s) (fold_from g k i t)
unfolding fold_from
fold_cong w f g zero i h s t e = e
fold_cong w f g (suc k) i h s t e =
    fold_cong w f g k (suc i) (λ j a b l m. h j a b (omega arith) (omega arith)) (f s i) (g t i) (h i s t (omega arith) (omega arith) e)

-- a step that takes jets alike to jets alike
abbrev pub Keeps : ℕ → (List Float → ℕ → List Float) → Type 0
Keeps w f = (s t : List Float) (i : ℕ) → Upto w s t → Upto w (f s i) (f t i)

module _ (w : ℕ) (f : List Float → ℕ → List Float) (keeps : Keeps w f) where
  pub fold_keeps : (k i : ℕ) (s t : List Float) → Upto w s t → Upto w (fold_from f k i s) (fold_from f k i t)
  fold_keeps k i s t e = fold_cong w f f k i (λ j a b l m. keeps a b j) s t e

  -- a turn of a loop whose new jet is the step's in its first w coefficients
  pub upto_turn : (n i : ℕ) (s t r : List Float) → i < n → Upto w t (f s i) → Upto w (fold_from f (n - i) i s) r → Upto w (fold_from f (n - (i + 1)) (i + 1) t) r
  upto_turn n i s t r h e g = fold_keeps (n - (i + 1)) (i + 1) t (f s i) e ∙ is w (sym (fold_next f n i s h)) ∙ g

  pub upto_end : (n i : ℕ) (s r : List Float) → n ≤ i → Upto w (fold_from f (n - i) i s) r → Upto w s r
  upto_end n i s r h g = is w (sym (fold_end f n i s h)) ∙ g
