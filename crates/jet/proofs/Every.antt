-- What holds of every number of a list, and what follows for a fold over it. Assumes nothing.
use mathlib.Core.Path.{◌≡◌, ap, ◌∙◌}
use Prim.Native.Nat.{ℕ}
use mathlib.Core.List.{List, [], ◌∷◌, foldl}
use lib.Ieee.{Float}

pub data Every (P : ℕ → Type 0) : List ℕ → Type 0 where
  none : Every P []
  more : {p : ℕ} {l : List ℕ} → P p → Every P l → Every P (p ∷ l)

pub every_map : (P Q : ℕ → Type 0) → ((p : ℕ) → P p → Q p) → (l : List ℕ) → Every P l → Every Q l
every_map P Q f [] none = none
every_map P Q f (p ∷ l) (more x e) = more (f p x) (every_map P Q f l e)

-- folds whose steps agree at each number of the list
pub fold_cong : (f g : Float → ℕ → Float) (l : List ℕ) (x y : Float) → x ≡ y → Every (λ p. (s : Float) → f s p ≡ g s p) l → foldl f x l ≡ foldl g y l
fold_cong f g [] x y e none = e
fold_cong f g (p ∷ l) x y e (more h r) = fold_cong f g l (f x p) (g y p) (ap (λ (z : Float). f z p) e ∙ h y) r
