-- A list whose elements are replaced one after another by f of them. Assumes nothing.
use Rattle.std.proofs.Common.{◌≡◌, refl, sym, ap, ◌∙◌, ℕ, zero, suc, ◌+◌, ◌<◌, ◌≤◌, List, [], ◌∷◌, ◌++◌, length, map, take, drop, set, get_or, arith}
use lib.ListN.{take-append-drop, drop_of_length-le}
use native.Mathlib.Numerals.{add-one}

module _ {X : Type 0} (f : X → X) where
  -- those before i are done, and the one at i is next
  one_more : (xs : List X) (i : ℕ) (d : X) → i < length xs → take (suc i) (set xs i (f (get_or xs i d))) ++ map f (drop (suc i) (set xs i (f (get_or xs i d)))) ≡ take i xs ++ map f (drop i xs)
  one_more [] i d h = absurd (omega arith)
  one_more (x ∷ xs) zero d h = refl
  one_more (x ∷ xs) (suc i) d h = ap (λ ys. x ∷ ys) (one_more xs i d (omega arith))

  pub map_turn : (xs : List X) (i : ℕ) (d : X) → i < length xs → take (i + 1) (set xs i (f (get_or xs i d))) ++ map f (drop (i + 1) (set xs i (f (get_or xs i d)))) ≡ take i xs ++ map f (drop i xs)
  map_turn xs i d h = rw add-one (one_more xs i d h)

  -- all are done
  pub map_ends : (xs ys : List X) (i : ℕ) → length xs ≤ i → take i xs ++ map f (drop i xs) ≡ ys → xs ≡ ys
  map_ends xs ys i h e = let d = drop_of_length-le xs h in sym (rw d at (take-append-drop i xs)) ∙ rw d at e
