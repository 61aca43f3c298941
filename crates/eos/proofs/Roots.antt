-- A table of a symmetric function of two indices below 8, filled row by row up to the diagonal. Assumes nothing.
use mathlib.Core.Path.{◌≡◌, refl, ap, ◌∙◌}
use mathlib.Core.Logic.{⊎_elim}
use Prim.Native.Nat.{ℕ, ◌+◌, ◌*◌, ◌≤◌, ◌<◌}
use native.Mathlib.Omega.{arith}
use native.Mathlib.Nat.{eq-or-lt_of_le}
use mathlib.Core.Bool.{Bool, true, false, cond}
use mathlib.Core.List.{List}
use lib.ListN.{length, set}
use lib.Seq.{get_or-set_same, get_or-set_other}
use lib.Dec.{leb}
use lib.Ieee.{Float, nan}
use borrow.Author.Tests.{leb-true, leb-false}
use Rattle.float.specs.Ops.{◌⊗◌}
use Rattle.float.specs.Root.{root}
use Rattle.float.proofs.Commute.{product_commutes}
use Rattle.jet.specs.declared.Jet.{Jet}
use Rattle.jet.specs.Coefficients.{at}
use Rattle.eos.specs.Jets.{jet_at, place_of}
use Rattle.eos.specs.Cubic.{nth}

module _ (f : ℕ → ℕ → Float) where
  -- the places before that of i and j are filled
  abbrev pub Filled : List Float → ℕ → ℕ → Type 0
  Filled out i j = (p q : ℕ) → q ≤ p → p < 8 → 8 * p + q < 8 * i + j → nth out (8 * p + q) ≡ f p q

  pub filled_turn : (out : List Float) (i j : ℕ) (v : Float) → i < 8 → j ≤ i → length out ≡ 64 → v ≡ f i j → Filled out i j → Filled (set out (8 * i + j) v) i (j + 1)
  filled_turn out i j v hi hj hl ev e p q a b l =
      ⊎_elim
      (λ (g : 8 * p + q ≡ 8 * i + j).
      let ep : p ≡ i = omega arith in
      let eq : q ≡ j = omega arith in
      rw (ep, eq) (get_or-set_same out (8 * i + j) v nan (omega arith) ∙ ev))
      (λ (g : 8 * p + q < 8 * i + j). get_or-set_other out (8 * i + j) (8 * p + q) v nan (λ d. omega arith) ∙ e p q a b g)
      (eq-or-lt_of_le (let l' : 8 * p + q ≤ 8 * i + j = omega arith in l'))

  -- past the diagonal a row is filled
  pub filled_row : (out : List Float) (i j : ℕ) → i < j → Filled out i j → Filled out (i + 1) 0
  filled_row out i j d e p q a b l =
      let c : p ≤ i = omega arith in
      e p q a b (⊎_elim (λ (g : p ≡ i). omega arith) (λ (g : p < i). omega arith) (eq-or-lt_of_le c))

  module _ (sym-f : (p q : ℕ) → f p q ≡ f q p) (out : List Float) (n i j : ℕ) (h : n ≤ 8) (k : n ≤ i) (e : Filled out i j) where
    placed : (p q : ℕ) → p < n → q < n → (t : Bool) → leb q p ≡ t → nth out (cond t (8 * p + q) (8 * q + p)) ≡ f p q
    placed p q a b true g = e p q (leb-true q p g) (omega arith) (omega arith)
    placed p q a b false g =
        let l : p < q = leb-false q p g in
        e q p (omega arith) (omega arith) (omega arith) ∙ sym-f q p

    -- what stands at the place of p and q
    pub filled_place : (p q : ℕ) → p < n → q < n → nth out (place_of p q) ≡ f p q
    unfolding place_of
    filled_place p q a b = placed p q a b (leb q p) refl

-- the root of the product of the first coefficients of two of a's jets
abbrev pub root_in : List Jet → ℕ → ℕ → Float
root_in a p q = root (at (jet_at a p) 0 ⊗ at (jet_at a q) 0)

pub root_in_commutes : (a : List Jet) (p q : ℕ) → root_in a p q ≡ root_in a q p
root_in_commutes a p q = ap root (product_commutes (at (jet_at a p) 0) (at (jet_at a q) 0))

-- the root for i and j in a table of them
pub root_at_lem : (ak : List Jet) (r : List Float) (n i j place : ℕ) → ((p q : ℕ) → p < n → q < n → nth r (place_of p q) ≡ root_in ak p q) → place ≡ place_of i j → i < n → j < n → nth r place ≡ root_in ak i j
root_at_lem ak r n i j place er ep hi hj = ap (nth r) ep ∙ er i j hi hj
