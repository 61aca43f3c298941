-- The totals of specs/Indices.antt as loops from the first term, and which jets they keep alike. Assumes nothing.
use mathlib.Core.Path.{◌≡◌, refl, sym, ap, ◌∙◌, subst}
use Prim.Native.Nat.{ℕ, ◌+◌, ◌-◌, ◌≤◌, ◌<◌}
use native.Mathlib.Omega.{arith}
use native.Mathlib.Numerals.{add-one}
use native.Mathlib.Nat.{le_of_suc-le-suc, eq-or-lt_of_le}
use mathlib.Core.Logic.{⊎_elim}
use mathlib.Core.List.{List, []}
use lib.ListN.{length, set}
use lib.Seq.{get_or-set_same, get_or-set_other}
use lib.Ieee.{Float, nan}
use Rattle.float.specs.Ops.{◌⊕◌, f0}
use Rattle.jet.specs.declared.Jet.{Jet}
use Rattle.jet.specs.Coefficients.{Upto, number_of}
use Rattle.jet.specs.Ops.{◌⊞◌, ◌⊠◌}
use Rattle.jet.proofs.Prefix.{add_upto}
use Rattle.jet.proofs.Depends.{product_first}
use Rattle.eos.specs.Indices.{fold_from, total, jet_total}
use Rattle.eos.specs.Jets.{jet_at}
use Rattle.eos.specs.Cubic.{nth, mix_term, mix_row, ak_mix, b_mix}
use Rattle.eos.proofs.Folds.{Keeps, fold_same, fold_cong, fold_keeps}
use Rattle.eos.proofs.Chain.{mix_term_cong}

-- adding a jet that hangs on the index alone
pub adding_keeps : (w : ℕ) (f : ℕ → List Float) → Keeps w (λ s i. s ⊞ f i)
adding_keeps w f s t i e = add_upto w s t (s ⊞ f i) e (f i) (f i) refl refl

-- terms alike give totals alike
pub total_cong : (w n : ℕ) (f g : ℕ → List Float) → 1 ≤ n → ((i : ℕ) → i < n → Upto w (f i) (g i)) → Upto w (jet_total n f) (jet_total n g)
unfolding jet_total
total_cong w n f g h e =
    fold_cong w (λ s i. s ⊞ f i) (λ s i. s ⊞ g i) (n - 1) 1
    (λ j s t l m d. add_upto w s t (s ⊞ f j) d (f j) (g j) (e j (omega arith)) refl) (f 0) (g 0) (e 0 h)

-- the same terms give the same total
pub total_same : (n : ℕ) (f g : ℕ → Float) → 1 ≤ n → ((i : ℕ) → i < n → f i ≡ g i) → total n f ≡ total n g
unfolding total
total_same n f g h e = fold_same (λ s i. s ⊕ f i) (λ s i. s ⊕ g i) (n - 1) 1 (f 0) (λ j t l m. ap (λ (y : Float). t ⊕ y) (e j (omega arith))) ∙ ap (fold_from (λ s i. s ⊕ g i) (n - 1) 1) (e 0 h)

-- ---- arrays, filled one after the other

pub set_turn : (P : ℕ → Float → Type 0) (out : List Float) (i : ℕ) (r : Float) → i < length out → ((k : ℕ) → k < i → P k (nth out k)) → P i r → (k : ℕ) → k < i + 1 → P k (nth (set out i r) k)
set_turn P out i r h e p k l =
    ⊎_elim
    (λ (q : k ≡ i). subst (λ (z : ℕ). P z (nth (set out i r) z)) (sym q) (subst (P i) (sym (get_or-set_same out i r nan h)) p))
    (λ (q : k < i). subst (P k) (sym (get_or-set_other out i k r nan (λ d. omega arith))) (e k q))
    (eq-or-lt_of_le (le_of_suc-le-suc (rw add-one at l)))

pub put_turn : (P : ℕ → List Float → Type 0) (out : List Jet) (i : ℕ) (r : Jet) → i < length out → ((k : ℕ) → k < i → P k (jet_at out k)) → P i r.c → (k : ℕ) → k < i + 1 → P k (jet_at (set out i r) k)
put_turn P out i r h e p k l =
    ⊎_elim
    (λ (q : k ≡ i). subst (λ (z : ℕ). P z (jet_at (set out i r) z)) (sym q) (subst (λ (j : Jet). P i j.c) (sym (get_or-set_same out i r (record { c = [] }) h)) p))
    (λ (q : k < i). subst (λ (j : Jet). P k j.c) (sym (get_or-set_other out i k r (record { c = [] }) (λ d. omega arith))) (e k q))
    (eq-or-lt_of_le (le_of_suc-le-suc (rw add-one at l)))

-- ---- ak_mix

pub row_keeps : (w n : ℕ) (ak x : ℕ → List Float) (k : ℕ → ℕ → Float) → Keeps w (λ m i. mix_row n ak x k i m)
unfolding mix_row
row_keeps w n ak x k s t i e = fold_keeps w (λ m j. m ⊞ mix_term (ak i) (ak j) (x i) (x j) (k i j)) (adding_keeps w (λ j. mix_term (ak i) (ak j) (x i) (x j) (k i j))) n 0 s t e

-- the first n of ak and x decide
pub ak_mix_cong : (w n : ℕ) (ak ak' x x' : ℕ → List Float) (k : ℕ → ℕ → Float) → ((i : ℕ) → i < n → Upto w (ak i) (ak' i)) → ((i : ℕ) → i < n → Upto w (x i) (x' i)) → Upto w (ak_mix n ak x k) (ak_mix n ak' x' k)
unfolding ak_mix mix_row
ak_mix_cong w n ak ak' x x' k A X =
    fold_cong w _ _ n 0
    (λ i s t l m e.
    fold_cong w (λ r j. r ⊞ mix_term (ak i) (ak j) (x i) (x j) (k i j)) (λ r j. r ⊞ mix_term (ak' i) (ak' j) (x' i) (x' j) (k i j)) n 0
    (λ j a b p q d.
    add_upto w a b (a ⊞ mix_term (ak i) (ak j) (x i) (x j) (k i j)) d (mix_term (ak i) (ak j) (x i) (x j) (k i j)) (mix_term (ak' i) (ak' j) (x' i) (x' j) (k i j))
    (mix_term_cong w (ak i) (ak' i) (ak j) (ak' j) (x i) (x' i) (x j) (x' j) (k i j) (A i (omega arith)) (A j (omega arith)) (X i (omega arith)) (X j (omega arith))) refl)
    s t e)
    (number_of f0) (number_of f0) refl

pub b_mix_cong : (w n : ℕ) (x x' : ℕ → List Float) (b : ℕ → Float) → 1 ≤ n → ((i : ℕ) → i < n → Upto w (x i) (x' i)) → Upto w (b_mix n x b) (b_mix n x' b)
unfolding b_mix
b_mix_cong w n x x' b h X = total_cong w n (λ i. x i ⊠ number_of (b i)) (λ i. x' i ⊠ number_of (b i)) h (λ i l. product_first w (x i) (x' i) (X i l) (number_of (b i)) (number_of (b i)) refl)
