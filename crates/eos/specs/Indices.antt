-- Totals over the components, as recursions on the index. Definitions only.
use Rattle.std.specs.Prelude.{ℕ, zero, suc, ◌-◌, List, Float}
use Rattle.float.specs.Ops.{◌⊕◌}
use Rattle.jet.specs.Ops.{◌⊞◌}

-- s after the steps f for k indices from i on
unfoldable pub fold_from : {A : Type 0} → (A → ℕ → A) → ℕ → ℕ → A → A
fold_from f zero i s = s
fold_from f (suc k) i s = fold_from f k (suc i) (f s i)

-- "`dot` and sums ascend from the first term": of n floats, and of n jets
unfoldable pub total : ℕ → (ℕ → Float) → Float
total n f = fold_from (λ s i. s ⊕ f i) (n - 1) 1 (f 0)

unfoldable pub jet_total : ℕ → (ℕ → List Float) → List Float
jet_total n f = fold_from (λ s i. s ⊞ f i) (n - 1) 1 (f 0)
