-- The blend and the checks 12 to 14 and 17 from what the readers of a block's parts answer. Assumes nothing.
use mathlib.Core.Path.{◌≡◌, refl, sym, ap, ◌∙◌}
use Prim.Native.Nat.{ℕ, ◌-◌, ◌*◌, ◌/◌, ◌≤◌, ◌<◌}
use native.Mathlib.Omega.{arith}
use mathlib.Core.Bool.{Bool, true, false, cond, false≢true}
use mathlib.Core.List.{List}
use lib.ListN.{replicate}
use lib.Dec.{eqb}
use lib.Ieee.{Float}
use borrow.Author.Tests.{ltb-true}
use Rattle.float.specs.Ops.{f0}
use Rattle.eos.specs.declared.types.Blend.{Blend}
use Rattle.eos.specs.Cubic.{pure_of, max_density}
use Rattle.block.specs.declared.types.Conditions.{Conditions}
use Rattle.block.specs.declared.types.Numbers.{Numbers}
use Rattle.reader.specs.declared.types.Task.{Task}
use Rattle.reader.specs.declared.types.Refusal.{Refusal}
use Rattle.std.specs.Prelude.{Ok, Err}
use Rattle.std.specs.declared.result.Result.{Result}
use Rattle.block.specs.Lists.{tabulate}
use Rattle.block.specs.Pairs.{offset_of, coefficients, interactions, fractions, conditions}
use Rattle.block.specs.Numbers.{floats_at, reads_fractions, fraction_count, coefficient_count, interaction_count, conditions_of, numbers_of}
use Rattle.block.specs.Blend.{at, empty_blend, with_components, with_interactions, with_fractions, with_component_alone, blend_of}
use Rattle.block.specs.Checks.{positive, components_fit, interactions_fit, fractions_fit, sum_fits, conditions_fit, choices, choice_fits}
use Rattle.block.proofs.ReadLaws.{sum_row}
use Rattle.block.proofs.NumberLaws.{numbers_rows}
use Rattle.reader.specs.View.{task_of, searched, refused, check, run_fits, last_checks, checked}
use Rattle.reader.specs.Reading.{not_refused, Reads}

pub numbered : (n : ℕ) {b : Blend} → b ≡ empty_blend → record b { n = n } ≡ record empty_blend { n = n }
numbered n e = ap (λ (b : Blend). record b { n = n }) e

-- a blend read part by part into an empty one; where one component is searched the interactions are not read
module _ (kind n : ℕ) (s : List ℕ) (i : ℕ) {b₀ b₁ : Blend} (e₀ : b₀ ≡ record empty_blend { n = n }) (e₁ : b₁ ≡ with_components n (floats_at (coefficient_count n) s i) b₀) where
  pub no_interactions : b₁.k_ij ≡ replicate 64 f0
  unfolding empty_blend
  no_interactions = rw (e₁, e₀)

  module _ (j : ℕ) {b₂ : Blend} (e₂ : b₂ ≡ cond (reads_fractions kind) (with_interactions n (floats_at (interaction_count n) s j) b₁) b₁) where
    pub no_fractions : b₂.x ≡ replicate 8 f0
    unfolding empty_blend
    no_fractions = rw (e₂, e₁, e₀) (go (reads_fractions kind))
      where
        go : (t : Bool) → (cond t (with_interactions n (floats_at (interaction_count n) s j) (with_components n (floats_at (coefficient_count n) s i) (record empty_blend { n = n })))
            (with_components n (floats_at (coefficient_count n) s i) (record empty_blend { n = n }))).x ≡ replicate 8 f0
        go true = refl
        go false = refl

    module _ (l : ℕ) {b₃ : Blend} (e₃ : b₃ ≡ with_fractions (floats_at (fraction_count kind n) s l) b₂) where
      pub fractions_read : b₃.x ≡ tabulate 8 (λ q. at (floats_at (fraction_count kind n) s l) q)
      fractions_read = rw e₃

      pub unread : reads_fractions kind ≡ false → b₃.k_ij ≡ replicate 64 f0
      unfolding empty_blend
      unread t = rw (e₃, e₂, t, e₁, e₀)

      pub blend_read : (choice : ℕ) → i ≡ offset_of s coefficients → j ≡ offset_of s interactions → l ≡ offset_of s fractions
          → searched kind choice b₃ ≡ searched kind choice (blend_of n (numbers_of kind n s))
      unfolding searched blend_of pure_of empty_blend
      blend_read choice ei ej el = rw (e₃, e₂, e₁, e₀, numbers_rows kind n s, ei, ej, el) (go (reads_fractions kind))
        where
          made : Blend
          made = with_components n (floats_at (coefficient_count n) s (offset_of s coefficients)) (record empty_blend { n = n })

          whole : Blend
          whole = with_interactions n (floats_at (interaction_count n) s (offset_of s interactions)) made

          row : List Float
          row = floats_at (fraction_count kind n) s (offset_of s fractions)

          go : (t : Bool) → cond t (with_fractions row (cond t whole made)) (pure_of (with_fractions row (cond t whole made)) choice)
              ≡ cond t (with_fractions row whole) (pure_of (with_fractions row whole) choice)
          go true = refl
          go false = refl

pub conditions_read : (kind n : ℕ) (s : List ℕ) {i : ℕ} {c : Conditions} → i ≡ offset_of s conditions → c ≡ conditions_of kind s i → c ≡ (numbers_of kind n s).conditions
conditions_read kind n s ei e = rw (numbers_rows kind n s, ← ei) e

-- what each reader tests is the check of the numbers
module _ (kind n : ℕ) (s : List ℕ) {i : ℕ} {r t : Bool} where
  pub coefficients_fit : i ≡ offset_of s coefficients → r ≡ components_fit n (floats_at (3 * n) s i) → r ≡ t → components_fit n (numbers_of kind n s).coefficients ≡ t
  coefficients_fit ei er e = rw (numbers_rows kind n s, ← ei) (sym er ∙ e)

  pub interactions_fit_lem : i ≡ offset_of s interactions → r ≡ interactions_fit n (floats_at (n * (n - 1) / 2) s i) → r ≡ t → interactions_fit n (numbers_of kind n s).interactions ≡ t
  interactions_fit_lem ei er e = rw (numbers_rows kind n s, ← ei) (sym er ∙ e)

  pub fractions_fit_lem : i ≡ offset_of s fractions → r ≡ fractions_fit n (floats_at (fraction_count kind n) s i) → r ≡ t → fractions_fit n (numbers_of kind n s).fractions ≡ t
  fractions_fit_lem ei er e = rw (numbers_rows kind n s, ← ei) (sym er ∙ e)

-- the sum of the fractions as they are read into a row of eight
pub sum_fit : (kind n : ℕ) (s : List ℕ) {l : ℕ} {x : List Float} {r t : Bool} → 1 ≤ n → n ≤ 8 → l ≡ offset_of s fractions → x ≡ tabulate 8 (λ i. at (floats_at (fraction_count kind n) s l) i) → r ≡ sum_fits kind n x → r ≡ t
    → sum_fits kind n (numbers_of kind n s).fractions ≡ t
sum_fit kind n s h m el ex er e = rw (numbers_rows kind n s, ← el) (sym (rw ex at er ∙ sum_row kind n _ h m) ∙ e)

-- ---- a refusal, and what is left where there is none

-- a refused job has no blend to be read
pub refused_reads : (refusal : Refusal) (task : Result Task Refusal) (rows : Blend) → task ≡ Err refusal → Reads (refused refusal) task rows
unfolding refused not_refused
refused_reads refusal task rows e = (e, λ s. let z : ◌≡◌ {A = Bool} false true = ap not_refused (sym e) ∙ s in absurd (false≢true z))

module _ (kind n : ℕ) (d : Numbers) (task : Result Task Refusal) (rows : Blend) where
  pub refused_12 : components_fit n d.coefficients ≡ false → task ≡ Err Refusal.Components → Reads (checked kind n d) task rows
  unfolding checked
  refused_12 p e = rw p (refused_reads Refusal.Components task rows e)

  pub refused_13 : components_fit n d.coefficients ≡ true → interactions_fit n d.interactions ≡ false → task ≡ Err Refusal.Interactions → Reads (checked kind n d) task rows
  unfolding checked
  refused_13 p q e = rw (p, q) (refused_reads Refusal.Interactions task rows e)

  pub refused_14 : components_fit n d.coefficients ≡ true → interactions_fit n d.interactions ≡ true → fractions_fit n d.fractions ≡ false → task ≡ Err Refusal.Fractions → Reads (checked kind n d) task rows
  unfolding checked
  refused_14 p q r e = rw (p, q, r) (refused_reads Refusal.Fractions task rows e)

  pub refused_17 : components_fit n d.coefficients ≡ true → interactions_fit n d.interactions ≡ true → fractions_fit n d.fractions ≡ true → sum_fits kind n d.fractions ≡ false → task ≡ Err Refusal.FractionSum
      → Reads (checked kind n d) task rows
  unfolding checked
  refused_17 p q r s e = rw (p, q, r, s) (refused_reads Refusal.FractionSum task rows e)

  pub passed_17 : (c : Conditions) (whole : Blend) → components_fit n d.coefficients ≡ true → interactions_fit n d.interactions ≡ true → fractions_fit n d.fractions ≡ true → sum_fits kind n d.fractions ≡ true → c ≡ d.conditions
      → searched kind c.choice whole ≡ searched kind c.choice (blend_of n d) → Reads (last_checks kind n c whole) task rows → Reads (checked kind n d) task rows
  unfolding checked run_fits last_checks blend_of
  passed_17 c whole p q r s ec eb e = rw (p, q, r, s, ← ec) (rw eb at e)

module _ (kind n : ℕ) (c : Conditions) (whole : Blend) (task : Result Task Refusal) (rows : Blend) where
  pub refused_15 : conditions_fit kind c ≡ false → task ≡ Err Refusal.Conditions → Reads (last_checks kind n c whole) task rows
  unfolding last_checks
  refused_15 p e = rw p (refused_reads Refusal.Conditions task rows e)

  pub refused_16 : conditions_fit kind c ≡ true → choice_fits kind n c.choice ≡ false → task ≡ Err Refusal.Choice → Reads (last_checks kind n c whole) task rows
  unfolding last_checks run_fits
  refused_16 p q e = rw (p, q) (refused_reads Refusal.Choice task rows e)

  pub passed_16 : (made : Task) → conditions_fit kind c ≡ true → choice_fits kind n c.choice ≡ true → made ≡ task_of kind c → rows ≡ searched kind c.choice whole
      → task ≡ (check (positive (max_density rows)) Refusal.Choice (record { task = Ok made; blend = rows })).task → Reads (last_checks kind n c whole) task rows
  unfolding last_checks run_fits
  passed_16 made p q em er e = rw (p, q, ← er, ← em) (go (positive (max_density rows)) e)
    where
      go : (t : Bool) → task ≡ (check t Refusal.Choice (record { task = Ok made; blend = rows })).task → Reads (check t Refusal.Choice (record { task = Ok made; blend = rows })) task rows
      go true e = (e, λ s. refl)
      go false e = refused_reads Refusal.Choice task rows (unfold refused in e)

-- what is searched: the whole blend, or one component
module _ (kind choice : ℕ) (whole : Blend) where
  pub whole_searched : reads_fractions kind ≡ true → whole ≡ searched kind choice whole
  unfolding searched
  whole_searched t = rw t

  pub alone_searched : (rows : Blend) → reads_fractions kind ≡ false → whole.k_ij ≡ replicate 64 f0 → rows ≡ with_component_alone choice whole → rows ≡ searched kind choice whole
  unfolding searched pure_of
  alone_searched rows t k e = rw (t, ← k) e

-- a component that may be chosen is one of eight
pub choice_below : (kind n choice : ℕ) → n ≤ 8 → choice_fits kind n choice ≡ true → choice < 8
unfolding choice_fits choices
choice_below kind n choice h e = let l = ltb-true choice (choices kind n) e in omega (arith, most (eqb kind 1) (eqb kind 4) (reads_fractions kind))
  where
    most : (a b c : Bool) → cond a 3 (cond b 2 (cond c 1 n)) ≤ 8
    most true b c = omega arith
    most false true c = omega arith
    most false false true = omega arith
    most false false false = h
