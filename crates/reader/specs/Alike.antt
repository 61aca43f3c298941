-- Requests whose data are alike: "Data are alike where the blocks are, ignored or unread bytes aside". Three forms, of which each implies the next
-- (proofs/AlikeLaws.antt): 1, the same bytes where read, `SameBytes` of `block`; 2, the same numbers where read; 3, the same job. Demand 3 takes the last, the
-- weakest. Definitions only.
use Rattle.std.specs.Prelude.{◌≡◌, ℕ, Bool, true, false, List, length}
use Rattle.block.specs.declared.types.Conditions.{Conditions}
use Rattle.block.specs.declared.types.Numbers.{Numbers}
use Rattle.block.specs.Pairs.{pairs_fit}
use Rattle.block.specs.Numbers.{numbers_of}
use Rattle.block.specs.Blend.{blend_of}
use Rattle.block.specs.Checks.{components_fit, interactions_fit, fractions_fit, sum_fits, conditions_fit}
use Rattle.reader.specs.View.{run_fits, view}

-- ---- 2. by the numbers, check after check in their order

-- A check of two blocks. Both are refused by it: what it is told from may differ, and nothing after it is read. Or both pass it: `Same` holds of what it is
-- told from, and they go on to the next.
pub data Stage {A : Type 0} (fits : A → Bool) (a b : A) (Same Next : Type 0) : Type 0 where
  both_refused : fits a ≡ false → fits b ≡ false → Stage fits a b Same Next
  both_pass : fits a ≡ true → fits b ≡ true → Same → Next → Stage fits a b Same Next

-- what 15 is told from
pub record SameConditions (c d : Conditions) : Type 0 where
  pub in_temperature : c.temperature ≡ d.temperature
  pub in_pressure : c.pressure ≡ d.pressure
  pub in_start : c.start ≡ d.start

-- 12 to 17, a line for each. The fractions that pass 14 may differ where both are refused by 17. What 16 is told from besides the choice is the same by then.
unfoldable pub SameData : (kind n : ℕ) (d e : Numbers) → Type 0
SameData kind n d e =
    Stage (components_fit n) d.coefficients e.coefficients (d.coefficients ≡ e.coefficients)
    (Stage (interactions_fit n) d.interactions e.interactions (d.interactions ≡ e.interactions)
    (Stage (fractions_fit n) d.fractions e.fractions (Unit {0})
    (Stage (sum_fits kind n) d.fractions e.fractions (d.fractions ≡ e.fractions)
    (Stage (conditions_fit kind) d.conditions e.conditions (SameConditions d.conditions e.conditions)
    (Stage (λ (d : Numbers). run_fits kind n d.conditions (blend_of n d)) d e (d.conditions.choice ≡ e.conditions.choice) (Unit {0}))))))

-- 11, which blocks with other offsets pass too, and then the numbers
pub record SameNumbers (kind n : ℕ) (s t : List ℕ) : Type 0 where
  pub in_length : length s ≡ length t
  pub in_data : Stage (pairs_fit n) s t (Unit {0}) (SameData kind n (numbers_of kind n s) (numbers_of kind n t))

-- ---- 3. by what a job reads

-- the same refusal, or the same task and the same blend
abbrev pub Alike : (kind n : ℕ) (s t : List ℕ) → Type 0
Alike kind n s t = view kind n s ≡ view kind n t
