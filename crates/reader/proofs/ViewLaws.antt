-- What holds of every refusal and of the job that passes every check holds of every view: the walk along the checks, once. Likewise along the kinds. Assumes nothing.
use mathlib.Core.Path.{◌≡◌, refl, ap}
use Prim.Native.Nat.{ℕ}
use mathlib.Core.Bool.{Bool, true, false, cond, false≢true}
use mathlib.Core.List.{List}
use lib.ListN.{length}
use lib.Dec.{leb, ltb, eqb}
use native.Mathlib.Omega.{arith}
use borrow.Author.Tests.{leb-true, lt-ltb, eq-eqb, eqb-true}
use Rattle.schedule.specs.Spans.{kind_fits, count_fits}
use Rattle.schedule.proofs.Tests.{right_true}
use Rattle.block.specs.declared.types.Conditions.{Conditions}
use Rattle.block.specs.declared.types.Numbers.{Numbers}
use Rattle.reader.specs.declared.types.Task.{Task}
use Rattle.reader.specs.declared.types.Task.TheVariants.{DensityIteration, DensityIterationStable, PressureSpinodal, PressureSpinodalBranch, CriticalPoint, Spinodal, CriticalPointBinaryT, CriticalPointBinaryP}
use Rattle.reader.specs.declared.types.Refusal.{Refusal}
use Rattle.reader.specs.declared.types.Job.{Job}
use Rattle.std.specs.Prelude.{Ok, Err}
use Rattle.std.specs.declared.result.Result.{Result}
use Rattle.block.specs.Pairs.{pairs_fit}
use Rattle.block.specs.Numbers.{numbers_of}
use Rattle.block.specs.Blend.{blend_of}
use Rattle.block.specs.Checks.{components_fit, interactions_fit, fractions_fit, sum_fits, conditions_fit}
use Rattle.reader.specs.Refusals.{number_of}
use Rattle.reader.specs.View.{initial_of, branch_of, given_of, task_of, refused, check, of_data, ready_job, run_fits, last_checks, checked, requested, view}
use Rattle.reader.specs.Reading.{not_refused, refusal_of}

-- what the data are refused by
abbrev pub OfData : Refusal → Type 0
OfData refusal = of_data (number_of refusal) ≡ true

-- the search's refusals are from 21 on
pub of_data_low : (number : ℕ) → of_data number ≡ true → ltb number 21 ≡ true
unfolding of_data
of_data_low number e = let h = leb-true number 17 (right_true (leb 11 number) (leb number 17) e) in lt-ltb number 21 (omega arith)

module _ (P : Job → Type 0) where
  check_keeps : (ok : Bool) (refusal : Refusal) (next : Job) → P (refused refusal) → P next → P (check ok refusal next)
  check_keeps true refusal next r h = h
  check_keeps false refusal next r h = r

  -- 11 and on
  data_keeps : (kind n : ℕ) (s : List ℕ) → ((refusal : Refusal) → OfData refusal → P (refused refusal)) → P (ready_job kind n (numbers_of kind n s))
      → P (check (pairs_fit n s) Refusal.Pairs (checked kind n (numbers_of kind n s)))
  unfolding checked last_checks of_data number_of
  data_keeps kind n s r h =
      let d = numbers_of kind n s in
      check_keeps (pairs_fit n s) _ _ (r Refusal.Pairs refl)
      (check_keeps (components_fit n d.coefficients) _ _ (r Refusal.Components refl)
      (check_keeps (interactions_fit n d.interactions) _ _ (r Refusal.Interactions refl)
      (check_keeps (fractions_fit n d.fractions) _ _ (r Refusal.Fractions refl)
      (check_keeps (sum_fits kind n d.fractions) _ _ (r Refusal.FractionSum refl)
      (check_keeps (conditions_fit kind d.conditions) _ _ (r Refusal.Conditions refl)
      (check_keeps (run_fits kind n d.conditions (blend_of n d)) _ _ (r Refusal.Choice refl) h))))))

  -- any request
  pub view_keeps : (kind n : ℕ) (s : List ℕ) → ((refusal : Refusal) → P (refused refusal)) → P (ready_job kind n (numbers_of kind n s)) → P (view kind n s)
  unfolding view
  view_keeps kind n s r h =
      check_keeps (kind_fits kind) _ _ (r Refusal.Kind)
      (check_keeps (count_fits kind n) _ _ (r Refusal.Count)
      (check_keeps (eqb (length s) 640) _ _ (r Refusal.BlockLength) (data_keeps kind n s (λ refusal _. r refusal) h)))

  -- a request that submit accepts is refused by its data alone
  pub request_keeps : (kind n : ℕ) (s : List ℕ) → kind_fits kind ≡ true → count_fits kind n ≡ true → length s ≡ 640 → ((refusal : Refusal) → OfData refusal → P (refused refusal))
      → P (ready_job kind n (numbers_of kind n s)) → P (view kind n s)
  unfolding view
  request_keeps kind n s k c l r h = rw (k, c, eq-eqb (length s) 640 l) (data_keeps kind n s r h)

-- ---- the task of each kind

-- a kind that `task_of` does not tell by its number: 5 and 7, of those that 2 passes
pub record Other (kind : ℕ) : Type 0 where
  pub not_1 : eqb kind 1 ≡ false
  pub not_2 : eqb kind 2 ≡ false
  pub not_3 : eqb kind 3 ≡ false
  pub not_4 : eqb kind 4 ≡ false
  pub not_6 : eqb kind 6 ≡ false
  pub not_8 : eqb kind 8 ≡ false
  pub not_9 : eqb kind 9 ≡ false

-- what holds of each kind with its task
module _ (P : ℕ → Task → Type 0) (kind : ℕ) (c : Conditions) where
  either : (k : ℕ) (b : Bool) → eqb kind k ≡ b → (x y : Task) → P k x → (eqb kind k ≡ false → P kind y) → P kind (cond b x y)
  either k true e x y p q = rw (eqb-true kind k e) p
  either k false e x y p q = q e

  pub task_by_kind : P 1 (DensityIteration c.temperature c.pressure (initial_of c.choice c.start)) → P 2 (DensityIterationStable c.temperature c.pressure)
      → P 3 (PressureSpinodal c.temperature c.start) → P 4 (PressureSpinodalBranch c.temperature (branch_of c.choice))
      → (Other kind → P kind (CriticalPoint (given_of c.temperature) (given_of c.start))) → P 6 (Spinodal c.temperature) → P 8 (CriticalPointBinaryT c.temperature (given_of c.start))
      → P 9 (CriticalPointBinaryP c.pressure (given_of c.temperature) (given_of c.start)) → P kind (task_of kind c)
  unfolding task_of
  task_by_kind p₁ p₂ p₃ p₄ p₅ p₆ p₈ p₉ =
      either 1 _ refl _ _ p₁
      (λ e₁. either 2 _ refl _ _ p₂
      (λ e₂. either 3 _ refl _ _ p₃
      (λ e₃. either 4 _ refl _ _ p₄
      (λ e₄. either 6 _ refl _ _ p₆
      (λ e₆. either 8 _ refl _ _ p₈
      (λ e₈. either 9 _ refl _ _ p₉ (λ e₉. p₅ (record { not_1 = e₁; not_2 = e₂; not_3 = e₃; not_4 = e₄; not_6 = e₆; not_8 = e₈; not_9 = e₉ }))))))))

-- what holds of each task
pub task_keeps : (P : Task → Type 0) (kind : ℕ) (c : Conditions) → P (DensityIteration c.temperature c.pressure (initial_of c.choice c.start))
    → P (DensityIterationStable c.temperature c.pressure) → P (PressureSpinodal c.temperature c.start) → P (PressureSpinodalBranch c.temperature (branch_of c.choice))
    → P (CriticalPoint (given_of c.temperature) (given_of c.start)) → P (Spinodal c.temperature) → P (CriticalPointBinaryT c.temperature (given_of c.start))
    → P (CriticalPointBinaryP c.pressure (given_of c.temperature) (given_of c.start)) → P (task_of kind c)
task_keeps P kind c p₁ p₂ p₃ p₄ p₅ p₆ p₈ p₉ = task_by_kind (λ _ task. P task) kind c p₁ p₂ p₃ p₄ (λ _. p₅) p₆ p₈ p₉

-- ---- a job that is refused, and one that is not

-- a refusal says all of the job
pub view_refused : (kind n : ℕ) (s : List ℕ) (refusal : Refusal) → Err refusal ≡ (view kind n s).task → refused refusal ≡ view kind n s
unfolding refused
view_refused kind n s refusal =
    view_keeps (λ (job : Job). Err refusal ≡ job.task → refused refusal ≡ job) kind n s (λ k e. let z : refusal ≡ k = cc in ap refused z) (λ e. absurd cc)

-- the task that is left where a match has taken the refusal away
pub not_refused_left : (task : Result Task Refusal) → ((refusal : Refusal) → task ≡ Err refusal → ⊥) → not_refused task ≡ true
unfolding not_refused
not_refused_left (Ok task) h = refl
not_refused_left (Err refusal) h = absurd (h refusal refl)

-- ---- a request that no check refuses

-- no number where there is no refusal
pub no_number : (task : Result Task Refusal) → not_refused task ≡ true → refusal_of task ≡ 0
unfolding not_refused refusal_of
no_number (Ok task) h = refl
no_number (Err refusal) h = absurd (false≢true h)

-- no refusal's number says that there is none
pub number_not_0 : (refusal : Refusal) → number_of refusal ≡ 0 → ⊥
unfolding number_of
number_not_0 Refusal.Kind e = omega arith
number_not_0 Refusal.Count e = omega arith
number_not_0 Refusal.BlockLength e = omega arith
number_not_0 Refusal.Pairs e = omega arith
number_not_0 Refusal.Components e = omega arith
number_not_0 Refusal.Interactions e = omega arith
number_not_0 Refusal.Fractions e = omega arith
number_not_0 Refusal.FractionSum e = omega arith
number_not_0 Refusal.Conditions e = omega arith
number_not_0 Refusal.Choice e = omega arith

check_passed : (ok : Bool) (refusal : Refusal) (next : Job) → refusal_of (check ok refusal next).task ≡ 0 → (ok ≡ true) × (refusal_of next.task ≡ 0)
unfolding refusal_of refused
check_passed true refusal next e = (refl, e)
check_passed false refusal next e = absurd (number_not_0 refusal e)

-- each check that its job rests on, and the job
pub record Passed (kind n size : ℕ) (pairs : Bool) (d : Numbers) : Type 0 where
  pub fit_kind : kind_fits kind ≡ true
  pub fit_count : count_fits kind n ≡ true
  pub size_fits : eqb size 640 ≡ true
  pub pairs_fit_lem : pairs ≡ true
  pub job : checked kind n d ≡ ready_job kind n d

data_passed : (kind n : ℕ) (d : Numbers) → refusal_of (checked kind n d).task ≡ 0 → checked kind n d ≡ ready_job kind n d
unfolding checked last_checks
data_passed kind n d e =
    let p₁ = check_passed (components_fit n d.coefficients) _ _ e in
    let p₂ = check_passed (interactions_fit n d.interactions) _ _ p₁.1 in
    let p₃ = check_passed (fractions_fit n d.fractions) _ _ p₂.1 in
    let p₄ = check_passed (sum_fits kind n d.fractions) _ _ p₃.1 in
    let p₅ = check_passed (conditions_fit kind d.conditions) _ _ p₄.1 in
    let p₆ = check_passed (run_fits kind n d.conditions (blend_of n d)) _ _ p₅.1 in
    rw (p₁.0, p₂.0, p₃.0, p₄.0, p₅.0, p₆.0)

pub requested_passed : (kind n size : ℕ) (pairs : Bool) (d : Numbers) → refusal_of (requested kind n size pairs d).task ≡ 0 → Passed kind n size pairs d
requested_passed kind n size pairs d e =
    let p₁ = check_passed (kind_fits kind) _ _ e in
    let p₂ = check_passed (count_fits kind n) _ _ p₁.1 in
    let p₃ = check_passed (eqb size 640) _ _ p₂.1 in
    let p₄ = check_passed pairs _ _ p₃.1 in
    record { fit_kind = p₁.0; fit_count = p₂.0; size_fits = p₃.0; pairs_fit_lem = p₄.0; job = data_passed kind n d p₄.1 }

pub ready_no_number : (kind n : ℕ) (d : Numbers) → refusal_of (ready_job kind n d).task ≡ 0
unfolding refusal_of
ready_no_number kind n d = refl
