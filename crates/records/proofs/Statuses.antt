-- The status of a request's sealed bytes is the one that its data's checks tell, and else the search's. Assumes nothing.
use mathlib.Core.Path.{◌≡◌, refl, sym, ap, ◌∙◌}
use Prim.Native.Nat.{ℕ, ◌+◌, ◌^◌, ◌<◌}
use mathlib.Core.Bool.{Bool, true, false}
use mathlib.Core.List.{List, ◌++◌}
use native.Mathlib.Omega.{arith}
use lib.ListN.{length, take, drop}
use lib.Seq.{take_at, drop-append-add}
use lib.Ieee.{to_bits, of_bits}
use borrow.Author.Tests.{eq-eqb}
use Rattle.buf.specs.Bytes.{bytes_of, zeros, num_at, u64_at, part, le}
use Rattle.buf.proofs.Laws.{le_bytes_of, length_bytes_of}
use Rattle.float.specs.Ops.{f0}
use Rattle.eos.specs.declared.types.Blend.{Blend}
use Rattle.solver.specs.declared.types.Refusal.TheVariants.{StartNotPositive, NotConverged, IterationFailed, BothPhasesFailed, WrongBranch, Supercritical, NotFinite}
use Rattle.solver.specs.Answer.{Answer}
use Rattle.std.specs.Prelude.{Ok, Err}
use Rattle.solver.specs.Answer.{number_of, status_of}
use Rattle.solver.specs.Search.{Evaluator}
use Rattle.block.specs.declared.types.Conditions.{Conditions}
use Rattle.reader.specs.declared.types.Job.{Job}
use Rattle.reader.specs.declared.types.Task.{Task}
use Rattle.reader.specs.declared.types.Refusal.{Refusal}
use Rattle.std.specs.Prelude.{Ok}
use Rattle.reader.specs.Refusals.{number_of as refusal_number}
use Rattle.block.specs.Numbers.{numbers_of}
use Rattle.reader.specs.View.{task_of, refused, check, last_checks, checked, view, ready_job}
use Rattle.reader.proofs.ViewLaws.{task_keeps}
use Rattle.records.specs.declared.types.Outcome.{Outcome}
use Rattle.records.specs.Outcome.{course_of, refused_end, search_end, end_of, outcome_of}
use Rattle.records.specs.Record.{float_bytes, sealed_bytes, sealed_of}
use Rattle.schedule.specs.Refusals.{Inside, CountRight}
use Rattle.schedule.proofs.Refusals.{inside_true, count_true}
use Rattle.schedule.proofs.Tests.{span_within}
use Rattle.records.specs.Statuses.{SearchStatus, found, Status, of_data_lem, of_search, pairs, components, interactions, fractions, sum, conditions, run, DataTests, Statuses}
use Rattle.records.proofs.SpanLaws.{evaluations_most}

-- ---- how a search ends

answer_status : (a : Answer) → SearchStatus (status_of a)
unfolding status_of number_of
answer_status (Ok v) = found
answer_status (Err StartNotPositive) = SearchStatus.refused {number = 21} (omega arith)
answer_status (Err NotConverged) = SearchStatus.refused {number = 22} (omega arith)
answer_status (Err IterationFailed) = SearchStatus.refused {number = 23} (omega arith)
answer_status (Err BothPhasesFailed) = SearchStatus.refused {number = 24} (omega arith)
answer_status (Err WrongBranch) = SearchStatus.refused {number = 25} (omega arith)
answer_status (Err Supercritical) = SearchStatus.refused {number = 26} (omega arith)
answer_status (Err NotFinite) = SearchStatus.refused {number = 27} (omega arith)

task_status : (ev : Evaluator) (blend : Blend) (kind : ℕ) (c : Conditions) → SearchStatus (end_of ev (course_of blend (Ok (task_of kind c)))).status
unfolding course_of end_of search_end
task_status ev blend kind c =
    task_keeps (λ (task : Task). SearchStatus (end_of ev (course_of blend (Ok task))).status) kind c (answer_status _) (answer_status _) (answer_status _) (answer_status _) (answer_status _) (answer_status _) (answer_status _)
    (answer_status _)

-- ---- numbers one after the other

read_first : (x : ℕ) (rest : List ℕ) → x < 2 ^ 64 → u64_at (bytes_of 8 x ++ rest) 0 ≡ x
unfolding num_at part
read_first x rest h = ap le (take_at (bytes_of 8 x) rest 8 (length_bytes_of 8 x)) ∙ le_bytes_of 8 x h

read_later : (x : ℕ) (rest : List ℕ) (i : ℕ) → u64_at (bytes_of 8 x ++ rest) (8 + i) ≡ u64_at rest i
unfolding num_at part
read_later x rest i = ap (λ (s : List ℕ). le (take 8 s)) (ap (λ (k : ℕ). drop (k + i) (bytes_of 8 x ++ rest)) (sym (length_bytes_of 8 x)) ∙ drop-append-add (bytes_of 8 x) rest i)

-- ---- the checks of a request's data

refused_status : (refusal : Refusal) → (outcome_of (refused refusal)).status ≡ refusal_number refusal
unfolding outcome_of end_of course_of refused refused_end
refused_status refusal = refl

refused_end_status : (number : ℕ) → (refused_end number).status ≡ number
unfolding refused_end
refused_end_status number = refl

-- "all on refusal, are +0"
refused_bytes : (number : ℕ) → sealed_bytes (refused_end number) ≡ bytes_of 8 number ++ zeros 40
unfolding refused_end sealed_bytes
refused_bytes number = ap (λ (s : List ℕ). bytes_of 8 number ++ s) rest
  where
    rest : float_bytes f0 ++ (float_bytes f0 ++ (float_bytes f0 ++ (bytes_of 8 0 ++ zeros 8))) ≡ zeros 40
    rest = unfold zeros bytes_of to_bits of_bits in refl

-- a job that is refused by this number, and nothing else
record RefusedBy (number : ℕ) (job : Job) : Type 0 where
  refusal : Refusal
  number_is : refusal_number refusal ≡ number
  job_is : job ≡ refused refusal

module _ (kind n : ℕ) (block : List ℕ) (k : Inside 1 9 kind) (c : CountRight kind n) (l : length block ≡ 640) where
  abbrev job : Job
  job = view kind n block

  abbrev ready : Job
  ready = ready_job kind n (numbers_of kind n block)

  ready_status : SearchStatus (outcome_of ready).status
  unfolding outcome_of
  ready_status = task_status _ _ kind (numbers_of kind n block).conditions

  -- the view, from the tests of its checks
  abbrev by_checks : (t₁ t₂ t₃ t₄ t₅ t₆ t₇ : Bool) → Job
  by_checks t₁ t₂ t₃ t₄ t₅ t₆ t₇ = check t₁ Refusal.Pairs (check t₂ Refusal.Components (check t₃ Refusal.Interactions (check t₄ Refusal.Fractions (check t₅ Refusal.FractionSum (check t₆ Refusal.Conditions (check t₇ Refusal.Choice ready))))))

  view_is : job ≡ by_checks (pairs kind n block) (components kind n block) (interactions kind n block) (fractions kind n block) (sum kind n block) (conditions kind n block) (run kind n block)
  unfolding view checked last_checks
  view_is = rw (inside_true 1 9 kind k, count_true kind n c, eq-eqb (length block) 640 l)

  status_tests : DataTests kind n block (outcome_of job).status
  status_tests = rw view_is (go _ _ _ _ _ _ _ refl refl refl refl refl refl refl)
    where
      go : (t₁ t₂ t₃ t₄ t₅ t₆ t₇ : Bool) → pairs kind n block ≡ t₁ → components kind n block ≡ t₂ → interactions kind n block ≡ t₃ → fractions kind n block ≡ t₄ → sum kind n block ≡ t₅ → conditions kind n block ≡ t₆
          → run kind n block ≡ t₇ → DataTests kind n block (outcome_of (by_checks t₁ t₂ t₃ t₄ t₅ t₆ t₇)).status
      go false t₂ t₃ t₄ t₅ t₆ t₇ e₁ e₂ e₃ e₄ e₅ e₆ e₇ = unfold refusal_number in rw (refused_status Refusal.Pairs) (DataTests.refused_11 e₁)
      go true false t₃ t₄ t₅ t₆ t₇ e₁ e₂ e₃ e₄ e₅ e₆ e₇ = unfold refusal_number in rw (refused_status Refusal.Components) (DataTests.refused_12 e₁ e₂)
      go true true false t₄ t₅ t₆ t₇ e₁ e₂ e₃ e₄ e₅ e₆ e₇ = unfold refusal_number in rw (refused_status Refusal.Interactions) (DataTests.refused_13 e₁ e₂ e₃)
      go true true true false t₅ t₆ t₇ e₁ e₂ e₃ e₄ e₅ e₆ e₇ = unfold refusal_number in rw (refused_status Refusal.Fractions) (DataTests.refused_14 e₁ e₂ e₃ e₄)
      go true true true true false t₆ t₇ e₁ e₂ e₃ e₄ e₅ e₆ e₇ = unfold refusal_number in rw (refused_status Refusal.FractionSum) (DataTests.refused_17 e₁ e₂ e₃ e₄ e₅)
      go true true true true true false t₇ e₁ e₂ e₃ e₄ e₅ e₆ e₇ = unfold refusal_number in rw (refused_status Refusal.Conditions) (DataTests.refused_15 e₁ e₂ e₃ e₄ e₅ e₆)
      go true true true true true true false e₁ e₂ e₃ e₄ e₅ e₆ e₇ = unfold refusal_number in rw (refused_status Refusal.Choice) (DataTests.refused_16 e₁ e₂ e₃ e₄ e₅ e₆ e₇)
      go true true true true true true true e₁ e₂ e₃ e₄ e₅ e₆ e₇ = DataTests.passed e₁ e₂ e₃ e₄ e₅ e₆ e₇ ready_status

  search_not : {number : ℕ} → SearchStatus number → Inside 11 17 number → ⊥
  search_not found i = omega arith
  search_not (SearchStatus.refused j) i = omega arith

  -- what a refused job ends with
  ended_by : (refusal : Refusal) → job ≡ refused refusal → outcome_of job ≡ refused_end (refusal_number refusal)
  unfolding outcome_of end_of course_of refused
  ended_by refusal e = rw e

  -- the job is the one check's that has this number
  only_job : (number : ℕ) → Inside 11 17 number → DataTests kind n block number → RefusedBy number job
  unfolding refusal_number
  only_job number i (DataTests.refused_11 e₁) = record { refusal = Refusal.Pairs; number_is = refl; job_is = rw (view_is, e₁) }
  only_job number i (DataTests.refused_12 e₁ e₂) = record { refusal = Refusal.Components; number_is = refl; job_is = rw (view_is, e₁, e₂) }
  only_job number i (DataTests.refused_13 e₁ e₂ e₃) = record { refusal = Refusal.Interactions; number_is = refl; job_is = rw (view_is, e₁, e₂, e₃) }
  only_job number i (DataTests.refused_14 e₁ e₂ e₃ e₄) = record { refusal = Refusal.Fractions; number_is = refl; job_is = rw (view_is, e₁, e₂, e₃, e₄) }
  only_job number i (DataTests.refused_17 e₁ e₂ e₃ e₄ e₅) = record { refusal = Refusal.FractionSum; number_is = refl; job_is = rw (view_is, e₁, e₂, e₃, e₄, e₅) }
  only_job number i (DataTests.refused_15 e₁ e₂ e₃ e₄ e₅ e₆) = record { refusal = Refusal.Conditions; number_is = refl; job_is = rw (view_is, e₁, e₂, e₃, e₄, e₅, e₆) }
  only_job number i (DataTests.refused_16 e₁ e₂ e₃ e₄ e₅ e₆ e₇) = record { refusal = Refusal.Choice; number_is = refl; job_is = rw (view_is, e₁, e₂, e₃, e₄, e₅, e₆, e₇) }
  only_job number i (DataTests.passed e₁ e₂ e₃ e₄ e₅ e₆ e₇ s) = absurd (search_not s i)

  only_end : (number : ℕ) → Inside 11 17 number → DataTests kind n block number → outcome_of job ≡ refused_end number
  only_end number i t = let r = only_job number i t in ended_by r.refusal r.job_is ∙ ap refused_end r.number_is

  status_of_lem : {number : ℕ} → DataTests kind n block number → Status number
  status_of_lem (DataTests.refused_11 e₁) = of_data_lem {number = 11} (omega arith)
  status_of_lem (DataTests.refused_12 e₁ e₂) = of_data_lem {number = 12} (omega arith)
  status_of_lem (DataTests.refused_13 e₁ e₂ e₃) = of_data_lem {number = 13} (omega arith)
  status_of_lem (DataTests.refused_14 e₁ e₂ e₃ e₄) = of_data_lem {number = 14} (omega arith)
  status_of_lem (DataTests.refused_17 e₁ e₂ e₃ e₄ e₅) = of_data_lem {number = 17} (omega arith)
  status_of_lem (DataTests.refused_15 e₁ e₂ e₃ e₄ e₅ e₆) = of_data_lem {number = 15} (omega arith)
  status_of_lem (DataTests.refused_16 e₁ e₂ e₃ e₄ e₅ e₆ e₇) = of_data_lem {number = 16} (omega arith)
  status_of_lem (DataTests.passed e₁ e₂ e₃ e₄ e₅ e₆ e₇ s) = of_search s

  -- ---- the sealed bytes

  status_low : {number : ℕ} → Status number → number < 2 ^ 64
  status_low (of_data_lem i) = omega arith
  status_low (of_search found) = omega arith
  status_low (of_search (SearchStatus.refused i)) = omega arith

  status_read : u64_at (sealed_of kind n block) 0 ≡ (outcome_of job).status
  unfolding sealed_of sealed_bytes
  status_read = read_first (outcome_of job).status _ (status_low (status_of_lem status_tests))

  evaluations_read : u64_at (sealed_of kind n block) 32 ≡ (outcome_of job).evaluations
  unfolding sealed_of sealed_bytes
  evaluations_read =
      let h = evaluations_most kind n block in
      let s = span_within kind in
      let low : (outcome_of job).evaluations < 2 ^ 64 = omega arith in
      read_later _ _ 24 ∙ read_later _ _ 16 ∙ read_later _ _ 8 ∙ read_later _ _ 0 ∙ read_first (outcome_of job).evaluations _ low

sealed_end : (kind n : ℕ) (block : List ℕ) (o : Outcome) → outcome_of (view kind n block) ≡ o → sealed_of kind n block ≡ sealed_bytes o
unfolding sealed_of
sealed_end kind n block o e = rw e

pub statuses : Statuses
statuses kind n block k c l =
    let e = status_read kind n block k c l in
    record {
      tests = rw e (status_tests kind n block k c l);
      only = λ number i t. e ∙ ap (λ (o : Outcome). o.status) (only_end kind n block k c l number i t) ∙ refused_end_status number;
      refused_bytes = λ number i t. sealed_end kind n block (refused_end number) (only_end kind n block k c l number i t) ∙ refused_bytes number;
      status = rw e (status_of_lem kind n block k c l (status_tests kind n block k c l));
      evaluations = rw (evaluations_read kind n block k c l) (evaluations_most kind n block);
    }
