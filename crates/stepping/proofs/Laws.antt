-- Every job made one evaluation at a time: its states can be stored, are in range, show what the definition shows, and end as it ends. Assumes nothing.
use Rattle.std.proofs.Common.{◌≡◌, ℕ, zero, suc, ◌^◌, ◌<◌, true, List, sym, refl, ap, ◌∙◌, subst, le_refl, arith}
use Rattle.float.specs.Ops.{f0}
use Rattle.float.specs.Sign.{finite_of}
use Rattle.eos.specs.declared.types.Blend.{Blend}
use Rattle.solver.specs.Answer.{Answer}
use Rattle.solver.specs.Answer.{status_of, values_of}
use Rattle.solver.specs.Search.{Evaluator, done, Going, run}
use Rattle.solver.specs.Evaluated.{evaluated}
use Rattle.solver.specs.Stored.{ended_numbers, in_ranges}
use Rattle.solver.proofs.Ranges.{FitsBelow}
use Rattle.solver.proofs.Steps.{finishes}
use Rattle.solver_density.specs.Density.{density_iteration}
use Rattle.solver_state.specs.declared.types.State.{State}
use Rattle.solver_state.specs.State.{search_of, left_of, going}
use Rattle.reader.specs.declared.types.Task.{Task}
use Rattle.reader.specs.declared.types.Refusal.{Refusal}
use Rattle.std.specs.declared.result.Result.{Result}
use Rattle.reader.specs.Refusals.{number_of}
use Rattle.reader.specs.View.{of_data, view}
use Rattle.records.specs.Outcome.{Course, refused_by, searches, course_of, refused_end, search_end, end_of, outcome_of}
use Rattle.records.specs.Record.{sealed_bytes, sealed_of}
use Rattle.records.specs.Span.{CourseWithin, search_within}
use Rattle.records.proofs.SpanLaws.{job_within}
use Rattle.schedule.specs.Spans.{span_of}
use Rattle.std.specs.Prelude.{Ok, Err}
use Rattle.stepping.specs.Stepping.{task_search, Work, work_of, work_in, refused_state, at_end, data_refusal, state_fits, result_of}
use Rattle.stepping.specs.States.{Request, state_after, outcome_at, Sight, sight_of, sight}
use Rattle.stepping.specs.Storable.{FloatsStorable, Storable}
use Rattle.stepping.specs.Laws.{Stepping}
use Rattle.stepping.proofs.JobFloats.{start_floats, step_floats}
use Rattle.stepping.proofs.Ends.{ends}
use Rattle.stepping.proofs.Sights.{seen, seen_settled, seen_least}
use Rattle.stepping.proofs.Paths.{path, along, count_low, path_fits, path_again, states, job_states}
use Rattle.stepping.proofs.Refusals.{by_data, refused_by_data}
use Rattle.stepping.proofs.OfKind.{OfKind, view_of_kind}
use Rattle.stepping.proofs.Kept.{or_left, or_right, counters_stored}

-- ---- the work of a task is its course

course_by : Work → Course
course_by (Err refusal) = refused_by (number_of refusal)
course_by (Ok job) = searches (search_of job)

course_work : (blend : Blend) (task : Result Task Refusal) → course_of blend task ≡ course_by (work_of blend task)
unfolding course_of course_by work_of task_search search_of density_iteration
course_work blend (Err refusal) = refl
course_work blend (Ok (Task.DensityIteration t p initial)) = refl
course_work blend (Ok (Task.DensityIterationStable t p)) = refl
course_work blend (Ok (Task.PressureSpinodal t start)) = refl
course_work blend (Ok (Task.PressureSpinodalBranch t branch)) = refl
course_work blend (Ok (Task.CriticalPoint t density)) = refl
course_work blend (Ok (Task.Spinodal t)) = refl
course_work blend (Ok (Task.CriticalPointBinaryT t density)) = refl
course_work blend (Ok (Task.CriticalPointBinaryP p t density)) = refl

-- ---- in range

states_fit : (kind : ℕ) (ev : Evaluator) (w : Work) (k : ℕ) → OfKind kind w → by_data w ≡ true → state_fits kind (states ev w k) ≡ true
unfolding states state_fits by_data refused_state data_refusal at_end
states_fit kind ev (Err refusal) k o h = or_right (in_ranges kind (refused_state (number_of refusal)).numbers.counters) (of_data (number_of refusal)) h
states_fit kind ev (Ok job) k o h = or_left _ _ (subst (λ (most : ℕ). FitsBelow most (path job ev k).numbers) (sym o) (path_fits job ev k))

fits : (kind n : ℕ) (block : List ℕ) → Request kind n block → (turns : ℕ) → state_fits kind (state_after (view kind n block) turns) ≡ true
fits kind n block r turns =
    ap (state_fits kind) (job_states (view kind n block) turns)
    ∙ states_fit kind _ (work_in (view kind n block)) turns (view_of_kind kind n block) (refused_by_data kind n block r)

-- ---- stored

count_fits : (ev : Evaluator) (w : Work) (k : ℕ) → (states ev w k).evaluations < 2 ^ 64
unfolding states refused_state
count_fits ev (Err refusal) k = omega arith
count_fits ev (Ok job) k = let c = count_low job ev k in omega arith

floats : (kind n : ℕ) (block : List ℕ) (turns : ℕ) → FloatsStorable (state_after (view kind n block) turns)
unfolding state_after
floats kind n block zero = start_floats kind n block
floats kind n block (suc k) = step_floats kind n block (state_after (view kind n block) k) (floats kind n block k)

stores : (kind n : ℕ) (block : List ℕ) → Request kind n block → (turns : ℕ) → Storable (state_after (view kind n block) turns)
stores kind n block r turns =
    record {
      counters = counters_stored kind _ (fits kind n block r turns);
      evaluations = rw (job_states (view kind n block) turns) (count_fits _ (work_in (view kind n block)) turns);
      floats = floats kind n block turns;
    }

-- ---- seen

abbrev sight_in : State → Sight
sight_in s = record { evaluations = s.evaluations; density = s.latest }

states_show : (ev : Evaluator) (w : Work) (k : ℕ) → sight_in (states ev w k) ≡ sight_of ev k (course_by w)
unfolding states sight_of course_by refused_state
states_show ev (Err refusal) k = refl
states_show ev (Ok job) k =
    unfold going in (ap seen (along job ev k)) ∙ seen_settled finite_of ev k (search_of job) 0 f0 ∙ seen_least finite_of ev (search_of job) k 0 f0

shows : (kind n : ℕ) (block : List ℕ) → Request kind n block → (turns : ℕ) → sight_in (state_after (view kind n block) turns) ≡ sight kind n block turns
unfolding sight
shows kind n block r turns =
    let job = view kind n block in
    ap sight_in (job_states job turns)
    ∙ states_show (evaluated job.blend) (work_in job) turns
    ∙ sym (ap (sight_of (evaluated job.blend) turns) (course_work job.blend job.task))

-- ---- at the end

outcome_ended : (s : State) (a : Answer) (n : ℕ) → s.numbers ≡ ended_numbers a → s.evaluations ≡ n → outcome_at s ≡ record { status = status_of a; values = values_of a; evaluations = n }
unfolding outcome_at result_of at_end ended_numbers
outcome_ended s a n e f = rw (e, f)

states_end : (ev : Evaluator) (w : Work) (m : ℕ) → CourseWithin m (course_by w) → outcome_at (states ev w m) ≡ end_of ev (course_by w)
unfolding states course_by end_of search_end going
states_end ev (Err refusal) m h = unfold outcome_at result_of at_end refused_state refused_end in refl
states_end ev (Ok job) m (search_within w) =
    let f = finishes finite_of ev w m (le_refl m) 0 f0 in
    let a = (run finite_of ev 0 (search_of job)).answer in
    let l : left_of job (path job ev m).numbers ≡ done a = ap (λ (g : Going). g.left) (along job ev m) ∙ f.0 in
    let e : (path job ev m).evaluations ≡ (run finite_of ev 0 (search_of job)).evaluations = ap (λ (g : Going). g.evaluations) (along job ev m) ∙ f.1 in
    outcome_ended (path job ev m) a _ (ends job ev (path job ev m).numbers a (path_again job ev m) l) e

finished : (kind n : ℕ) (block : List ℕ) → Request kind n block → sealed_bytes (outcome_at (state_after (view kind n block) (span_of kind))) ≡ sealed_of kind n block
unfolding sealed_of outcome_of
finished kind n block r =
    let job = view kind n block in
    let c = course_work job.blend job.task in
    let m : CourseWithin (span_of kind) (course_by (work_in job)) = subst (CourseWithin (span_of kind)) c (job_within kind n block) in
    ap sealed_bytes
    (ap outcome_at (job_states job (span_of kind))
    ∙ states_end (evaluated job.blend) (work_in job) (span_of kind) m
    ∙ sym (ap (end_of (evaluated job.blend)) c))

pub stepping : Stepping
stepping = record { stores = stores; fits = fits; shows = shows; finished = finished }
