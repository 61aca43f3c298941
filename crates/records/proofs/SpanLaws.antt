-- A job of each kind ends within the kind's span. Assumes nothing.
use Prim.Native.Nat.{ℕ, ◌≤◌}
use native.Mathlib.Omega.{arith}
use mathlib.Core.List.{List}
use Rattle.float.specs.Sign.{finite_of}
use Rattle.eos.specs.declared.types.Blend.{Blend}
use Rattle.eos.specs.Cubic.{max_density}
use Rattle.solver.specs.Search.{Evaluator}
use Rattle.solver.specs.Evaluated.{evaluated}
use Rattle.solver.proofs.Spans.{run_most}
use Rattle.solver_density.proofs.Spans.{density_3101, stable_6204, spinodal_30, branch_30}
use Rattle.solver_critical.proofs.Spans.{critical_150, spinodal_250}
use Rattle.solver_binary.proofs.Spans.{temperature_200, pressure_200}
use Rattle.block.specs.declared.types.Conditions.{Conditions}
use Rattle.reader.specs.declared.types.Job.{Job}
use Rattle.block.specs.Numbers.{numbers_of}
use Rattle.std.specs.Prelude.{Ok}
use Rattle.reader.specs.declared.types.Refusal.{Refusal}
use Rattle.reader.specs.View.{initial_of, branch_of, given_of, task_of, refused, run_blend, view}
use Rattle.reader.proofs.ViewLaws.{view_keeps, task_by_kind}
use Rattle.records.specs.Outcome.{Course, course_of, refused_end, search_end, end_of, job_course, outcome_of}
use Rattle.schedule.specs.Spans.{span_of}
use Rattle.records.specs.Span.{CourseWithin, refused_within, search_within}

-- each kind's search
task_within : (blend : Blend) (kind : ℕ) (c : Conditions) → CourseWithin (span_of kind) (course_of blend (Ok (task_of kind c)))
unfolding span_of course_of
task_within blend kind c =
    let m = max_density blend in
    task_by_kind (λ kind task. CourseWithin (span_of kind) (course_of blend (Ok task))) kind c (search_within (density_3101 m c.temperature c.pressure (initial_of c.choice c.start)))
    (search_within (stable_6204 m c.temperature c.pressure))
    (search_within (spinodal_30 m c.temperature c.start))
    (search_within (branch_30 m c.temperature (branch_of c.choice)))
    (λ o. rw (o.not_1, o.not_2, o.not_3, o.not_4, o.not_6, o.not_8, o.not_9) (search_within (critical_150 m (given_of c.temperature) (given_of c.start))))
    (search_within (spinodal_250 m c.temperature))
    (search_within (temperature_200 m _ _ c.temperature (given_of c.start)))
    (search_within (pressure_200 m _ _ c.pressure (given_of c.temperature) (given_of c.start)))

refused_course : (m : ℕ) (refusal : Refusal) → CourseWithin m (job_course (refused refusal))
unfolding course_of refused
refused_course m refusal = refused_within

pub job_within : (kind n : ℕ) (s : List ℕ) → CourseWithin (span_of kind) (job_course (view kind n s))
job_within kind n s =
    let d = numbers_of kind n s in
    view_keeps (λ (job : Job). CourseWithin (span_of kind) (job_course job)) kind n s (refused_course (span_of kind)) (task_within (run_blend kind n d) kind d.conditions)

end_most : (ev : Evaluator) {n : ℕ} {course : Course} → CourseWithin n course → (end_of ev course).evaluations ≤ n
unfolding end_of refused_end search_end
end_most ev refused_within = omega arith
end_most ev (search_within w) = let h = run_most finite_of ev 0 w in omega arith

-- "Count of evaluations in the record, .. at most the kind's span"
pub evaluations_most : (kind n : ℕ) (s : List ℕ) → (outcome_of (view kind n s)).evaluations ≤ span_of kind
unfolding outcome_of
evaluations_most kind n s = end_most (evaluated (view kind n s).blend) (job_within kind n s)
