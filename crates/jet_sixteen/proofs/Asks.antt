-- No search of kinds 1 to 8 asks for kind 9's evaluation, so that two evaluators which agree on the others run it alike. Assumes nothing.
use mathlib.Core.Path.{◌≡◌, refl}
use Prim.Native.Nat.{ℕ, zero, suc, ◌+◌, ◌≤◌}
use native.Mathlib.Omega.{arith}
use mathlib.Core.Bool.{Bool, true, false, cond}
use mathlib.Core.List.{List, [], ◌∷◌}
use lib.Ieee.{Float, lt, le}
use Rattle.float.specs.Ops.{◌⊗◌, f0}
use Rattle.float.specs.Sign.{abs_of, negative_of, finite_of}
use Rattle.evaluations.specs.declared.types.Pressure.{Pressure}
use Rattle.evaluations.specs.declared.types.Criticality.{Criticality}
use Rattle.evaluations.specs.declared.types.Stability.{Stability}
use Rattle.linear.specs.Linear.{Solved}
use Rattle.eos.specs.declared.types.Blend.{Blend}
use Rattle.eos.specs.Cubic.{max_density}
use Rattle.solver.specs.Decimals.{d1e_8}
use Rattle.solver.specs.declared.types.DensityInitialization.{DensityInitialization}
use Rattle.solver.specs.declared.types.DensityInitialization.TheVariants.{Vapor, Liquid}
use Rattle.solver.specs.declared.types.Values.{Values}
use Rattle.solver.specs.declared.types.Refusal.TheVariants.{NotFinite}
use Rattle.solver.specs.Answer.{Answer}
use Rattle.std.specs.Prelude.{Ok, Err}
use Rattle.solver.specs.Search.{Query, slope, curvature, potential, criticality, stability, criticality_t, criticality_p, Yield, Evaluator, Search, done, ask, test, refuse, tested, bind, on_found, and_then, run}
use Rattle.solver_density.specs.declared.types.Branch.{Branch}
use Rattle.solver_density.specs.declared.types.Conditions.{Conditions}
use Rattle.solver.specs.Answer.{Progress}
use Rattle.std.specs.declared.ops.ControlFlow.TheVariants.{Break, Continue}
use Rattle.solver_density.specs.declared.types.Both.{Both}
use Rattle.solver_density.specs.declared.types.Detour.{Detour}
use Rattle.solver_density.specs.declared.types.Detour.TheVariants.{ByNearest, ByBoth}
use Rattle.solver_density.specs.Spinodal.{tested3, continued, spinodal_outcome, spinodal_from, pressure_spinodal, branch_start, pressure_spinodal_branch}
use Rattle.solver_density.specs.Density.{conditions_of, detour_of, converged, corrected, vapor, detour, unstable, after_slope, density_from, first_round, density_search, density_iteration}
use Rattle.solver_density.specs.Stable.{potentials, vapor_potential, stable_phase, after_liquid, density_iteration_stable}
use Rattle.std.specs.declared.option.Option.{Option}
use Rattle.std.specs.declared.option.Option.TheVariants.{None, Some}
use Rattle.solver_critical.specs.declared.types.Point.{Point}
use Rattle.solver_critical.specs.CriticalPoint as Critical
use Rattle.solver_critical.specs.Spinodal as Spinodals
use Rattle.solver_binary.specs.declared.types.Densities.{Densities}
use Rattle.solver_binary.specs.CriticalPointBinary.{rounds, query_t, after_solve_t, after_conditions_t, critical_point_binary_t}
use Rattle.block.specs.declared.types.Conditions.{Conditions as Filed}
use Rattle.block.specs.Numbers.{numbers_of}
use Rattle.reader.specs.declared.types.Job.{Job}
use Rattle.reader.specs.View.{initial_of, branch_of, given_of, task_of, refused, run_blend, view}
use Rattle.reader.proofs.ViewLaws.{view_keeps, task_by_kind}
use Rattle.records.specs.Outcome.{Course, refused_by, searches, course_of, end_of, job_course}

-- an evaluation with a form in jets of 16
abbrev pub has_sixteen : Query → Bool
has_sixteen (slope t ρ) = true
has_sixteen (curvature t ρ) = true
has_sixteen (potential t ρ) = true
has_sixteen (criticality t ρ) = true
has_sixteen (stability t ρ) = true
has_sixteen (criticality_t t ρ0 ρ1) = true
has_sixteen (criticality_p p t ρ0 ρ1) = false

-- a search asks for no other
pub data Asks : Search → Type 0 where
  ended : {a : Answer} → Asks (done a)
  asks : {q : Query} {k : Yield q → Search} → has_sixteen q ≡ true → ((y : Yield q) → Asks (k y)) → Asks (ask q k)
  tests : {x : Float} {k : Bool → Search} → ((ok : Bool) → Asks (k ok)) → Asks (test x k)

-- two evaluators that agree there run it alike
pub run_same : (ok : Float → Bool) (ev ev' : Evaluator) → ((q : Query) → has_sixteen q ≡ true → ev q ≡ ev' q) → (n : ℕ) {t : Search} → Asks t → run ok ev n t ≡ run ok ev' n t
unfolding run
run_same ok ev ev' h n (Asks.ended) = refl
run_same ok ev ev' h n (Asks.asks {q = q} e f) = rw (h q e) (run_same ok ev ev' h (n + 1) (f (ev' q)))
run_same ok ev ev' h n (Asks.tests {x = x} f) = run_same ok ev ev' h n (f (ok x))

-- ---- along the ways a search is put together

asked : {q : Query} {k : Yield q → Search} → has_sixteen q ≡ true → ((y : Yield q) → Asks (k y)) → Asks (ask q k)
asked e f = Asks.asks e f

of_bind : {t : Search} (f : Answer → Search) → Asks t → ((a : Answer) → Asks (f a)) → Asks (bind t f)
unfolding bind
of_bind f (Asks.ended {a = a}) h = h a
of_bind f (Asks.asks {k = k} e g) h = asked e (λ y. of_bind {t = k y} f (g y) h)
of_bind f (Asks.tests g) h = Asks.tests (λ b. of_bind f (g b) h)

of_then : {t : Search} (f : Values → Search) → Asks t → ((v : Values) → Asks (f v)) → Asks (and_then t f)
unfolding on_found
of_then f w h = of_bind (on_found f) w go
  where
    go : (a : Answer) → Asks (on_found f a)
    go (Ok v) = h v
    go (Err r) = Asks.ended

of_tested : {t : Search} (x : Float) → Asks t → Asks (tested x t)
unfolding tested
of_tested {t} x w = Asks.tests go
  where
    go : (b : Bool) → Asks (cond b t (refuse NotFinite))
    go true = w
    go false = Asks.ended

of_cond : {s t : Search} (b : Bool) → Asks s → Asks t → Asks (cond b s t)
of_cond true v w = v
of_cond false v w = w

-- ---- kinds 3 and 4
of_tested3 : {t : Search} (y : Pressure) → Asks t → Asks (tested3 y t)
of_tested3 y w = of_tested y.p (of_tested y.dp_drho (of_tested y.d2p_drho2 w))

of_continued : (o : Progress Float) (again : Float → Search) → ((ρ : Float) → Asks (again ρ)) → Asks (continued o again)
unfolding continued
of_continued (Break a) again h = Asks.ended
of_continued (Continue ρ) again h = of_tested ρ (h ρ)

spinodal_from_lem : (maxdensity t : Float) (n : ℕ) (ρ : Float) → Asks (spinodal_from maxdensity t n ρ)
unfolding spinodal_from
spinodal_from_lem maxdensity t zero ρ = Asks.ended
spinodal_from_lem maxdensity t (suc n) ρ = asked refl (λ y. of_tested3 y (of_continued (spinodal_outcome maxdensity ρ y) (spinodal_from maxdensity t n) (spinodal_from_lem maxdensity t n)))

of_spinodal : (maxdensity t ρ : Float) → Asks (pressure_spinodal maxdensity t ρ)
unfolding pressure_spinodal
of_spinodal maxdensity t ρ = of_cond (le ρ f0) Asks.ended (spinodal_from_lem maxdensity t 30 ρ)

of_branch : (maxdensity t : Float) (branch : Branch) → Asks (pressure_spinodal_branch maxdensity t branch)
unfolding pressure_spinodal_branch
of_branch maxdensity t branch = of_then _ (of_spinodal maxdensity t (branch_start maxdensity branch)) (λ v. Asks.ended)

-- ---- kind 1
module _ (c : Conditions) where
  of_vapor_lem : (way : Both) (ρl : Float) → Asks (vapor c way ρl)
  unfolding vapor
  of_vapor_lem way ρl = of_then _ (of_branch _ _ _) (λ v. Asks.ended)

  of_detour : (way : Detour) → Asks (detour c way)
  unfolding detour
  of_detour (ByNearest way) = of_then _ (of_spinodal _ _ _) (λ v. Asks.ended)
  of_detour (ByBoth way) = of_then _ (of_branch _ _ _) (λ l. of_vapor_lem way l.second)

  of_unstable : (ρ error : Float) → Asks (unstable c ρ error)
  unfolding unstable
  of_unstable ρ error = asked refl (λ y. of_tested3 y (of_detour (detour_of c.maxdensity ρ error y.d2p_drho2)))

  of_slope : (ρ : Float) (y : Pressure) (in_unstable again : Float → Search) → ((e : Float) → Asks (in_unstable e)) → ((ρ : Float) → Asks (again ρ)) → Asks (after_slope c ρ y in_unstable again)
  unfolding after_slope
  of_slope ρ y in_unstable again u h =
      of_tested y.p (of_tested y.dp_drho (of_cond (negative_of y.dp_drho) (u _) (of_tested _ (of_cond (converged _ _) Asks.ended (h _)))))

  density_from_lem : (n : ℕ) (ρ : Float) → Asks (density_from c n ρ)
  unfolding density_from
  density_from_lem zero ρ = Asks.ended
  density_from_lem (suc n) ρ = asked refl (λ y. of_slope ρ y _ (density_from c n) (λ error. of_then _ (of_unstable ρ error) (λ v. density_from_lem n v.first)) (density_from_lem n))

  of_density_lem : Asks (density_search c)
  unfolding density_search first_round
  of_density_lem = of_cond (le c.start f0) Asks.ended (asked refl (λ y. of_slope c.start y _ (density_from c 49) (λ error. density_from_lem 50 (corrected c)) (density_from_lem 49)))

of_iteration : (maxdensity t p : Float) (initial : DensityInitialization) → Asks (density_iteration maxdensity t p initial)
unfolding density_iteration
of_iteration maxdensity t p initial = of_density_lem (conditions_of maxdensity t p initial)

-- ---- kind 2
of_phase : (t : Float) (l v : Answer) → Asks (stable_phase t l v)
unfolding stable_phase potentials vapor_potential
of_phase t (Ok l) (Ok v) = asked refl (λ μl. of_tested μl (asked refl (λ μv. of_tested μv Asks.ended)))
of_phase t (Ok l) (Err r) = Asks.ended
of_phase t (Err q) (Ok v) = Asks.ended
of_phase t (Err q) (Err r) = Asks.ended

of_stable : (maxdensity t p : Float) → Asks (density_iteration_stable maxdensity t p)
unfolding density_iteration_stable after_liquid
of_stable maxdensity t p = of_bind (after_liquid maxdensity t p) (of_iteration maxdensity t p Liquid) after_liquid_lem
  where
    after_liquid_lem : (l : Answer) → Asks (after_liquid maxdensity t p l)
    after_liquid_lem l = of_cond (lt p (maxdensity ⊗ t)) (of_bind (stable_phase t l) (of_iteration maxdensity t p Vapor) (of_phase t l)) Asks.ended

-- ---- kinds 5 and 7
of_each : {s : Search} (xs : List Float) → Asks s → Asks (Critical.tested_each xs s)
of_each [] w = w
of_each (x ∷ xs) w = of_tested x (of_each xs w)

of_else : {s : Search} (a : Answer) → Asks s → Asks (Critical.or_else s a)
unfolding Critical.or_else
of_else (Ok v) w = Asks.ended
of_else (Err r) w = w

module _ (maxdensity : Float) where
  of_solve : (p : Point) (y : Criticality) (s : Solved) (again : Point → Search) → ((p : Point) → Asks (again p)) → Asks (Critical.after_solve maxdensity p y s again)
  unfolding Critical.after_solve
  of_solve p y (Ok δ) again h = of_tested _ (of_tested _ (of_cond (Critical.converged y) Asks.ended (h _)))
  of_solve p y (Err e) again h = Asks.ended

  hkm_from_lem : (n : ℕ) (p : Point) → Asks (Critical.hkm_from maxdensity n p)
  unfolding Critical.hkm_from Critical.after_conditions
  hkm_from_lem zero p = Asks.ended
  hkm_from_lem (suc n) p = asked refl (λ y. of_each (Critical.entries y) (of_solve p y (Critical.solved y) (Critical.hkm_from maxdensity n) (hkm_from_lem n)))

  of_hkm : (t ρ : Float) → Asks (Critical.critical_point_hkm maxdensity t ρ)
  unfolding Critical.critical_point_hkm
  of_hkm t ρ = hkm_from_lem 50 _

  of_trials : (ρ : Float) (ts : List Float) → Asks (Critical.trials maxdensity ρ ts)
  unfolding Critical.trials
  of_trials ρ [] = Asks.ended
  of_trials ρ (t ∷ ts) = of_bind (Critical.or_else (Critical.trials maxdensity ρ ts)) (of_hkm t ρ) (λ a. of_else a (of_trials ρ ts))

  of_critical : (temperature density : Option Float) → Asks (Critical.critical_point maxdensity temperature density)
  unfolding Critical.critical_point Critical.from_temperature
  of_critical None density = of_trials _ _
  of_critical (Some t) density = of_hkm t _

-- ---- kind 6
module _ (maxdensity t : Float) where
  of_stability : (ρ : Float) (y : Stability) (again : Float → Search) → ((ρ : Float) → Asks (again ρ)) → Asks (Spinodals.after_stability maxdensity ρ y again)
  unfolding Spinodals.after_stability
  of_stability ρ y again h = of_tested y.f (of_tested y.df (of_tested _ (of_cond (lt (abs_of y.f) d1e_8) Asks.ended (h _))))

  stability_from : (n : ℕ) (ρ : Float) → Asks (Spinodals.spinodal_from maxdensity t n ρ)
  unfolding Spinodals.spinodal_from
  stability_from zero ρ = Asks.ended
  stability_from (suc n) ρ = asked refl (λ y. of_stability ρ y (Spinodals.spinodal_from maxdensity t n) (stability_from n))

  of_calculate : (initial : DensityInitialization) → Asks (Spinodals.calculate_spinodal maxdensity t initial)
  unfolding Spinodals.calculate_spinodal
  of_calculate initial = stability_from 50 _

  of_spinodals : Asks (Spinodals.spinodal maxdensity t)
  unfolding Spinodals.spinodal Spinodals.after_critical Spinodals.after_vapor Spinodals.after_liquid
  of_spinodals = of_then _ (of_critical maxdensity None None) (λ c. of_then _ (of_calculate _) (λ v. of_then _ (of_calculate _) (λ l. Asks.ended)))

-- ---- kind 8
module _ (maxdensity : Float) where
  of_solve_t : (p : Densities) (y : Criticality) (s : Solved) (again : Densities → Search) → ((p : Densities) → Asks (again p)) → Asks (after_solve_t maxdensity p y s again)
  unfolding after_solve_t
  of_solve_t p y (Ok δ) again h = of_tested _ (of_tested _ (of_cond (Critical.converged y) Asks.ended (h _)))
  of_solve_t p y (Err e) again h = Asks.ended

  rounds_t : (t : Float) (n : ℕ) (p : Densities) → Asks (rounds (query_t t) (after_conditions_t maxdensity) n p)
  unfolding rounds after_conditions_t
  rounds_t t zero p = Asks.ended
  rounds_t t (suc n) p = asked refl (λ (y : Criticality). of_each (Critical.entries y) (of_solve_t p y (Critical.solved y) (rounds (query_t t) (after_conditions_t maxdensity) n) (rounds_t t n)))

  of_temperature : (z0 z1 t : Float) (density : Option Float) → Asks (critical_point_binary_t maxdensity z0 z1 t density)
  unfolding critical_point_binary_t
  of_temperature z0 z1 t density = rounds_t t 200 _

-- ---- requests

pub data CourseAsks : Course → Type 0 where
  refused_asks : {number : ℕ} → CourseAsks (refused_by number)
  search_asks : {t : Search} → Asks t → CourseAsks (searches t)

task_asks : (blend : Blend) (kind : ℕ) (c : Filed) → kind ≤ 8 → CourseAsks (course_of blend (Ok (task_of kind c)))
unfolding course_of
task_asks blend kind c =
    let m = max_density blend in
    task_by_kind (λ kind task. kind ≤ 8 → CourseAsks (course_of blend (Ok task))) kind c
    (λ h. search_asks (of_iteration m c.temperature c.pressure (initial_of c.choice c.start)))
    (λ h. search_asks (of_stable m c.temperature c.pressure))
    (λ h. search_asks (of_spinodal m c.temperature c.start))
    (λ h. search_asks (of_branch m c.temperature (branch_of c.choice)))
    (λ o h. search_asks (of_critical m (given_of c.temperature) (given_of c.start)))
    (λ h. search_asks (of_spinodals m c.temperature))
    (λ h. search_asks (of_temperature m _ _ c.temperature (given_of c.start)))
    (λ h. absurd (omega arith))

pub job_asks : (kind n : ℕ) (s : List ℕ) → kind ≤ 8 → CourseAsks (job_course (view kind n s))
unfolding course_of refused
job_asks kind n s h =
    let d = numbers_of kind n s in
    view_keeps (λ (job : Job). CourseAsks (job_course job)) kind n s (λ refusal. refused_asks) (task_asks (run_blend kind n d) kind d.conditions h)

pub end_same : (ev ev' : Evaluator) → ((q : Query) → has_sixteen q ≡ true → ev q ≡ ev' q) → {course : Course} → CourseAsks course → end_of ev course ≡ end_of ev' course
unfolding end_of
end_same ev ev' h refused_asks = refl
end_same ev ev' h (search_asks w) = rw (run_same finite_of ev ev' h 0 w)
