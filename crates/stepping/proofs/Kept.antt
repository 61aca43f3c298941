-- A step from any state whose counters are in range, whether a job reaches it or not: it is in range and can be stored, and is the search's next evaluation. Assumes nothing.
use Rattle.std.proofs.Common.{◌≡◌, ℕ, ◌+◌, ◌%◌, ◌^◌, ◌<◌, ◌≤◌, Bool, true, false, cond, not, ◌&&◌, ◌||◌, eqb, ltb, List, sym, refl, ap, ◌∙◌, subst, arith, ltb-true, eqb-true}
use Rattle.float.specs.Sign.{finite_of}
use Rattle.solver.specs.declared.types.Counters.{Counters}
use Rattle.solver.specs.Search.{Evaluator, next}
use Rattle.solver.specs.Stored.{status_fits, rounds_of, in_ranges}
use Rattle.solver.proofs.Ranges.{FitsBelow, below}
use Rattle.solver_step.specs.Stored.{spinodal_place_by, density_place_by, stable_place_by}
use Rattle.solver_critical_step.specs.Stored.{critical_place_by, spinodals_place_by}
use Rattle.solver_binary_step.specs.Stored.{temperature_place_by, pressure_place_by}
use Rattle.solver_state.specs.declared.types.Job.{Job}
use Rattle.solver_state.specs.declared.types.Job.TheVariants.{Density, StableDensity, PressureSpinodal, BranchSpinodal, CriticalPoint, StabilitySpinodals, CriticalPointBinaryT, CriticalPointBinaryP}
use Rattle.solver_state.specs.declared.types.State.{State}
use Rattle.solver_state.specs.State as Steps
use Rattle.solver_state.specs.State.{going, density_step, stable_step, spinodal_step, branch_step, critical_step, spinodals_step, temperature_step, pressure_step}
use Rattle.solver_state.proofs.StateLaw.{step_law}
use Rattle.solver_state.proofs.Ranges.{ranges_kept}
use Rattle.reader.specs.View.{view}
use Rattle.reader.proofs.ViewLaws.{of_data_low}
use Rattle.schedule.proofs.Tests.{left_true, right_true}
use Rattle.std.specs.Prelude.{Ok, Err}
use Rattle.stepping.specs.Stepping.{Work, work_in, uncounted, step_by, step_of, at_end, data_refusal, state_fits}
use Rattle.stepping.specs.States.{wrapped}
use Rattle.stepping.specs.Storable.{CountersStorable, Storable}
use Rattle.stepping.proofs.JobFloats.{step_floats}
use Rattle.stepping.proofs.Paths.{step_apart}
use Rattle.stepping.proofs.OfKind.{OfKind, view_of_kind}

-- ---- tests

pub or_right : (a b : Bool) → b ≡ true → a || b ≡ true
or_right true b h = refl
or_right false b h = h

pub or_left : (a b : Bool) → a ≡ true → a || b ≡ true
or_left a b h = rw h

-- by the first that holds
or_either : {A : Type 0} (a b : Bool) → a || b ≡ true → (a ≡ true → A) → (b ≡ true → A) → A
or_either true b h f g = f refl
or_either false b h f g = g h

-- ---- counters in range

status_low : (status : ℕ) → status_fits status ≡ true → status < 28
unfolding status_fits
status_low status h =
    or_either (eqb status 0) (not (ltb status 21) && ltb status 28) h
    (λ e. (let z = eqb-true status 0 e in omega arith))
    (λ e. ltb-true status 28 (right_true (not (ltb status 21)) (ltb status 28) e))

rounds_low : (kind : ℕ) → rounds_of kind ≤ 200
unfolding rounds_of
rounds_low kind = go (eqb kind 8 || eqb kind 9)
  where
    go : (b : Bool) → cond b 200 50 ≤ 200
    go true = omega arith
    go false = omega arith

in_ranges_stored : (kind : ℕ) (c : Counters) → in_ranges kind c ≡ true → CountersStorable c
in_ranges_stored kind c h =
    let b = below (rounds_of kind) c h in
    let m = rounds_low kind in
    let s = status_low c.status b.status in
    let g = b.stage in
    let t = b.tag in
    let l = b.left in
    let w = b.way in
    let r = b.rounds in
    record { stage = omega arith; tag = omega arith; status = omega arith; left = omega arith; way = omega arith; rounds = omega arith }

refusal_stored : (c : Counters) → data_refusal c ≡ true → CountersStorable c
unfolding data_refusal at_end
refusal_stored c h =
    let e = left_true (eqb c.stage 0 && eqb c.tag 0) _ h in
    let h₁ = right_true (eqb c.stage 0 && eqb c.tag 0) _ h in
    let h₂ = right_true (eqb c.left 0) _ h₁ in
    let h₃ = right_true (eqb c.way 0) _ h₂ in
    let h₄ = right_true (eqb c.rounds 0) _ h₃ in
    let g = eqb-true c.stage 0 (left_true (eqb c.stage 0) _ e) in
    let t = eqb-true c.tag 0 (right_true (eqb c.stage 0) _ e) in
    let l = eqb-true c.left 0 (left_true (eqb c.left 0) _ h₁) in
    let w = eqb-true c.way 0 (left_true (eqb c.way 0) _ h₂) in
    let r = eqb-true c.rounds 0 (left_true (eqb c.rounds 0) _ h₃) in
    let s = ltb-true c.status 21 (of_data_low c.status h₄) in
    record { stage = omega arith; tag = omega arith; status = omega arith; left = omega arith; way = omega arith; rounds = omega arith }

-- counters in range can be stored
pub counters_stored : (kind : ℕ) (s : State) → state_fits kind s ≡ true → CountersStorable s.numbers.counters
unfolding state_fits
counters_stored kind s h = or_either (in_ranges kind s.numbers.counters) (data_refusal s.numbers.counters) h (in_ranges_stored kind _) (refusal_stored _)

-- ---- a step

-- every kind reads stage 0 and tag 0 as its end, and stays there
end_stays : (job : Job) (ev : Evaluator) (s : State) → at_end s.numbers.counters ≡ true → Steps.step_of job ev s ≡ s
unfolding at_end Steps.step_of
end_stays job ev s h = go job
  where
    g : eqb s.numbers.counters.stage 0 ≡ true
    g = left_true _ (eqb s.numbers.counters.tag 0) h

    t : eqb s.numbers.counters.tag 0 ≡ true
    t = right_true (eqb s.numbers.counters.stage 0) _ h

    go : (job : Job) → Steps.step_of job ev s ≡ s
    go (Density c) = unfold density_place_by density_step in (rw t)
    go (StableDensity maxdensity temperature p) = unfold stable_place_by stable_step in (rw g)
    go (PressureSpinodal maxdensity temperature ρ) = unfold spinodal_place_by spinodal_step in (rw t)
    go (BranchSpinodal maxdensity temperature branch) = unfold spinodal_place_by branch_step in (rw t)
    go (CriticalPoint maxdensity temperature density) = unfold critical_place_by critical_step in (rw t)
    go (StabilitySpinodals maxdensity temperature) = unfold spinodals_place_by spinodals_step in (rw g)
    go (CriticalPointBinaryT maxdensity z0 z1 temperature density) = unfold temperature_place_by temperature_step in (rw t)
    go (CriticalPointBinaryP maxdensity z0 z1 p temperature density) = unfold pressure_place_by pressure_step in (rw t)

work_kept : (kind : ℕ) (ev : Evaluator) (w : Work) (s : State) → OfKind kind w → state_fits kind s ≡ true → state_fits kind (step_by ev w s) ≡ true
unfolding step_by state_fits
work_kept kind ev (Err refusal) s o h = h
work_kept kind ev (Ok job) s o h =
    or_either (in_ranges kind s.numbers.counters) (data_refusal s.numbers.counters) h
    (λ e. or_left _ _ (subst (within (Steps.step_of job ev (uncounted s))) (sym o) (ranges_kept job ev (uncounted s) (subst (within s) o e))))
    (λ e. ap (λ (x : State). in_ranges kind x.numbers.counters || data_refusal x.numbers.counters) (end_stays job ev (uncounted s) (ended e)) ∙ h)
  where
    within : State → ℕ → Type 0
    within x most = FitsBelow most x.numbers

    ended : data_refusal s.numbers.counters ≡ true → at_end s.numbers.counters ≡ true
    ended e = unfold data_refusal in (left_true (at_end s.numbers.counters) _ e)

-- a step of any request from a state in its kind's range leads to one
pub fits_kept : (kind n : ℕ) (block : List ℕ) (s : State) → state_fits kind s ≡ true → state_fits kind (step_of (view kind n block) s) ≡ true
unfolding step_of
fits_kept kind n block s h = work_kept kind _ (work_in (view kind n block)) s (view_of_kind kind n block) h

count_kept : (ev : Evaluator) (w : Work) (s : State) → s.evaluations < 2 ^ 64 → (step_by ev w s).evaluations < 2 ^ 64
unfolding step_by
count_kept ev (Err refusal) s h = h
count_kept ev (Ok job) s h = below_64 (s.evaluations + (Steps.step_of job ev (uncounted s)).evaluations)
  where
    below_64 : (n : ℕ) → n % 2 ^ 64 < 2 ^ 64
    below_64 n = omega arith

-- and a step from a state that is stored to one that can be
pub stored_kept : (kind n : ℕ) (block : List ℕ) (s : State) → Storable s → state_fits kind s ≡ true → Storable (step_of (view kind n block) s)
stored_kept kind n block s h f =
    record {
      counters = counters_stored kind _ (fits_kept kind n block s f);
      evaluations = unfold step_of in (count_kept _ (work_in (view kind n block)) s h.evaluations);
      floats = step_floats kind n block s h.floats;
    }

-- ---- as a search under way

pub work_next : (ev : Evaluator) (job : Job) (s : State) → going job (step_by ev (Ok job) s) ≡ wrapped (next finite_of ev (going job s))
unfolding step_by going wrapped
work_next ev job s =
    ap (λ (x : State). wrapped (going job x)) (sym (step_apart job ev s)) ∙ ap wrapped (step_law job ev s)
