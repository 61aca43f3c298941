-- Kinds 1 to 4: the floats of every state are values that eight bytes hold, from requests and evaluations whose floats are. Assumes nothing.
use Rattle.std.proofs.Common.{ℕ, zero, suc, not, ◌&&◌, ◌||◌, T, eqb}
use lib.Ieee.{Float, binary64, fits, is_nan, lt, le}
use lib.Ieee.Fits.{add-fits, sub-fits, mul-fits, div-fits, cond-fits}
use Rattle.float.specs.Ops.{◌⊖◌, ◌⊗◌, f0}
use Rattle.float.specs.Sign.{finite_of, negative_of, abs_of, min_of}
use Rattle.evaluations.specs.declared.types.Pressure.{Pressure}
use Rattle.solver.specs.Decimals.{d0·15, d0·8, d0·85, d1·1, d1e_8}
use Rattle.solver.specs.declared.types.DensityInitialization.{DensityInitialization}
use Rattle.solver.specs.declared.types.DensityInitialization.TheVariants as Initial
use Rattle.solver.specs.declared.types.Values.{Values}
use Rattle.solver.specs.declared.types.Numbers.{Numbers}
use Rattle.solver.specs.declared.types.Refusal.{Refusal}
use Rattle.solver.specs.declared.types.Refusal.TheVariants.{StartNotPositive, NotConverged, IterationFailed, BothPhasesFailed, WrongBranch, NotFinite}
use Rattle.solver.specs.Answer.{Answer}
use Rattle.std.specs.Prelude.{Ok, Err}
use Rattle.solver.specs.Answer.{values_of}
use Rattle.solver.specs.Stored.{answer_by, ended_numbers, refusal_by}
use Rattle.solver.specs.Search.{Evaluator, curvature}
use Rattle.solver_density.specs.declared.types.Branch.{Branch}
use Rattle.solver_density.specs.declared.types.Branch.TheVariants.{Liquid, Vapor}
use Rattle.solver_density.specs.declared.types.Conditions.{Conditions}
use Rattle.solver.specs.Answer.{Progress}
use Rattle.std.specs.declared.ops.ControlFlow.TheVariants.{Break, Continue}
use Rattle.solver_density.specs.declared.types.SlopeOutcome.{SlopeOutcome}
use Rattle.solver_density.specs.declared.types.SlopeOutcome.TheVariants as Slope
use Rattle.solver_density.specs.declared.types.Nearest.{Nearest}
use Rattle.solver_density.specs.declared.types.Nearest.TheVariants.{HighDensity, AboveConvex, BelowConcave}
use Rattle.solver_density.specs.declared.types.Both.{Both}
use Rattle.solver_density.specs.declared.types.Both.TheVariants.{BelowConvex, AboveConcave}
use Rattle.solver_density.specs.declared.types.Detour.{Detour}
use Rattle.solver_density.specs.declared.types.Detour.TheVariants.{ByNearest, ByBoth}
use Rattle.solver_density.specs.Density as Density
use Rattle.solver_density.specs.Density.{conditions_of, converged, corrected, newton, beside_spinodal, after_nearest, after_both}
use Rattle.solver_density.specs.Rounds.{finite3, tested_outcome, spinodal_round, newton_round, slope_round}
use Rattle.solver_density.specs.Spinodal as Spinodal
use Rattle.solver_density.specs.Spinodal.{spinodal_outcome, branch_start, on_branch, branch_answer}
use Rattle.solver_step.specs.SpinodalStep.{SpinodalSpot}
use Rattle.solver_step.specs.Phase.{Phase, Standing}
use Rattle.solver_step.specs.declared.types.DensitySpot.{DensitySpot}
use Rattle.solver_step.specs.declared.types.DensitySpot.TheVariants.{First, Slope, Curvature, NearestSpinodal, LiquidSpinodal, VaporSpinodal}
use Rattle.solver_step.specs.declared.types.StableSpot.{StableSpot}
use Rattle.solver_step.specs.declared.types.StableSpot.TheVariants.{LiquidSearch, VaporSearch, LiquidPotential, VaporPotential}
use Rattle.solver.specs.Rounds.{onward}
use Rattle.solver_step.specs.SpinodalStep.{spinodal_on, spinodal_start, spinodal_next, branch_place, branch_begin, branch_next}
use Rattle.solver_step.specs.DensityStep.{phase_answer, slope_at, arrived_at, slope_on, density_at, first_on, nearest_on, vapor_on, liquid_on, detour_at, curvature_on, density_next, density_begin}
use Rattle.solver_step.specs.StableStep.{phases_on, vapor_search_on, liquid_potential_on, vapor_potential_on, of_liquid, of_vapor, stable_at, liquid_search_on, stable_next, stable_begin}
use Rattle.solver_step.specs.Stored.{spot_numbers, spinodal_numbers, spinodal_spot_by, spinodal_place_by, phase_by, density_spot_numbers, density_spot_by, density_numbers, density_place_by, staged, potential_numbers, stable_numbers, stable_spot_by, stable_place_by}
use Rattle.solver_state.specs.declared.types.State.{State}
use Rattle.solver_state.specs.declared.types.Job.TheVariants as Job
use Rattle.solver_state.specs.State.{begin_of, start_of, density_step, stable_step, spinodal_step, branch_step, step_of}
use Rattle.stepping.specs.Storable.{ValuesStorable, FloatsStorable}
use Rattle.stepping.proofs.Yields.{YieldsFit}
use Rattle.stepping.proofs.FloatLaws.{Fit, zero_fits, cond_keeps}

-- what a density search works with fits
pub record ConditionsFit (c : Conditions) : Type 0 where
  pub maxdensity : Fit c.maxdensity
  pub temperature : Fit c.temperature
  pub pressure : Fit c.pressure
  pub start : Fit c.start

-- ---- floats

pub min_fits : (x y : Float) → Fit x → Fit y → Fit (min_of x y)
unfolding min_of
min_fits x y h k = cond-fits binary64 (is_nan x || lt y x) y x k h

-- ---- answers and phases

abbrev AnswerFits : Answer → Type 0
AnswerFits a = ValuesStorable (values_of a)

abbrev PhaseFits : Phase → Type 0
PhaseFits p = AnswerFits (phase_answer p)

refused_fits : (r : Refusal) → AnswerFits (Err r)
unfolding values_of
refused_fits r = record { first = zero_fits; second = zero_fits; third = zero_fits }

density_fits : (ρ : Float) → Fit ρ → AnswerFits (Density.density ρ)
unfolding values_of
density_fits ρ h = record { first = h; second = zero_fits; third = zero_fits }

found_fits_lem : (ρ : Float) → Fit ρ → PhaseFits (Ok ρ)
unfolding phase_answer
found_fits_lem ρ h = density_fits ρ h

failed_fits : (r : Refusal) → PhaseFits (Err r)
unfolding phase_answer
failed_fits r = refused_fits r

answer_by_fits : (status : ℕ) (v : Values) → ValuesStorable v → AnswerFits (answer_by status v)
unfolding answer_by values_of
answer_by_fits status v h = cond_keeps AnswerFits (eqb status 0) (Ok v) (Err (refusal_by status)) h (refused_fits (refusal_by status))

phase_by_fits : (status : ℕ) (ρ : Float) → Fit ρ → PhaseFits (phase_by status ρ)
unfolding answer_by
phase_by_fits status ρ h = cond_keeps PhaseFits (eqb status 0) (Ok ρ) (Err (refusal_by status)) (found_fits_lem ρ h) (failed_fits (refusal_by status))

-- ---- kinds 3 and 4: where a spinodal search stands

abbrev SpinodalFits : Progress SpinodalSpot → Type 0
SpinodalFits p = ValuesStorable (spinodal_numbers p).values

spinodal_ended : (a : Answer) → AnswerFits a → SpinodalFits (Break a)
unfolding spinodal_numbers ended_numbers
spinodal_ended a h = h

spinodal_at : (s : SpinodalSpot) → Fit s.at → SpinodalFits (Continue s)
unfolding spinodal_numbers spot_numbers
spinodal_at s h = record { first = h; second = zero_fits; third = zero_fits }

abbrev OutcomeFits : Progress Float → Type 0
OutcomeFits (Break a) = AnswerFits a
OutcomeFits (Continue ρ) = Fit ρ

tested_fits : (o : Progress Float) → OutcomeFits o → OutcomeFits (tested_outcome o)
unfolding tested_outcome
tested_fits (Break a) h = h
tested_fits (Continue ρ) h = cond_keeps OutcomeFits (finite_of ρ) (Continue ρ) (Break (Err NotFinite)) h (refused_fits NotFinite)

module _ (maxdensity ρ : Float) (y : Pressure) (hρ : Fit ρ) (hp : Fit y.p) (hs : Fit y.d2p_drho2) where
  outcome_fits : OutcomeFits (spinodal_outcome maxdensity ρ y)
  unfolding spinodal_outcome Spinodal.spinodal_step values_of
  outcome_fits =
      cond_keeps OutcomeFits (lt (abs_of y.dp_drho) d1e_8) _ _ (record { first = hp; second = hρ; third = hs })
      (cond_keeps OutcomeFits (finite_of _) (Continue _) (Break (Err NotConverged)) (add-fits binary64 _ _) (refused_fits NotConverged))

  round-fits : OutcomeFits (spinodal_round maxdensity ρ y)
  unfolding spinodal_round
  round-fits = cond_keeps OutcomeFits (finite3 y) _ (Break (Err NotFinite)) (tested_fits _ outcome_fits) (refused_fits NotFinite)

on_fits : (n : ℕ) (o : Progress Float) → OutcomeFits o → SpinodalFits (spinodal_on n o)
unfolding onward
on_fits n (Break a) h = spinodal_ended a h
on_fits zero (Continue ρ) h = spinodal_ended _ (refused_fits NotConverged)
on_fits (suc n) (Continue ρ) h = spinodal_at _ h

start_fits : (ρ : Float) → Fit ρ → SpinodalFits (spinodal_start ρ)
unfolding spinodal_start
start_fits ρ h = cond_keeps SpinodalFits (le ρ f0) _ _ (spinodal_ended _ (refused_fits StartNotPositive)) (spinodal_at _ h)

branch_answer_fits : (branch : Branch) (v : Values) → ValuesStorable v → AnswerFits (branch_answer branch v)
unfolding branch_answer values_of
branch_answer_fits branch v h =
    cond_keeps AnswerFits (on_branch branch v.third) _ (Err WrongBranch) (record { first = h.first; second = h.second; third = zero_fits }) (refused_fits WrongBranch)

branch_fits : (branch : Branch) (p : Progress SpinodalSpot) → SpinodalFits p → SpinodalFits (branch_place branch p)
unfolding branch_place spinodal_numbers ended_numbers values_of
branch_fits branch (Break (Ok v)) h = branch_answer_fits branch v h
branch_fits branch (Break (Err r)) h = h
branch_fits branch (Continue s) h = h

branch_start_fits : (maxdensity : Float) (branch : Branch) → Fit (branch_start maxdensity branch)
unfolding branch_start
branch_start_fits maxdensity Liquid = mul-fits binary64 _ _
branch_start_fits maxdensity Vapor = mul-fits binary64 _ _

branch_begin_fits : (maxdensity : Float) (branch : Branch) → SpinodalFits (branch_begin maxdensity branch)
unfolding branch_begin
branch_begin_fits maxdensity branch = branch_fits branch _ (start_fits _ (branch_start_fits maxdensity branch))

module _ (maxdensity t : Float) (ev : Evaluator) (yields : YieldsFit ev) (s : SpinodalSpot) (h : Fit s.at) where
  spinodal_next_fits : SpinodalFits (spinodal_next maxdensity t ev s)
  unfolding spinodal_next
  spinodal_next_fits =
      on_fits s.rounds _ (round-fits maxdensity s.at (ev (curvature t s.at)) h (yields.curvature_p t s.at) (yields.curvature_second t s.at))

  branch_next_fits : (branch : Branch) → SpinodalFits (branch_next maxdensity t branch ev s)
  unfolding branch_next
  branch_next_fits branch = branch_fits branch _ spinodal_next_fits

-- ---- kind 1: where a density search stands

abbrev SpotFits : DensitySpot → Type 0
SpotFits s = ValuesStorable (density_spot_numbers s).values

abbrev DensityFits : Standing DensitySpot → Type 0
DensityFits p = ValuesStorable (density_numbers p).values

density_ended : (p : Phase) → PhaseFits p → DensityFits (Break p)
unfolding density_numbers ended_numbers
density_ended p h = h

density_at_lem : (s : DensitySpot) → SpotFits s → DensityFits (Continue s)
unfolding density_numbers
density_at_lem s h = h

failed : (r : Refusal) → DensityFits (Break (Err r))
failed r = density_ended (Err r) (failed_fits r)

-- a spot with one density or two floats
asks : (tag left way rounds : ℕ) (x y : Float) → Fit x → Fit y → ValuesStorable (spot_numbers tag left way rounds x y).values
unfolding spot_numbers
asks tag left way rounds x y h k = record { first = h; second = k; third = zero_fits }

abbrev SlopeFits : SlopeOutcome → Type 0
SlopeFits Slope.NotFinite = Fit f0
SlopeFits (Slope.Converged ρ) = Fit ρ
SlopeFits (Slope.Next ρ) = Fit ρ
SlopeFits (Slope.Unstable error) = Fit error

slope_at_fits : (n : ℕ) (ρ : Float) → Fit ρ → DensityFits (slope_at n ρ)
unfolding slope_at density_numbers density_spot_numbers
slope_at_fits zero ρ h = failed NotConverged
slope_at_fits (suc n) ρ h = asks 2 n 0 0 ρ f0 h zero_fits

arrived_fits : (n : ℕ) (a : Answer) → AnswerFits a → DensityFits (arrived_at n a)
unfolding arrived_at values_of
arrived_fits n (Ok v) h = slope_at_fits n v.first h.first
arrived_fits n (Err r) h = failed r

slope_on_fits : (n : ℕ) (ρ : Float) (o : SlopeOutcome) → Fit ρ → SlopeFits o → DensityFits (slope_on n ρ o)
unfolding slope_on density_numbers density_spot_numbers
slope_on_fits n ρ Slope.NotFinite h k = failed NotFinite
slope_on_fits n ρ (Slope.Converged ρ') h k = density_ended (Ok ρ') (found_fits_lem ρ' k)
slope_on_fits n ρ (Slope.Next ρ') h k = slope_at_fits n ρ' k
slope_on_fits n ρ (Slope.Unstable error) h k = asks 3 n 0 0 ρ error h k

module _ (c : Conditions) (fit : ConditionsFit c) where
  newton_fits : (ρ error dpdrho : Float) → SlopeFits (newton_round c ρ error dpdrho)
  unfolding newton_round newton
  newton_fits ρ error dpdrho =
      cond_keeps SlopeFits (finite_of _) _ Slope.NotFinite
      (cond_keeps SlopeFits (converged error _) (Slope.Converged _) (Slope.Next _) (add-fits binary64 _ _) (add-fits binary64 _ _))
      zero_fits

  slope_round_fits : (ρ : Float) (y : Pressure) → SlopeFits (slope_round c ρ y)
  unfolding slope_round
  slope_round_fits ρ y =
      cond_keeps SlopeFits (finite_of y.p && finite_of y.dp_drho) _ Slope.NotFinite
      (cond_keeps SlopeFits (negative_of y.dp_drho) (Slope.Unstable _) _ (sub-fits binary64 _ _) (newton_fits ρ _ _))
      zero_fits

  corrected_fits : Fit (corrected c)
  unfolding corrected
  corrected_fits =
      cond-fits binary64 (le c.start (d0·15 ⊗ c.maxdensity)) _ _ (mul-fits binary64 _ _) (min_fits _ _ (mul-fits binary64 _ _) fit.maxdensity)

  beside_fits : (sp : Values) → Fit (beside_spinodal c sp)
  unfolding beside_spinodal
  beside_fits sp =
      cond-fits binary64 (negative_of (sp.first ⊖ c.pressure)) _ _ (min_fits _ _ (mul-fits binary64 _ _) fit.maxdensity) (mul-fits binary64 _ _)

  after_nearest_fits : (way : Nearest) (sp : Values) → AnswerFits (after_nearest c way sp)
  unfolding after_nearest
  after_nearest_fits HighDensity sp =
      cond_keeps AnswerFits (lt (d0·85 ⊗ c.maxdensity) sp.second) _ _
      (cond_keeps AnswerFits (negative_of (sp.first ⊖ c.pressure)) (Err IterationFailed) _ (refused_fits IterationFailed) (density_fits _ (mul-fits binary64 _ _)))
      (density_fits _ (beside_fits sp))
  after_nearest_fits AboveConvex sp = density_fits _ (beside_fits sp)
  after_nearest_fits BelowConcave sp =
      density_fits _ (cond-fits binary64 (negative_of (sp.first ⊖ c.pressure)) _ _ (mul-fits binary64 _ _) (mul-fits binary64 _ _))

  after_both_fits : (way : Both) (ρl : Float) (v : Values) → Fit (after_both c way ρl v)
  unfolding after_both
  after_both_fits BelowConvex ρl v =
      cond-fits binary64 (not (negative_of (v.first ⊖ c.pressure)) && lt (abs_of (c.start ⊖ v.second)) (abs_of (c.start ⊖ ρl))) (d0·8 ⊗ v.second) (min_of (ρl ⊗ d1·1) c.maxdensity)
      (mul-fits binary64 _ _)
      (min_fits _ _ (mul-fits binary64 _ _) fit.maxdensity)
  after_both_fits AboveConcave ρl v =
      cond-fits binary64 (negative_of (v.first ⊖ c.pressure) && lt (abs_of (c.start ⊖ ρl)) (abs_of (c.start ⊖ v.second))) (min_of (ρl ⊗ d1·1) c.maxdensity) (d0·8 ⊗ v.second)
      (min_fits _ _ (mul-fits binary64 _ _) fit.maxdensity)
      (mul-fits binary64 _ _)

  first_on_fits : (o : SlopeOutcome) → SlopeFits o → DensityFits (first_on c o)
  unfolding first_on density_numbers density_spot_numbers
  first_on_fits Slope.NotFinite h = failed NotFinite
  first_on_fits (Slope.Converged ρ) h = density_ended (Ok ρ) (found_fits_lem ρ h)
  first_on_fits (Slope.Next ρ) h = slope_at_fits 49 ρ h
  first_on_fits (Slope.Unstable error) h = asks 2 49 0 0 (corrected c) f0 corrected_fits zero_fits

  nearest_on_fits : (n : ℕ) (way : Nearest) (p : Progress SpinodalSpot) → SpinodalFits p → DensityFits (nearest_on c n way p)
  unfolding nearest_on density_numbers density_spot_numbers spinodal_numbers spot_numbers
  nearest_on_fits n way (Break (Ok sp)) h = arrived_fits n (after_nearest c way sp) (after_nearest_fits way sp)
  nearest_on_fits n way (Break (Err r)) h = failed r
  nearest_on_fits n way (Continue s) h = h

  vapor_on_fits : (n : ℕ) (way : Both) (ρl : Float) (p : Progress SpinodalSpot) → Fit ρl → SpinodalFits p → DensityFits (vapor_on c n way ρl p)
  unfolding vapor_on density_numbers density_spot_numbers spinodal_numbers spot_numbers
  vapor_on_fits n way ρl (Break (Ok v)) l h = slope_at_fits n (after_both c way ρl v) (after_both_fits way ρl v)
  vapor_on_fits n way ρl (Break (Err r)) l h = failed r
  vapor_on_fits n way ρl (Continue s) l h = record { first = h.first; second = l; third = zero_fits }

  liquid_on_fits : (n : ℕ) (way : Both) (p : Progress SpinodalSpot) → SpinodalFits p → DensityFits (liquid_on c n way p)
  unfolding liquid_on density_numbers density_spot_numbers spinodal_numbers spot_numbers ended_numbers values_of
  liquid_on_fits n way (Break (Ok l)) h = vapor_on_fits n way l.second _ h.second (branch_begin_fits c.maxdensity Vapor)
  liquid_on_fits n way (Break (Err r)) h = failed r
  liquid_on_fits n way (Continue s) h = h

  detour_fits : (n : ℕ) (way : Detour) → DensityFits (detour_at c n way)
  unfolding detour_at
  detour_fits n (ByNearest way) = nearest_on_fits n way _ (start_fits c.start fit.start)
  detour_fits n (ByBoth way) = liquid_on_fits n way _ (branch_begin_fits c.maxdensity Liquid)

  curvature_on_fits : (n : ℕ) (ρ error : Float) (y : Pressure) → DensityFits (curvature_on c n ρ error y)
  unfolding curvature_on
  curvature_on_fits n ρ error y = cond_keeps DensityFits (finite3 y) _ _ (detour_fits n _) (failed NotFinite)

  density_next_fits : (ev : Evaluator) → YieldsFit ev → (s : DensitySpot) → SpotFits s → DensityFits (density_next c ev s)
  unfolding density_next density_spot_numbers spot_numbers
  density_next_fits ev yields First h = first_on_fits _ (slope_round_fits _ _)
  density_next_fits ev yields (Slope n ρ) h = slope_on_fits n ρ _ h.first (slope_round_fits _ _)
  density_next_fits ev yields (Curvature n ρ error) h = curvature_on_fits n ρ error _
  density_next_fits ev yields (NearestSpinodal n way s) h = nearest_on_fits n way _ (spinodal_next_fits c.maxdensity c.temperature ev yields s h.first)
  density_next_fits ev yields (LiquidSpinodal n way s) h = liquid_on_fits n way _ (branch_next_fits c.maxdensity c.temperature ev yields s h.first Liquid)
  density_next_fits ev yields (VaporSpinodal n way ρl s) h =
      vapor_on_fits n way ρl _ h.second (branch_next_fits c.maxdensity c.temperature ev yields s h.first Vapor)

  -- the density of the evaluation
  density_at_fits : (s : DensitySpot) → SpotFits s → Fit (density_at c s)
  unfolding density_at density_spot_numbers spot_numbers
  density_at_fits First h = fit.start
  density_at_fits (Slope n ρ) h = h.first
  density_at_fits (Curvature n ρ error) h = h.first
  density_at_fits (NearestSpinodal n way s) h = h.first
  density_at_fits (LiquidSpinodal n way s) h = h.first
  density_at_fits (VaporSpinodal n way ρl s) h = h.first

density_begin_fits : (c : Conditions) → DensityFits (density_begin c)
unfolding density_begin density_numbers density_spot_numbers
density_begin_fits c = cond_keeps DensityFits (le c.start f0) _ _ (failed StartNotPositive) (asks 1 0 0 0 f0 f0 zero_fits zero_fits)

-- ---- kind 2: where the search of the stable phase stands

abbrev StableFits : Standing StableSpot → Type 0
StableFits p = ValuesStorable (stable_numbers p).values

stable_ended : (p : Phase) → PhaseFits p → StableFits (Break p)
unfolding stable_numbers ended_numbers
stable_ended p h = h

-- a density search's spot with a float beside it
staged_fits : (stage status : ℕ) (z : Float) (n : Numbers) → Fit z → ValuesStorable n.values → ValuesStorable (staged stage status z n).values
unfolding staged
staged_fits stage status z n h k = record { first = k.first; second = k.second; third = h }

unstaged_fits : (stage status : ℕ) (z : Float) (s : DensitySpot) → ValuesStorable (staged stage status z (density_spot_numbers s)).values → SpotFits s
unfolding staged density_spot_numbers spot_numbers
unstaged_fits stage status z First h = record { first = h.first; second = h.second; third = zero_fits }
unstaged_fits stage status z (Slope n ρ) h = record { first = h.first; second = h.second; third = zero_fits }
unstaged_fits stage status z (Curvature n ρ error) h = record { first = h.first; second = h.second; third = zero_fits }
unstaged_fits stage status z (NearestSpinodal n way s) h = record { first = h.first; second = h.second; third = zero_fits }
unstaged_fits stage status z (LiquidSpinodal n way s) h = record { first = h.first; second = h.second; third = zero_fits }
unstaged_fits stage status z (VaporSpinodal n way ρl s) h = record { first = h.first; second = h.second; third = zero_fits }

-- the density that a phase ended with is stored by itself
phase_float : (p : Phase) → Fit (values_of (phase_answer p)).first → PhaseFits p
unfolding phase_answer values_of
phase_float (Ok ρ) h = found_fits_lem ρ h
phase_float (Err r) h = failed_fits r

potentials_fit : (stage : ℕ) (x y z : Float) → Fit x → Fit y → Fit z → ValuesStorable (potential_numbers stage x y z).values
unfolding potential_numbers
potentials_fit stage x y z h k l = record { first = h; second = k; third = l }

phases_fit : (liquid vapor : Phase) → PhaseFits liquid → PhaseFits vapor → StableFits (phases_on liquid vapor)
unfolding phases_on stable_numbers phase_answer values_of
phases_fit (Ok l) (Ok v) h k = potentials_fit 3 l v f0 h.first k.first zero_fits
phases_fit (Ok l) (Err r) h k = stable_ended (Ok l) h
phases_fit (Err q) (Ok v) h k = stable_ended (Ok v) k
phases_fit (Err q) (Err r) h k = stable_ended (Err BothPhasesFailed) (failed_fits BothPhasesFailed)

vapor_search_fits : (liquid : Phase) (p : Standing DensitySpot) → PhaseFits liquid → DensityFits p → StableFits (vapor_search_on liquid p)
unfolding vapor_search_on stable_numbers density_numbers ended_numbers
vapor_search_fits liquid (Break vapor) h k = phases_fit liquid vapor h k
vapor_search_fits liquid (Continue s) h k = staged_fits 2 _ _ (density_spot_numbers s) h.first k

liquid_potential_fits : (l v μl : Float) → Fit l → Fit v → Fit μl → StableFits (liquid_potential_on l v μl)
unfolding liquid_potential_on stable_numbers
liquid_potential_fits l v μl h k m = cond_keeps StableFits (finite_of μl) _ _ (potentials_fit 4 l v μl h k m) (stable_ended (Err NotFinite) (failed_fits NotFinite))

vapor_potential_fits : (l v μl μv : Float) → Fit l → Fit v → StableFits (vapor_potential_on l v μl μv)
unfolding vapor_potential_on
vapor_potential_fits l v μl μv h k =
    cond_keeps StableFits (finite_of μv) _ _ (stable_ended _ (found_fits_lem _ (cond-fits binary64 (lt μv μl) v l k h))) (stable_ended (Err NotFinite) (failed_fits NotFinite))

-- the conditions that a request makes, from a start that fits
pub conditions_fit_lem : (maxdensity t p : Float) (initial : DensityInitialization) → T (fits binary64 maxdensity) → T (fits binary64 t) → T (fits binary64 p)
    → T (fits binary64 (Density.start_of maxdensity t p initial)) → ConditionsFit (conditions_of maxdensity t p initial)
unfolding conditions_of
conditions_fit_lem maxdensity t p initial m h k s = record { maxdensity = m; temperature = h; pressure = k; start = s }

module _ (maxdensity t p : Float) (m : Fit maxdensity) (ht : Fit t) (hp : Fit p) where
  of_liquid_lem : ConditionsFit (of_liquid maxdensity t p)
  of_liquid_lem = conditions_fit_lem maxdensity t p Initial.Liquid m ht hp (unfold Density.start_of in m)

  of_vapor_lem : ConditionsFit (of_vapor maxdensity t p)
  of_vapor_lem = conditions_fit_lem maxdensity t p Initial.Vapor m ht hp (unfold Density.start_of in div-fits binary64 p t)

  liquid_search_fits : (x : Standing DensitySpot) → DensityFits x → StableFits (liquid_search_on maxdensity t p x)
  unfolding liquid_search_on stable_numbers density_numbers ended_numbers
  liquid_search_fits (Break liquid) h =
      cond_keeps StableFits (lt p (maxdensity ⊗ t)) _ _ (vapor_search_fits liquid _ h (density_begin_fits (of_vapor maxdensity t p))) h
  liquid_search_fits (Continue s) h = staged_fits 1 0 f0 (density_spot_numbers s) zero_fits h

  stable_next_fits : (ev : Evaluator) → YieldsFit ev → (s : StableSpot) → StableFits (Continue s) → StableFits (stable_next maxdensity t p ev s)
  unfolding stable_next stable_numbers potential_numbers
  stable_next_fits ev yields (LiquidSearch s) h = liquid_search_fits _ (density_next_fits (of_liquid maxdensity t p) of_liquid_lem ev yields s (unstaged_fits 1 0 f0 s h))
  stable_next_fits ev yields (VaporSearch liquid s) h =
      vapor_search_fits liquid _ (phase_float liquid (unfold staged in h.third))
      (density_next_fits (of_vapor maxdensity t p) of_vapor_lem ev yields s (unstaged_fits 2 _ _ s h))
  stable_next_fits ev yields (LiquidPotential l v) h = liquid_potential_fits l v _ h.first h.second (yields.potential_fits t l)
  stable_next_fits ev yields (VaporPotential l v μl) h = vapor_potential_fits l v μl _ h.first h.second

  stable_at_fits : (s : StableSpot) → StableFits (Continue s) → Fit (stable_at maxdensity t p s)
  unfolding stable_at stable_numbers potential_numbers
  stable_at_fits (LiquidSearch s) h = density_at_fits (of_liquid maxdensity t p) of_liquid_lem s (unstaged_fits 1 0 f0 s h)
  stable_at_fits (VaporSearch liquid s) h = density_at_fits (of_vapor maxdensity t p) of_vapor_lem s (unstaged_fits 2 _ _ s h)
  stable_at_fits (LiquidPotential l v) h = h.first
  stable_at_fits (VaporPotential l v μl) h = h.second

-- ---- what is read from floats that fit is stored with floats that fit
module _ (n : Numbers) (h : ValuesStorable n.values) where
  spinodal_read : SpinodalFits (spinodal_place_by n)
  unfolding spinodal_place_by spinodal_spot_by
  spinodal_read = cond_keeps SpinodalFits (eqb n.counters.tag 0) _ _ (spinodal_ended _ (answer_by_fits _ n.values h)) (spinodal_at _ h.first)

  spot_read : SpotFits (density_spot_by n)
  unfolding density_spot_by density_spot_numbers spinodal_spot_by
  spot_read =
      cond_keeps SpotFits (eqb n.counters.tag 1) _ _ (asks 1 0 0 0 f0 f0 zero_fits zero_fits)
      (cond_keeps SpotFits (eqb n.counters.tag 2) _ _ (asks 2 _ 0 0 _ _ h.first zero_fits)
      (cond_keeps SpotFits (eqb n.counters.tag 3) _ _ (asks 3 _ 0 0 _ _ h.first h.second)
      (cond_keeps SpotFits (eqb n.counters.tag 4) _ _ (asks 4 _ _ _ _ _ h.first zero_fits)
      (cond_keeps SpotFits (eqb n.counters.tag 5) _ _ (asks 5 _ _ _ _ _ h.first zero_fits) (asks 6 _ _ _ _ _ h.first h.second)))))

  density_read : DensityFits (density_place_by n)
  unfolding density_place_by
  density_read = cond_keeps DensityFits (eqb n.counters.tag 0) _ _ (density_ended _ (phase_by_fits _ _ h.first)) (density_at_lem _ spot_read)

  abbrev AskingFits : StableSpot → Type 0
  AskingFits s = StableFits (Continue s)

  stable_read : StableFits (stable_place_by n)
  unfolding stable_place_by stable_spot_by stable_numbers
  stable_read =
      cond_keeps StableFits (eqb n.counters.stage 0) _ _ (stable_ended _ (phase_by_fits _ _ h.first))
      (cond_keeps AskingFits (eqb n.counters.stage 1) _ _ (staged_fits 1 0 f0 _ zero_fits spot_read)
      (cond_keeps AskingFits (eqb n.counters.stage 2) _ _ (staged_fits 2 _ _ _ (phase_by_fits _ _ h.third).first spot_read)
      (cond_keeps AskingFits (eqb n.counters.stage 3) _ _ (potentials_fit 3 _ _ _ h.first h.second zero_fits) (potentials_fit 4 _ _ _ h.first h.second h.third))))

-- ---- a step, from where the numbers stand

module _ (ev : Evaluator) (yields : YieldsFit ev) (s : State) (h : FloatsStorable s) where
  density_step_fits : (c : Conditions) → ConditionsFit c → (x : Standing DensitySpot) → DensityFits x → FloatsStorable (density_step c ev x s)
  unfolding density_step density_numbers
  density_step_fits c fit (Break a) k = h
  density_step_fits c fit (Continue x) k = record { values = density_next_fits c fit ev yields x k; latest = density_at_fits c fit x k }

  stable_step_fits : (maxdensity t p : Float) → Fit maxdensity → Fit t → Fit p → (x : Standing StableSpot) → StableFits x → FloatsStorable (stable_step maxdensity t p ev x s)
  unfolding stable_step
  stable_step_fits maxdensity t p m ht hp (Break a) k = h
  stable_step_fits maxdensity t p m ht hp (Continue x) k =
      record { values = stable_next_fits maxdensity t p m ht hp ev yields x k; latest = stable_at_fits maxdensity t p m ht hp x k }

  spinodal_step_fits : (maxdensity t : Float) (x : Progress SpinodalSpot) → SpinodalFits x → FloatsStorable (spinodal_step maxdensity t ev x s)
  unfolding spinodal_step spinodal_numbers spot_numbers
  spinodal_step_fits maxdensity t (Break a) k = h
  spinodal_step_fits maxdensity t (Continue x) k = record { values = spinodal_next_fits maxdensity t ev yields x k.first; latest = k.first }

  branch_step_fits : (maxdensity t : Float) (branch : Branch) (x : Progress SpinodalSpot) → SpinodalFits x → FloatsStorable (branch_step maxdensity t branch ev x s)
  unfolding branch_step spinodal_numbers spot_numbers
  branch_step_fits maxdensity t branch (Break a) k = h
  branch_step_fits maxdensity t branch (Continue x) k = record { values = branch_next_fits maxdensity t ev yields x k.first branch; latest = k.first }

-- ---- every kind: a search begins with floats that fit, and a step keeps them

pub density_begin_lem : (c : Conditions) → ConditionsFit c → FloatsStorable (start_of (Job.Density c))
unfolding start_of begin_of
density_begin_lem c fit = record { values = density_begin_fits c; latest = zero_fits }

pub density_steps : (c : Conditions) (ev : Evaluator) (s : State) → ConditionsFit c → YieldsFit ev → FloatsStorable s → FloatsStorable (step_of (Job.Density c) ev s)
unfolding step_of
density_steps c ev s fit yields h = density_step_fits ev yields s h c fit _ (density_read s.numbers h.values)

module _ (maxdensity t p : Float) where
  pub stable_begin_lem : T (fits binary64 maxdensity) → T (fits binary64 t) → T (fits binary64 p) → FloatsStorable (start_of (Job.StableDensity maxdensity t p))
  unfolding start_of begin_of stable_begin
  stable_begin_lem m ht hp = record { values = liquid_search_fits maxdensity t p m ht hp _ (density_begin_fits (of_liquid maxdensity t p)); latest = zero_fits }

  pub stable_steps : (ev : Evaluator) (s : State) → T (fits binary64 maxdensity) → T (fits binary64 t) → T (fits binary64 p) → YieldsFit ev → FloatsStorable s
      → FloatsStorable (step_of (Job.StableDensity maxdensity t p) ev s)
  unfolding step_of
  stable_steps ev s m ht hp yields h = stable_step_fits ev yields s h maxdensity t p m ht hp _ (stable_read s.numbers h.values)

module _ (maxdensity t ρ : Float) where
  pub spinodal_begin : T (fits binary64 maxdensity) → T (fits binary64 t) → T (fits binary64 ρ) → FloatsStorable (start_of (Job.PressureSpinodal maxdensity t ρ))
  unfolding start_of begin_of
  spinodal_begin m ht hρ = record { values = start_fits ρ hρ; latest = zero_fits }

  pub spinodal_steps : (ev : Evaluator) (s : State) → T (fits binary64 maxdensity) → T (fits binary64 t) → T (fits binary64 ρ) → YieldsFit ev → FloatsStorable s
      → FloatsStorable (step_of (Job.PressureSpinodal maxdensity t ρ) ev s)
  unfolding step_of
  spinodal_steps ev s m ht hρ yields h = spinodal_step_fits ev yields s h maxdensity t _ (spinodal_read s.numbers h.values)

module _ (maxdensity t : Float) (branch : Branch) where
  pub branch_begin_lem : T (fits binary64 maxdensity) → T (fits binary64 t) → FloatsStorable (start_of (Job.BranchSpinodal maxdensity t branch))
  unfolding start_of begin_of
  branch_begin_lem m ht = record { values = branch_begin_fits maxdensity branch; latest = zero_fits }

  pub branch_steps : (ev : Evaluator) (s : State) → T (fits binary64 maxdensity) → T (fits binary64 t) → YieldsFit ev → FloatsStorable s
      → FloatsStorable (step_of (Job.BranchSpinodal maxdensity t branch) ev s)
  unfolding step_of
  branch_steps ev s m ht yields h = branch_step_fits ev yields s h maxdensity t branch _ (spinodal_read s.numbers h.values)
