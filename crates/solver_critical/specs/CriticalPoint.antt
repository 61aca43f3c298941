-- `critical_point_hkm` and `critical_point` of critical_point.rs, for one component or two. Definitions only.
use Rattle.std.specs.Prelude.{ℕ, zero, suc, Bool, cond, List, [], ◌∷◌, map, get_or, unwrap_or, Float}
use Rattle.std.specs.Float.{nan}
use Rattle.std.specs.Float.Ieee.{lt}
use Rattle.float.specs.Ops.{◌⊖◌, ◌⊗◌, ◌⊘◌, f0}
use Rattle.float.specs.Sign.{abs_of, max_of}
use Rattle.evaluations.specs.declared.types.Criticality.{Criticality}
use Rattle.linear.specs.Linear.{Solved, solve2, norm_of}
use Rattle.solver.specs.Decimals.{d0·25, d0·03, d0·3, d1e_4, d1e_8, d300, d500, d700}
use Rattle.solver.specs.declared.types.Refusal.TheVariants.{NotConverged, IterationFailed}
use Rattle.solver.specs.Answer.{Answer}
use Rattle.std.specs.Prelude.{Ok, Err}
use Rattle.solver.specs.Search.{Search, done, ask, refuse, tested, bind, criticality}
use Rattle.std.specs.declared.option.Option.{Option}
use Rattle.std.specs.declared.option.Option.TheVariants.{None, Some}
use Rattle.solver_critical.specs.declared.types.Point.{Point}

-- the temperature and the density that kinds 5 and 7 hand out
unfoldable pub critical_answer : Point → Answer
critical_answer p = Ok (record { first = p.t; second = p.rho; third = f0 })

-- ---- the Newton step

-- `rho = f64::max(rho, 1e-4 * max_density)`
unfoldable pub floored : (maxdensity ρ : Float) → Float
floored maxdensity ρ = max_of ρ (d1e_4 ⊗ maxdensity)

-- an entry of a step
abbrev pub part : List Float → ℕ → Float
part δ i = get_or δ i nan

-- `if size > most { delta *= most / size }`: the factor is worked out first and scales every entry
unfoldable pub limited : (most size : Float) → List Float → List Float
limited most size δ = cond (lt most size) (let factor = most ⊘ size in map (λ x. x ⊗ factor) δ) δ

-- "reduce step if necessary": by its temperature, then by the density that it has then
unfoldable pub reduced_step : (maxdensity t : Float) → List Float → List Float
reduced_step maxdensity t δ = let δ' = limited (d0·25 ⊗ t) (abs_of (part δ 0)) δ in limited (d0·03 ⊗ maxdensity) (abs_of (part δ' 1)) δ'

-- "reduce step if necessary", "apply step": the step δ from p
unfoldable pub newton_step : (maxdensity : Float) → Point → List Float → Point
newton_step maxdensity p δ = let δ' = reduced_step maxdensity p.t δ in record { t = p.t ⊖ part δ' 0; rho = floored maxdensity (p.rho ⊖ part δ' 1) }

-- the residuals' derivatives by temperature and density
unfoldable pub jacobian : Criticality → List (List Float)
jacobian y = (y.dl_d0 ∷ y.dl_d1 ∷ []) ∷ (y.dc2_d0 ∷ y.dc2_d1 ∷ []) ∷ []

unfoldable pub solved : Criticality → Solved
solved y = solve2 (jacobian y) (y.l ∷ y.c2 ∷ [])

-- by the residuals from before the step
unfoldable pub converged : Criticality → Bool
converged y = lt (norm_of (y.l ∷ y.c2 ∷ [])) d1e_8

-- ---- the search

-- each of these numbers is tested for 27
abbrev pub tested_each : List Float → Search → Search
tested_each [] s = s
tested_each (x ∷ xs) s = tested x (tested_each xs s)

-- what `criticality_conditions` yields: the residuals, then their derivatives row by row
abbrev pub entries : Criticality → List Float
entries y = y.l ∷ y.c2 ∷ y.dl_d0 ∷ y.dl_d1 ∷ y.dc2_d0 ∷ y.dc2_d1 ∷ []

-- what the step from p leads to: temperature and density are tested for 27, and then handed out or gone on from
unfoldable pub after_solve : (maxdensity : Float) → Point → Criticality → Solved → (Point → Search) → Search
after_solve maxdensity p y (Ok δ) again = (let p' = newton_step maxdensity p δ in tested p'.t (tested p'.rho (cond (converged y) (done (critical_answer p')) (again p'))))
after_solve maxdensity p y (Err e) again = refuse IterationFailed

-- what `criticality_conditions` at p leads to
unfoldable pub after_conditions : (maxdensity : Float) → Point → Criticality → (Point → Search) → Search
after_conditions maxdensity p y again = tested_each (entries y) (after_solve maxdensity p y (solved y) again)

-- a trial that failed leads to another search
unfoldable pub or_else : Search → Answer → Search
or_else other (Ok v) = done (Ok v)
or_else other (Err r) = other

unfoldable pub trial_temperatures : List Float
trial_temperatures = d300 ∷ d700 ∷ d500 ∷ []

-- the temperature of a trial, +0 past the last
unfoldable pub trial_temperature : ℕ → Float
trial_temperature trial = get_or trial_temperatures trial f0

unfoldable pub start_density : (maxdensity : Float) → Option Float → Float
start_density maxdensity density = unwrap_or density (d0·3 ⊗ maxdensity)

module _ (maxdensity : Float) where
  -- with n rounds left, at p
  unfoldable pub hkm_from : ℕ → Point → Search
  hkm_from zero p = refuse NotConverged
  hkm_from (suc n) p = ask (criticality p.t p.rho) (λ y. after_conditions maxdensity p y (hkm_from n))

  unfoldable pub critical_point_hkm : (t ρ : Float) → Search
  critical_point_hkm t ρ = hkm_from 50 (record { t = t; rho = ρ })

  -- "a failed trial leads to the next"
  unfoldable pub trials : (ρ : Float) → List Float → Search
  trials ρ [] = refuse NotConverged
  trials ρ (t ∷ ts) = bind (critical_point_hkm t ρ) (or_else (trials ρ ts))

  -- "with a given temperature its refusal is final"
  unfoldable pub from_temperature : Option Float → (ρ : Float) → Search
  from_temperature None ρ = trials ρ trial_temperatures
  from_temperature (Some t) ρ = critical_point_hkm t ρ

  -- kinds 5 and 7
  unfoldable pub critical_point : (temperature density : Option Float) → Search
  critical_point temperature density = from_temperature temperature (start_density maxdensity density)
