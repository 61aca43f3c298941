-- `critical_point_binary_t` and `critical_point_binary_p` of critical_point.rs: kinds 8 and 9. Definitions only.
use Rattle.std.specs.Prelude.{ℕ, zero, suc, Bool, cond, List, [], ◌∷◌, unwrap_or, Float}
use Rattle.std.specs.Float.Ieee.{lt}
use Rattle.float.specs.Ops.{◌⊖◌, ◌⊗◌, f0}
use Rattle.float.specs.Sign.{abs_of}
use Rattle.evaluations.specs.declared.types.Condition.{Condition}
use Rattle.evaluations.specs.declared.types.Criticality.{Criticality}
use Rattle.evaluations.specs.declared.types.PressureCriticality.{PressureCriticality}
use Rattle.linear.specs.Linear.{Solved, solve3, norm_of}
use Rattle.solver.specs.Decimals.{d0·25, d0·03, d1e_8, d300}
use Rattle.solver.specs.declared.types.Refusal.TheVariants.{NotConverged, IterationFailed}
use Rattle.solver.specs.Answer.{Answer}
use Rattle.std.specs.Prelude.{Ok, Err}
use Rattle.solver.specs.Search.{Query, Yield, Search, done, ask, refuse, criticality_t, criticality_p}
use Rattle.std.specs.declared.option.Option.{Option}
use Rattle.solver_critical.specs.CriticalPoint.{floored, part, limited, entries, solved, converged, tested_each, start_density}
use Rattle.solver_binary.specs.declared.types.Densities.{Densities}
use Rattle.solver_binary.specs.declared.types.Unknowns.{Unknowns}

-- ---- what both have

-- `SVector::from([initial_molefracs[0], initial_molefracs[1]]) * rho_init`
unfoldable pub start_densities : (maxdensity z0 z1 : Float) → Option Float → Densities
start_densities maxdensity z0 z1 density = let ρ = start_density maxdensity density in record { rho0 = z0 ⊗ ρ; rho1 = z1 ⊗ ρ }

-- n rounds from p: each asks there, and what it yields leads to the end or to another point
module _ {P : Type 0} (query : P → Query) (after : (p : P) → Yield (query p) → (P → Search) → Search) where
  unfoldable pub rounds : ℕ → P → Search
  rounds zero p = refuse NotConverged
  rounds (suc n) p = ask (query p) (λ y. after p y (rounds n))

-- ---- kind 8

-- "Kind 8 hands out two partial densities"
unfoldable pub answer_t : Densities → Answer
answer_t p = Ok (record { first = p.rho0; second = p.rho1; third = f0 })

-- "reduce step if necessary": by the first density, then by the second that it has then
unfoldable pub reduced_t : (maxdensity : Float) → List Float → List Float
reduced_t maxdensity δ =
    let most = d0·03 ⊗ maxdensity in
    let δ' = limited most (abs_of (part δ 0)) δ in
    limited most (abs_of (part δ' 1)) δ'

-- "apply step": the step δ from p, with the floors
unfoldable pub step_t : (maxdensity : Float) → Densities → List Float → Densities
step_t maxdensity p δ =
    let δ' = reduced_t maxdensity δ in
    record { rho0 = floored maxdensity (p.rho0 ⊖ part δ' 0); rho1 = floored maxdensity (p.rho1 ⊖ part δ' 1) }

-- what the step from p leads to: the densities are tested for 27, and then handed out or gone on from
unfoldable pub after_solve_t : (maxdensity : Float) → Densities → Criticality → Solved → (Densities → Search) → Search
after_solve_t maxdensity p y (Ok δ) again = (let p' = step_t maxdensity p δ in tested_each (p'.rho0 ∷ p'.rho1 ∷ []) (cond (converged y) (done (answer_t p')) (again p')))
after_solve_t maxdensity p y (Err e) again = refuse IterationFailed

-- what `criticality_conditions` at p leads to
unfoldable pub after_conditions_t : (maxdensity : Float) → Densities → Criticality → (Densities → Search) → Search
after_conditions_t maxdensity p y again = tested_each (entries y) (after_solve_t maxdensity p y (solved y) again)

-- what a round at p asks
abbrev pub query_t : (t : Float) → Densities → Query
query_t t p = criticality_t t p.rho0 p.rho1

-- with n rounds left, at p
abbrev pub search_t : (maxdensity t : Float) → ℕ → Densities → Search
search_t maxdensity t = rounds (query_t t) (after_conditions_t maxdensity)

unfoldable pub critical_point_binary_t : (maxdensity z0 z1 temperature : Float) → (density : Option Float) → Search
critical_point_binary_t maxdensity z0 z1 temperature density = search_t maxdensity temperature 200 (start_densities maxdensity z0 z1 density)

-- ---- kind 9

-- "kind 9 temperature and two"
unfoldable pub answer_p : Unknowns → Answer
answer_p p = Ok (record { first = p.t; second = p.rho0; third = p.rho1 })

-- "kind 9 reads +0 as 300"
unfoldable pub start_temperature : Option Float → Float
start_temperature temperature = unwrap_or temperature d300

unfoldable pub start_unknowns : (maxdensity z0 z1 : Float) → (temperature density : Option Float) → Unknowns
start_unknowns maxdensity z0 z1 temperature density =
    let ρ = start_densities maxdensity z0 z1 density in
    record { t = start_temperature temperature; rho0 = ρ.rho0; rho1 = ρ.rho1 }

-- "reduce step if necessary": by its temperature, then by each density that it has then
unfoldable pub reduced_p : (maxdensity t : Float) → List Float → List Float
reduced_p maxdensity t δ =
    let most = d0·03 ⊗ maxdensity in
    let δ' = limited (d0·25 ⊗ t) (abs_of (part δ 0)) δ in
    let δ'' = limited most (abs_of (part δ' 1)) δ' in
    limited most (abs_of (part δ'' 2)) δ''

-- "apply step": the step δ from p, with the floors
unfoldable pub step_p : (maxdensity : Float) → Unknowns → List Float → Unknowns
step_p maxdensity p δ =
    let δ' = reduced_p maxdensity p.t δ in
    record { t = p.t ⊖ part δ' 0; rho0 = floored maxdensity (p.rho0 ⊖ part δ' 1); rho1 = floored maxdensity (p.rho1 ⊖ part δ' 2) }

-- a condition's derivatives by temperature and partial densities
abbrev pub row_of : Condition → List Float
row_of c = c.d0 ∷ c.d1 ∷ c.d2 ∷ []

abbrev pub residuals : PressureCriticality → List Float
residuals y = y.l.value ∷ y.c2.value ∷ y.p.value ∷ []

unfoldable pub solved_p : PressureCriticality → Solved
solved_p y = solve3 (row_of y.l ∷ row_of y.c2 ∷ row_of y.p ∷ []) (residuals y)

-- by the residuals from before the step
unfoldable pub converged_p : PressureCriticality → Bool
converged_p y = lt (norm_of (residuals y)) d1e_8

-- what `criticality_conditions_p` yields is tested for 27: the residuals, then the derivatives row by row
abbrev pub tested12 : PressureCriticality → Search → Search
tested12 y s = tested_each (residuals y) (tested_each (row_of y.l) (tested_each (row_of y.c2) (tested_each (row_of y.p) s)))

-- what the step from p leads to: temperature and densities are tested for 27, and then handed out or gone on from
unfoldable pub after_solve_p : (maxdensity : Float) → Unknowns → PressureCriticality → Solved → (Unknowns → Search) → Search
after_solve_p maxdensity p y (Ok δ) again = (let p' = step_p maxdensity p δ in tested_each (p'.t ∷ p'.rho0 ∷ p'.rho1 ∷ []) (cond (converged_p y) (done (answer_p p')) (again p')))
after_solve_p maxdensity p y (Err e) again = refuse IterationFailed

-- what `criticality_conditions_p` at p leads to
unfoldable pub after_conditions_p : (maxdensity : Float) → Unknowns → PressureCriticality → (Unknowns → Search) → Search
after_conditions_p maxdensity p y again = tested12 y (after_solve_p maxdensity p y (solved_p y) again)

-- what a round at p asks
abbrev pub query_p : (pressure : Float) → Unknowns → Query
query_p pressure p = criticality_p pressure p.t p.rho0 p.rho1

-- with n rounds left, at p
abbrev pub search_p : (maxdensity pressure : Float) → ℕ → Unknowns → Search
search_p maxdensity pressure = rounds (query_p pressure) (after_conditions_p maxdensity)

unfoldable pub critical_point_binary_p : (maxdensity z0 z1 pressure : Float) → (temperature density : Option Float) → Search
critical_point_binary_p maxdensity z0 z1 pressure temperature density = search_p maxdensity pressure 200 (start_unknowns maxdensity z0 z1 temperature density)
