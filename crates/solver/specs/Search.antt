-- A search as a tree: it is done, it asks for one evaluation and goes on from what that yields, or it has a number tested for 27.
-- What runs it, steps it and bounds it is read off the tree, for every kind of search alike. Definitions only.
use Rattle.std.specs.Prelude.{◌≡◌, ℕ, zero, suc, ◌+◌, ◌≤◌, Bool, true, false, cond, ◌&&◌, Float, Ok, Err}
use Rattle.float.specs.Ops.{◌⊕◌, f0}
use Rattle.float.specs.Sign.{finite_of}
use Rattle.evaluations.specs.declared.types.Pressure.{Pressure}
use Rattle.evaluations.specs.declared.types.Criticality.{Criticality}
use Rattle.evaluations.specs.declared.types.PressureCriticality.{PressureCriticality}
use Rattle.evaluations.specs.declared.types.Stability.{Stability}
use Rattle.solver.specs.declared.types.Values.{Values}
use Rattle.solver.specs.declared.types.Refusal.{Refusal}
use Rattle.solver.specs.declared.types.Refusal.TheVariants.{NotFinite}
use Rattle.solver.specs.Answer.{Answer, is27}
use Rattle.solver.specs.declared.types.Ran.{Ran}

-- "An evaluation is one call of `p_dpdrho`, `p_dpdrho_d2pdrho2`, `_chemical_potential`, `criticality_conditions` or `stability_condition`";
-- "A call of `criticality_conditions_p` is one evaluation". A query names it and what it asks at: the temperature and a density or two partial
-- densities, and the pressure where that is set.
pub data Query : Type 0 where
  slope : (t ρ : Float) → Query
  curvature : (t ρ : Float) → Query
  potential : (t ρ : Float) → Query
  criticality : (t ρ : Float) → Query
  stability : (t ρ : Float) → Query
  criticality_t : (t ρ0 ρ1 : Float) → Query
  criticality_p : (p t ρ0 ρ1 : Float) → Query

-- what it yields
abbrev pub Yield : Query → Type 0
Yield (slope t ρ) = Pressure
Yield (curvature t ρ) = Pressure
Yield (potential t ρ) = Float
Yield (criticality t ρ) = Criticality
Yield (stability t ρ) = Stability
Yield (criticality_t t ρ0 ρ1) = Criticality
Yield (criticality_p p t ρ0 ρ1) = PressureCriticality

-- the density that a look shows of it: "look shows the density sum"
abbrev pub density_of : Query → Float
density_of (slope t ρ) = ρ
density_of (curvature t ρ) = ρ
density_of (potential t ρ) = ρ
density_of (criticality t ρ) = ρ
density_of (stability t ρ) = ρ
density_of (criticality_t t ρ0 ρ1) = ρ0 ⊕ ρ1
density_of (criticality_p p t ρ0 ρ1) = ρ0 ⊕ ρ1

-- an equation of state: what each query yields
abbrev pub Evaluator : Type 0
Evaluator = (q : Query) → Yield q

pub data Search : Type 0 where
  done : Answer → Search
  ask : (q : Query) → (Yield q → Search) → Search
  test : Float → (Bool → Search) → Search

-- a refusal of the search
abbrev pub refuse : Refusal → Search
refuse r = done (Err r)

-- "isn't finite .. that search ends with 27"
unfoldable pub tested : Float → Search → Search
tested x t = test x (λ ok. cond ok t (refuse NotFinite))

-- the search t, then what its answer leads to
unfoldable pub bind : Search → (Answer → Search) → Search
bind (done a) f = f a
bind (ask q k) f = ask q (λ y. bind (k y) f)
bind (test x k) f = test x (λ ok. bind (k ok) f)

-- the Rust's `?`: a refusal is the answer
unfoldable pub on_found : (Values → Search) → Answer → Search
on_found f (Ok v) = f v
on_found f (Err r) = refuse r

abbrev pub and_then : Search → (Values → Search) → Search
and_then t f = bind t (on_found f)

-- The end of a search with the evaluations made, n of them before it. With `finite_of` as the test it is document 01's definition,
-- with a test that is always true the Rust itself, which has no 27.
unfoldable pub run : (Float → Bool) → Evaluator → ℕ → Search → Ran
run ok ev n (done a) = record { answer = a; evaluations = n }
run ok ev n (ask q k) = run ok ev (n + 1) (k (ev q))
run ok ev n (test x k) = run ok ev n (k (ok x))

-- no number tested along the run leaves the finite range
unfoldable pub clean : Evaluator → Search → Bool
clean ev (done a) = true
clean ev (ask q k) = clean ev (k (ev q))
clean ev (test x k) = finite_of x && clean ev (k true)

-- what a part of a search answers by itself
abbrev pub answer_of : Evaluator → Search → Answer
answer_of ev t = (run finite_of ev 0 t).answer

-- a part was found, and this holds of what it found
unfoldable pub found_and : Answer → (Values → Bool) → Bool
found_and (Ok v) holds = holds v
found_and (Err r) holds = false

-- it ends after at most n evaluations, whatever they yield and whatever the tests say
pub data Within : ℕ → Search → Type 0 where
  ended : {n : ℕ} {a : Answer} → Within n (done a)
  asks : {m n : ℕ} {q : Query} {k : Yield q → Search} → suc m ≤ n → ((y : Yield q) → Within m (k y)) → Within n (ask q k)
  tests : {n : ℕ} {x : Float} {k : Bool → Search} → ((ok : Bool) → Within n (k ok)) → Within n (test x k)

-- every 27 comes from a number that is not finite: a failed test ends the search with it, and nothing else does
pub data Ruled : Search → Type 0 where
  ended : {a : Answer} → is27 a ≡ false → Ruled (done a)
  asks : {q : Query} {k : Yield q → Search} → ((y : Yield q) → Ruled (k y)) → Ruled (ask q k)
  tests : {x : Float} {k : Bool → Search} → k false ≡ refuse NotFinite → Ruled (k true) → Ruled (test x k)

-- ---- one evaluation at a time

-- the tests that stand first are made
unfoldable pub settle : (Float → Bool) → Search → Search
settle ok (done a) = done a
settle ok (ask q k) = ask q k
settle ok (test x k) = settle ok (k (ok x))

-- a search under way: what is left of it, the evaluations made, the density of the latest one
pub record Going : Type 0 where
  pub left : Search
  pub evaluations : ℕ
  pub latest : Float

unfoldable pub next_of : (Float → Bool) → Evaluator → Search → ℕ → Float → Going
next_of ok ev (done a) n d = record { left = done a; evaluations = n; latest = d }
next_of ok ev (ask q k) n d = record { left = settle ok (k (ev q)); evaluations = n + 1; latest = density_of q }
next_of ok ev (test x k) n d = next_of ok ev (k (ok x)) n d

-- one evaluation further, with the tests that follow it
abbrev pub next : (Float → Bool) → Evaluator → Going → Going
next ok ev g = next_of ok ev g.left g.evaluations g.latest

-- j evaluations further
unfoldable pub after : (Float → Bool) → Evaluator → ℕ → Going → Going
after ok ev zero g = g
after ok ev (suc j) g = after ok ev j (next ok ev g)

-- a search before its first evaluation: "the density of the latest one (+0 before any)"
abbrev pub fresh : Search → Going
fresh t = record { left = t; evaluations = 0; latest = f0 }
