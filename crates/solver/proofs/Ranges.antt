-- Counters within their ranges, number by number. Assumes nothing.
use mathlib.Core.Path.{◌≡◌, refl}
use Prim.Native.Nat.{ℕ, ◌<◌}
use native.Mathlib.Omega.{arith}
use mathlib.Core.Bool.{Bool, true, false, ◌&&◌}
use borrow.Author.Tests.{lt-ltb, ltb-true}
use lib.Dec.{ltb}
use Rattle.solver.specs.declared.types.Refusal.TheVariants.{StartNotPositive, NotConverged, IterationFailed, BothPhasesFailed, WrongBranch, Supercritical, NotFinite}
use Rattle.solver.specs.Answer.{Answer, number_of, status_of}
use Rattle.std.specs.Prelude.{Ok, Err}
use Rattle.solver.specs.declared.types.Counters.{Counters}
use Rattle.solver.specs.declared.types.Numbers.{Numbers}
use Rattle.solver.specs.Stored.{ended_numbers, status_fits, counters_below}

abbrev pub FitsBelow : (most : ℕ) → Numbers → Type 0
FitsBelow most n = counters_below most n.counters ≡ true

-- in searches of at most 50 rounds
abbrev pub Fits : Numbers → Type 0
Fits n = FitsBelow 50 n

-- the same, number by number
pub record Below (most : ℕ) (c : Counters) : Type 0 where
  pub stage : c.stage < 5
  pub tag : c.tag < 7
  pub status : status_fits c.status ≡ true
  pub left : c.left < 50
  pub way : c.way < 4
  pub rounds : c.rounds < most

both_true : (a b : Bool) → a && b ≡ true → (a ≡ true) × (b ≡ true)
both_true true b e = (refl, e)
both_true false b e = let z : ◌≡◌ {A = ℕ} 0 1 = cc in absurd (omega arith)

pub below : (most : ℕ) (c : Counters) → counters_below most c ≡ true → Below most c
unfolding counters_below
below most c e =
    let s = both_true (ltb c.stage 5) _ e in
    let t = both_true (ltb c.tag 7) _ s.1 in
    let u = both_true (status_fits c.status) _ t.1 in
    let l = both_true (ltb c.left 50) _ u.1 in
    let w = both_true (ltb c.way 4) _ l.1 in
    record {
      stage = ltb-true c.stage 5 s.0;
      tag = ltb-true c.tag 7 t.0;
      status = u.0;
      left = ltb-true c.left 50 l.0;
      way = ltb-true c.way 4 w.0;
      rounds = ltb-true c.rounds most w.1;
    }

pub fits : (most : ℕ) (c : Counters) → Below most c → counters_below most c ≡ true
unfolding counters_below
fits most c b = rw (lt-ltb c.stage 5 b.stage, lt-ltb c.tag 7 b.tag, b.status, lt-ltb c.left 50 b.left, lt-ltb c.way 4 b.way, lt-ltb c.rounds most b.rounds)

pub status_fits_lem : (a : Answer) → status_fits (status_of a) ≡ true
unfolding status_fits status_of number_of
status_fits_lem (Ok v) = refl
status_fits_lem (Err StartNotPositive) = refl
status_fits_lem (Err NotConverged) = refl
status_fits_lem (Err IterationFailed) = refl
status_fits_lem (Err BothPhasesFailed) = refl
status_fits_lem (Err WrongBranch) = refl
status_fits_lem (Err Supercritical) = refl
status_fits_lem (Err NotFinite) = refl

pub ended_below : (most : ℕ) (a : Answer) → 0 < most → FitsBelow most (ended_numbers a)
unfolding ended_numbers counters_below
ended_below most a h = rw (status_fits_lem a, lt-ltb 0 most h)

pub ended_fits : (a : Answer) → Fits (ended_numbers a)
ended_fits a = ended_below 50 a (omega arith)
