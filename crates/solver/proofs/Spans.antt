-- How a search's longest run follows from its parts'. Assumes nothing.
use Prim.Native.Nat.{ℕ, suc, ◌+◌, ◌≤◌}
use native.Mathlib.Omega.{arith}
use mathlib.Core.Bool.{Bool, true, false, cond}
use lib.Ieee.{Float}
use Rattle.solver.specs.declared.types.Values.{Values}
use Rattle.solver.specs.declared.types.Refusal.TheVariants.{NotFinite}
use Rattle.solver.specs.Answer.{Answer}
use Rattle.std.specs.Prelude.{Ok, Err}
use Rattle.solver.specs.Search.{Query, Yield, Evaluator, Search, ask, refuse, tested, bind, on_found, and_then, run, Within}

pub asked : (m n : ℕ) {q : Query} {k : Yield q → Search} → suc m ≤ n → ((y : Yield q) → Within m (k y)) → Within n (ask q k)
asked m n l f = Within.asks l f

pub within_more : {m n : ℕ} {t : Search} → Within m t → m ≤ n → Within n t
within_more (Within.ended) h = Within.ended
within_more {n = n} (Within.asks {m = m} l f) h = asked m n (omega arith) f
within_more (Within.tests f) h = Within.tests (λ b. within_more (f b) h)

pub within_bind : {m : ℕ} {t : Search} (n : ℕ) (f : Answer → Search) → Within m t → ((a : Answer) → Within n (f a)) → Within (m + n) (bind t f)
unfolding bind
within_bind {m} n f (Within.ended {a = a}) h = within_more (h a) (omega arith)
within_bind n f (Within.asks {m = m} {n = m'} {k = k} l g) h = asked (m + n) (m' + n) (omega arith) (λ y. within_bind {m = m} {t = k y} n f (g y) h)
within_bind n f (Within.tests g) h = Within.tests (λ b. within_bind n f (g b) h)

pub within_then : {m : ℕ} {t : Search} (n : ℕ) (f : Values → Search) → Within m t → ((v : Values) → Within n (f v)) → Within (m + n) (and_then t f)
unfolding on_found
within_then n f w h = within_bind n (on_found f) w go
  where
    go : (a : Answer) → Within n (on_found f a)
    go (Ok v) = h v
    go (Err r) = Within.ended

pub within_tested : {n : ℕ} {t : Search} (x : Float) → Within n t → Within n (tested x t)
unfolding tested
within_tested {n} {t} x w = Within.tests go
  where
    go : (b : Bool) → Within n (cond b t (refuse NotFinite))
    go true = w
    go false = Within.ended

pub within_cond : {n : ℕ} {s t : Search} (b : Bool) → Within n s → Within n t → Within n (cond b s t)
within_cond true v w = v
within_cond false v w = w

-- what the span says of a run
pub run_most : (ok : Float → Bool) (ev : Evaluator) (n : ℕ) {m : ℕ} {t : Search} → Within m t → (run ok ev n t).evaluations ≤ n + m
unfolding run
run_most ok ev n (Within.ended) = omega arith
run_most ok ev n (Within.asks {q = q} l f) = let h = run_most ok ev (n + 1) (f (ev q)) in omega arith
run_most ok ev n (Within.tests {x = x} f) = run_most ok ev n (f (ok x))
