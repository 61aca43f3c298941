-- The rule of 27: left out, it changes nothing where every tested number is finite; where no part may fail unseen, 27 is the answer exactly where one is not;
-- and when a search made of parts answers 27. Assumes nothing.
use mathlib.Core.Path.{◌≡◌, refl, sym, ap, ◌∙◌}
use Prim.Native.Nat.{ℕ, ◌+◌}
use native.Mathlib.Omega.{arith}
use mathlib.Core.Bool.{Bool, true, false, cond, not, ◌&&◌, ◌||◌}
use lib.Ieee.{Float}
use Rattle.float.specs.Sign.{finite_of}
use Rattle.solver.specs.declared.types.Values.{Values}
use Rattle.solver.specs.Answer.{Answer, number_of, status_of, is27}
use Rattle.std.specs.Prelude.{Ok, Err}
use Rattle.solver.specs.declared.types.Ran.{Ran}
use Rattle.solver.specs.Search.{Query, Yield, Evaluator, Search, done, ask, test, tested, bind, on_found, and_then, run, clean, answer_of, found_and, Ruled}
use Rattle.solver.proofs.Runs.{run_from, run_bind}

-- ---- the Rust itself

-- where no number tested along the run leaves the finite range, document 01's run and the Rust's are the same
pub clean_agrees : (ev : Evaluator) (n : ℕ) (t : Search) → clean ev t ≡ true → run finite_of ev n t ≡ run (λ _. true) ev n t
unfolding run clean
clean_agrees ev n (done a) c = refl
clean_agrees ev n (ask q k) c = clean_agrees ev (n + 1) (k (ev q)) c
clean_agrees ev n (test x k) c = by (finite_of x) c (λ q. clean_agrees ev n (k true) q)
  where
    by : (b : Bool) → b && clean ev (k true) ≡ true → (clean ev (k true) ≡ true → run finite_of ev n (k true) ≡ run (λ _. true) ev n (k true)) → run finite_of ev n (k b) ≡ run (λ _. true) ev n (k true)
    by true c h = h c
    by false c h = let z : ◌≡◌ {A = ℕ} 0 1 = cc in absurd (omega arith)

-- ---- 27

-- the answer is 27 exactly where a number tested along the run leaves the finite range
pub exactly_27 : (ev : Evaluator) (n : ℕ) {t : Search} → Ruled t → is27 (run finite_of ev n t).answer ≡ not (clean ev t)
unfolding run clean is27 status_of number_of
exactly_27 ev n (Ruled.ended e) = e
exactly_27 ev n (Ruled.asks {q = q} f) = exactly_27 ev (n + 1) (f (ev q))
exactly_27 ev n (Ruled.tests {x = x} {k = k} e r) = by (finite_of x) (exactly_27 ev n r)
  where
    by : (b : Bool) → is27 (run finite_of ev n (k true)).answer ≡ not (clean ev (k true)) → is27 (run finite_of ev n (k b)).answer ≡ not (b && clean ev (k true))
    by true h = h
    by false h = rw e

-- ---- parts

-- what follows a part answers for both, whatever was evaluated before
pub answer_bind : (ev : Evaluator) (t : Search) (f : Answer → Search) → answer_of ev (bind t f) ≡ answer_of ev (f (answer_of ev t))
answer_bind ev t f = ap (λ (r : Ran). r.answer) (run_bind finite_of ev 0 t f ∙ run_from finite_of ev (run finite_of ev 0 t).evaluations (f (answer_of ev t)))

or_false : (b : Bool) → b ≡ b || false
or_false true = refl
or_false false = refl

-- the Rust's `?`: 27 comes from the part, or from what follows once it is found
pub then_27 : (ev : Evaluator) (t : Search) (f : Values → Search)
    → is27 (answer_of ev (and_then t f)) ≡ is27 (answer_of ev t) || found_and (answer_of ev t) (λ v. is27 (answer_of ev (f v)))
unfolding on_found found_and run is27 status_of
then_27 ev t f = ap is27 (answer_bind ev t (on_found f)) ∙ go (answer_of ev t)
  where
    go : (a : Answer) → is27 (answer_of ev (on_found f a)) ≡ is27 a || found_and a (λ v. is27 (answer_of ev (f v)))
    go (Ok v) = refl
    go (Err r) = or_false (is27 (Err r))

-- a part whose 27 is told by `first`, and what follows it, whose 27 is told by `later`
pub then_told : (ev : Evaluator) (t : Search) (f : Values → Search) (first : Bool) (later : Values → Bool) → is27 (answer_of ev t) ≡ first
    → ((v : Values) → is27 (answer_of ev (f v)) ≡ later v) → is27 (answer_of ev (and_then t f)) ≡ first || found_and (answer_of ev t) later
then_told ev t f first later e g = then_27 ev t f ∙ (λ i. e i || found_and (answer_of ev t) (λ v. g v i))

-- nothing that follows a found part answers 27
pub then_never : (ev : Evaluator) (t : Search) (f : Values → Search) → ((v : Values) → is27 (answer_of ev (f v)) ≡ false) → is27 (answer_of ev (and_then t f)) ≡ is27 (answer_of ev t)
unfolding found_and is27 status_of
then_never ev t f g = then_told ev t f (is27 (answer_of ev t)) (λ v. false) refl g ∙ go (answer_of ev t)
  where
    go : (a : Answer) → is27 a || found_and a (λ v. false) ≡ is27 a
    go (Ok v) = refl
    go (Err r) = sym (or_false (is27 (Err r)))

-- ---- searches that are ruled

-- an answer other than 27
pub ruled_done : {a : Answer} → is27 a ≡ false → Ruled (done a)
ruled_done e = Ruled.ended e

pub ruled_asks : {q : Query} {k : Yield q → Search} → ((y : Yield q) → Ruled (k y)) → Ruled (ask q k)
ruled_asks f = Ruled.asks f

pub ruled_tested : {t : Search} (x : Float) → Ruled t → Ruled (tested x t)
unfolding tested
ruled_tested x r = Ruled.tests refl r

pub ruled_cond : {s t : Search} (b : Bool) → Ruled s → Ruled t → Ruled (cond b s t)
ruled_cond true r q = r
ruled_cond false r q = q

pub ruled_then : {t : Search} (f : Values → Search) → Ruled t → ((v : Values) → Ruled (f v)) → Ruled (and_then t f)
unfolding bind on_found
ruled_then f (Ruled.ended {a = a} h) r = go a h
  where
    go : (a : Answer) → is27 a ≡ false → Ruled (on_found f a)
    go (Ok v) h = r v
    go (Err n) h = Ruled.ended h
ruled_then f (Ruled.asks {k = k} g) r = Ruled.asks (λ y. ruled_then {t = k y} f (g y) r)
ruled_then f (Ruled.tests e g) r = Ruled.tests (ap (λ (t : Search). and_then t f) e) (ruled_then f g r)
