-- What is seen of a search under way, its count and its latest density: tests that stand first don't change it, and it stays from the end on. Assumes nothing.
use Rattle.std.proofs.Common.{◌≡◌, ℕ, zero, suc, ◌+◌, ◌≤◌, min, Bool, sym, refl, ap, ◌∙◌, arith}
use native.Mathlib.Nat.{zero-min, suc-min-suc}
use lib.Ieee.{Float}
use Rattle.solver.specs.Answer.{Answer}
use Rattle.solver.specs.declared.types.Ran.{Ran}
use Rattle.solver.specs.Search.{Query, Yield, density_of, Evaluator, Search, done, ask, test, run, settle, Going, next_of, next, after}
use Rattle.solver.proofs.Runs.{run_from}
use Rattle.stepping.specs.States.{Sight}

abbrev pub seen : Going → Sight
seen g = record { evaluations = g.evaluations; density = g.latest }

abbrev at : Search → ℕ → Float → Going
at t n d = record { left = t; evaluations = n; latest = d }

module _ (ok : Float → Bool) (ev : Evaluator) where
  next_settled : (t : Search) (n : ℕ) (d : Float) → next_of ok ev (settle ok t) n d ≡ next_of ok ev t n d
  unfolding next_of settle
  next_settled (done a) n d = refl
  next_settled (ask q k) n d = refl
  next_settled (test x k) n d = next_settled (k (ok x)) n d

  pub seen_settled : (j : ℕ) (t : Search) (n : ℕ) (d : Float) → seen (after ok ev j (at (settle ok t) n d)) ≡ seen (after ok ev j (at t n d))
  unfolding after
  seen_settled zero t n d = refl
  seen_settled (suc j) t n d = ap (λ (g : Going). seen (after ok ev j g)) (next_settled t n d)

  seen_tested : (j : ℕ) (x : Float) (k : Bool → Search) (n : ℕ) (d : Float) → seen (after ok ev j (at (test x k) n d)) ≡ seen (after ok ev j (at (k (ok x)) n d))
  unfolding after next_of
  seen_tested zero x k n d = refl
  seen_tested (suc j) x k n d = refl

  seen_done : (j : ℕ) (a : Answer) (n : ℕ) (d : Float) → seen (after ok ev j (at (done a) n d)) ≡ record { evaluations = n; density = d }
  unfolding after next_of
  seen_done zero a n d = refl
  seen_done (suc j) a n d = seen_done j a n d

  -- the evaluations of the tree that an evaluation leads to
  one_less : (u : Search) → (run ok ev 1 u).evaluations ≡ suc (run ok ev 0 u).evaluations
  one_less u = let e = ap (λ (r : Ran). r.evaluations) (run_from ok ev 1 u) in omega arith

  -- "the lesser of j and all evaluations"
  abbrev Least : Search → Type 0
  Least t = (j n : ℕ) (d : Float) → seen (after ok ev j (at t n d)) ≡ seen (after ok ev (min j (run ok ev 0 t).evaluations) (at t n d))

  asked_least : (q : Query) (k : Yield q → Search) → Least (k (ev q)) → Least (ask q k)
  asked_least q k h zero n d = sym (ap (λ (i : ℕ). seen (after ok ev i (at (ask q k) n d))) (zero-min (run ok ev 0 (ask q k)).evaluations))
  asked_least q k h (suc j) n d =
      let u = k (ev q) in
      let r = (run ok ev 0 u).evaluations in
      let i : min (suc j) (run ok ev 0 (ask q k)).evaluations ≡ suc (min j r) = unfold run in (ap (min (suc j)) (one_less u) ∙ suc-min-suc j r) in
      let ρ = density_of q in
      further j ∙ seen_settled j u (n + 1) ρ ∙ h j (n + 1) ρ ∙ sym (seen_settled (min j r) u (n + 1) ρ) ∙ sym (further (min j r)) ∙ sym (ap (λ (m : ℕ). seen (after ok ev m (at (ask q k) n d))) i)
    where
      further : (m : ℕ) → seen (after ok ev (suc m) (at (ask q k) n d)) ≡ seen (after ok ev m (at (settle ok (k (ev q))) (n + 1) (density_of q)))
      further m = unfold after next_of in refl

  pub seen_least : (t : Search) → Least t
  unfolding run
  seen_least (done a) j n d = seen_done j a n d ∙ sym (seen_done (min j 0) a n d)
  seen_least (ask q k) j n d = asked_least q k (seen_least (k (ev q))) j n d
  seen_least (test x k) j n d = seen_tested j x k n d ∙ seen_least (k (ok x)) j n d ∙ sym (seen_tested (min j (run ok ev 0 (k (ok x))).evaluations) x k n d)

  -- the last evaluation of one more
  pub after_last : (j : ℕ) (g : Going) → after ok ev (suc j) g ≡ next ok ev (after ok ev j g)
  unfolding after
  after_last zero g = refl
  after_last (suc j) g = after_last j (next ok ev g)

  -- no more evaluations than steps
  one_more : (t : Search) (n : ℕ) (d : Float) → (next_of ok ev t n d).evaluations ≤ n + 1
  unfolding next_of
  one_more (done a) n d = omega arith
  one_more (ask q k) n d = omega arith
  one_more (test x k) n d = one_more (k (ok x)) n d

  pub after_most : (j : ℕ) (g : Going) → (after ok ev j g).evaluations ≤ g.evaluations + j
  unfolding after
  after_most zero g = omega arith
  after_most (suc j) g = let h = after_most j (next ok ev g) in let k = one_more g.left g.evaluations g.latest in omega arith
