-- A search that goes round by round, by the rounds made and the rounds left. Assumes nothing.
use Rattle.std.proofs.Common.{◌≡◌, refl, sym, ap, ◌∙◌, ℕ, zero, suc, ◌+◌, ◌-◌, ◌<◌, ◌≤◌, arith}
use Rattle.std.specs.Prelude.{Err}
use Rattle.std.specs.declared.ops.ControlFlow.TheVariants.{Break, Continue}
use Rattle.std.specs.ControlFlow.{MatchControlFlow}
use Rattle.solver.specs.declared.types.Refusal.{Refusal}
use Rattle.solver.specs.declared.types.Ran.{Ran}
use Rattle.solver.specs.Answer.{Progress}
use Rattle.solver.specs.Search.{Search, done, refuse, run}
use Rattle.solver.specs.Rounds.{RunsRounds}
use Rattle.solver.proofs.Runs.{ran}
use Rattle.eos.specs.declared.types.Blend.{Blend}

-- the search that a round leads to
unfoldable pub led : {S : Type 0} → Progress S → (S → Search) → Search
led (Break a) again = done a
led (Continue s) again = again s

module _ {S : Type 0} (R : S → Progress S → Type 0) (r : Refusal) where
  -- m of n rounds were made, and the next one, at s, leads to o
  pub one_round : (m n : ℕ) (s : S) (o : Progress S) (e : Ran) → m < n → R s o
      → MatchControlFlow o (λ s'. RunsRounds R r (m + 1) (n - (m + 1)) s' e) (λ a. e ≡ record { answer = a; evaluations = m + 1 })
      → RunsRounds R r m (n - m) s e
  unfolding RunsRounds
  one_round m n s o e l h q = let z : n - m ≡ suc (n - (m + 1)) = omega arith in rw z (o, h, q)

  -- all n were made
  pub all_made : (m n : ℕ) (s : S) → n ≤ m → m ≤ n → RunsRounds R r m (n - m) s (record { answer = Err r; evaluations = n })
  unfolding RunsRounds
  all_made m n s l h = let z : n - m ≡ 0 = omega arith in let y : m ≡ n = omega arith in rw (z, y) refl

  -- a search that goes as R says, by the search that is left with n rounds
  module _ (b : Blend) (from : ℕ → S → Search) (over : (s : S) → from zero s ≡ refuse r)
      (turn : (m n : ℕ) (s : S) (o : Progress S) → R s o → ran b m (from (suc n) s) ≡ ran b (m + 1) (led o (from n))) where
    pub runs_rounds : (m n : ℕ) (s : S) (e : Ran) → RunsRounds R r m n s e → e ≡ ran b m (from n s)
    unfolding RunsRounds run led
    runs_rounds m zero s e h = h ∙ sym (ap (ran b m) (over s))
    runs_rounds m (suc n) s e (Break a, h, q) = q ∙ sym (turn m n s (Break a) h)
    runs_rounds m (suc n) s e (Continue s', h, q) = runs_rounds (m + 1) n s' e q ∙ sym (turn m n s (Continue s') h)
