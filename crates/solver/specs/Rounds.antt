-- Searches that go round by round: to their end, one round on, and a part followed by the rest. Definitions only.
use Rattle.std.specs.Prelude.{◌≡◌, ℕ, zero, suc, ◌+◌, Ok, Err}
use Rattle.std.specs.declared.ops.ControlFlow.TheVariants.{Break, Continue}
use Rattle.std.specs.ControlFlow.{MatchControlFlow}
use Rattle.solver.specs.declared.types.Values.{Values}
use Rattle.solver.specs.declared.types.Refusal.{Refusal}
use Rattle.solver.specs.declared.types.Ran.{Ran}
use Rattle.solver.specs.declared.types.Spot.{Spot}
use Rattle.solver.specs.Answer.{Answer, Progress}

-- where a round leads, n being left after it: the end, the refusal where none is left, or the next place
unfoldable pub onward : {S : Type 0} → ℕ → Refusal → Progress S → Progress (Spot S)
onward n r (Break a) = Break a
onward zero r (Continue s) = Break (Err r)
onward (suc n) r (Continue s) = Continue (record { rounds = n; at = s })

-- the end of at most n rounds from s on, each leading where R says; m were made before, and the refusal r comes after them
unfoldable pub RunsRounds : {S : Type 0} → (R : S → Progress S → Type 0) → (r : Refusal) → (m n : ℕ) → S → Ran → Type 0
RunsRounds R r m zero s e = e ≡ record { answer = Err r; evaluations = m }
RunsRounds {S} R r m (suc n) s e = (o : Progress S) × R s o × MatchControlFlow o (λ s'. RunsRounds R r (m + 1) n s' e) (λ a. e ≡ record { answer = a; evaluations = m + 1 })

-- the part s with the rest that R says of what it found; its refusal is the answer
abbrev pub FollowsAnswer : (R : Values → Ran → Type 0) → (s e : Ran) → Answer → Type 0
FollowsAnswer R s e (Ok v) = (r : Ran) × R v r × (e ≡ record { answer = r.answer; evaluations = s.evaluations + r.evaluations })
FollowsAnswer R s e (Err q) = e ≡ s

abbrev pub Follows : (R : Values → Ran → Type 0) → (s e : Ran) → Type 0
Follows R s e = FollowsAnswer R s e s.answer
