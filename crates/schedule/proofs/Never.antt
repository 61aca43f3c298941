-- A schedule never refuses by 6. Assumes nothing.
use mathlib.Core.Path.{◌≡◌}
use Prim.Native.Nat.{ℕ}
use mathlib.Core.Bool.{Bool, true, false}
use mathlib.Core.List.{List, [], ◌∷◌}
use native.Mathlib.Omega.{arith}
use lib.ListN.{length}
use lib.Dec.{leb, ltb, eqb}
use Rattle.schedule.specs.Spans.{kind_fits, count_fits}
use Rattle.schedule.specs.Schedule.{Held, Schedule, Call, Submit, Turn, Look, Quote, refused, Verdict, accept, refuse, check, submit_verdict, turn_verdict, look_verdict, quote_verdict, turns_of, verdict, looked_at, submitted, turn_taken, acts, judged, happens}

IsNot6 : (v : Verdict) → Type 0
IsNot6 v = v ≡ refuse 6 → ⊥

accept_not : IsNot6 accept
unfolding IsNot6
accept_not e = let z : ◌≡◌ {A = ℕ} 0 1 = cc in omega arith

refuse_not : (number : ℕ) → (number ≡ 6 → ⊥) → IsNot6 (refuse number)
unfolding IsNot6
refuse_not number h e = h (cc)

check_not : (ok : Bool) (number : ℕ) (next : Verdict) → (number ≡ 6 → ⊥) → IsNot6 next → IsNot6 (check ok number next)
check_not true number next h k = k
check_not false number next h k = refuse_not number h

pub verdict_not_6 : {D : Type 0} (size : D → ℕ) (σ : Schedule D) (c : Call D) → verdict size σ c ≡ refuse 6 → ⊥
unfolding verdict submit_verdict turn_verdict look_verdict quote_verdict IsNot6
verdict_not_6 size σ (Submit queue kind n block) =
    check_not (leb queue 3) 1 _ (omega arith)
    (check_not (kind_fits kind) 2 _ (omega arith)
    (check_not (count_fits kind n) 3 _ (omega arith)
    (check_not (eqb (size block) 640) 8 _ (omega arith)
    (check_not (ltb (length (σ.queues queue).jobs) 8) 4 _ (omega arith) accept_not))))
verdict_not_6 size σ (Turn buffer) = check_not (leb 64 (size buffer)) 5 _ (omega arith) accept_not
verdict_not_6 size σ (Look queue) =
    check_not (leb queue 3) 1 _ (omega arith) (check_not (leb 1 (turns_of (σ.queues queue).jobs)) 7 _ (omega arith) accept_not)
verdict_not_6 size σ (Quote queue kind) =
    check_not (leb queue 3) 1 _ (omega arith)
    (check_not (kind_fits kind) 2 _ (omega arith) (check_not (ltb (length (σ.queues queue).jobs) 8) 4 _ (omega arith) accept_not))

looked_not : {D : Type 0} (js : List (Held D)) → looked_at js ≡ refused 6 → ⊥
unfolding looked_at
looked_not [] e = let z : ◌≡◌ {A = ℕ} 7 6 = cc in omega arith
looked_not (j ∷ js) e = let z : ◌≡◌ {A = ℕ} 0 1 = cc in omega arith

acts_not : {D : Type 0} (σ : Schedule D) (c : Call D) → (acts σ c).event ≡ refused 6 → ⊥
unfolding acts submitted turn_taken
acts_not σ (Submit queue kind n block) e = let z : ◌≡◌ {A = ℕ} 0 1 = cc in omega arith
acts_not σ (Turn buffer) e = let z : ◌≡◌ {A = ℕ} 0 1 = cc in omega arith
acts_not σ (Look queue) e = looked_not (σ.queues queue).jobs e
acts_not σ (Quote queue kind) e = let z : ◌≡◌ {A = ℕ} 0 1 = cc in omega arith

judged_not : {D : Type 0} (σ : Schedule D) (c : Call D) (v : Verdict) → (v ≡ refuse 6 → ⊥) → (judged σ c v).event ≡ refused 6 → ⊥
unfolding judged
judged_not σ c accept h e = acts_not σ c e
judged_not σ c (refuse number) h e = h (cc)

pub never_6 : {D : Type 0} (size : D → ℕ) (σ : Schedule D) (c : Call D) → (happens size σ c).event ≡ refused 6 → ⊥
unfolding happens
never_6 size σ c e = judged_not σ c (verdict size σ c) (verdict_not_6 size σ c) e
