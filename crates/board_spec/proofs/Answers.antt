-- Which answer each call gives when, on any bytes. Assumes nothing.
use mathlib.Core.Path.{◌≡◌, refl, sym, ap, ◌∙◌, subst}
use Prim.Native.Nat.{ℕ, ◌+◌, ◌≤◌}
use mathlib.Core.Bool.{Bool, true, false, ◌&&◌}
use native.Mathlib.Omega.{arith}
use lib.ListN.{length}
use lib.Dec.{ltb, eqb}
use borrow.Author.Tests.{ltb-false, eq-eqb, ne_eqb, eqb-true, eqb-false}
use Rattle.buf.specs.Bytes.{u64_at}
use Rattle.schedule.specs.Spans.{span_of}
use Rattle.schedule.specs.Schedule.{Verdict, accept, refuse, check}
use Rattle.schedule.specs.Refusals.{SubmitTests, TurnTests, LookTests, QuoteTests}
use Rattle.schedule.proofs.Refusals.{refusals}
use Rattle.schedule.proofs.Tests.{span_within}
use Rattle.board_spec.specs.Layout.{turns_at}
use Rattle.board_spec.specs.Quarter.{load_state, first_kind, quarter_fits, DidQuarter, turn_quarter}
use Rattle.board_spec.specs.Board.{quarter_of, served_in, held_in, turns_in, kind_in, board_fits, Answer, Turned, Shown, refused_did, submit_judged, submit_board, turn_did, turn_judged, turn_board, look_judged, look_board, quote_judged, quote_board}
use Rattle.board_spec.specs.Run.{Bytes}
use Rattle.board_spec.specs.Demand1.{Breaks6, another_length, turn_outside, quarter_outside, Passes6, SubmitAnswers, TurnAnswers, LookAnswers, QuoteAnswers}
use Rattle.board_spec.proofs.Tested.{quarter_tested, board_tested, tested_board}
use Rattle.board_spec.proofs.AnyQuarter.{turn_idle, turn_out, turn_on}

-- ---- 6

-- whether the quarter of a queue is in range
abbrev Fits : Bytes → Bool → ℕ → Type 0
Fits b t queue = quarter_fits (quarter_of b queue) ≡ t

pub breaks : (b : Bytes) → board_fits b ≡ false → Breaks6 b
unfolding board_fits
breaks b e = go _ _ _ _ _ _ refl refl refl refl refl refl e
  where
    go : (l t q₀ q₁ q₂ q₃ : Bool) → eqb (length b) 24584 ≡ l → ltb (served_in b) 4 ≡ t → Fits b q₀ 0 → Fits b q₁ 1 → Fits b q₂ 2 → Fits b q₃ 3 → (l && (t && (q₀ && (q₁ && (q₂ && q₃))))) ≡ false → Breaks6 b
    go false t q₀ q₁ q₂ q₃ el et e₀ e₁ e₂ e₃ h = another_length (eqb-false (length b) 24584 el)
    go true false q₀ q₁ q₂ q₃ el et e₀ e₁ e₂ e₃ h = let z = ltb-false (served_in b) 4 et in turn_outside (omega arith)
    go true true false q₁ q₂ q₃ el et e₀ e₁ e₂ e₃ h = quarter_outside 0 (omega arith) e₀
    go true true true false q₂ q₃ el et e₀ e₁ e₂ e₃ h = quarter_outside 1 (omega arith) e₁
    go true true true true false q₃ el et e₀ e₁ e₂ e₃ h = quarter_outside 2 (omega arith) e₂
    go true true true true true q₃ el et e₀ e₁ e₂ e₃ h = quarter_outside 3 (omega arith) (e₃ ∙ h)

both_ways : (t : Bool) → t ≡ true → t ≡ false → ⊥
both_ways t e f = let z : ◌≡◌ {A = ℕ} 0 1 = cc in omega arith

breaks_not : (b : Bytes) → Breaks6 b → Passes6 b → ⊥
breaks_not b (another_length n) p = n p.length_is
breaks_not b (turn_outside h) p = let t = p.turn_inside in omega arith
breaks_not b (quarter_outside queue h f) p = both_ways _ (p.quarters_inside queue h) f

pub breaks_false : (b : Bytes) → Breaks6 b → board_fits b ≡ false
breaks_false b h = go (board_fits b) refl
  where
    go : (t : Bool) → board_fits b ≡ t → board_fits b ≡ false
    go true e = absurd (breaks_not b h (board_tested b e))
    go false e = e

-- ---- what a quarter in range says of its jobs

turns_most : (q : Bytes) → quarter_fits q ≡ true → u64_at q turns_at + 1 ≤ span_of (first_kind q)
turns_most q e = go (eqb (u64_at q turns_at) 0) refl
  where
    go : (t : Bool) → eqb (u64_at q turns_at) 0 ≡ t → u64_at q turns_at + 1 ≤ span_of (first_kind q)
    go true z = let none = eqb-true (u64_at q turns_at) 0 z in let s = span_within (first_kind q) in omega arith
    go false z = let n = eqb-false (u64_at q turns_at) 0 z in let r = ((quarter_tested q e).running (omega arith)).below in omega arith

pub held_most : (b : Bytes) → Passes6 b → (queue : ℕ) → queue ≤ 3 → held_in b queue ≤ 8
held_most b p queue h = (quarter_tested (quarter_of b queue) (p.quarters_inside queue h)).few

-- ---- submit

module _ (b : Bytes) (queue kind n : ℕ) (block : Bytes) where
  pub submit_holds : SubmitAnswers b queue kind n block (submit_board b queue kind n block).answer
  unfolding submit_board submit_judged refused_did
  submit_holds = go (board_fits b) refl _ (refusals.submit queue kind n (length block) (held_in b queue)).holds
    where
      go : (t : Bool) → board_fits b ≡ t → (v : Verdict) → SubmitTests queue kind n (length block) (held_in b queue) v → SubmitAnswers b queue kind n block (submit_judged b queue kind n block (check t 6 v)).answer
      go false e v s = SubmitAnswers.refused_6 (breaks b e)
      go true e accept s = SubmitAnswers.accepted (board_tested b e) s
      go true e (refuse number) s = SubmitAnswers.refused (board_tested b e) s

  pub submit_only : (a : Answer) → SubmitAnswers b queue kind n block a → (submit_board b queue kind n block).answer ≡ a
  unfolding submit_board submit_judged refused_did
  submit_only a (SubmitAnswers.refused_6 h) = rw (breaks_false b h)
  submit_only a (SubmitAnswers.refused {number} p s) = rw (tested_board b p, (refusals.submit queue kind n (length block) (held_in b queue)).only (refuse number) s)
  submit_only a (SubmitAnswers.accepted p s) = rw (tested_board b p, (refusals.submit queue kind n (length block) (held_in b queue)).only accept s)

-- ---- turn

module _ (b buffer : Bytes) where
  abbrev t : ℕ
  t = served_in b

  abbrev turned : ℕ
  turned = (turn_quarter t (quarter_of b t) buffer).answer

  -- the served queue's first job, if any, and whether this is its span's last turn
  idle_0 : held_in b t ≡ 0 → turned ≡ 0
  idle_0 e = ap (λ (d : DidQuarter). d.answer) (turn_idle t (quarter_of b t) buffer (eq-eqb _ _ e))

  on_0 : (held_in b t ≡ 0 → ⊥) → (turns_in b t + 1 ≡ span_of (kind_in b t) → ⊥) → turned ≡ 0
  on_0 n m = ap (λ (d : DidQuarter). d.answer) (turn_on t (quarter_of b t) buffer (ne_eqb _ _ n) (ne_eqb _ _ m))

  last_1 : (held_in b t ≡ 0 → ⊥) → turns_in b t + 1 ≡ span_of (kind_in b t) → turned ≡ 1
  last_1 n e = ap (λ (d : DidQuarter). d.answer) (turn_out t (quarter_of b t) buffer (ne_eqb _ _ n) (eq-eqb _ _ e))

  turned_by : Passes6 b → TurnTests (length buffer) accept → TurnAnswers b buffer (Turned turned)
  turned_by p s = go (eqb (held_in b t) 0) (eqb (turns_in b t + 1) (span_of (kind_in b t))) refl refl
    where
      answers : (x : ℕ) → turned ≡ x → TurnAnswers b buffer (Turned x) → TurnAnswers b buffer (Turned turned)
      answers x e a = subst (λ (y : ℕ). TurnAnswers b buffer (Turned y)) (sym e) a

      go : (x y : Bool) → eqb (held_in b t) 0 ≡ x → eqb (turns_in b t + 1) (span_of (kind_in b t)) ≡ y → TurnAnswers b buffer (Turned turned)
      go true y e f = let z = eqb-true (held_in b t) 0 e in answers 0 (idle_0 z) (TurnAnswers.no_job p s z)
      go false true e f =
          let n = eqb-false (held_in b t) 0 e in
          let l = eqb-true (turns_in b t + 1) (span_of (kind_in b t)) f in
          answers 1 (last_1 n l) (TurnAnswers.last p s (omega arith) l)
      go false false e f =
          let n = eqb-false (held_in b t) 0 e in
          let m = eqb-false (turns_in b t + 1) (span_of (kind_in b t)) f in
          let most = turns_most (quarter_of b t) (p.quarters_inside t p.turn_inside) in
          answers 0 (on_0 n m) (TurnAnswers.before_last p s (omega arith) (omega arith))

  pub turn_holds : TurnAnswers b buffer (turn_board b buffer).answer
  unfolding turn_board turn_judged turn_did refused_did
  turn_holds = go (board_fits b) refl _ (refusals.turn (length buffer)).holds
    where
      go : (x : Bool) → board_fits b ≡ x → (v : Verdict) → TurnTests (length buffer) v → TurnAnswers b buffer (turn_judged b buffer (check x 6 v)).answer
      go false e v s = TurnAnswers.refused_6 (breaks b e)
      go true e accept s = turned_by (board_tested b e) s
      go true e (refuse number) s = TurnAnswers.refused (board_tested b e) s

  -- a turn that is accepted
  accepts : Passes6 b → TurnTests (length buffer) accept → (turn_board b buffer).answer ≡ Turned turned
  unfolding turn_board turn_judged turn_did
  accepts p s = rw (tested_board b p, (refusals.turn (length buffer)).only accept s)

  pub turn_only : (a : Answer) → TurnAnswers b buffer a → (turn_board b buffer).answer ≡ a
  turn_only a (TurnAnswers.refused_6 h) = unfold turn_board turn_judged refused_did in (rw (breaks_false b h))
  turn_only a (TurnAnswers.refused {number} p s) = unfold turn_board turn_judged refused_did in (rw (tested_board b p, (refusals.turn (length buffer)).only (refuse number) s))
  turn_only a (TurnAnswers.no_job p s e) = accepts p s ∙ ap Turned (idle_0 e)
  turn_only a (TurnAnswers.before_last p s h l) = accepts p s ∙ ap Turned (on_0 (λ e. omega arith) (λ e. omega arith))
  turn_only a (TurnAnswers.last p s h l) = accepts p s ∙ ap Turned (last_1 (λ e. omega arith) l)

-- ---- look

module _ (b : Bytes) (queue : ℕ) where
  looks : (p : Passes6 b) → LookTests queue (turns_in b queue) accept → LookAnswers b queue (Shown (load_state (quarter_of b queue)).evaluations (load_state (quarter_of b queue)).latest)
  unfolding load_state
  looks p (LookTests.passed q h) = LookAnswers.shown p (LookTests.passed q h) ((quarter_tested (quarter_of b queue) (p.quarters_inside queue q)).running h).held

  pub look_holds : LookAnswers b queue (look_board b queue).answer
  unfolding look_board look_judged refused_did
  look_holds = go (board_fits b) refl _ (refusals.look queue (turns_in b queue)).holds
    where
      go : (x : Bool) → board_fits b ≡ x → (v : Verdict) → LookTests queue (turns_in b queue) v → LookAnswers b queue (look_judged b queue (check x 6 v)).answer
      go false e v s = LookAnswers.refused_6 (breaks b e)
      go true e accept s = looks (board_tested b e) s
      go true e (refuse number) s = LookAnswers.refused (board_tested b e) s

  pub look_only : (a : Answer) → LookAnswers b queue a → (look_board b queue).answer ≡ a
  unfolding look_board look_judged refused_did load_state
  look_only a (LookAnswers.refused_6 h) = rw (breaks_false b h)
  look_only a (LookAnswers.refused {number} p s) = rw (tested_board b p, (refusals.look queue (turns_in b queue)).only (refuse number) s)
  look_only a (LookAnswers.shown p s h) = rw (tested_board b p, (refusals.look queue (turns_in b queue)).only accept s)

-- ---- quote

module _ (b : Bytes) (queue kind : ℕ) where
  pub quote_holds : QuoteAnswers b queue kind (quote_board b queue kind).answer
  unfolding quote_board quote_judged refused_did
  quote_holds = go (board_fits b) refl _ (refusals.quote queue kind (held_in b queue)).holds
    where
      go : (x : Bool) → board_fits b ≡ x → (v : Verdict) → QuoteTests queue kind (held_in b queue) v → QuoteAnswers b queue kind (quote_judged b queue kind (check x 6 v)).answer
      go false e v s = QuoteAnswers.refused_6 (breaks b e)
      go true e accept s = QuoteAnswers.quoted (board_tested b e) s
      go true e (refuse number) s = QuoteAnswers.refused (board_tested b e) s

  pub quote_only : (a : Answer) → QuoteAnswers b queue kind a → (quote_board b queue kind).answer ≡ a
  unfolding quote_board quote_judged refused_did
  quote_only a (QuoteAnswers.refused_6 h) = rw (breaks_false b h)
  quote_only a (QuoteAnswers.refused {number} p s) = rw (tested_board b p, (refusals.quote queue kind (held_in b queue)).only (refuse number) s)
  quote_only a (QuoteAnswers.quoted p s) = rw (tested_board b p, (refusals.quote queue kind (held_in b queue)).only accept s)
