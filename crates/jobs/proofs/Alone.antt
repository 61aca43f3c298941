-- One job alone on a board, from its submit to its record: every fourth turn is its own, and its span's last writes the record. Assumes nothing.
use mathlib.Core.Path.{◌≡◌, refl, ap, ◌∙◌}
use Prim.Native.Nat.{ℕ, ◌+◌, ◌-◌, ◌*◌, ◌/◌, ◌%◌, ◌≤◌, ◌<◌}
use mathlib.Core.Bool.{Bool, true, false, cond}
use mathlib.Core.List.{List, [], ◌∷◌}
use mathlib.Core.Option.{Option, none, some}
use native.Mathlib.Omega.{arith}
use lib.ListN.{length}
use lib.Dec.{eqb}
use borrow.Author.Tests.{le-leb, eq-eqb, ne_eqb, eqb-true, eqb-false}
use Rattle.buf.specs.Bytes.{splice}
use Rattle.schedule.specs.Spans.{span_of}
use Rattle.schedule.specs.Schedule.{Held, Schedule, Submit, Turn, Undergone, Verdict, accept, refuse, turn_verdict, verdict, serves, onward, turned, undergo, put, entered, with_jobs, submitted, turn_taken, acts, judged, happens, fresh}
use Rattle.schedule.proofs.Tests.{span_within}
use Rattle.board_spec.specs.Board.{Refused, Ticket, Turned, submit_board, turn_board}
use Rattle.board_spec.specs.Run.{Bytes, zero_board, did, Reply, reply_by, buffer_of, record_of, turn_reply, reply_of}
use Rattle.board_spec.specs.Rep.{Rep}
use Rattle.board_spec.proofs.Whole.{simulates, zero_rep}
use Rattle.jobs.specs.Line.{job_after, record_for, verdict_of}

-- the board after `made` turns of any queue, none of which was the job's last
pub record Alone (kind n : ℕ) (block : Bytes) (made : ℕ) (b : Bytes) : Type 0 where
  pub schedule : Schedule Bytes
  pub rep : Rep schedule b
  pub turn : schedule.turn ≡ made % 4
  pub first : (schedule.queues 0).jobs ≡ job_after kind n block ((made + 3) / 4) ∷ []
  pub others : (q : ℕ) → 1 ≤ q → (schedule.queues q).jobs ≡ []
  pub early : made ≤ 4 * (span_of kind - 1)

-- ---- the submit

submit_happens : (kind n : ℕ) (block : Bytes) (v : Verdict) → verdict_of kind n block ≡ v
    → happens length fresh (Submit 0 kind n block) ≡ judged fresh (Submit 0 kind n block) v
unfolding happens verdict verdict_of fresh
submit_happens kind n block v e = ap (judged fresh (Submit 0 kind n block)) e

pub submit_refused : (kind n : ℕ) (block : Bytes) (number : ℕ) → verdict_of kind n block ≡ refuse number → (submit_board zero_board 0 kind n block).answer ≡ Refused number
unfolding did judged reply_by reply_of buffer_of
submit_refused kind n block number e =
    let s = simulates fresh zero_board zero_rep (Submit 0 kind n block) in
    ap (λ (r : Reply). r.answer) s.reply ∙ rw (submit_happens kind n block (refuse number) e)

pub record Begun (kind n : ℕ) (block : Bytes) : Type 0 where
  pub answer : (submit_board zero_board 0 kind n block).answer ≡ Ticket 0
  pub alone : Alone kind n block 0 (submit_board zero_board 0 kind n block).board

pub submit_accepted : (kind n : ℕ) (block : Bytes) → verdict_of kind n block ≡ accept → Begun kind n block
unfolding did judged acts submitted reply_by reply_of buffer_of fresh entered put job_after
submit_accepted kind n block e =
    let s = simulates fresh zero_board zero_rep (Submit 0 kind n block) in
    let h = submit_happens kind n block accept e in
    let w = span_within kind in
    record {
      answer = ap (λ (r : Reply). r.answer) s.reply ∙ rw h;
      alone = record { schedule = (happens length fresh (Submit 0 kind n block)).after; rep = s.rep; turn = rw h; first = rw h; others = λ q l. rw (h, ne_eqb q 0 (λ (z : q ≡ 0). omega arith)); early = omega arith };
    }

-- ---- a turn

turn_happens : (σ : Schedule Bytes) (buffer : Bytes) → 64 ≤ length buffer → happens length σ (Turn buffer) ≡ turn_taken σ
unfolding happens verdict turn_verdict judged acts
turn_happens σ buffer h = rw (le-leb 64 (length buffer) h)

-- the turn's answer and buffer, told by what the served queue hands out
turn_reply_lem : (σ : Schedule Bytes) (b buffer : Bytes) (o : Option (Held Bytes)) → Rep σ b → 64 ≤ length buffer → (undergo (σ.queues σ.turn).jobs).out ≡ o
    → reply_by (turn_board b buffer) ≡ turn_reply buffer σ.turn o
unfolding did turn_taken serves reply_of buffer_of
turn_reply_lem σ b buffer o r h e = (simulates σ b r (Turn buffer)).reply ∙ rw (turn_happens σ buffer h, e)

turn_rep : (σ : Schedule Bytes) (b buffer : Bytes) → Rep σ b → 64 ≤ length buffer → Rep (turn_taken σ).after (turn_board b buffer).board
unfolding did
turn_rep σ b buffer r h = rw (turn_happens σ buffer h) at (simulates σ b r (Turn buffer)).rep

-- a job's turn: its last or not
own_last : (kind n : ℕ) (block : Bytes) (turns : ℕ) → turns + 1 ≡ span_of kind → (undergo (job_after kind n block turns ∷ [])).out ≡ some (job_after kind n block (span_of kind))
unfolding undergo turned job_after
own_last kind n block turns e = rw (eq-eqb _ _ e, e)

own_early : (kind n : ℕ) (block : Bytes) (turns : ℕ) → (turns + 1 ≡ span_of kind → ⊥)
    → undergo (job_after kind n block turns ∷ []) ≡ record { jobs = job_after kind n block (turns + 1) ∷ []; out = none }
unfolding undergo turned job_after
own_early kind n block turns e = rw (ne_eqb _ _ e)

-- the next queue
onward_mod : (t m : ℕ) → t ≡ m % 4 → onward t ≡ (m + 1) % 4
unfolding onward
onward_mod t m e = go (eqb t 3) refl
  where
    go : (x : Bool) → eqb t 3 ≡ x → cond x 0 (t + 1) ≡ (m + 1) % 4
    go true d = let h : t ≡ 3 = eqb-true t 3 d in omega arith
    go false d = let h : t ≡ 3 → ⊥ = eqb-false t 3 d in omega arith

after_jobs : (σ : Schedule Bytes) (js : List (Held Bytes)) → (undergo (σ.queues σ.turn).jobs).jobs ≡ js → (q : ℕ) → ((turn_taken σ).after.queues q).jobs ≡ cond (eqb q σ.turn) js (σ.queues q).jobs
unfolding turn_taken serves put with_jobs
after_jobs σ js e q = go (eqb q σ.turn)
  where
    go : (x : Bool) → (cond x (record { count = (σ.queues σ.turn).count; jobs = (undergo (σ.queues σ.turn).jobs).jobs }) (σ.queues q)).jobs ≡ cond x js (σ.queues q).jobs
    go true = e
    go false = refl

cond_nil : (x : Bool) (js : List (Held Bytes)) → js ≡ [] → cond x [] js ≡ []
cond_nil true js e = refl
cond_nil false js e = e

cond_served : (t : ℕ) (js ys : List (Held Bytes)) → t ≡ 0 → cond (eqb 0 t) js ys ≡ js
cond_served t js ys e = rw e

pub record Again (kind n : ℕ) (block : Bytes) (made : ℕ) (b r : Bytes) : Type 0 where
  pub answer : (turn_board b r).answer ≡ Turned 0
  pub buffer : (turn_board b r).buffer ≡ r
  pub alone : Alone kind n block (made + 1) (turn_board b r).board

pub record Last (kind n : ℕ) (block : Bytes) (b r : Bytes) : Type 0 where
  pub answer : (turn_board b r).answer ≡ Turned 1
  pub buffer : (turn_board b r).buffer ≡ splice r 0 (record_for kind n block)

module _ (kind n : ℕ) (block : Bytes) (made : ℕ) (b buffer : Bytes) (a : Alone kind n block made b) (h : 64 ≤ length buffer) where
  abbrev σ : Schedule Bytes
  σ = a.schedule

  -- a turn of the job's queue
  own_jobs : made % 4 ≡ 0 → (σ.queues σ.turn).jobs ≡ job_after kind n block (made / 4) ∷ []
  own_jobs z =
      let e : (made + 3) / 4 ≡ made / 4 = omega arith in
      ap (λ (q : ℕ). (σ.queues q).jobs) (a.turn ∙ z) ∙ a.first ∙ ap (λ (k : ℕ). job_after kind n block k ∷ []) e

  -- a turn of another queue, which holds nothing
  no_jobs : (made % 4 ≡ 0 → ⊥) → (σ.queues σ.turn).jobs ≡ []
  no_jobs z = a.others σ.turn (let t : σ.turn ≡ made % 4 = a.turn in omega arith)

  pub turn_last : made ≡ 4 * (span_of kind - 1) → Last kind n block b buffer
  unfolding reply_by turn_reply record_for
  turn_last e =
      let w = span_within kind in
      let z : made % 4 ≡ 0 = omega arith in
      let l : made / 4 + 1 ≡ span_of kind = omega arith in
      let t : σ.turn ≡ 0 = a.turn ∙ z in
      let o = ap (λ (js : List (Held Bytes)). (undergo js).out) (own_jobs z) ∙ own_last kind n block (made / 4) l in
      let r = turn_reply_lem σ b buffer _ a.rep h o in
      record { answer = ap (λ (x : Reply). x.answer) r; buffer = ap (λ (x : Reply). x.buffer) r ∙ ap (λ (q : ℕ). splice buffer 0 (record_of q (job_after kind n block (span_of kind)))) t }

  -- a turn that hands nothing out, after which the served queue holds the jobs js
  silent : (js : List (Held Bytes)) → undergo (σ.queues σ.turn).jobs ≡ record { jobs = js; out = none } → made < 4 * (span_of kind - 1)
      → cond (eqb 0 σ.turn) js (σ.queues 0).jobs ≡ job_after kind n block ((made + 1 + 3) / 4) ∷ [] → ((q : ℕ) → 1 ≤ q → cond (eqb q σ.turn) js (σ.queues q).jobs ≡ [])
      → Again kind n block made b buffer
  unfolding reply_by turn_reply turn_taken serves
  silent js e k first others =
      let r = turn_reply_lem σ b buffer none a.rep h (ap (λ (u : Undergone Bytes). u.out) e) in
      record {
        answer = ap (λ (x : Reply). x.answer) r;
        buffer = ap (λ (x : Reply). x.buffer) r;
        alone =
            record {
              schedule = (turn_taken σ).after;
              rep = turn_rep σ b buffer a.rep h;
              turn = onward_mod σ.turn made a.turn;
              first = after_jobs σ js (ap (λ (u : Undergone Bytes). u.jobs) e) 0 ∙ first;
              others = λ q l. after_jobs σ js (ap (λ (u : Undergone Bytes). u.jobs) e) q ∙ others q l;
              early = omega arith;
            };
      }

  pub turn_again : made < 4 * (span_of kind - 1) → Again kind n block made b buffer
  unfolding undergo
  turn_again k = go (eqb (made % 4) 0) refl
    where
      go : (x : Bool) → eqb (made % 4) 0 ≡ x → Again kind n block made b buffer
      go true e =
          let z : made % 4 ≡ 0 = eqb-true (made % 4) 0 e in
          let t : σ.turn ≡ 0 = a.turn ∙ z in
          let f : made / 4 + 1 ≡ (made + 1 + 3) / 4 = omega arith in
          let l : made / 4 + 1 ≡ span_of kind → ⊥ = λ y. omega arith in
          silent (job_after kind n block (made / 4 + 1) ∷ []) (ap undergo (own_jobs z) ∙ own_early kind n block (made / 4) l) k
          (cond_served σ.turn _ _ t ∙ ap (λ (i : ℕ). job_after kind n block i ∷ []) f)
          (λ q p. let y : q ≡ σ.turn → ⊥ = λ i. omega arith in rw (ne_eqb _ _ y) (a.others q p))
      go false e =
          let z : made % 4 ≡ 0 → ⊥ = eqb-false (made % 4) 0 e in
          let t : σ.turn ≡ made % 4 = a.turn in
          let f : (made + 3) / 4 ≡ (made + 1 + 3) / 4 = omega arith in
          let y : 0 ≡ σ.turn → ⊥ = λ i. omega arith in
          silent [] (ap undergo (no_jobs z)) k
          (rw (ne_eqb _ _ y) (a.first ∙ ap (λ (i : ℕ). job_after kind n block i ∷ []) f))
          (λ q p. cond_nil (eqb q σ.turn) _ (a.others q p))
