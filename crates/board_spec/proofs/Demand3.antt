-- Demand 3: one theorem over two runs with the same public fields. Assumes nothing.
use mathlib.Core.Path.{◌≡◌, refl, sym, ap, ◌∙◌}
use Prim.Native.Nat.{ℕ, ◌+◌, ◌≤◌}
use mathlib.Core.Bool.{true}
use mathlib.Core.List.{List, [], ◌∷◌, ◌++◌, map}
use mathlib.Core.Option.{Option, none, some}
use native.Mathlib.Omega.{arith}
use native.Mathlib.Nat.{sub-zero}
use lib.ListN.{length}
use Rattle.buf.specs.Bytes.{part, splice, u64_at}
use Rattle.records.specs.Record.{public_bytes, sealed_at, sealed_of}
use Rattle.records.specs.Demand2.{rust_sealed, clean_request}
use Rattle.records.proofs.Demand2.{demand_2}
use Rattle.records.proofs.RecordLaws.{sealed_alike}
use Rattle.schedule.specs.Spans.{span_of}
use Rattle.schedule.specs.Schedule.{Held, Schedule, Call, Submit, Turn, Look, Quote, Event, refused, accepted, served, looked, quoted, happens, events, after_all, fresh}
use Rattle.schedule.specs.History.{times, queues_served, all_as_accepted, accepted_in, handed_in, left, work, finished}
use Rattle.schedule.proofs.Never as Never
use Rattle.schedule.proofs.Rounds.{Round, round, four_once}
use Rattle.schedule.proofs.Order.{order}
use Rattle.schedule.proofs.OnTime as OnTime
use Rattle.schedule.proofs.Quote.{fresh_sound, sound_kept, sound_call, submit_enters, entered_jobs}
use Rattle.board_spec.specs.Layout.{turn_at}
use Rattle.board_spec.specs.Board.{Refused, Ticket, Did, quarter_of, submit_board, turn_board}
use Rattle.board_spec.specs.Run.{Bytes, Calls, zero_board, did, board_after, Reply, reply_by, buffer_of, record_of, turn_reply, sight_reply, reply_of, fields_of, public_event}
use Rattle.board_spec.specs.Rep.{Rep}
use Rattle.board_spec.specs.Demand3.{Place, board_at, did_at, event_at, Release, sealed_in, Course, held, since, turns_since, handed_since, event_then, IsLast, ended_job, Orderly, SealedAlike, Demand3}
use Rattle.board_spec.proofs.Whole.{Simulates, simulates, zero_rep, turn_others, submit_others}
use Rattle.board_spec.proofs.Runs.{rep_after, run_scheduled, served_by, public_part, sealed_part, public_told, look_unchanged, quote_unchanged, refused_unchanged}

-- ---- what an answer tells of the event

refused_event : (buffer : Bytes) (e : Event Bytes) (number : ℕ) → (reply_of buffer e).answer ≡ Refused number → e ≡ refused number
unfolding reply_of turn_reply sight_reply
refused_event buffer (refused m) number h = cc
refused_event buffer (accepted ticket) number h = cc
refused_event buffer (served queue none) number h = cc
refused_event buffer (served queue (some j)) number h = cc
refused_event buffer (looked j) number h = cc
refused_event buffer (quoted turns) number h = cc

ticket_event : (buffer : Bytes) (e : Event Bytes) (ticket : ℕ) → (reply_of buffer e).answer ≡ Ticket ticket → e ≡ accepted ticket
unfolding reply_of turn_reply sight_reply
ticket_event buffer (refused m) ticket h = cc
ticket_event buffer (accepted t) ticket h = cc
ticket_event buffer (served queue none) ticket h = cc
ticket_event buffer (served queue (some j)) ticket h = cc
ticket_event buffer (looked j) ticket h = cc
ticket_event buffer (quoted turns) ticket h = cc

-- ---- a job that is accepted is the last of its queue

accepted_jobs : (σ : Schedule Bytes) (queue kind n : ℕ) (block : Bytes) (ticket : ℕ) → (happens length σ (Submit queue kind n block)).event ≡ accepted ticket
    → ((happens length σ (Submit queue kind n block)).after.queues queue).jobs ≡ (σ.queues queue).jobs ++ (record { kind = kind; n = n; block = block; ticket = ticket; turns = 0 } ∷ [])
accepted_jobs σ queue kind n block ticket e = entered_jobs length σ queue kind n block ticket (submit_enters length σ queue kind n block ticket e)

open_next : (q : ℕ) (before : Calls) (c : Call Bytes) → OnTime.Open ((happens length (after_all length fresh before) c).after.queues q).jobs
open_next q before c = (sound_call length (after_all length fresh before) c (sound_kept length fresh before fresh_sound)).open_jobs q

module _ (run : Calls) where
  -- the board stands for the schedule at every place
  rep_at : (before : Calls) → Rep (after_all length fresh before) (board_after zero_board before)
  rep_at before = rep_after fresh zero_board zero_rep before

  sim_at : (before : Calls) (c : Call Bytes) → Simulates (did (board_after zero_board before) c) (buffer_of c) (happens length (after_all length fresh before) c)
  sim_at before c = simulates (after_all length fresh before) (board_after zero_board before) (rep_at before) c

  answer_at : (before : Calls) (c : Call Bytes) → (did (board_after zero_board before) c).answer ≡ (reply_of (buffer_of c) (happens length (after_all length fresh before) c).event).answer
  unfolding reply_by
  answer_at before c = ap (λ (x : Reply). x.answer) (sim_at before c).reply

  buffer_at : (before : Calls) (c : Call Bytes) → (did (board_after zero_board before) c).buffer ≡ (reply_of (buffer_of c) (happens length (after_all length fresh before) c).event).buffer
  unfolding reply_by
  buffer_at before c = ap (λ (x : Reply). x.buffer) (sim_at before c).reply

  -- ---- records

  record_is : (x : Release run) → (did_at x.place).buffer ≡ splice (buffer_of x.place.call) 0 (record_of x.queue x.job)
  unfolding did_at board_at event_at reply_of turn_reply
  record_is x = buffer_at x.place.before x.place.call ∙ ap (λ (e : Event Bytes). (reply_of (buffer_of x.place.call) e).buffer) x.handed

  room_at : (x : Release run) → 64 ≤ length (buffer_of x.place.call)
  unfolding event_at
  room_at x = (served_by (after_all length fresh x.place.before) x.place.call x.queue (some x.job) x.handed).buffer_fits

  record_sealed : (x : Release run) → sealed_in x ≡ sealed_of x.job.kind x.job.n x.job.block
  unfolding sealed_in
  record_sealed x = ap (λ (w : Bytes). part w sealed_at 48) (record_is x) ∙ sealed_part (buffer_of x.place.call) x.queue x.job (room_at x)

  record_rust : (x : Release run) → clean_request x.job.kind x.job.n x.job.block ≡ true → sealed_in x ≡ rust_sealed x.job.kind x.job.n x.job.block
  record_rust x h = record_sealed x ∙ demand_2.answers x.job.kind x.job.n x.job.block h

  record_public : (x : Release run) → part (did_at x.place).buffer 0 16 ≡ public_bytes x.job.ticket x.job.kind x.queue
  record_public x = ap (λ (w : Bytes). part w 0 16) (record_is x) ∙ public_part (buffer_of x.place.call) x.queue x.job (room_at x)

  -- ---- on time

  new_jobs : (x : Course run)
      → ((happens length (after_all length fresh x.before) (Submit x.queue x.kind x.n x.block)).after.queues x.queue).jobs
      ≡ held x ++ (record { kind = x.kind; n = x.n; block = x.block; ticket = x.ticket; turns = 0 } ∷ [])
  unfolding held
  new_jobs x =
      let c = Submit x.queue x.kind x.n x.block in
      accepted_jobs (after_all length fresh x.before) x.queue x.kind x.n x.block x.ticket
      (ticket_event (buffer_of c) _ x.ticket (sym (answer_at x.before c) ∙ x.accepted))

  claim : (x : Course run) (o : Option (Held Bytes)) → event_then x ≡ served x.queue o
      → OnTime.Claim (turns_since x) (handed_since x) o (held x) (record { kind = x.kind; n = x.n; block = x.block; ticket = x.ticket; turns = 0 })
  unfolding event_then turns_since handed_since since
  claim x o e =
      let c = Submit x.queue x.kind x.n x.block in
      OnTime.on_time length x.queue (happens length (after_all length fresh x.before) c).after x.between x.call (held x)
      (record { kind = x.kind; n = x.n; block = x.block; ticket = x.ticket; turns = 0 }) [] (open_next x.queue x.before c) (new_jobs x) o e

  on_time : (x : Course run) (o : Option (Held Bytes)) → event_then x ≡ served x.queue o → IsLast x → o ≡ some (ended_job x)
  unfolding IsLast ended_job left finished
  on_time x o e last = (claim x o e).due (last ∙ ap (λ (k : ℕ). work (held x) + k) (sym (sub-zero (span_of x.kind))))

  no_other : (x : Course run) (j : Held Bytes) → event_then x ≡ served x.queue (some j) → handed_since x ≡ length (held x) → IsLast x
  unfolding IsLast left
  no_other x j e h = (claim x (some j) e).only j refl h ∙ ap (λ (k : ℕ). work (held x) + k) (sub-zero (span_of x.kind))

  -- ---- the rest

  never_6 : (p : Place run) → (did_at p).answer ≡ Refused 6 → ⊥
  unfolding did_at board_at
  never_6 p e =
      Never.never_6 length (after_all length fresh p.before) p.call (refused_event (buffer_of p.call) _ 6 (sym (answer_at p.before p.call) ∙ e))

  serves_named : (p : Place run) (queue : ℕ) (o : Option (Held Bytes)) → event_at p ≡ served queue o → u64_at (board_at p) turn_at ≡ queue
  unfolding board_at event_at
  serves_named p queue o e = (rep_at p.before).turn ∙ sym (served_by (after_all length fresh p.before) p.call queue o e).queue_is

  turn_of : (b : Bytes) (c : Call Bytes) (buffer : Bytes) → c ≡ Turn buffer → did b c ≡ turn_board b buffer
  unfolding did
  turn_of b c buffer e = rw e

  others_kept : (p : Place run) (queue : ℕ) (o : Option (Held Bytes)) → event_at p ≡ served queue o → (q : ℕ) → q ≤ 3 → (q ≡ queue → ⊥) → quarter_of (did_at p).board q ≡ quarter_of (board_at p) q
  unfolding board_at did_at event_at
  others_kept p queue o e q h n =
      let s = served_by (after_all length fresh p.before) p.call queue o e in
      ap (λ (d : Did). quarter_of d.board q) (turn_of (board_after zero_board p.before) p.call (buffer_of p.call) s.is_turn)
      ∙ turn_others (after_all length fresh p.before) (board_after zero_board p.before) (rep_at p.before) (buffer_of p.call) s.verdict_is q h (λ z. n (z ∙ sym s.queue_is))

  submit_of : (b : Bytes) (c : Call Bytes) (queue kind n : ℕ) (block : Bytes) → c ≡ Submit queue kind n block → did b c ≡ submit_board b queue kind n block
  unfolding did
  submit_of b c queue kind n block e = rw e

  submits_others : (p : Place run) (queue kind n : ℕ) (block : Bytes) → p.call ≡ Submit queue kind n block → (q : ℕ) → q ≤ 3 → (q ≡ queue → ⊥) → quarter_of (did_at p).board q ≡ quarter_of (board_at p) q
  unfolding board_at did_at
  submits_others p queue kind n block e q h ne =
      ap (λ (d : Did). quarter_of d.board q) (submit_of (board_after zero_board p.before) p.call queue kind n block e)
      ∙ submit_others (after_all length fresh p.before) (board_after zero_board p.before) (rep_at p.before) queue kind n block q ne

  round_run : Round 0 (queues_served (events length fresh run))
  unfolding fresh
  round_run = round length fresh run

  four_turns : (xs ys : List ℕ) (a b c d : ℕ) → queues_served (events length fresh run) ≡ xs ++ (a ∷ b ∷ c ∷ d ∷ ys) → (q : ℕ) → q ≤ 3 → times q (a ∷ b ∷ c ∷ d ∷ []) ≡ 1
  four_turns xs ys a b c d e q h = four_once xs ys a b c d 0 q (omega arith) (rw e at round_run) h

  refused_same : (p : Place run) (number : ℕ) → (did_at p).answer ≡ Refused number → ((did_at p).board ≡ board_at p) × ((did_at p).buffer ≡ buffer_of p.call)
  unfolding did_at
  refused_same p number e = let u = refused_unchanged (board_at p) p.call number e in (u.board, u.buffer)

  look_same : (p : Place run) (queue : ℕ) → p.call ≡ Look queue → (did_at p).board ≡ board_at p
  unfolding did_at
  look_same p queue e = ap (λ (c : Call Bytes). (did (board_at p) c).board) e ∙ (look_unchanged (board_at p) queue).board

  quote_same : (p : Place run) (queue kind : ℕ) → p.call ≡ Quote queue kind → (did_at p).board ≡ board_at p
  unfolding did_at
  quote_same p queue kind e = ap (λ (c : Call Bytes). (did (board_at p) c).board) e ∙ (quote_unchanged (board_at p) queue kind).board

  in_order : (q : ℕ) → accepted_in length q fresh run ≡ handed_in q (events length fresh run) ++ all_as_accepted ((after_all length fresh run).queues q).jobs
  in_order q = fresh_none q (accepted_in length q fresh run) ∙ order length q fresh run
    where
      fresh_none : (q : ℕ) (l : List (Held Bytes)) → l ≡ all_as_accepted (fresh.queues q).jobs ++ l
      fresh_none q l = unfold fresh all_as_accepted in refl

  pub orderly : Orderly run
  orderly =
      record {
        as_scheduled = run_scheduled fresh zero_board zero_rep run;
        public_alone = public_told run;
        record_sealed = record_sealed;
        record_rust = record_rust;
        record_public = record_public;
        in_order = in_order;
        on_time = on_time;
        no_other = no_other;
        never_6 = never_6;
        serves_named = serves_named;
        others_kept = others_kept;
        submit_others = submits_others;
        four_turns = four_turns;
        refused_same = refused_same;
        look_same = look_same;
        quote_same = quote_same;
      }

-- ---- two runs

alike : (run run' : Calls) → SealedAlike run run'
unfolding SealedAlike
alike run run' x y ek en a =
    record_sealed run x
    ∙ sealed_alike x.job.kind x.job.n x.job.block y.job.block a
    ∙ ap (λ (k : ℕ). sealed_of k x.job.n y.job.block) ek
    ∙ ap (λ (m : ℕ). sealed_of y.job.kind m y.job.block) en
    ∙ sym (record_sealed run' y)

pub demand_3 : (run run' : Calls) → fields_of run ≡ fields_of run' → Demand3 run run'
demand_3 run run' same =
    record {
      first = orderly run;
      second = orderly run';
      public_same = public_told run ∙ ap (λ (fs : List (Call ℕ)). map public_event (events (λ n. n) fresh fs)) same ∙ sym (public_told run');
      alike_first = alike run run;
      alike_second = alike run' run';
      alike_across = alike run run';
    }
