-- Whole runs from the fresh board, what is public of them, and calls that change nothing. Assumes nothing.
use mathlib.Core.Path.{◌≡◌, refl, sym, ap, ◌∙◌}
use Prim.Native.Nat.{ℕ, ◌+◌, ◌≤◌}
use mathlib.Core.List.{List, [], ◌∷◌, map}
use mathlib.Core.Option.{Option, none, some}
use native.Mathlib.Omega.{arith}
use lib.ListN.{length}
use Rattle.buf.specs.Bytes.{part, splice}
use Rattle.buf.proofs.Laws.{splice_append, length_splice, part_splice_same}
use Rattle.records.specs.Outcome.{outcome_of}
use Rattle.records.specs.Record.{public_bytes, sealed_at, sealed_of}
use Rattle.records.proofs.RecordLaws.{length_public, length_sealed}
use Rattle.reader.specs.View.{view}
use Rattle.schedule.specs.Schedule.{Held, Schedule, Call, Submit, Turn, Look, Quote, Event, refused, accepted, served, looked, quoted, Verdict, accept, refuse, turn_verdict, verdict, serves, looked_at, submitted, turn_taken, acts, judged, happens, events, after_all, fresh, map_held, map_out, map_event}
use Rattle.schedule.proofs.Image.{maps_run}
use Rattle.board_spec.specs.Board.{Refused, Did, refused_did, submit_judged, submit_board, turn_did, turn_judged, turn_board, look_judged, look_board, quote_judged, quote_board}
use Rattle.board_spec.specs.Run.{Bytes, Calls, zero_board, did, board_after, Reply, replies, buffer_of, record_of, turn_reply, sight_reply, reply_of, scheduled, fields_of, Public, turning, public_of, public_out, public_event}
use Rattle.board_spec.specs.Rep.{Rep}
use Rattle.board_spec.proofs.Sim.{room}
use Rattle.board_spec.proofs.Whole.{simulates, zero_rep}
use Rattle.board_spec.proofs.AnyQuarter.{first_16}

-- ---- any number of calls

pub rep_after : (σ : Schedule Bytes) (b : Bytes) → Rep σ b → (cs : Calls) → Rep (after_all length σ cs) (board_after b cs)
unfolding after_all board_after
rep_after σ b r [] = r
rep_after σ b r (c ∷ cs) = rep_after (happens length σ c).after (did b c).board (simulates σ b r c).rep cs

pub run_scheduled : (σ : Schedule Bytes) (b : Bytes) → Rep σ b → (cs : Calls) → replies b cs ≡ scheduled σ cs
unfolding replies scheduled
run_scheduled σ b r [] = refl
run_scheduled σ b r (c ∷ cs) =
    let s = simulates σ b r c in
    ap (λ (x : Reply). x ∷ replies (did b c).board cs) s.reply ∙ ap (λ (l : List Reply). reply_of (buffer_of c) (happens length σ c).event ∷ l) (run_scheduled (happens length σ c).after (did b c).board s.rep cs)

-- ---- a turn that is accepted

looked_not_served : (js : List (Held Bytes)) (q : ℕ) (o : Option (Held Bytes)) → looked_at js ≡ served q o → ⊥
unfolding looked_at
looked_not_served [] q o e = let z : ◌≡◌ {A = ℕ} 0 1 = cc in omega arith
looked_not_served (j ∷ js) q o e = let z : ◌≡◌ {A = ℕ} 0 1 = cc in omega arith

-- what is known where a queue is served
pub record Served (σ : Schedule Bytes) (c : Call Bytes) (q : ℕ) (o : Option (Held Bytes)) : Type 0 where
  pub buffer_fits : 64 ≤ length (buffer_of c)
  pub queue_is : q ≡ σ.turn
  pub is_turn : c ≡ Turn (buffer_of c)
  pub verdict_is : turn_verdict (length (buffer_of c)) ≡ accept

acts_served : (σ : Schedule Bytes) (c : Call Bytes) (q : ℕ) (o : Option (Held Bytes)) → (acts σ c).event ≡ served q o → verdict length σ c ≡ accept → Served σ c q o
unfolding acts submitted turn_taken serves verdict buffer_of
acts_served σ (Submit queue kind n block) q o e v = let z : ◌≡◌ {A = ℕ} 0 1 = cc in absurd (omega arith)
acts_served σ (Turn buffer) q o e v = record { buffer_fits = room (length buffer) v; queue_is = cc; is_turn = refl; verdict_is = v }
acts_served σ (Look queue) q o e v = absurd (looked_not_served (σ.queues queue).jobs q o e)
acts_served σ (Quote queue kind) q o e v = let z : ◌≡◌ {A = ℕ} 0 1 = cc in absurd (omega arith)

judged_served : (σ : Schedule Bytes) (c : Call Bytes) (v : Verdict) (q : ℕ) (o : Option (Held Bytes)) → (judged σ c v).event ≡ served q o → verdict length σ c ≡ v → Served σ c q o
unfolding judged
judged_served σ c accept q o e ev = acts_served σ c q o e ev
judged_served σ c (refuse number) q o e ev = let z : ◌≡◌ {A = ℕ} 0 1 = cc in absurd (omega arith)

pub served_by : (σ : Schedule Bytes) (c : Call Bytes) (q : ℕ) (o : Option (Held Bytes)) → (happens length σ c).event ≡ served q o → Served σ c q o
unfolding happens
served_by σ c q o e = judged_served σ c (verdict length σ c) q o e refl

-- ---- the bytes of a record

length_of_sealed : (kind n : ℕ) (block : Bytes) → length (sealed_of kind n block) ≡ 48
unfolding sealed_of
length_of_sealed kind n block = length_sealed (outcome_of (view kind n block))

pub public_part : (buffer : Bytes) (queue : ℕ) (j : Held Bytes) → 64 ≤ length buffer → part (splice buffer 0 (record_of queue j)) 0 16 ≡ public_bytes j.ticket j.kind queue
unfolding record_of
public_part buffer queue j h = first_16 buffer j.ticket j.kind queue (sealed_of j.kind j.n j.block) h

pub sealed_part : (buffer : Bytes) (queue : ℕ) (j : Held Bytes) → 64 ≤ length buffer → part (splice buffer 0 (record_of queue j)) sealed_at 48 ≡ sealed_of j.kind j.n j.block
unfolding record_of
sealed_part buffer queue j h =
    let p = public_bytes j.ticket j.kind queue in
    let s = sealed_of j.kind j.n j.block in
    let lp : length p ≡ 16 = length_public j.ticket j.kind queue in
    let z : 0 + length p ≡ 16 = omega arith in
    let ls : length (splice buffer 0 p) ≡ length buffer = length_splice buffer 0 p in
    ap (λ (w : Bytes). part w sealed_at 48) (splice_append p s buffer 0 ∙ ap (λ (i : ℕ). splice (splice buffer 0 p) i s) z)
    ∙ part_splice_same (splice buffer 0 p) 16 s 48 (length_of_sealed j.kind j.n j.block) (omega arith)

-- ---- what is public

public_out_lem : (buffer : Bytes) (queue : ℕ) (o : Option (Held Bytes)) → 64 ≤ length buffer → public_of (turn_reply buffer queue o) ≡ public_out queue (map_out length o)
unfolding public_of turn_reply public_out map_out map_held
public_out_lem buffer queue none h = refl
public_out_lem buffer queue (some j) h = ap (turning 1) (public_part buffer queue j h)

public_event_lem : (buffer : Bytes) (e : Event Bytes) → ((q : ℕ) (o : Option (Held Bytes)) → e ≡ served q o → 64 ≤ length buffer) → public_of (reply_of buffer e) ≡ public_event (map_event length e)
unfolding public_of reply_of sight_reply public_event map_event
public_event_lem buffer (refused number) h = refl
public_event_lem buffer (accepted ticket) h = refl
public_event_lem buffer (served queue o) h = public_out_lem buffer queue o (h queue o refl)
public_event_lem buffer (looked j) h = refl
public_event_lem buffer (quoted turns) h = refl

public_run : (σ : Schedule Bytes) (cs : Calls) → map public_of (scheduled σ cs) ≡ map public_event (map (map_event length) (events length σ cs))
unfolding scheduled events
public_run σ [] = refl
public_run σ (c ∷ cs) =
    let e = public_event_lem (buffer_of c) (happens length σ c).event (λ q o k. (served_by σ c q o k).buffer_fits) in
    let rest = public_run (happens length σ c).after cs in
    ap (λ (x : Public). x ∷ map public_of (scheduled (happens length σ c).after cs)) e ∙ ap (λ (l : List Public). public_event (map_event length (happens length σ c).event) ∷ l) rest

pub public_told : (cs : Calls) → map public_of (replies zero_board cs) ≡ map public_event (events (λ n. n) fresh (fields_of cs))
unfolding fields_of
public_told cs =
    ap (λ (l : List Reply). map public_of l) (run_scheduled fresh zero_board zero_rep cs)
    ∙ public_run fresh cs
    ∙ ap (λ (l : List (Event ℕ)). map public_event l) (sym (maps_run length length (λ n. n) (λ d. refl) cs))

-- ---- calls that change nothing, on any board

pub record Unchanged (b : Bytes) (c : Call Bytes) (d : Did) : Type 0 where
  pub board : d.board ≡ b
  pub buffer : d.buffer ≡ buffer_of c

submit_same : (b : Bytes) (queue kind n : ℕ) (block : Bytes) (v : Verdict) (number : ℕ) → (submit_judged b queue kind n block v).answer ≡ Refused number → Unchanged b (Submit queue kind n block) (submit_judged b queue kind n block v)
unfolding submit_judged refused_did buffer_of
submit_same b queue kind n block accept number e = let z : ◌≡◌ {A = ℕ} 0 1 = cc in absurd (omega arith)
submit_same b queue kind n block (refuse m) number e = record { board = refl; buffer = refl }

turn_same : (b buffer : Bytes) (v : Verdict) (number : ℕ) → (turn_judged b buffer v).answer ≡ Refused number → Unchanged b (Turn buffer) (turn_judged b buffer v)
unfolding turn_judged turn_did refused_did buffer_of
turn_same b buffer accept number e = let z : ◌≡◌ {A = ℕ} 0 1 = cc in absurd (omega arith)
turn_same b buffer (refuse m) number e = record { board = refl; buffer = refl }

look_judged_same : (b : Bytes) (queue : ℕ) (v : Verdict) → Unchanged b (Look queue) (look_judged b queue v)
unfolding look_judged refused_did buffer_of
look_judged_same b queue accept = record { board = refl; buffer = refl }
look_judged_same b queue (refuse m) = record { board = refl; buffer = refl }

pub look_unchanged : (b : Bytes) (queue : ℕ) → Unchanged b (Look queue) (did b (Look queue))
unfolding did look_board
look_unchanged b queue = look_judged_same b queue _

quote_judged_same : (b : Bytes) (queue kind : ℕ) (v : Verdict) → Unchanged b (Quote queue kind) (quote_judged b queue kind v)
unfolding quote_judged refused_did buffer_of
quote_judged_same b queue kind accept = record { board = refl; buffer = refl }
quote_judged_same b queue kind (refuse m) = record { board = refl; buffer = refl }

pub quote_unchanged : (b : Bytes) (queue kind : ℕ) → Unchanged b (Quote queue kind) (did b (Quote queue kind))
unfolding did quote_board
quote_unchanged b queue kind = quote_judged_same b queue kind _

pub refused_unchanged : (b : Bytes) (c : Call Bytes) (number : ℕ) → (did b c).answer ≡ Refused number → Unchanged b c (did b c)
unfolding did submit_board turn_board
refused_unchanged b (Submit queue kind n block) number e = submit_same b queue kind n block _ number e
refused_unchanged b (Turn buffer) number e = turn_same b buffer _ number e
refused_unchanged b (Look queue) number e = look_unchanged b queue
refused_unchanged b (Quote queue kind) number e = quote_unchanged b queue kind
