-- Demand 1: one theorem over any bytes and any arguments. Assumes nothing.
use mathlib.Core.Path.{◌≡◌, refl, sym, ap, ◌∙◌, subst}
use Prim.Native.Nat.{ℕ, zero, suc, ◌+◌, ◌-◌, ◌%◌, ◌^◌, ◌≤◌, ◌<◌}
use mathlib.Core.Bool.{Bool, true, false, cond}
use mathlib.Core.List.{List, [], ◌∷◌}
use mathlib.Core.Option.{Option, none, some}
use native.Mathlib.Omega.{arith}
use lib.ListN.{length}
use lib.Dec.{eqb}
use borrow.Author.Tests.{eqb-false}
use Rattle.buf.specs.Bytes.{u64_at}
use Rattle.reader.specs.View.{view}
use Rattle.records.specs.Record.{public_bytes, sealed_bytes, sealed_of}
use Rattle.records.specs.Statuses.{Sealed}
use Rattle.records.proofs.Statuses.{statuses}
use Rattle.schedule.specs.Spans.{span_of}
use Rattle.schedule.specs.Schedule.{Held, Schedule, Call, Submit, Turn, Look, Quote, served, Verdict, accept, refuse, check, submit_verdict, turn_verdict, look_verdict, quote_verdict, turns_until, Undergone, turned, undergo, verdict, serves, turn_taken, acts, judged, happens, after_all, fresh, map_call}
use Rattle.schedule.specs.Refusals.{Inside, CountRight, SubmitTests, TurnTests, LookTests, QuoteTests}
use Rattle.schedule.proofs.Refusals.{inside_true, true_inside, count_true}
use Rattle.schedule.proofs.Tests.{check_ok, check_next, count_right}
use Rattle.stepping.specs.States.{Request, state_after, outcome_at}
use Rattle.stepping.proofs.Laws.{stepping}
use Rattle.board_spec.specs.Layout.{accepted_at, held_at, turns_at, kind_at}
use Rattle.board_spec.specs.Quarter.{first_ticket, slot_of, first_kind, spans_from, turns_left, DidQuarter, turn_quarter}
use Rattle.board_spec.specs.Board.{quarter_of, served_in, count_in, held_in, turns_in, kind_in, board_fits, Answer, Refused, Ticket, Turned, Quoted, refused_did, submit_judged, submit_board, turn_did, turn_judged, turn_board, look_judged, look_board, quote_judged, quote_board}
use Rattle.board_spec.specs.Run.{Bytes, Calls, zero_board, did, Reply, reply_by, buffer_of, Public, turning, public_of}
use Rattle.board_spec.specs.Rep.{Stands, stands, ShowsQueue}
use Rattle.board_spec.specs.Demand3.{event_at, Release}
use Rattle.board_spec.specs.Demand1.{SubmitAnswers, TurnAnswers, LookAnswers, QuoteAnswers, Spans, SameFill, SameAsked, SamePublic, Demand1}
use Rattle.board_spec.proofs.AnyQuarter.{turn_idle, turn_out, turn_on, record_public}
use Rattle.board_spec.proofs.Sim.{room, submit_accepted, submit_same, look_same, quote_accepted, quote_same}
use Rattle.board_spec.proofs.Whole.{zero_rep, rep_parted}
use Rattle.board_spec.proofs.Runs.{rep_after, served_by, refused_unchanged}
use Rattle.board_spec.proofs.Tested.{board_tested}
use Rattle.board_spec.proofs.Answers.{held_most, submit_holds, submit_only, turn_holds, turn_only, look_holds, look_only, quote_holds, quote_only}
use Rattle.board_spec.proofs.Demand3.{orderly}

-- ---- no number above 8

submit_number : {queue kind n size held m : ℕ} → SubmitTests queue kind n size held (refuse m) → Inside 1 8 m
submit_number (SubmitTests.refused_1 q) = omega arith
submit_number (SubmitTests.refused_2 q k) = omega arith
submit_number (SubmitTests.refused_3 q k c) = omega arith
submit_number (SubmitTests.refused_8 q k c s) = omega arith
submit_number (SubmitTests.refused_4 q k c s h) = omega arith

turn_number : {size m : ℕ} → TurnTests size (refuse m) → Inside 1 8 m
turn_number (TurnTests.refused_5 h) = omega arith

look_number : {queue turns m : ℕ} → LookTests queue turns (refuse m) → Inside 1 8 m
look_number (LookTests.refused_1 q) = omega arith
look_number (LookTests.refused_7 q h) = omega arith

quote_number : {queue kind held m : ℕ} → QuoteTests queue kind held (refuse m) → Inside 1 8 m
quote_number (QuoteTests.refused_1 q) = omega arith
quote_number (QuoteTests.refused_2 q k) = omega arith
quote_number (QuoteTests.refused_4 q k h) = omega arith

submit_alone : {b : Bytes} {queue kind n : ℕ} {block : Bytes} {m : ℕ} → SubmitAnswers b queue kind n block (Refused m) → Inside 1 8 m
submit_alone (SubmitAnswers.refused_6 h) = omega arith
submit_alone (SubmitAnswers.refused p s) = submit_number s

turn_alone : {b buffer : Bytes} {m : ℕ} → TurnAnswers b buffer (Refused m) → Inside 1 8 m
turn_alone (TurnAnswers.refused_6 h) = omega arith
turn_alone (TurnAnswers.refused p s) = turn_number s

look_alone : {b : Bytes} {queue m : ℕ} → LookAnswers b queue (Refused m) → Inside 1 8 m
look_alone (LookAnswers.refused_6 h) = omega arith
look_alone (LookAnswers.refused p s) = look_number s

quote_alone : {b : Bytes} {queue kind m : ℕ} → QuoteAnswers b queue kind (Refused m) → Inside 1 8 m
quote_alone (QuoteAnswers.refused_6 h) = omega arith
quote_alone (QuoteAnswers.refused p s) = quote_number s

callers_alone : (b : Bytes) (c : Call Bytes) (number : ℕ) → (did b c).answer ≡ Refused number → Inside 1 8 number
unfolding did
callers_alone b (Submit queue kind n block) number e = submit_alone (subst (λ (a : Answer). SubmitAnswers b queue kind n block a) e (submit_holds b queue kind n block))
callers_alone b (Turn buffer) number e = turn_alone (subst (λ (a : Answer). TurnAnswers b buffer a) e (turn_holds b buffer))
callers_alone b (Look queue) number e = look_alone (subst (λ (a : Answer). LookAnswers b queue a) e (look_holds b queue))
callers_alone b (Quote queue kind) number e = quote_alone (subst (λ (a : Answer). QuoteAnswers b queue kind a) e (quote_holds b queue kind))

-- ---- the data never show

submit_reply : (b b' : Bytes) (queue kind n : ℕ) (block block' : Bytes) (v : Verdict) → (v ≡ accept → count_in b queue ≡ count_in b' queue) → reply_by (submit_judged b queue kind n block v) ≡ reply_by (submit_judged b' queue kind n block' v)
unfolding reply_by submit_judged refused_did
submit_reply b b' queue kind n block block' accept h = ap (λ (t : ℕ). record { answer = Ticket t; buffer = [] }) (h refl)
submit_reply b b' queue kind n block block' (refuse m) h = refl

look_public : (b b' : Bytes) (queue : ℕ) (v : Verdict) → public_of (reply_by (look_judged b queue v)) ≡ public_of (reply_by (look_judged b' queue v))
unfolding public_of reply_by look_judged refused_did
look_public b b' queue accept = refl
look_public b b' queue (refuse m) = refl

-- what is public of a turn, from the numbers of the served queue
public_turn : (queue count held turns kind : ℕ) → Public
public_turn queue count held turns kind =
    cond (eqb held 0) (turning 0 []) (cond (eqb (turns + 1) (span_of kind)) (turning 1 (public_bytes ((count + (2 ^ 64 - held)) % 2 ^ 64) kind queue)) (turning 0 []))

abbrev quarter_reply : DidQuarter → Reply
quarter_reply d = record { answer = Turned d.answer; buffer = d.buffer }

turn_told : (queue : ℕ) (q buffer : Bytes) → 64 ≤ length buffer → public_of (quarter_reply (turn_quarter queue q buffer)) ≡ public_turn queue (u64_at q accepted_at) (u64_at q held_at) (u64_at q turns_at) (first_kind q)
unfolding public_of public_turn
turn_told queue q buffer room = go (eqb (u64_at q held_at) 0) (eqb (u64_at q turns_at + 1) (span_of (first_kind q))) refl refl
  where
    go : (x y : Bool) → eqb (u64_at q held_at) 0 ≡ x → eqb (u64_at q turns_at + 1) (span_of (first_kind q)) ≡ y
        → public_of (quarter_reply (turn_quarter queue q buffer)) ≡ cond x (turning 0 []) (cond y (turning 1 (public_bytes ((u64_at q accepted_at + (2 ^ 64 - u64_at q held_at)) % 2 ^ 64) (first_kind q) queue)) (turning 0 []))
    go true y e f = ap (λ (d : DidQuarter). public_of (quarter_reply d)) (turn_idle queue q buffer e)
    go false true e f =
        ap (λ (d : DidQuarter). public_of (quarter_reply d)) (turn_out queue q buffer e f)
        ∙ ap (turning 1) (record_public buffer (first_ticket q) (first_kind q) queue _ room ∙ (unfold first_ticket in refl))
    go false false e f = ap (λ (d : DidQuarter). public_of (quarter_reply d)) (turn_on queue q buffer e f)

-- the turns that the jobs held need are told by their kinds and the turns had
spans_same : (p q : Bytes) (t u k : ℕ) → ((i : ℕ) → i < k → u64_at p (kind_at (slot_of (t + i))) ≡ u64_at q (kind_at (slot_of (u + i)))) → spans_from p t k ≡ spans_from q u k
unfolding spans_from
spans_same p q t u zero f = refl
spans_same p q t u (suc k) f =
    let z : t + 0 ≡ t = omega arith in
    let z' : u + 0 ≡ u = omega arith in
    let first : u64_at p (kind_at (slot_of t)) ≡ u64_at q (kind_at (slot_of u)) = rw (z, z') at (f 0 (omega arith)) in
    let later : (i : ℕ) → i < k → u64_at p (kind_at (slot_of (t + 1 + i))) ≡ u64_at q (kind_at (slot_of (u + 1 + i))) =
    λ i h. (let w : t + suc i ≡ t + 1 + i = omega arith in let w' : u + suc i ≡ u + 1 + i = omega arith in rw (w, w') at (f (suc i) (omega arith))) in
    rw (first, spans_same p q (t + 1) (u + 1) k later)

left_same : (b b' : Bytes) (queue : ℕ) → SameFill b b' queue → turns_left (quarter_of b queue) ≡ turns_left (quarter_of b' queue)
unfolding turns_left
left_same b b' queue s =
    rw (spans_same (quarter_of b queue) (quarter_of b' queue) (first_ticket (quarter_of b queue)) (first_ticket (quarter_of b' queue)) (held_in b queue) s.kinds, s.held, s.turns)

quote_reply : (b b' : Bytes) (queue kind : ℕ) (v : Verdict) → (v ≡ accept → turns_until (served_in b) queue (turns_left (quarter_of b queue)) kind ≡ turns_until (served_in b') queue (turns_left (quarter_of b' queue)) kind)
    → reply_by (quote_judged b queue kind v) ≡ reply_by (quote_judged b' queue kind v)
unfolding reply_by quote_judged refused_did
quote_reply b b' queue kind accept h = ap (λ (t : ℕ). record { answer = Quoted t; buffer = [] }) (h refl)
quote_reply b b' queue kind (refuse m) h = refl

pub quote_told : (b b' : Bytes) (queue kind : ℕ) → board_fits b ≡ board_fits b' → served_in b ≡ served_in b' → (queue ≤ 3 → SameFill b b' queue) → reply_by (quote_board b queue kind) ≡ reply_by (quote_board b' queue kind)
unfolding quote_board
quote_told b b' queue kind six turn fill =
    let e : check (board_fits b) 6 (quote_verdict queue kind (held_in b queue)) ≡ check (board_fits b') 6 (quote_verdict queue kind (held_in b' queue)) =
    rw six (ap (λ (v : Verdict). check (board_fits b') 6 v) (quote_same queue kind _ _ (λ h. (fill h).held))) in
    rw e (quote_reply b b' queue kind _ (λ a. (let s = fill (quote_accepted queue kind _ (check_next (board_fits b') 6 _ a)) in rw (turn, left_same b b' queue s))))

module _ (b b' : Bytes) (same : SamePublic b b') where
  -- the same verdict, and where it accepts, boards that pass 6 and a queue that there is
  submit_verdict_lem : (queue kind n size : ℕ) → check (board_fits b) 6 (submit_verdict queue kind n size (held_in b queue)) ≡ check (board_fits b') 6 (submit_verdict queue kind n size (held_in b' queue))
  submit_verdict_lem queue kind n size =
      rw same.six (ap (λ (v : Verdict). check (board_fits b') 6 v) (submit_same queue kind n size _ _ (λ h. (same.queues queue h).held)))

  submit_low : (queue kind n size : ℕ) → check (board_fits b') 6 (submit_verdict queue kind n size (held_in b' queue)) ≡ accept → queue ≤ 3
  submit_low queue kind n size e = (submit_accepted queue kind n size _ (check_next (board_fits b') 6 _ e)).queue_low

  submit_unseen : (queue kind n : ℕ) (block block' : Bytes) → length block ≡ length block' → reply_by (submit_board b queue kind n block) ≡ reply_by (submit_board b' queue kind n block')
  unfolding submit_board
  submit_unseen queue kind n block block' l =
      rw (submit_verdict_lem queue kind n (length block), l)
      (submit_reply b b' queue kind n block block' _ (λ e. (same.queues queue (submit_low queue kind n (length block') e)).count))

  look_unseen : (queue : ℕ) → public_of (reply_by (look_board b queue)) ≡ public_of (reply_by (look_board b' queue))
  unfolding look_board
  look_unseen queue =
      let e : check (board_fits b) 6 (look_verdict queue (turns_in b queue)) ≡ check (board_fits b') 6 (look_verdict queue (turns_in b' queue)) =
      rw same.six (ap (λ (v : Verdict). check (board_fits b') 6 v) (look_same queue _ _ (λ h. (same.queues queue h).turns))) in
      rw e (look_public b b' queue _)

  turn_judged_lem : (buffer buffer' : Bytes) (v : Verdict) → (v ≡ accept → (served_in b ≤ 3) × (64 ≤ length buffer) × (64 ≤ length buffer'))
      → public_of (reply_by (turn_judged b buffer v)) ≡ public_of (reply_by (turn_judged b' buffer' v))
  unfolding turn_judged turn_did reply_by
  turn_judged_lem buffer buffer' accept h =
      let t = served_in b in
      let t' = served_in b' in
      let s = same.queues t (h refl).0 in
      turn_told t (quarter_of b t) buffer (h refl).1
      ∙ told t t' _ _ _ _ _ _ _ _ same.turn (s.count ∙ ap (count_in b') same.turn) (s.held ∙ ap (held_in b') same.turn) (s.turns ∙ ap (turns_in b') same.turn) (s.kind ∙ ap (kind_in b') same.turn)
      ∙ sym (turn_told t' (quarter_of b' t') buffer' (h refl).2)
    where
      told : (t t' c c' h h' s s' k k' : ℕ) → t ≡ t' → c ≡ c' → h ≡ h' → s ≡ s' → k ≡ k' → public_turn t c h s k ≡ public_turn t' c' h' s' k'
      told t t' c c' h h' s s' k k' et ec eh es ek = cc
  turn_judged_lem buffer buffer' (refuse m) h = unfold public_of refused_did in refl

  turn_unseen : (buffer buffer' : Bytes) → length buffer ≡ length buffer' → public_of (reply_by (turn_board b buffer)) ≡ public_of (reply_by (turn_board b' buffer'))
  unfolding turn_board
  turn_unseen buffer buffer' l =
      let e : check (board_fits b) 6 (turn_verdict (length buffer)) ≡ check (board_fits b') 6 (turn_verdict (length buffer')) = rw (same.six, l) in
      rw e (turn_judged_lem buffer buffer' _ (λ a. (
        (board_tested b (check_ok (board_fits b) 6 _ (e ∙ a))).turn_inside,
        room (length buffer) (check_next (board_fits b) 6 _ (e ∙ a)),
        room (length buffer') (check_next (board_fits b') 6 _ a),
      )))

  data_unseen : (c c' : Call Bytes) → map_call length c ≡ map_call length c' → SameAsked b b' c → public_of (reply_by (did b c)) ≡ public_of (reply_by (did b' c'))
  unfolding map_call did
  data_unseen (Submit queue kind n block) (Submit queue' kind' n' block') e a =
      let eq : queue ≡ queue' = cc in
      let ek : kind ≡ kind' = cc in
      let en : n ≡ n' = cc in
      let el : length block ≡ length block' = cc in
      rw (eq, ek, en) (ap public_of (submit_unseen queue' kind' n' block block' el))
  data_unseen (Submit queue kind n block) (Turn buffer') e a = let z : ◌≡◌ {A = ℕ} 0 1 = cc in absurd (omega arith)
  data_unseen (Submit queue kind n block) (Look queue') e a = let z : ◌≡◌ {A = ℕ} 0 1 = cc in absurd (omega arith)
  data_unseen (Submit queue kind n block) (Quote queue' kind') e a = let z : ◌≡◌ {A = ℕ} 0 1 = cc in absurd (omega arith)
  data_unseen (Turn buffer) (Submit queue' kind' n' block') e a = let z : ◌≡◌ {A = ℕ} 0 1 = cc in absurd (omega arith)
  data_unseen (Turn buffer) (Turn buffer') e a = turn_unseen buffer buffer' (cc)
  data_unseen (Turn buffer) (Look queue') e a = let z : ◌≡◌ {A = ℕ} 0 1 = cc in absurd (omega arith)
  data_unseen (Turn buffer) (Quote queue' kind') e a = let z : ◌≡◌ {A = ℕ} 0 1 = cc in absurd (omega arith)
  data_unseen (Look queue) (Submit queue' kind' n' block') e a = let z : ◌≡◌ {A = ℕ} 0 1 = cc in absurd (omega arith)
  data_unseen (Look queue) (Turn buffer') e a = let z : ◌≡◌ {A = ℕ} 0 1 = cc in absurd (omega arith)
  data_unseen (Look queue) (Look queue') e a = let eq : queue ≡ queue' = cc in rw eq (look_unseen queue')
  data_unseen (Look queue) (Quote queue' kind') e a = let z : ◌≡◌ {A = ℕ} 0 1 = cc in absurd (omega arith)
  data_unseen (Quote queue kind) (Submit queue' kind' n' block') e a = let z : ◌≡◌ {A = ℕ} 0 1 = cc in absurd (omega arith)
  data_unseen (Quote queue kind) (Turn buffer') e a = let z : ◌≡◌ {A = ℕ} 0 1 = cc in absurd (omega arith)
  data_unseen (Quote queue kind) (Look queue') e a = let z : ◌≡◌ {A = ℕ} 0 1 = cc in absurd (omega arith)
  data_unseen (Quote queue kind) (Quote queue' kind') e a =
      let eq : queue ≡ queue' = cc in
      let ek : kind ≡ kind' = cc in
      rw (eq, ek) (ap public_of (quote_told b b' queue' kind' same.six same.turn (subst (λ (q : ℕ). q ≤ 3 → SameFill b b' q) eq a)))

-- ---- every other request runs to an answer

request_tests : {queue kind n size held : ℕ} → SubmitTests queue kind n size held accept → Inside 1 9 kind × CountRight kind n × (size ≡ 640)
request_tests (SubmitTests.passed q k c s h) = (k, c, s)

ticket_tests : {b : Bytes} {queue kind n : ℕ} {block : Bytes} {ticket : ℕ} → SubmitAnswers b queue kind n block (Ticket ticket) → Inside 1 9 kind × CountRight kind n × (length block ≡ 640)
ticket_tests (SubmitAnswers.accepted p s) = request_tests s

module _ (b : Bytes) (queue kind n : ℕ) (block : Bytes) (ticket : ℕ) (e : (submit_board b queue kind n block).answer ≡ Ticket ticket) where
  request : Inside 1 9 kind × CountRight kind n × (length block ≡ 640)
  request = ticket_tests (subst (λ (a : Answer). SubmitAnswers b queue kind n block a) e (submit_holds b queue kind n block))

  accepted_sealed : Sealed kind n block
  accepted_sealed = statuses kind n block request.0 request.1 request.2

  accepted_ends : sealed_bytes (outcome_at (state_after (view kind n block) (span_of kind))) ≡ sealed_of kind n block
  accepted_ends =
      stepping.finished kind n block (record { fit_kind = inside_true 1 9 kind request.0; fit_count = count_true kind n request.1; block_fits = request.2 })

-- a job that is handed out is a request
sealed_request : (kind n : ℕ) (block : Bytes) → Request kind n block → Sealed kind n block
sealed_request kind n block r = statuses kind n block (true_inside 1 9 kind r.fit_kind) (count_right kind n r.fit_count) r.block_fits

request_out : (count : ℕ) (js : List (Held Bytes)) (q : Bytes) → ShowsQueue count js q → (j : Held Bytes) → (undergo js).out ≡ some j → Request j.kind j.n j.block
unfolding undergo turned
request_out count [] q r j e = let z : ◌≡◌ {A = ℕ} 0 1 = cc in absurd (omega arith)
request_out count (i ∷ js) q r j e = go r.slots (eqb (i.turns + 1) (span_of i.kind)) e
  where
    go : {t : ℕ} → Stands q t (i ∷ js) → (x : Bool) → (cond {A = Undergone Bytes} x (record { jobs = js; out = some (turned i) }) (record { jobs = turned i ∷ js; out = none })).out ≡ some j → Request j.kind j.n j.block
    go (stands s k rest) true h = let w : turned i ≡ j = cc in subst (λ (x : Held Bytes). Request x.kind x.n x.block) w s.request
    go s false h = let z : ◌≡◌ {A = ℕ} 0 1 = cc in absurd (omega arith)

happens_turn : (σ : Schedule Bytes) (buffer : Bytes) → turn_verdict (length buffer) ≡ accept → (happens length σ (Turn buffer)).event ≡ served σ.turn (undergo (σ.queues σ.turn).jobs).out
unfolding happens verdict judged acts turn_taken serves
happens_turn σ buffer v = rw v

job_out : (σ : Schedule Bytes) (c : Call Bytes) (queue : ℕ) (j : Held Bytes) → (happens length σ c).event ≡ served queue (some j) → (undergo (σ.queues σ.turn).jobs).out ≡ some j
job_out σ c queue j e =
    let s = served_by σ c queue (some j) e in
    let h : served σ.turn (undergo (σ.queues σ.turn).jobs).out ≡ served queue (some j) =
    sym (happens_turn σ (buffer_of c) s.verdict_is) ∙ ap (λ (x : Call Bytes). (happens length σ x).event) (sym s.is_turn) ∙ e in
    out_same _ _ _ _ h
  where
    out_same : (q q' : ℕ) (o o' : Option (Held Bytes)) → served q o ≡ served q' o' → o ≡ o'
    out_same q q' o o' h = cc

released : (run : Calls) (x : Release run) → Request x.job.kind x.job.n x.job.block
unfolding event_at
released run x =
    let σ = after_all length fresh x.place.before in
    let r = rep_after fresh zero_board zero_rep x.place.before in
    request_out _ _ _ ((rep_parted r).shows.each σ.turn r.low) x.job (job_out σ x.place.call x.queue x.job x.handed)

-- ---- the demand

all_spans : Spans
unfolding span_of
all_spans = record { kind_1 = refl; kind_2 = refl; kind_3 = refl; kind_4 = refl; kind_5 = refl; kind_6 = refl; kind_7 = refl; kind_8 = refl; kind_9 = refl }

same_board : (b : Bytes) → SamePublic b b
same_board b = record { six = refl; turn = refl; queues = λ queue h. record { count = refl; held = refl; turns = refl; kind = refl } }

refused_same : (b : Bytes) (c : Call Bytes) (number : ℕ) → (did b c).answer ≡ Refused number → ((did b c).board ≡ b) × ((did b c).buffer ≡ buffer_of c)
refused_same b c number e = let u = refused_unchanged b c number e in (u.board, u.buffer)

block_unread : (b : Bytes) (queue kind n : ℕ) (block block' : Bytes) → length block ≡ length block' → (submit_board b queue kind n block).answer ≡ (submit_board b queue kind n block').answer
unfolding reply_by
block_unread b queue kind n block block' l = ap (λ (r : Reply). r.answer) (submit_unseen b b (same_board b) queue kind n block block' l)

pub demand_1 : Demand1
demand_1 =
    record {
      submit_answers = λ b queue kind n block. record { holds = submit_holds b queue kind n block; only = submit_only b queue kind n block };
      turn_answers = λ b buffer. record { holds = turn_holds b buffer; only = turn_only b buffer };
      look_answers = λ b queue. record { holds = look_holds b queue; only = look_only b queue };
      quote_answers = λ b queue kind. record { holds = quote_holds b queue kind; only = quote_only b queue kind };
      at_most_eight = held_most;
      spans = all_spans;
      refused_same = refused_same;
      callers_alone = callers_alone;
      block_unread = block_unread;
      data_unseen = data_unseen;
      accepted_sealed = accepted_sealed;
      accepted_ends = accepted_ends;
      record_sealed = λ run x. ((orderly run).record_sealed x, sealed_request x.job.kind x.job.n x.job.block (released run x));
    }
