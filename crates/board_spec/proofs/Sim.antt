-- A call on a board that passes 6 and shows a schedule has the schedule's public answer, and the board then shows the schedule after it. On a board that stands for a
-- schedule the whole reply is the schedule's, and the board then stands for the schedule after it. Assumes nothing.
use mathlib.Core.Path.{◌≡◌, refl, sym, ap, ◌∙◌, subst}
use Prim.Native.Nat.{ℕ, ◌+◌, ◌*◌, ◌≤◌, ◌<◌}
use mathlib.Core.Bool.{Bool, true, false, cond}
use mathlib.Core.List.{List, [], ◌∷◌}
use native.Mathlib.Omega.{arith}
use lib.ListN.{length}
use lib.Dec.{leb, ltb, eqb}
use borrow.Author.Tests.{le-leb, leb-true, ltb-true, ltb-false, eqb-true, eqb-false}
use Rattle.buf.specs.Bytes.{part, splice, zeros, num_at, u64_at, put_u64}
use Rattle.buf.proofs.Laws.{length_put_num, length_splice, length_part, length_zeros, get_put_same, part_put_before, part_splice_same, part_splice_before, part_splice_after, part_zeros, num_at_zeros}
use Rattle.reader.specs.View.{view}
use Rattle.schedule.specs.Spans.{kind_fits, count_fits}
use Rattle.schedule.specs.Schedule.{Held, Queue, Schedule, Call, Submit, Turn, Look, Quote, refused, accepted, quoted, Verdict, accept, refuse, check, submit_verdict, turn_verdict, look_verdict, quote_verdict, turns_of, verdict, serves, onward, turns_until, quote_of, undergo, put, entered, with_jobs, Happened, looked_at, submitted, turn_taken, acts, judged, happens, fresh, map_event}
use Rattle.schedule.proofs.Rounds.{onward_low}
use Rattle.solver_state.specs.declared.types.State.{State}
use Rattle.board_spec.specs.Layout.{board_length, quarter_length, turn_at, accepted_at, held_at, turns_at}
use Rattle.stepping.specs.States.{Request, Sight, state_after}
use Rattle.stepping.proofs.Laws.{stepping}
use Rattle.board_spec.specs.Quarter.{load_state, turns_left, submit_quarter, DidQuarter, turn_quarter}
use Rattle.board_spec.specs.Board.{quarter_of, with_quarter, board_fits, Ticket, Shown, Quoted, Did, refused_did, submit_judged, submit_board, turn_did, turn_judged, turn_board, look_judged, look_board, quote_judged, quote_board}
use Rattle.board_spec.specs.Run.{Bytes, zero_board, did, Reply, reply_by, buffer_of, sight_reply, reply_of, ticketed, looking, quoting, public_of, public_event}
use Rattle.board_spec.specs.Rep.{no_more, none_begun, ShowsQueue, Shows, Searched, no_job, PartedQueue, Parted}
use Rattle.board_spec.proofs.Tested.{quarter_tested, board_tested, tested_board}
use Rattle.board_spec.proofs.Queue.{state_then, quarter_fits_lem, turns_left_lem, submit_shows, submit_searched, TurnShows, turn_shows, request_of, Turns, turn_rep}
use Rattle.schedule.proofs.Tests.{check_ok, check_next}

-- ---- quarters of a board

pub length_quarter : (b : Bytes) (q : ℕ) → length b ≡ board_length → q ≤ 3 → length (quarter_of b q) ≡ quarter_length
unfolding quarter_of
length_quarter b q l h = length_part b (quarter_length * q) quarter_length (omega arith)

pub length_with : (b v : Bytes) (q : ℕ) → length (with_quarter b q v) ≡ length b
unfolding with_quarter
length_with b v q = length_splice b (quarter_length * q) v

pub quarter_turn : (b : Bytes) (q x : ℕ) → q ≤ 3 → quarter_of (put_u64 b turn_at x) q ≡ quarter_of b q
unfolding quarter_of
quarter_turn b q x h = part_put_before 8 quarter_length b turn_at x (quarter_length * q) (le-leb (quarter_length * q + quarter_length) turn_at (omega arith))

pub quarter_same : (b v : Bytes) (q : ℕ) → length b ≡ board_length → q ≤ 3 → length v ≡ quarter_length → quarter_of (with_quarter b q v) q ≡ v
unfolding quarter_of with_quarter
quarter_same b v q l h lv = part_splice_same b (quarter_length * q) v quarter_length lv (omega arith)

pub quarter_other : (b v : Bytes) (t q : ℕ) → length v ≡ quarter_length → (q ≡ t → ⊥) → quarter_of (with_quarter b t v) q ≡ quarter_of b q
unfolding quarter_of with_quarter
quarter_other b v t q lv n = go (ltb q t) refl
  where
    go : (x : Bool) → ltb q t ≡ x → part (splice b (quarter_length * t) v) (quarter_length * q) quarter_length ≡ part b (quarter_length * q) quarter_length
    go true e = let k : q < t = ltb-true q t e in part_splice_before b (quarter_length * t) v (quarter_length * q) quarter_length (omega arith)
    go false e = let k : t ≤ q = ltb-false q t e in part_splice_after b (quarter_length * t) v (quarter_length * q) quarter_length (omega arith)

-- the turn is after the quarters
pub turn_with : (b v : Bytes) (q : ℕ) → length v ≡ quarter_length → q ≤ 3 → u64_at (with_quarter b q v) turn_at ≡ u64_at b turn_at
unfolding with_quarter num_at
turn_with b v q lv h = ap Rattle.buf.specs.Bytes.le (part_splice_after b (quarter_length * q) v turn_at 8 (omega arith))

-- ---- a board that stands for a schedule passes 6

parted_queue : {σ : Schedule Bytes} {b : Bytes} → Parted σ b → (queue : ℕ) → queue ≤ 3 → PartedQueue (σ.queues queue).count (σ.queues queue).jobs (quarter_of b queue)
parted_queue r queue h = record { shows = r.shows.each queue h; state = r.state queue h }

pub parted_fits : (σ : Schedule Bytes) (b : Bytes) → Parted σ b → board_fits b ≡ true
parted_fits σ b r =
    tested_board b (record { length_is = r.shows.len; turn_inside = rw r.shows.turn r.shows.low; quarters_inside = λ s h. quarter_fits_lem _ _ (quarter_of b s) (parted_queue r s h) })

-- ---- the fresh board

zero_quarter : (q : ℕ) → q ≤ 3 → quarter_of zero_board q ≡ zeros quarter_length
unfolding quarter_of zero_board
zero_quarter q h = part_zeros board_length (quarter_length * q) quarter_length (omega arith)

zeros_show : ShowsQueue 0 [] (zeros quarter_length)
unfolding turns_of
zeros_show =
    record {
      len = length_zeros quarter_length;
      accepted = num_at_zeros 8 quarter_length accepted_at refl;
      held = num_at_zeros 8 quarter_length held_at refl;
      few = omega arith;
      enough = omega arith;
      turns = num_at_zeros 8 quarter_length turns_at refl;
      slots = no_more;
      running = none_begun;
    }

zero_length : length zero_board ≡ board_length
unfolding zero_board
zero_length = length_zeros board_length

zero_turn : u64_at zero_board turn_at ≡ 0
unfolding zero_board
zero_turn = num_at_zeros 8 board_length turn_at refl

pub zero_parted : Parted fresh zero_board
unfolding fresh
zero_parted =
    record {
      shows = record {
        len = zero_length;
        turn = zero_turn;
        low = omega arith;
        each = λ q h. subst (λ (v : Bytes). ShowsQueue 0 [] v) (sym (zero_quarter q h)) zeros_show;
      };
      state = λ q h. no_job;
    }

-- ---- a quarter is replaced: what holds of each queue

-- P of a queue and its quarter
module _ (P : Queue Bytes → Bytes → Type 0) (g : ℕ → Queue Bytes) (b : Bytes) (len : length b ≡ board_length) (each : (q : ℕ) → q ≤ 3 → P (g q) (quarter_of b q)) where
  each_with : (t : ℕ) → t ≤ 3 → (u : Queue Bytes) (v : Bytes) → length v ≡ quarter_length → P u v → (q : ℕ) → q ≤ 3 → P (put g t u q) (quarter_of (with_quarter b t v) q)
  unfolding put
  each_with t ht u v lv pv q h = go (eqb q t) refl
    where
      go : (x : Bool) → eqb q t ≡ x → P (cond x u (g q)) (quarter_of (with_quarter b t v) q)
      go true e =
          let z : q ≡ t = eqb-true q t e in
          let same : quarter_of (with_quarter b t v) q ≡ v = ap (quarter_of (with_quarter b t v)) z ∙ quarter_same b v t len ht lv in
          subst (λ (w : Bytes). P u w) (sym same) pv
      go false e = subst (λ (w : Bytes). P (g q) w) (sym (quarter_other b v t q lv (eqb-false q t e))) (each q h)

  -- and the turn steps on
  each_turned : (t x : ℕ) → t ≤ 3 → (u : Queue Bytes) (v : Bytes) → length v ≡ quarter_length → P u v → (q : ℕ) → q ≤ 3 → P (put g t u q) (quarter_of (put_u64 (with_quarter b t v) turn_at x) q)
  each_turned t x ht u v lv pv q h = subst (λ (z : Bytes). P (put g t u q) z) (sym (quarter_turn (with_quarter b t v) q x h)) (each_with t ht u v lv pv q h)

abbrev ShowsOf : Queue Bytes → Bytes → Type 0
ShowsOf u v = ShowsQueue u.count u.jobs v

abbrev StateOf : Queue Bytes → Bytes → Type 0
StateOf u v = Searched v u.jobs

-- ---- verdicts

pub record Submittable (queue kind n size held : ℕ) : Type 0 where
  pub queue_low : queue ≤ 3
  pub fit_kind : kind_fits kind ≡ true
  pub fit_count : count_fits kind n ≡ true
  pub size_fits : size ≡ 640
  pub room : held < 8

pub submit_accepted : (queue kind n size held : ℕ) → submit_verdict queue kind n size held ≡ accept → Submittable queue kind n size held
unfolding submit_verdict
submit_accepted queue kind n size held e =
    let e₁ = check_next (leb queue 3) 1 _ e in
    let e₂ = check_next (kind_fits kind) 2 _ e₁ in
    let e₃ = check_next (count_fits kind n) 3 _ e₂ in
    let e₄ = check_next (eqb size 640) 8 _ e₃ in
    record {
      queue_low = leb-true queue 3 (check_ok (leb queue 3) 1 _ e);
      fit_kind = check_ok (kind_fits kind) 2 _ e₁;
      fit_count = check_ok (count_fits kind n) 3 _ e₂;
      size_fits = eqb-true size 640 (check_ok (eqb size 640) 8 _ e₃);
      room = ltb-true held 8 (check_ok (ltb held 8) 4 _ e₄);
    }

-- verdicts that differ only in what is read of a queue are the same where the queue is
by_queue : (queue : ℕ) (number : ℕ) (u v : Verdict) → (queue ≤ 3 → u ≡ v) → check (leb queue 3) number u ≡ check (leb queue 3) number v
by_queue queue number u v h = go (leb queue 3) refl
  where
    go : (b : Bool) → leb queue 3 ≡ b → check b number u ≡ check b number v
    go true e = h (leb-true queue 3 e)
    go false e = refl

pub submit_same : (queue kind n size held held' : ℕ) → (queue ≤ 3 → held ≡ held') → submit_verdict queue kind n size held ≡ submit_verdict queue kind n size held'
unfolding submit_verdict
submit_same queue kind n size held held' h = by_queue queue 1 _ _ (λ k. rw (h k))

pub look_same : (queue turns turns' : ℕ) → (queue ≤ 3 → turns ≡ turns') → look_verdict queue turns ≡ look_verdict queue turns'
unfolding look_verdict
look_same queue turns turns' h = by_queue queue 1 _ _ (λ k. rw (h k))

record Lookable (queue turns : ℕ) : Type 0 where
  queue_low : queue ≤ 3
  some_turn : 1 ≤ turns

look_accepted : (queue turns : ℕ) → look_verdict queue turns ≡ accept → Lookable queue turns
unfolding look_verdict
look_accepted queue turns e =
    record { queue_low = leb-true queue 3 (check_ok (leb queue 3) 1 _ e); some_turn = leb-true 1 turns (check_ok (leb 1 turns) 7 _ (check_next (leb queue 3) 1 _ e)) }

pub room : (size : ℕ) → turn_verdict size ≡ accept → 64 ≤ size
unfolding turn_verdict
room size e = leb-true 64 size (check_ok (leb 64 size) 5 accept e)

pub quote_same : (queue kind held held' : ℕ) → (queue ≤ 3 → held ≡ held') → quote_verdict queue kind held ≡ quote_verdict queue kind held'
unfolding quote_verdict
quote_same queue kind held held' h = by_queue queue 1 _ _ (λ k. rw (h k))

pub quote_accepted : (queue kind held : ℕ) → quote_verdict queue kind held ≡ accept → queue ≤ 3
unfolding quote_verdict
quote_accepted queue kind held e = leb-true queue 3 (check_ok (leb queue 3) 1 _ e)

turned_others : (b : Bytes) (t : ℕ) (d : DidQuarter) → length d.quarter ≡ quarter_length → (q : ℕ) → q ≤ 3 → (q ≡ t → ⊥) → quarter_of (turn_did b t d).board q ≡ quarter_of b q
unfolding turn_did
turned_others b t d l q h n = quarter_turn (with_quarter b t d.quarter) q (onward t) h ∙ quarter_other b d.quarter t q l n

judged_board : (b buffer : Bytes) (q : ℕ) → quarter_of (turn_did b (u64_at b turn_at) (turn_quarter (u64_at b turn_at) (quarter_of b (u64_at b turn_at)) buffer)).board q ≡ quarter_of b q → quarter_of (turn_judged b buffer accept).board q ≡ quarter_of b q
unfolding turn_judged
judged_board b buffer q e = e

-- ---- the calls, on a board that passes 6 and shows a schedule

pub record Follows (d : Did) (h : Happened Bytes) : Type 0 where
  pub public : public_of (reply_by d) ≡ public_event (map_event length h.event)
  pub shows : Shows h.after d.board

module _ (σ : Schedule Bytes) (b : Bytes) (fits : board_fits b ≡ true) (r : Shows σ b) where
  six : (v : Verdict) → check (board_fits b) 6 v ≡ v
  six v = rw fits

  refused_follows : (buffer : Bytes) (number : ℕ) → Follows (refused_did b buffer number) (record { event = refused number; after = σ })
  unfolding refused_did reply_by public_of public_event map_event
  refused_follows buffer number = record { public = refl; shows = r }

  submit_taken : (queue kind n : ℕ) (block : Bytes) → Submittable queue kind n (length block) (length (σ.queues queue).jobs)
      → Follows (submit_judged b queue kind n block accept) (submitted σ queue kind n block)
  unfolding submit_judged submitted reply_by public_of public_event map_event entered
  submit_taken queue kind n block s =
      let rq = r.each queue s.queue_low in
      let rv = submit_shows (σ.queues queue).count (σ.queues queue).jobs (quarter_of b queue) rq kind n block (record { fit_kind = s.fit_kind; fit_count = s.fit_count; block_fits = s.size_fits }) s.room in
      let v = submit_quarter (quarter_of b queue) kind n block in
      record {
        public = ap ticketed rq.accepted;
        shows = record {
          len = length_with b v queue ∙ r.len;
          turn = turn_with b v queue rv.len s.queue_low ∙ r.turn;
          low = r.low;
          each = each_with ShowsOf σ.queues b r.len r.each queue s.queue_low (entered kind n block (σ.queues queue)) v rv.len rv;
        };
      }

  submit_judged_lem : (queue kind n : ℕ) (block : Bytes) (v : Verdict) → submit_verdict queue kind n (length block) (length (σ.queues queue).jobs) ≡ v
      → Follows (submit_judged b queue kind n block v) (judged σ (Submit queue kind n block) v)
  unfolding judged acts
  submit_judged_lem queue kind n block accept e = submit_taken queue kind n block (submit_accepted queue kind n _ _ e)
  submit_judged_lem queue kind n block (refuse number) e = unfold submit_judged in (refused_follows [] number)

  submit_verdict_lem : (queue kind n : ℕ) (block : Bytes)
      → check (board_fits b) 6 (submit_verdict queue kind n (length block) (u64_at (quarter_of b queue) held_at)) ≡ submit_verdict queue kind n (length block) (length (σ.queues queue).jobs)
  submit_verdict_lem queue kind n block = six _ ∙ submit_same queue kind n (length block) _ _ (λ k. (r.each queue k).held)

  submit_follows : (queue kind n : ℕ) (block : Bytes) → Follows (submit_board b queue kind n block) (happens length σ (Submit queue kind n block))
  unfolding submit_board happens verdict
  submit_follows queue kind n block = rw (submit_verdict_lem queue kind n block) (submit_judged_lem queue kind n block _ refl)

  served_shows : (buffer : Bytes) → TurnShows σ.turn (σ.queues σ.turn).count (σ.queues σ.turn).jobs (quarter_of b σ.turn) buffer
  served_shows buffer = turn_shows σ.turn _ _ (quarter_of b σ.turn) buffer (r.each σ.turn r.low) (quarter_tested _ ((board_tested b fits).quarters_inside σ.turn r.low))

  turn_taken_lem : (buffer : Bytes) → 64 ≤ length buffer → Follows (turn_judged b buffer accept) (turn_taken σ)
  unfolding turn_judged turn_did turn_taken serves reply_by public_event map_event with_jobs
  turn_taken_lem buffer room = rw r.turn (at (served_shows buffer))
    where
      t : ℕ
      t = σ.turn

      d : DidQuarter
      d = turn_quarter t (quarter_of b t) buffer

      at : TurnShows t (σ.queues t).count (σ.queues t).jobs (quarter_of b t) buffer → Follows (turn_did b t d) (turn_taken σ)
      at w =
          let lw : length (with_quarter b t d.quarter) ≡ board_length = length_with b d.quarter t ∙ r.len in
          let on = onward_low t r.low in
          record {
            public = w.public room;
            shows = record {
              len = length_put_num 8 _ turn_at _ ∙ lw;
              turn = get_put_same 8 (with_quarter b t d.quarter) turn_at (onward t) (le-leb (turn_at + 8) (length (with_quarter b t d.quarter)) (rw lw (omega arith))) (omega arith);
              low = on;
              each = each_turned ShowsOf σ.queues b r.len r.each t (onward t) r.low (with_jobs (σ.queues t) (undergo (σ.queues t).jobs).jobs) d.quarter w.shows.len w.shows;
            };
          }

  turn_judged_lem : (buffer : Bytes) (v : Verdict) → turn_verdict (length buffer) ≡ v → Follows (turn_judged b buffer v) (judged σ (Turn buffer) v)
  unfolding judged acts
  turn_judged_lem buffer accept e = turn_taken_lem buffer (room (length buffer) e)
  turn_judged_lem buffer (refuse number) e = unfold turn_judged in (refused_follows buffer number)

  turn_follows : (buffer : Bytes) → Follows (turn_board b buffer) (happens length σ (Turn buffer))
  unfolding turn_board happens verdict
  turn_follows buffer = rw (six (turn_verdict (length buffer))) (turn_judged_lem buffer (turn_verdict (length buffer)) refl)

  look_first : (queue : ℕ) (js : List (Held Bytes)) → 1 ≤ turns_of js → looking ≡ public_event (map_event length (looked_at js))
  unfolding turns_of looked_at public_event map_event
  look_first queue [] h = absurd (omega arith)
  look_first queue (j ∷ js) h = refl

  look_taken : (queue : ℕ) → 1 ≤ turns_of (σ.queues queue).jobs → Follows (look_judged b queue accept) (record { event = looked_at (σ.queues queue).jobs; after = σ })
  unfolding look_judged reply_by public_of
  look_taken queue h = record { public = look_first queue (σ.queues queue).jobs h; shows = r }

  look_judged_lem : (queue : ℕ) (v : Verdict) → look_verdict queue (turns_of (σ.queues queue).jobs) ≡ v → Follows (look_judged b queue v) (judged σ (Look queue) v)
  unfolding judged acts
  look_judged_lem queue accept e = look_taken queue (look_accepted queue _ e).some_turn
  look_judged_lem queue (refuse number) e = unfold look_judged in (refused_follows [] number)

  look_verdict_lem : (queue : ℕ) → check (board_fits b) 6 (look_verdict queue (u64_at (quarter_of b queue) turns_at)) ≡ look_verdict queue (turns_of (σ.queues queue).jobs)
  look_verdict_lem queue = six _ ∙ look_same queue _ _ (λ k. (r.each queue k).turns)

  look_follows : (queue : ℕ) → Follows (look_board b queue) (happens length σ (Look queue))
  unfolding look_board happens verdict
  look_follows queue = rw (look_verdict_lem queue) (look_judged_lem queue _ refl)

  quote_number : (queue kind : ℕ) → queue ≤ 3 → turns_until (u64_at b turn_at) queue (turns_left (quarter_of b queue)) kind ≡ quote_of σ queue kind
  unfolding quote_of
  quote_number queue kind low = rw (r.turn, turns_left_lem _ _ _ (r.each queue low))

  -- the whole reply of a quote is public
  pub record QuoteSays (d : Did) (h : Happened Bytes) : Type 0 where
    pub reply : reply_by d ≡ reply_of [] h.event
    pub public : public_of (reply_by d) ≡ public_event (map_event length h.event)
    pub board : d.board ≡ b
    pub after : h.after ≡ σ

  quote_taken : (queue kind : ℕ) → queue ≤ 3 → QuoteSays (quote_judged b queue kind accept) (record { event = quoted (quote_of σ queue kind); after = σ })
  unfolding quote_judged reply_by reply_of public_of public_event map_event
  quote_taken queue kind low =
      let e = quote_number queue kind low in
      record { reply = ap (λ (n : ℕ). record { answer = Quoted n; buffer = [] }) e; public = ap quoting e; board = refl; after = refl }

  quote_judged_lem : (queue kind : ℕ) (v : Verdict) → quote_verdict queue kind (length (σ.queues queue).jobs) ≡ v → QuoteSays (quote_judged b queue kind v) (judged σ (Quote queue kind) v)
  unfolding judged acts
  quote_judged_lem queue kind accept e = quote_taken queue kind (quote_accepted queue kind _ e)
  quote_judged_lem queue kind (refuse number) e =
      unfold quote_judged refused_did reply_by reply_of public_of public_event map_event in (record { reply = refl; public = refl; board = refl; after = refl })

  quote_says : (queue kind : ℕ) → QuoteSays (quote_board b queue kind) (happens length σ (Quote queue kind))
  unfolding quote_board happens verdict
  quote_says queue kind =
      let e : check (board_fits b) 6 (quote_verdict queue kind (u64_at (quarter_of b queue) held_at)) ≡ quote_verdict queue kind (length (σ.queues queue).jobs) =
      six _ ∙ quote_same queue kind _ _ (λ k. (r.each queue k).held) in
      rw e (quote_judged_lem queue kind _ refl)

  quote_follows : (queue kind : ℕ) → Follows (quote_board b queue kind) (happens length σ (Quote queue kind))
  quote_follows queue kind = let q = quote_says queue kind in record { public = q.public; shows = rw (q.board, q.after) r }

  pub follows : (c : Call Bytes) → Follows (did b c) (happens length σ c)
  unfolding did
  follows (Submit queue kind n block) = submit_follows queue kind n block
  follows (Turn buffer) = turn_follows buffer
  follows (Look queue) = look_follows queue
  follows (Quote queue kind) = quote_follows queue kind

-- ---- the calls, on a board that stands for a schedule

pub record PartedSimulates (d : Did) (buffer : Bytes) (h : Happened Bytes) : Type 0 where
  pub reply : reply_by d ≡ reply_of buffer h.event
  pub rep : Parted h.after d.board

module _ (σ : Schedule Bytes) (b : Bytes) (r : Parted σ b) where
  abbrev States : Schedule Bytes → Bytes → Type 0
  States τ c = (queue : ℕ) → queue ≤ 3 → Searched (quarter_of c queue) (τ.queues queue).jobs

  -- a reply, and the searches afterwards
  record Replies (d : Did) (buffer : Bytes) (h : Happened Bytes) : Type 0 where
    reply : reply_by d ≡ reply_of buffer h.event
    state : States h.after d.board

  fits : board_fits b ≡ true
  fits = parted_fits σ b r

  refused_sim : (buffer : Bytes) (number : ℕ) → Replies (refused_did b buffer number) buffer (record { event = refused number; after = σ })
  unfolding refused_did reply_by reply_of
  refused_sim buffer number = record { reply = refl; state = r.state }

  submit_sim_taken : (queue kind n : ℕ) (block : Bytes) → Submittable queue kind n (length block) (length (σ.queues queue).jobs)
      → Replies (submit_judged b queue kind n block accept) [] (submitted σ queue kind n block)
  unfolding submit_judged submitted reply_by reply_of entered
  submit_sim_taken queue kind n block s =
      let rq = r.shows.each queue s.queue_low in
      let ok : Request kind n block = record { fit_kind = s.fit_kind; fit_count = s.fit_count; block_fits = s.size_fits } in
      let v = submit_quarter (quarter_of b queue) kind n block in
      let lv = (submit_shows (σ.queues queue).count (σ.queues queue).jobs (quarter_of b queue) rq kind n block ok s.room).len in
      record {
        reply = ap (λ (t : ℕ). record { answer = Ticket t; buffer = [] }) rq.accepted;
        state = each_with StateOf σ.queues b r.shows.len r.state queue s.queue_low (entered kind n block (σ.queues queue)) v lv
            (submit_searched (σ.queues queue).count (σ.queues queue).jobs (quarter_of b queue) rq kind n block ok s.room (r.state queue s.queue_low));
      }

  submit_sim_judged : (queue kind n : ℕ) (block : Bytes) (v : Verdict) → submit_verdict queue kind n (length block) (length (σ.queues queue).jobs) ≡ v
      → Replies (submit_judged b queue kind n block v) [] (judged σ (Submit queue kind n block) v)
  unfolding judged acts
  submit_sim_judged queue kind n block accept e = submit_sim_taken queue kind n block (submit_accepted queue kind n _ _ e)
  submit_sim_judged queue kind n block (refuse number) e = unfold submit_judged in (refused_sim [] number)

  submit_sim : (queue kind n : ℕ) (block : Bytes) → Replies (submit_board b queue kind n block) [] (happens length σ (Submit queue kind n block))
  unfolding submit_board happens verdict
  submit_sim queue kind n block = rw (submit_verdict_lem σ b fits r.shows queue kind n block) (submit_sim_judged queue kind n block _ refl)

  served_rep : (buffer : Bytes) → Turns σ.turn (σ.queues σ.turn).count (σ.queues σ.turn).jobs (quarter_of b σ.turn) buffer
  served_rep buffer = turn_rep σ.turn _ _ (quarter_of b σ.turn) buffer (parted_queue r σ.turn r.shows.low)

  turn_sim_taken : (buffer : Bytes) → Replies (turn_judged b buffer accept) buffer (turn_taken σ)
  unfolding turn_judged turn_did turn_taken serves reply_by reply_of with_jobs
  turn_sim_taken buffer = rw r.shows.turn (at (served_rep buffer))
    where
      t : ℕ
      t = σ.turn

      d : DidQuarter
      d = turn_quarter t (quarter_of b t) buffer

      at : Turns t (σ.queues t).count (σ.queues t).jobs (quarter_of b t) buffer → Replies (turn_did b t d) buffer (turn_taken σ)
      at w =
          record {
            reply = w.reply;
            state = each_turned StateOf σ.queues b r.shows.len r.state t (onward t) r.shows.low (with_jobs (σ.queues t) (undergo (σ.queues t).jobs).jobs) d.quarter w.shows.len w.state;
          }

  turn_sim_judged : (buffer : Bytes) (v : Verdict) → Replies (turn_judged b buffer v) buffer (judged σ (Turn buffer) v)
  unfolding judged acts
  turn_sim_judged buffer accept = turn_sim_taken buffer
  turn_sim_judged buffer (refuse number) = unfold turn_judged in (refused_sim buffer number)

  turn_sim : (buffer : Bytes) → Replies (turn_board b buffer) buffer (happens length σ (Turn buffer))
  unfolding turn_board happens verdict
  turn_sim buffer = rw (six σ b fits r.shows (turn_verdict (length buffer))) (turn_sim_judged buffer (turn_verdict (length buffer)))

  sight_state : (s : State) (w : Sight) → ◌≡◌ {A = Sight} (record { evaluations = s.evaluations; density = s.latest }) w → ◌≡◌ {A = Reply} (record { answer = Shown s.evaluations s.latest; buffer = [] }) (sight_reply [] w)
  unfolding sight_reply
  sight_state s w e = ap (λ (x : Sight). record { answer = Shown x.evaluations x.density; buffer = [] }) e

  look_seen : (queue : ℕ) (c : ℕ) (js : List (Held Bytes)) → PartedQueue c js (quarter_of b queue) → 1 ≤ turns_of js
      → ◌≡◌ {A = Reply} (record { answer = Shown (load_state (quarter_of b queue)).evaluations (load_state (quarter_of b queue)).latest; buffer = [] }) (reply_of [] (looked_at js))
  unfolding turns_of looked_at reply_of
  look_seen queue c [] rq h = absurd (omega arith)
  look_seen queue c (j ∷ js) rq h =
      let s = state_then rq.state h in
      ap (λ (x : State). record { answer = Shown x.evaluations x.latest; buffer = [] }) s
      ∙ sight_state (state_after (view j.kind j.n j.block) j.turns) _ (stepping.shows j.kind j.n j.block (request_of c j js (quarter_of b queue) rq.shows) j.turns)

  look_sim_taken : (queue : ℕ) → queue ≤ 3 → 1 ≤ turns_of (σ.queues queue).jobs → Replies (look_judged b queue accept) [] (record { event = looked_at (σ.queues queue).jobs; after = σ })
  unfolding look_judged reply_by
  look_sim_taken queue low h = record { reply = look_seen queue (σ.queues queue).count (σ.queues queue).jobs (parted_queue r queue low) h; state = r.state }

  look_sim_judged : (queue : ℕ) (v : Verdict) → look_verdict queue (turns_of (σ.queues queue).jobs) ≡ v → Replies (look_judged b queue v) [] (judged σ (Look queue) v)
  unfolding judged acts
  look_sim_judged queue accept e = let a = look_accepted queue _ e in look_sim_taken queue a.queue_low a.some_turn
  look_sim_judged queue (refuse number) e = unfold look_judged in (refused_sim [] number)

  look_sim : (queue : ℕ) → Replies (look_board b queue) [] (happens length σ (Look queue))
  unfolding look_board happens verdict
  look_sim queue = rw (look_verdict_lem σ b fits r.shows queue) (look_sim_judged queue _ refl)

  quote_sim : (queue kind : ℕ) → Replies (quote_board b queue kind) [] (happens length σ (Quote queue kind))
  quote_sim queue kind = let q = quote_says σ b fits r.shows queue kind in record { reply = q.reply; state = rw (q.board, q.after) r.state }

  replies_by : (c : Call Bytes) → Replies (did b c) (buffer_of c) (happens length σ c)
  unfolding did buffer_of
  replies_by (Submit queue kind n block) = submit_sim queue kind n block
  replies_by (Turn buffer) = turn_sim buffer
  replies_by (Look queue) = look_sim queue
  replies_by (Quote queue kind) = quote_sim queue kind

  pub parted_simulates : (c : Call Bytes) → PartedSimulates (did b c) (buffer_of c) (happens length σ c)
  parted_simulates c = let s = replies_by c in record { reply = s.reply; rep = record { shows = (follows σ b fits r.shows c).shows; state = s.state } }

  -- a turn leaves the quarters of the other queues
  pub parted_turn_others : (buffer : Bytes) → turn_verdict (length buffer) ≡ accept → (q : ℕ) → q ≤ 3 → (q ≡ σ.turn → ⊥) → quarter_of (turn_board b buffer).board q ≡ quarter_of b q
  unfolding turn_board
  parted_turn_others buffer v q h n = rw (six σ b fits r.shows (turn_verdict (length buffer)), v) others
    where
      len : length (turn_quarter σ.turn (quarter_of b σ.turn) buffer).quarter ≡ quarter_length
      len = (served_shows σ b fits r.shows buffer).shows.len

      named : (t : ℕ) → t ≡ σ.turn → quarter_of (turn_did b t (turn_quarter t (quarter_of b t) buffer)).board q ≡ quarter_of b q
      named t e = rw e (turned_others b σ.turn (turn_quarter σ.turn (quarter_of b σ.turn) buffer) len q h n)

      others : quarter_of (turn_judged b buffer accept).board q ≡ quarter_of b q
      others = judged_board b buffer q (named (u64_at b turn_at) r.shows.turn)

  -- a submit leaves the quarters of the other queues
  judged_others : (queue kind n : ℕ) (block : Bytes) (v : Verdict) → submit_verdict queue kind n (length block) (length (σ.queues queue).jobs) ≡ v → (q : ℕ) → (q ≡ queue → ⊥)
      → quarter_of (submit_judged b queue kind n block v).board q ≡ quarter_of b q
  unfolding submit_judged refused_did
  judged_others queue kind n block accept e q ne =
      let s = submit_accepted queue kind n _ _ e in
      let rv = submit_shows (σ.queues queue).count (σ.queues queue).jobs (quarter_of b queue) (r.shows.each queue s.queue_low) kind n block (record { fit_kind = s.fit_kind; fit_count = s.fit_count; block_fits = s.size_fits }) s.room in
      quarter_other b (submit_quarter (quarter_of b queue) kind n block) queue q rv.len ne
  judged_others queue kind n block (refuse number) e q ne = refl

  pub parted_submit_others : (queue kind n : ℕ) (block : Bytes) (q : ℕ) → (q ≡ queue → ⊥) → quarter_of (submit_board b queue kind n block).board q ≡ quarter_of b q
  unfolding submit_board
  parted_submit_others queue kind n block q ne = rw (submit_verdict_lem σ b fits r.shows queue kind n block) (judged_others queue kind n block _ refl q ne)
