-- What a quote promises, on any board that passes 6: by the schedule that the board shows. Assumes nothing.
use mathlib.Core.Path.{◌≡◌, refl, sym, ap, ◌∙◌, subst}
use Prim.Native.Nat.{ℕ, zero, suc, ◌+◌, ◌-◌, ◌*◌, ◌%◌, ◌^◌, ◌≤◌, ◌<◌}
use mathlib.Core.Bool.{true, cond}
use mathlib.Core.List.{List, [], ◌∷◌}
use mathlib.Core.Option.{Option, none, some}
use native.Mathlib.Omega.{arith}
use lib.ListN.{length}
use lib.Dec.{leb, ltb, eqb}
use borrow.Author.Tests.{le-leb, leb-true, ltb-true}
use Rattle.buf.specs.Bytes.{bytes_of, part, splice, num_at, u64_at}
use Rattle.buf.proofs.Laws.{le_bytes_of}
use Rattle.records.specs.Record.{public_bytes}
use Rattle.schedule.specs.Spans.{kind_fits, span_of}
use Rattle.schedule.specs.Schedule.{Held, Schedule, Call, Submit, Turn, Quote, Event, refused, accepted, served, looked, quoted, Verdict, accept, refuse, check, submit_verdict, turn_verdict, quote_verdict, verdict, serves, turns_until, undergo, turn_taken, acts, judged, happens, events, after_all, fresh, map_held, map_out, map_event}
use Rattle.schedule.specs.History.{queues_served}
use Rattle.schedule.specs.Refusals.{Inside, CountRight}
use Rattle.schedule.specs.Quoted as Course
use Rattle.schedule.proofs.Tests.{check_ok, check_next, count_right, span_within}
use Rattle.schedule.proofs.Refusals.{refusals}
use Rattle.schedule.proofs.Quote.{Sound, away_low, sound_kept, fresh_sound, quoted_exact as schedule-exact}
use Rattle.schedule.proofs.Tickets.{Ticketed, its_ticket, later_ticket, by_ticket}
use Rattle.board_spec.specs.Layout.{turn_at, held_at, kind_at}
use Rattle.board_spec.specs.Quarter.{slot_of, first_ticket, spans_from, turns_left}
use Rattle.board_spec.specs.Board.{quarter_of, served_in, board_fits, Answer, Refused, Ticket, Turned, Shown, Quoted, Did, refused_did, submit_judged, submit_board, turn_did, turn_judged, turn_board, quote_judged, quote_board}
use Rattle.board_spec.specs.Run.{Bytes, Calls, zero_board, did, board_after, Reply, reply_by, replies, record_of, turn_reply, reply_of, buffer_of, Public, refusal, ticketed, turning, looking, quoting, public_of, public_out, public_event}
use Rattle.board_spec.specs.Rep.{Shows, Rep}
use Rattle.board_spec.specs.Demand1.{SameFill}
use Rattle.board_spec.specs.Quoted.{taken, turns_taken, Planned, entered, turn_then, place, HandsOut, QuotedExact}
use Rattle.board_spec.proofs.Tested.{board_tested}
use Rattle.board_spec.proofs.Sim.{submit_accepted, follows}
use Rattle.board_spec.proofs.Whole.{rep_parted, rep_fits, zero_rep, simulates}
use Rattle.board_spec.proofs.Runs.{rep_after, quote_unchanged}
use Rattle.board_spec.proofs.Fits.{passes_on}
use Rattle.board_spec.proofs.AnyBoard.{schedule_of, shows_some, shows_after, some_sound, shows_ticketed}
use Rattle.board_spec.proofs.Demand1.{quote_told}

-- ---- what is read of a record's public bytes

ticket_read : (ticket kind queue : ℕ) → ticket < 2 ^ 64 → u64_at (public_bytes ticket kind queue) 0 ≡ ticket
unfolding num_at part public_bytes bytes_of
ticket_read ticket kind queue h = le_bytes_of 8 ticket h

queue_read : (ticket kind queue : ℕ) → queue ≤ 3 → num_at 1 (public_bytes ticket kind queue) 9 ≡ queue
unfolding num_at part public_bytes bytes_of
queue_read ticket kind queue h = le_bytes_of 1 queue (omega arith)

same_ticket : (t k q t' k' q' : ℕ) → t < 2 ^ 64 → t' < 2 ^ 64 → public_bytes t k q ≡ public_bytes t' k' q' → t ≡ t'
same_ticket t k q t' k' q' h h' e = sym (ticket_read t k q h) ∙ ap (λ (w : Bytes). u64_at w 0) e ∙ ticket_read t' k' q' h'

same_queue : (t k q t' k' q' : ℕ) → q ≤ 3 → q' ≤ 3 → public_bytes t k q ≡ public_bytes t' k' q' → q ≡ q'
same_queue t k q t' k' q' h h' e = sym (queue_read t k q h) ∙ ap (λ (w : Bytes). num_at 1 w 9) e ∙ queue_read t' k' q' h'

-- ---- what an answer tells of what is public, and that of the event

quoted_public : (d : Did) (turns : ℕ) → d.answer ≡ Quoted turns → public_of (reply_by d) ≡ quoting turns
unfolding public_of reply_by
quoted_public d turns e = rw e

ticket_public : (d : Did) (ticket : ℕ) → d.answer ≡ Ticket ticket → public_of (reply_by d) ≡ ticketed ticket
unfolding public_of reply_by
ticket_public d ticket e = rw e

handed_public : (d : Did) (ticket kind queue : ℕ) → HandsOut d ticket kind queue → public_of (reply_by d) ≡ turning 1 (public_bytes ticket kind queue)
unfolding public_of reply_by
handed_public d ticket kind queue h = rw h.answer (ap (turning 1) h.written)

public_handed : (d : Did) (ticket kind queue : ℕ) → public_of (reply_by d) ≡ turning 1 (public_bytes ticket kind queue) → HandsOut d ticket kind queue
unfolding public_of reply_by
public_handed d ticket kind queue e = go d.answer refl e
  where
    go : (a : Answer) → d.answer ≡ a → public_of (record { answer = a; buffer = d.buffer }) ≡ turning 1 (public_bytes ticket kind queue) → HandsOut d ticket kind queue
    go (Refused number) z e = let y : ◌≡◌ {A = ℕ} 0 1 = cc in absurd (omega arith)
    go (Ticket t) z e = let y : ◌≡◌ {A = ℕ} 0 1 = cc in absurd (omega arith)
    go (Shown evaluations density) z e = let y : ◌≡◌ {A = ℕ} 0 1 = cc in absurd (omega arith)
    go (Quoted turns) z e = let y : ◌≡◌ {A = ℕ} 0 1 = cc in absurd (omega arith)
    go (Turned answer) z e =
        let one : answer ≡ 1 = cc in
        let bytes : cond (eqb answer 1) (part d.buffer 0 16) [] ≡ public_bytes ticket kind queue = cc in
        record { answer = z ∙ ap Turned one; written = rw one at bytes }

event_quoted : (e : Event Bytes) (turns : ℕ) → public_event (map_event length e) ≡ quoting turns → e ≡ quoted turns
unfolding public_event map_event public_out map_out
event_quoted (refused number) turns h = cc
event_quoted (accepted ticket) turns h = cc
event_quoted (served queue none) turns h = cc
event_quoted (served queue (some j)) turns h = cc
event_quoted (looked j) turns h = cc
event_quoted (quoted n) turns h = cc

event_accepted : (e : Event Bytes) (ticket : ℕ) → public_event (map_event length e) ≡ ticketed ticket → e ≡ accepted ticket
unfolding public_event map_event public_out map_out
event_accepted (refused number) ticket h = cc
event_accepted (accepted t) ticket h = cc
event_accepted (served queue none) ticket h = cc
event_accepted (served queue (some j)) ticket h = cc
event_accepted (looked j) ticket h = cc
event_accepted (quoted n) ticket h = cc

-- a job is handed out
record Handed (e : Event Bytes) (w : Bytes) : Type 0 where
  queue : ℕ
  job : Held Bytes
  event : e ≡ served queue (some job)
  bytes : public_bytes job.ticket job.kind queue ≡ w

event_handed : (e : Event Bytes) (w : Bytes) → public_event (map_event length e) ≡ turning 1 w → Handed e w
unfolding public_event map_event public_out map_out map_held
event_handed (refused number) w h = let y : ◌≡◌ {A = ℕ} 0 1 = cc in absurd (omega arith)
event_handed (accepted ticket) w h = let y : ◌≡◌ {A = ℕ} 0 1 = cc in absurd (omega arith)
event_handed (served queue none) w h = let y : ◌≡◌ {A = ℕ} 0 1 = cc in absurd (omega arith)
event_handed (served queue (some j)) w h = record { queue = queue; job = j; event = refl; bytes = cc }
event_handed (looked j) w h = let y : ◌≡◌ {A = ℕ} 0 1 = cc in absurd (omega arith)
event_handed (quoted n) w h = let y : ◌≡◌ {A = ℕ} 0 1 = cc in absurd (omega arith)

-- ---- counting

-- 1 for what is public of an accepted turn
turns_shown : Public → ℕ
turns_shown (refusal number) = 0
turns_shown (ticketed ticket) = 0
turns_shown (turning answer written) = 1
turns_shown looking = 0
turns_shown (quoting turns) = 0

taken_public : (a : Answer) (buffer : Bytes) → taken a ≡ turns_shown (public_of (record { answer = a; buffer = buffer }))
unfolding taken turns_shown public_of
taken_public (Refused number) buffer = refl
taken_public (Ticket ticket) buffer = refl
taken_public (Turned answer) buffer = refl
taken_public (Shown evaluations density) buffer = refl
taken_public (Quoted turns) buffer = refl

served_public : (e : Event Bytes) (es : List (Event Bytes)) → turns_shown (public_event (map_event length e)) + length (queues_served es) ≡ length (queues_served (e ∷ es))
unfolding turns_shown public_event map_event public_out map_out queues_served
served_public (refused number) es = omega arith
served_public (accepted ticket) es = omega arith
served_public (served queue none) es = omega arith
served_public (served queue (some j)) es = omega arith
served_public (looked j) es = omega arith
served_public (quoted turns) es = omega arith

turns_same : (σ : Schedule Bytes) (b : Bytes) → board_fits b ≡ true → Shows σ b → (cs : Calls) → turns_taken (replies b cs) ≡ length (queues_served (events length σ cs))
unfolding turns_taken replies reply_by events queues_served
turns_same σ b f r [] = refl
turns_same σ b f r (c ∷ cs) =
    let s = follows σ b f r c in
    let rest = turns_same (happens length σ c).after (did b c).board (passes_on.one_call b c f) s.shows cs in
    let first : taken (did b c).answer ≡ turns_shown (public_event (map_event length (happens length σ c).event)) = taken_public (did b c).answer (did b c).buffer ∙ ap turns_shown s.public in
    rw (first, rest) (served_public (happens length σ c).event (events length (happens length σ c).after cs))

-- ---- a turn with room for a record is accepted

turn_event : (σ : Schedule Bytes) (buffer : Bytes) → 64 ≤ length buffer → (happens length σ (Turn buffer)).event ≡ served (serves σ) (undergo (σ.queues (serves σ)).jobs).out
unfolding happens verdict turn_verdict judged acts turn_taken
turn_event σ buffer h = rw (le-leb 64 (length buffer) h)

turn_taken_lem : (b buffer : Bytes) → board_fits b ≡ true → 64 ≤ length buffer → taken (turn_board b buffer).answer ≡ 1
unfolding turn_board turn_verdict turn_judged turn_did taken
turn_taken_lem b buffer f h = rw (f, le-leb 64 (length buffer) h)

-- ---- what an answered quote tells

record Answered (b : Bytes) (queue kind turns : ℕ) : Type 0 where
  fits : board_fits b ≡ true
  low : queue ≤ 3
  room : u64_at (quarter_of b queue) held_at < 8
  number : turns ≡ turns_until (u64_at b turn_at) queue (turns_left (quarter_of b queue)) kind

quote_answered : (b : Bytes) (queue kind turns : ℕ) → (quote_board b queue kind).answer ≡ Quoted turns → Answered b queue kind turns
unfolding quote_board quote_verdict
quote_answered b queue kind turns e = go (check (board_fits b) 6 (quote_verdict queue kind (u64_at (quarter_of b queue) held_at))) refl e
  where
    go : (v : Verdict) → check (board_fits b) 6 (quote_verdict queue kind (u64_at (quarter_of b queue) held_at)) ≡ v → (quote_judged b queue kind v).answer ≡ Quoted turns → Answered b queue kind turns
    go accept z h =
        let z₁ = check_next (board_fits b) 6 _ z in
        let z₂ = check_next (leb queue 3) 1 _ z₁ in
        let z₃ = check_next (kind_fits kind) 2 _ z₂ in
        record {
          fits = check_ok (board_fits b) 6 _ z;
          low = leb-true queue 3 (check_ok (leb queue 3) 1 _ z₁);
          room = ltb-true (u64_at (quarter_of b queue) held_at) 8 (check_ok (ltb (u64_at (quarter_of b queue) held_at) 8) 4 _ z₃);
          number = told h;
        }
      where
        told : (quote_judged b queue kind accept).answer ≡ Quoted turns → turns ≡ turns_until (u64_at b turn_at) queue (turns_left (quarter_of b queue)) kind
        told h = unfold quote_judged in (cc)
    go (refuse number) z h = unfold quote_judged refused_did in (let y : ◌≡◌ {A = ℕ} 0 1 = cc in absurd (omega arith))

spans_most : (q : Bytes) (t k : ℕ) → spans_from q t k ≤ 6204 * k
unfolding spans_from
spans_most q t zero = omega arith
spans_most q t (suc k) = let i = spans_most q (t + 1) k in let s = span_within (u64_at q (kind_at (slot_of t))) in omega arith

left_most : (q : Bytes) → turns_left q ≤ 6204 * u64_at q held_at
unfolding turns_left
left_most q = let s = spans_most q (first_ticket q) (u64_at q held_at) in omega arith

within : (b : Bytes) (queue kind turns : ℕ) → (quote_board b queue kind).answer ≡ Quoted turns → Inside 117 198528 turns
unfolding turns_until
within b queue kind turns e =
    let a = quote_answered b queue kind turns e in
    let n = a.number in
    let room = a.room in
    let l = left_most (quarter_of b queue) in
    let s = span_within kind in
    let w = away_low (u64_at b turn_at) queue (board_tested b a.fits).turn_inside a.low in
    omega arith

-- ---- the promise, by the schedule that the board shows

module _ (b : Bytes) (f : board_fits b ≡ true) (σ : Schedule Bytes) (r : Shows σ b) (sound : Sound σ) (x : Planned b) where
  abbrev submitting : Call Bytes
  submitting = Submit x.queue x.kind x.n x.block

  submit_event : (happens length σ submitting).event ≡ accepted x.ticket
  unfolding did
  submit_event = event_accepted _ x.ticket (sym (follows σ b f r submitting).public ∙ ticket_public _ x.ticket x.accepted)

  quote_event : (happens length σ (Quote x.queue x.kind)).event ≡ quoted x.turns
  unfolding did
  quote_event = event_quoted _ x.turns (sym (follows σ b f r (Quote x.queue x.kind)).public ∙ quoted_public _ x.turns x.quoted)

  abbrev course : Course.Course length σ
  course =
      record {
        queue = x.queue;
        kind = x.kind;
        number = x.turns;
        answered = quote_event;
        n = x.n;
        block = x.block;
        ticket = x.ticket;
        taken = submit_event;
        between = x.between;
      }

  -- the board before the turn
  fits_entered : board_fits (entered x) ≡ true
  unfolding entered
  fits_entered = unfold did in (passes_on.one_call b submitting f)

  shows_entered : Shows (Course.entry course) (entered x)
  unfolding entered
  shows_entered = unfold did in (follows σ b f r submitting).shows

  abbrev board_then : Bytes
  board_then = board_after (entered x) x.between

  fits_then : board_fits board_then ≡ true
  fits_then = passes_on.any_calls (entered x) x.between fits_entered

  shows_then : Shows (Course.reached course) board_then
  shows_then = shows_after (Course.entry course) (entered x) fits_entered shows_entered x.between

  place_same : place x ≡ Course.place course
  unfolding place
  place_same = ap (λ (n : ℕ). n + 1) (turns_same (Course.entry course) (entered x) fits_entered shows_entered x.between)

  turn_public : public_of (reply_by (turn_then x)) ≡ public_event (map_event length (Course.event_then course (Turn x.buffer)))
  unfolding turn_then
  turn_public = unfold did in (follows (Course.reached course) board_then fits_then shows_then (Turn x.buffer)).public

  accepted_turn : Course.AcceptedTurn (Course.event_then course (Turn x.buffer))
  accepted_turn = subst (λ (e : Event Bytes). Course.AcceptedTurn e) (sym (turn_event (Course.reached course) x.buffer x.room)) tt

  exact : Course.Exact course
  exact = schedule-exact length σ sound course

  then_event : place x ≡ x.turns → Course.event_then course (Turn x.buffer) ≡ served x.queue (some (Course.job course))
  then_event e = exact.then_it (Turn x.buffer) accepted_turn (sym place_same ∙ e)

  then_it : place x ≡ x.turns → HandsOut (turn_then x) x.ticket x.kind x.queue
  then_it e = public_handed (turn_then x) x.ticket x.kind x.queue (turn_public ∙ ap (λ (v : Event Bytes). public_event (map_event length v)) (then_event e) ∙ (unfold public_event map_event public_out map_out map_held in refl))

  low : x.queue ≤ 3
  low = (quote_answered b x.queue x.kind x.turns x.quoted).low

  first : ℕ
  first = (σ.queues x.queue).count - length (σ.queues x.queue).jobs

  ticketed_first : Ticketed x.queue first σ
  unfolding first
  ticketed_first = shows_ticketed σ b r x.queue low

  remainder_low : (t n : ℕ) → t ≡ n % 2 ^ 64 → t < 2 ^ 64
  remainder_low t n e = omega arith

  no_other : (kind : ℕ) → place x ≤ 2 ^ 64 → HandsOut (turn_then x) x.ticket kind x.queue → place x ≡ x.turns
  no_other kind few h =
      let g = event_handed _ _ (sym turn_public ∙ handed_public (turn_then x) x.ticket kind x.queue h) in
      let is_turn = turn_event (Course.reached course) x.buffer x.room in
      let served-is : g.queue ≡ serves (Course.reached course) = served_queue (sym g.event ∙ is_turn) in
      let same = same_queue _ _ _ _ _ _ (served_low g.queue served-is) low g.bytes in
      let e : Course.event_then course (Turn x.buffer) ≡ served x.queue (some g.job) = g.event ∙ ap (λ (q : ℕ). served q (some g.job)) same in
      let its = remainder_low x.ticket _ (its_ticket length σ course first ticketed_first) in
      let later = remainder_low g.job.ticket _ (later_ticket length σ course first ticketed_first (Turn x.buffer) g.job e) in
      let t : g.job.ticket ≡ x.ticket = same_ticket _ _ _ _ _ _ later its g.bytes in
      place_same ∙ exact.no_other (Turn x.buffer) (by_ticket length σ course first ticketed_first (Turn x.buffer) g.job e t (rw place_same at few))
    where
      served_queue : {q s : ℕ} {o p : Option (Held Bytes)} → served q o ≡ served s p → q ≡ s
      served_queue e = cc

      served_low : (q : ℕ) → q ≡ serves (Course.reached course) → q ≤ 3
      served_low q e = let l = shows_then.low in unfold serves in (rw e l)

-- ---- on a board that a run from zero bytes reaches: the whole record

module _ (run : Calls) (x : Planned (board_after zero_board run)) where
  abbrev σ₀ : Schedule Bytes
  σ₀ = after_all length fresh run

  abbrev b₀ : Bytes
  b₀ = board_after zero_board run

  rep : Rep σ₀ b₀
  rep = rep_after fresh zero_board zero_rep run

  sound_run : Sound σ₀
  sound_run = sound_kept length fresh run fresh_sound

  abbrev fits_run : board_fits b₀ ≡ true
  fits_run = rep_fits σ₀ b₀ rep

  abbrev planned : Course.Course length σ₀
  planned = course b₀ fits_run σ₀ (rep_parted rep).shows sound_run x

  rep_then : Rep (Course.reached planned) (board_after (entered x) x.between)
  unfolding entered
  rep_then = unfold after_all board_after did in (rep_after σ₀ b₀ rep (Submit x.queue x.kind x.n x.block ∷ x.between))

  reply_then : reply_by (turn_then x) ≡ reply_of x.buffer (Course.event_then planned (Turn x.buffer))
  unfolding turn_then
  reply_then = unfold did buffer_of in (simulates (Course.reached planned) (board_after (entered x) x.between) rep_then (Turn x.buffer)).reply

  its_record : place x ≡ x.turns
      → (turn_then x).buffer ≡ splice x.buffer 0 (record_of x.queue (record { kind = x.kind; n = x.n; block = x.block; ticket = x.ticket; turns = span_of x.kind }))
  unfolding reply_by
  its_record e =
      ap (λ (v : Reply). v.buffer) (reply_then ∙ ap (reply_of x.buffer) (then_event b₀ fits_run σ₀ (rep_parted rep).shows sound_run x e)) ∙ (unfold reply_of turn_reply in refl)

-- ---- refused as by submit

quote_refused : (b : Bytes) (queue kind n : ℕ) (block : Bytes) (number : ℕ) (v : Verdict)
    → ((quote_judged b queue kind v).answer ≡ Refused number → (submit_judged b queue kind n block v).answer ≡ Refused number)
    × ((submit_judged b queue kind n block v).answer ≡ Refused number → (quote_judged b queue kind v).answer ≡ Refused number)
unfolding quote_judged submit_judged refused_did
quote_refused b queue kind n block number accept = (λ e. (let y : ◌≡◌ {A = ℕ} 0 1 = cc in absurd (omega arith)), λ e. (let y : ◌≡◌ {A = ℕ} 0 1 = cc in absurd (omega arith)))
quote_refused b queue kind n block number (refuse m) = (λ e. e, λ e. e)

-- one verdict for both, where N and block fit
one_verdict : (b : Bytes) (queue kind n : ℕ) (block : Bytes) → CountRight kind n → length block ≡ 640
    → check (board_fits b) 6 (submit_verdict queue kind n (length block) (u64_at (quarter_of b queue) held_at)) ≡ check (board_fits b) 6 (quote_verdict queue kind (u64_at (quarter_of b queue) held_at))
one_verdict b queue kind n block c l = rw (l, refusals.quote_as_submit queue kind n (u64_at (quarter_of b queue) held_at) c)

refused_as_submit : (b : Bytes) (queue kind n : ℕ) (block : Bytes) → CountRight kind n → length block ≡ 640 → (number : ℕ)
    → ((quote_board b queue kind).answer ≡ Refused number → (submit_board b queue kind n block).answer ≡ Refused number) × ((submit_board b queue kind n block).answer ≡ Refused number → (quote_board b queue kind).answer ≡ Refused number)
unfolding quote_board submit_board
refused_as_submit b queue kind n block c l number = rw (one_verdict b queue kind n block c l) (quote_refused b queue kind n block number _)

answered : (b : Bytes) (queue kind n : ℕ) (block : Bytes) (ticket : ℕ) → (submit_board b queue kind n block).answer ≡ Ticket ticket → (turns : ℕ) × ((quote_board b queue kind).answer ≡ Quoted turns)
unfolding quote_board submit_board
answered b queue kind n block ticket e = go (check (board_fits b) 6 (submit_verdict queue kind n (length block) (u64_at (quarter_of b queue) held_at))) refl e
  where
    go : (v : Verdict) → check (board_fits b) 6 (submit_verdict queue kind n (length block) (u64_at (quarter_of b queue) held_at)) ≡ v → (submit_judged b queue kind n block v).answer ≡ Ticket ticket
        → (turns : ℕ) × ((quote_judged b queue kind (check (board_fits b) 6 (quote_verdict queue kind (u64_at (quarter_of b queue) held_at)))).answer ≡ Quoted turns)
    go accept z h =
        let s = submit_accepted queue kind n (length block) (u64_at (quarter_of b queue) held_at) (check_next (board_fits b) 6 _ z) in
        let v : check (board_fits b) 6 (quote_verdict queue kind (u64_at (quarter_of b queue) held_at)) ≡ accept = sym (one_verdict b queue kind n block (count_right kind n s.fit_count) s.size_fits) ∙ z in
        (turns_until (u64_at b turn_at) queue (turns_left (quarter_of b queue)) kind, rw v (unfold quote_judged in refl))
    go (refuse number) z h = unfold submit_judged refused_did in (let y : ◌≡◌ {A = ℕ} 0 1 = cc in absurd (omega arith))

-- ---- the promise

module _ {b : Bytes} (x : Planned b) where
  fits_some : board_fits b ≡ true
  fits_some = (quote_answered b x.queue x.kind x.turns x.quoted).fits

  turn_accepted : taken (turn_then x).answer ≡ 1
  unfolding turn_then
  turn_accepted = turn_taken_lem _ x.buffer (fits_then b fits_some (schedule_of b) (shows_some b fits_some) (some_sound b fits_some) x) x.room

  hands_out : place x ≡ x.turns → HandsOut (turn_then x) x.ticket x.kind x.queue
  hands_out e = then_it b fits_some (schedule_of b) (shows_some b fits_some) (some_sound b fits_some) x e

  only_then : (kind : ℕ) → place x ≤ 2 ^ 64 → HandsOut (turn_then x) x.ticket kind x.queue → place x ≡ x.turns
  only_then kind few h = no_other b fits_some (schedule_of b) (shows_some b fits_some) (some_sound b fits_some) x kind few h

  none_before : (kind : ℕ) → place x < x.turns → HandsOut (turn_then x) x.ticket kind x.queue → ⊥
  none_before kind early h =
      let w = within b x.queue x.kind x.turns x.quoted in
      let e = only_then kind (omega arith) h in
      omega arith

only_read : (b : Bytes) (queue kind : ℕ) → (quote_board b queue kind).board ≡ b
only_read b queue kind = unfold did in (quote_unchanged b queue kind).board

public_only : (b b' : Bytes) (queue kind : ℕ) → board_fits b ≡ board_fits b' → served_in b ≡ served_in b' → (queue ≤ 3 → SameFill b b' queue) → (quote_board b queue kind).answer ≡ (quote_board b' queue kind).answer
unfolding reply_by
public_only b b' queue kind six turn fill = ap (λ (v : Reply). v.answer) (quote_told b b' queue kind six turn fill)

pub quoted_exact : QuotedExact
quoted_exact =
    record {
      turn_accepted = turn_accepted;
      then_it = hands_out;
      none_before = none_before;
      no_other = only_then;
      its_record = its_record;
      refused_as_submit = refused_as_submit;
      answered = answered;
      within = within;
      public_only = public_only;
      only_read = only_read;
    }
