-- A quarter that shows a queue, and passes 6, shows the queue after a job is added and after a turn. One that stands for a queue passes 6, and stands for it after
-- these. Assumes nothing.
use mathlib.Core.Path.{◌≡◌, refl, sym, ap, ◌∙◌, subst}
use Prim.Native.Nat.{ℕ, suc, ◌+◌, ◌-◌, ◌%◌, ◌^◌, ◌≤◌, ◌<◌}
use mathlib.Core.Bool.{Bool, true, false, cond}
use mathlib.Core.List.{List, [], ◌∷◌, ◌++◌}
use mathlib.Core.Option.{none, some}
use native.Mathlib.Omega.{arith}
use native.Mathlib.Numerals.{add-one}
use lib.ListN.{length, length-append}
use lib.Dec.{eqb}
use borrow.Author.Tests.{eq-eqb, ne_eqb, eqb-true, eqb-false}
use Rattle.buf.specs.Bytes.{part, splice, u64_at}
use Rattle.reader.specs.declared.types.Job.{Job}
use Rattle.reader.specs.View.{view}
use Rattle.records.specs.Record.{record_bytes, sealed_bytes, sealed_of}
use Rattle.schedule.specs.Spans.{kind_fits, count_fits, span_of}
use Rattle.schedule.specs.Schedule.{Held, turns_of, left, work, Undergone, turned, undergo, map_held, map_out}
use Rattle.schedule.proofs.OnTime.{leaves, stays}
use Rattle.solver_state.specs.declared.types.State.{State}
use Rattle.stepping.specs.Stepping.{start_of, step_of}
use Rattle.board_spec.specs.Layout.{accepted_at, held_at, turns_at, kind_at, count_at}
use Rattle.stepping.specs.States.{Request, state_after, outcome_at}
use Rattle.stepping.proofs.Laws.{stepping}
use Rattle.board_spec.specs.Quarter.{load_state, first_ticket, slot_of, first_slot, first_kind, first_job, slot_fits, slots_fit, quarter_fits, spans_from, turns_left, submit_quarter, state_of, stepped_of, kept_quarter, freed_quarter, DidQuarter, turn_quarter}
use Rattle.board_spec.specs.Board.{Turned}
use Rattle.board_spec.specs.Run.{Bytes, record_of, turn_reply, turning, public_of, public_out}
use Rattle.board_spec.specs.Rep.{InSlot, Stands, no_more, stands, Waiting, nobody, waits, Begun, none_begun, begun, ShowsQueue, Searched, no_job, searched, PartedQueue}
use Rattle.board_spec.proofs.Bytes.{SameSlot, slot_tail}
use Rattle.board_spec.proofs.Tested.{state_fits_same, UnderWay, Tested, tested_quarter}
use Rattle.board_spec.proofs.Quarters.{slot_low, Added, added, freed}
use Rattle.board_spec.proofs.AnyQuarter.{job_same, turn_idle, turn_out, turn_on, record_public, kept_reads}
use Rattle.schedule.proofs.Tests.{both, span_within}

-- ---- numbers

ticket_first : (c l : ℕ) → l ≤ c → l ≤ 8 → (c % 2 ^ 64 + (2 ^ 64 - l)) % 2 ^ 64 ≡ (c - l) % 2 ^ 64
ticket_first c l h k = omega arith

slot_ticket : (t : ℕ) → t % 2 ^ 64 % 8 ≡ t % 8
slot_ticket t = omega arith

ticket_next : (c : ℕ) → (c % 2 ^ 64 + 1) % 2 ^ 64 ≡ (c + 1) % 2 ^ 64
ticket_next c = omega arith

slot_next : (s t : ℕ) → s % 8 ≡ t % 8 → (s + 1) % 8 ≡ suc t % 8
slot_next s t e = omega arith

-- eight successive tickets have eight slots
slots_apart : (t i l : ℕ) → i < l → l < 8 → (t + i) % 8 ≡ (t + l) % 8 → ⊥
slots_apart t i l h k e = omega arith

-- ---- slots

slot_kept : (p q : Bytes) (slot : ℕ) (j : Held Bytes) → SameSlot p q slot → InSlot q slot j → InSlot p slot j
slot_kept p q slot j s i = record { kind = s.kind ∙ i.kind; n = s.n ∙ i.n; block = s.block ∙ i.block; request = i.request }

stands_at : {q : Bytes} {t : ℕ} {js : List (Held Bytes)} (u : ℕ) → t ≡ u → Stands q t js → Stands q u js
stands_at {q} {t} {js} u e s = subst (λ (x : ℕ). Stands q x js) e s

-- the slots in use read the same
stands_kept : (p q : Bytes) (t : ℕ) (js : List (Held Bytes)) → ((i : ℕ) → i < length js → SameSlot p q (slot_of (t + i))) → Stands q t js → Stands p t js
stands_kept p q t [] f no_more = no_more
stands_kept p q t (j ∷ js) f (stands i e rest) =
    let z : t + 0 ≡ t = omega arith in
    let first : SameSlot p q (slot_of t) = rw z at (f 0 (omega arith)) in
    let later : (k : ℕ) → k < length js → SameSlot p q (slot_of (suc t + k)) = λ k h. (let w : t + suc k ≡ suc t + k = omega arith in rw w at (f (suc k) (omega arith))) in
    stands (slot_kept p q (slot_of t) j first i) e (stands_kept p q (suc t) js later rest)

stands_tail : (p q : Bytes) (t : ℕ) (js : List (Held Bytes)) → part p 128 6016 ≡ part q 128 6016 → Stands q t js → Stands p t js
stands_tail p q t js e s = stands_kept p q t js (λ i h. slot_tail p q e (slot_of (t + i)) (slot_low (t + i))) s

stands_more : (q : Bytes) (t : ℕ) (js : List (Held Bytes)) (j : Held Bytes) → InSlot q (slot_of (t + length js)) j → j.ticket ≡ (t + length js) % 2 ^ 64 → Stands q t js → Stands q t (js ++ (j ∷ []))
stands_more q t [] j i e no_more =
    let z : t + 0 ≡ t = omega arith in
    stands (subst (λ (x : ℕ). InSlot q (slot_of x) j) z i) (e ∙ ap (λ (x : ℕ). x % 2 ^ 64) z) no_more
stands_more q t (k ∷ js) j i e (stands ik ek rest) =
    let z : t + suc (length js) ≡ suc t + length js = omega arith in
    stands ik ek (stands_more q (suc t) js j (subst (λ (x : ℕ). InSlot q (slot_of x) j) z i) (e ∙ ap (λ (x : ℕ). x % 2 ^ 64) z) rest)

stands_head : {q : Bytes} {t : ℕ} {j : Held Bytes} {js : List (Held Bytes)} → Stands q t (j ∷ js) → InSlot q (slot_of t) j
stands_head (stands i e rest) = i

stands_ticket : {q : Bytes} {t : ℕ} {j : Held Bytes} {js : List (Held Bytes)} → Stands q t (j ∷ js) → j.ticket ≡ t % 2 ^ 64
stands_ticket (stands i e rest) = e

stands_rest : {q : Bytes} {t : ℕ} {j : Held Bytes} {js : List (Held Bytes)} → Stands q t (j ∷ js) → Stands q (suc t) js
stands_rest (stands i e rest) = rest

-- ---- the running job

runs_below : {j : Held Bytes} {js : List (Held Bytes)} → Begun (j ∷ js) → j.turns < span_of j.kind
runs_below (begun h w) = h

runs_waiting : {j : Held Bytes} {js : List (Held Bytes)} → Begun (j ∷ js) → Waiting js
runs_waiting (begun h w) = w

waiting_turns : {js : List (Held Bytes)} → Waiting js → turns_of js ≡ 0
unfolding turns_of
waiting_turns nobody = refl
waiting_turns (waits e w) = e

fresh_runs : (j : Held Bytes) (js : List (Held Bytes)) → j.turns ≡ 0 → Waiting js → Begun (j ∷ js)
fresh_runs j js e w =
    let s = span_within j.kind in
    let below : j.turns < span_of j.kind = omega arith in
    begun below w

waiting_runs : {js : List (Held Bytes)} → Waiting js → Begun js
waiting_runs nobody = none_begun
waiting_runs (waits {j} {js} e w) = fresh_runs j js e w

waiting_more : {js : List (Held Bytes)} (j : Held Bytes) → j.turns ≡ 0 → Waiting js → Waiting (js ++ (j ∷ []))
waiting_more j e nobody = waits e nobody
waiting_more j e (waits e' w) = waits e' (waiting_more j e w)

running_more : {js : List (Held Bytes)} (j : Held Bytes) → j.turns ≡ 0 → Begun js → Begun (js ++ (j ∷ []))
running_more j e none_begun = fresh_runs j [] e nobody
running_more j e (begun h w) = begun h (waiting_more j e w)

turns_more : (js : List (Held Bytes)) (j : Held Bytes) → j.turns ≡ 0 → turns_of (js ++ (j ∷ [])) ≡ turns_of js
unfolding turns_of
turns_more [] j e = e
turns_more (k ∷ js) j e = refl

-- ---- its search

pub state_then : {q : Bytes} {j : Held Bytes} {js : List (Held Bytes)} → Searched q (j ∷ js) → 1 ≤ j.turns → load_state q ≡ state_after (view j.kind j.n j.block) j.turns
state_then (searched s) = s

fresh_searched : (q : Bytes) (j : Held Bytes) (js : List (Held Bytes)) → j.turns ≡ 0 → Searched q (j ∷ js)
fresh_searched q j js e = searched (λ (h : 1 ≤ j.turns). absurd (omega arith))

waiting_searched : (q : Bytes) {js : List (Held Bytes)} → Waiting js → Searched q js
waiting_searched q nobody = no_job
waiting_searched q (waits {j} {js} e w) = fresh_searched q j js e

searched_more : (p : Bytes) {q : Bytes} {js : List (Held Bytes)} (j : Held Bytes) → j.turns ≡ 0 → load_state p ≡ load_state q → Searched q js → Searched p (js ++ (j ∷ []))
searched_more p j e l no_job = fresh_searched p j [] e
searched_more p j e l (searched s) = searched (λ x. l ∙ s x)

-- ---- the first job

first_ticket_lem : (c : ℕ) (js : List (Held Bytes)) (q : Bytes) → ShowsQueue c js q → first_ticket q ≡ (c - length js) % 2 ^ 64
unfolding first_ticket
first_ticket_lem c js q r = rw (r.accepted, r.held) (ticket_first c (length js) r.enough r.few)

first_slot_lem : (c : ℕ) (js : List (Held Bytes)) (q : Bytes) → ShowsQueue c js q → first_slot q ≡ slot_of (c - length js)
first_slot_lem c js q r = ap slot_of (first_ticket_lem c js q r) ∙ slot_ticket (c - length js)

first_in : (c : ℕ) (j : Held Bytes) (js : List (Held Bytes)) (q : Bytes) → ShowsQueue c (j ∷ js) q → InSlot q (first_slot q) j
first_in c j js q r = subst (λ (s : ℕ). InSlot q s j) (sym (first_slot_lem c (j ∷ js) q r)) (stands_head r.slots)

abbrev job_of : Held Bytes → Job
job_of j = view j.kind j.n j.block

first_job_lem : (c : ℕ) (j : Held Bytes) (js : List (Held Bytes)) (q : Bytes) → ShowsQueue c (j ∷ js) q → first_job q ≡ job_of j
unfolding first_job
first_job_lem c j js q r = let i = first_in c j js q r in job_same _ _ _ _ _ _ i.kind i.n i.block

turns_first : (c : ℕ) (j : Held Bytes) (js : List (Held Bytes)) (q : Bytes) → ShowsQueue c (j ∷ js) q → u64_at q turns_at ≡ j.turns
unfolding turns_of
turns_first c j js q r = r.turns

-- ---- 6 never comes

slots_fit_lem : {q : Bytes} {t : ℕ} {js : List (Held Bytes)} → Stands q t js → (s : ℕ) → s % 8 ≡ t % 8 → slots_fit q s (length js) ≡ true
unfolding slots_fit slot_fits
slots_fit_lem no_more s e = refl
slots_fit_lem {q} {t} (stands {j = j} {js = js} i ek rest) s e =
    let ks : kind_fits (u64_at q (kind_at (slot_of s))) ≡ true = ap (λ (x : ℕ). kind_fits (u64_at q (kind_at x))) e ∙ ap kind_fits i.kind ∙ i.request.fit_kind in
    let ns : count_fits (u64_at q (kind_at (slot_of s))) (u64_at q (count_at (slot_of s))) ≡ true = rw (e, i.kind, i.n) i.request.fit_count in
    both _ _ (both _ _ ks ns) (slots_fit_lem rest (s + 1) (slot_next s t e))

first_under_way : (c : ℕ) (j : Held Bytes) (js : List (Held Bytes)) (q : Bytes) → PartedQueue c (j ∷ js) q → 1 ≤ j.turns → UnderWay q
first_under_way c j js q r h =
    let i = first_in c j js q r.shows in
    record {
      held = rw r.shows.held (omega arith);
      below = rw (turns_first c j js q r.shows, i.kind) (runs_below r.shows.running);
      state = state_fits_same i.kind (state_then r.state h) (stepping.fits j.kind j.n j.block i.request j.turns);
    }

running_tested : (c : ℕ) (js : List (Held Bytes)) (q : Bytes) → PartedQueue c js q → 1 ≤ u64_at q turns_at → UnderWay q
unfolding turns_of
running_tested c [] q r h = let t = r.shows.turns in absurd (omega arith)
running_tested c (j ∷ js) q r h = let t = turns_first c j js q r.shows in first_under_way c j js q r (omega arith)

quarter_good : (c : ℕ) (js : List (Held Bytes)) (q : Bytes) → PartedQueue c js q → Tested q
quarter_good c js q r =
    record {
      few = rw r.shows.held r.shows.few;
      slots = rw r.shows.held (slots_fit_lem r.shows.slots (first_ticket q) (first_slot_lem c js q r.shows));
      running = running_tested c js q r;
    }

pub quarter_fits_lem : (c : ℕ) (js : List (Held Bytes)) (q : Bytes) → PartedQueue c js q → quarter_fits q ≡ true
quarter_fits_lem c js q r = tested_quarter q (quarter_good c js q r)

-- ---- the turns that the jobs still need

spans_work : {q : Bytes} {t : ℕ} {js : List (Held Bytes)} → Stands q t js → Waiting js → (s : ℕ) → s % 8 ≡ t % 8 → spans_from q s (length js) ≡ work js
unfolding spans_from work left
spans_work no_more w s e = refl
spans_work {q} {t} (stands {j = j} i ek rest) (waits n w) s e =
    let k : u64_at q (kind_at (slot_of s)) ≡ j.kind = ap (λ (x : ℕ). u64_at q (kind_at x)) e ∙ i.kind in
    let m = spans_work rest w (s + 1) (slot_next s t e) in
    rw (k, m) (omega arith)

left_first : {q : Bytes} {t : ℕ} {js : List (Held Bytes)} → Stands q t js → Begun js → (s : ℕ) → s % 8 ≡ t % 8 → spans_from q s (length js) - turns_of js ≡ work js
unfolding spans_from work left turns_of
left_first no_more r s e = refl
left_first {q} {t} (stands {j = j} i ek rest) (begun h w) s e =
    let k : u64_at q (kind_at (slot_of s)) ≡ j.kind = ap (λ (x : ℕ). u64_at q (kind_at x)) e ∙ i.kind in
    let m = spans_work rest w (s + 1) (slot_next s t e) in
    rw (k, m) (omega arith)

pub turns_left_lem : (c : ℕ) (js : List (Held Bytes)) (q : Bytes) → ShowsQueue c js q → turns_left q ≡ work js
unfolding turns_left
turns_left_lem c js q r = rw (r.held, r.turns) (left_first r.slots r.running (first_ticket q) (first_slot_lem c js q r))

-- ---- a job is added

module _ (c : ℕ) (js : List (Held Bytes)) (q : Bytes) (r : ShowsQueue c js q) (kind n : ℕ) (block : Bytes) (ok : Request kind n block) (room : length js < 8) where
  abbrev new : Held Bytes
  new = record { kind = kind; n = n; block = block; ticket = c % 2 ^ 64; turns = 0 }

  abbrev filled : Bytes
  filled = submit_quarter q kind n block

  reads : Added filled q kind n block
  reads = added q r.len kind n block ok (let h = r.held in omega arith)

  slot_is : slot_of (u64_at q accepted_at) ≡ slot_of c
  slot_is = ap slot_of r.accepted ∙ slot_ticket c

  last : (c - length js) + length js ≡ c
  last = let e = r.enough in omega arith

  old_slots : (i : ℕ) → i < length js → SameSlot filled q (slot_of (c - length js + i))
  old_slots i h =
      reads.others (slot_of (c - length js + i)) (slot_low (c - length js + i)) (λ e. slots_apart (c - length js) i (length js) h room (e ∙ slot_is ∙ ap slot_of (sym last)))

  new_slot : InSlot filled (slot_of (c - length js + length js)) new
  new_slot =
      subst (λ (s : ℕ). InSlot filled s new) (slot_is ∙ ap slot_of (sym last)) (record { kind = reads.new_kind; n = reads.new_n; block = reads.new_block; request = ok })

  slots_filled : Stands filled (c - length js) (js ++ (new ∷ []))
  slots_filled =
      stands_more filled (c - length js) js new new_slot (ap (λ (x : ℕ). x % 2 ^ 64) (sym last)) (stands_kept filled q (c - length js) js old_slots r.slots)

  length_more : length (js ++ (new ∷ [])) ≡ length js + 1
  length_more = length-append js (new ∷ [])

  from : c - length js ≡ (c + 1) - length (js ++ (new ∷ []))
  from = rw length_more (omega arith)

  pub submit_shows : ShowsQueue (c + 1) (js ++ (new ∷ [])) (submit_quarter q kind n block)
  submit_shows =
      let e = r.enough in
      record {
        len = reads.len;
        accepted = reads.accepted ∙ ap (λ (x : ℕ). (x + 1) % 2 ^ 64) r.accepted ∙ ticket_next c;
        held = reads.held ∙ ap (λ (x : ℕ). x + 1) r.held ∙ sym length_more;
        few = rw length_more (omega arith);
        enough = rw length_more (omega arith);
        turns = reads.turns ∙ r.turns ∙ sym (turns_more js new refl);
        slots = stands_at ((c + 1) - length (js ++ (new ∷ []))) from slots_filled;
        running = running_more new refl r.running;
      }

  pub submit_searched : Searched q js → Searched (submit_quarter q kind n block) (js ++ (new ∷ []))
  submit_searched s = searched_more filled new refl reads.state s

-- ---- a turn: what a served queue's quarter shows is what its jobs undergo

pub record TurnShows (queue c : ℕ) (js : List (Held Bytes)) (q buffer : Bytes) : Type 0 where
  pub public : 64 ≤ length buffer → public_of (record { answer = Turned (turn_quarter queue q buffer).answer; buffer = (turn_quarter queue q buffer).buffer }) ≡ public_out queue (map_out length (undergo js).out)
  pub shows : ShowsQueue c (undergo js).jobs (turn_quarter queue q buffer).quarter

turn_shows_by : (queue c : ℕ) (js : List (Held Bytes)) (q buffer : Bytes) (d : DidQuarter) (u : Undergone Bytes) → turn_quarter queue q buffer ≡ d → undergo js ≡ u
    → (64 ≤ length buffer → public_of (record { answer = Turned d.answer; buffer = d.buffer }) ≡ public_out queue (map_out length u.out)) → ShowsQueue c u.jobs d.quarter → TurnShows queue c js q buffer
turn_shows_by queue c js q buffer d u ed eu public shows = record { public = rw (ed, eu) public; shows = rw (ed, eu) shows }

turned_stands : {p : Bytes} {t : ℕ} {j : Held Bytes} {js : List (Held Bytes)} → Stands p t (j ∷ js) → Stands p t (turned j ∷ js)
unfolding turned
turned_stands (stands i e rest) = stands (record { kind = i.kind; n = i.n; block = i.block; request = i.request }) e rest

module _ (c : ℕ) (j : Held Bytes) (js : List (Held Bytes)) (q : Bytes) (r : ShowsQueue c (j ∷ js) q) where
  some_held : 1 ≤ u64_at q held_at
  some_held = let h = r.held in omega arith

  held_some : eqb (u64_at q held_at) 0 ≡ false
  held_some = let h = some_held in ne_eqb (u64_at q held_at) 0 (λ e. omega arith)

  ticket_is : first_ticket q ≡ j.ticket
  ticket_is = first_ticket_lem c (j ∷ js) q r ∙ sym (stands_ticket r.slots)

  kind_is : first_kind q ≡ j.kind
  kind_is = (first_in c j js q r).kind

  pub request_of : Request j.kind j.n j.block
  request_of = (first_in c j js q r).request

  last_is : (b : Bool) → eqb (j.turns + 1) (span_of j.kind) ≡ b → eqb (u64_at q turns_at + 1) (span_of (first_kind q)) ≡ b
  last_is b e = rw (turns_first c j js q r, kind_is) e

  -- the job leaves
  freed_shows : ShowsQueue c js (freed_quarter q)
  freed_shows =
      let hl : u64_at q held_at ≡ suc (length js) = r.held in
      let f = r.few in
      let e = r.enough in
      let w = freed q r.len in
      let less : u64_at q held_at - 1 ≡ length js = omega arith in
      let from : suc (c - suc (length js)) ≡ c - length js = omega arith in
      record {
        len = w.len;
        accepted = w.accepted ∙ r.accepted;
        held = w.held ∙ less;
        few = omega arith;
        enough = omega arith;
        turns = w.turns ∙ sym (waiting_turns (runs_waiting r.running));
        slots = stands_tail (freed_quarter q) q (c - length js) js w.slots (stands_at (c - length js) from (stands_rest r.slots));
        running = waiting_runs (runs_waiting r.running);
      }

  -- the job stays
  kept_shows : Tested q → (j.turns + 1 ≡ span_of j.kind → ⊥) → ShowsQueue c (turned j ∷ js) (kept_quarter q)
  unfolding turned turns_of
  kept_shows t n =
      let b = runs_below r.running in
      let below : j.turns + 1 < span_of j.kind = omega arith in
      let w = kept_reads q r.len t some_held in
      record {
        len = w.len;
        accepted = w.accepted ∙ r.accepted;
        held = w.held ∙ r.held;
        few = r.few;
        enough = r.enough;
        turns = w.turns ∙ ap (λ (x : ℕ). x + 1) (turns_first c j js q r);
        slots = turned_stands (stands_tail (kept_quarter q) q (c - suc (length js)) (j ∷ js) w.slots r.slots);
        running = begun below (runs_waiting r.running);
      }

  out_public : (queue : ℕ) (buffer : Bytes) → 64 ≤ length buffer
      → public_of (record { answer = Turned 1; buffer = splice buffer 0 (record_bytes (first_ticket q) (first_kind q) queue (outcome_at (stepped_of q))) }) ≡ public_out queue (map_out length (some (turned j)))
  unfolding public_of public_out map_out map_held turned
  out_public queue buffer h = ap (turning 1) (record_public buffer (first_ticket q) (first_kind q) queue _ h ∙ rw (kind_is, ticket_is))

  turn_shows_some : Tested q → (queue : ℕ) (buffer : Bytes) (b : Bool) → eqb (j.turns + 1) (span_of j.kind) ≡ b → TurnShows queue c (j ∷ js) q buffer
  turn_shows_some t queue buffer true e =
      turn_shows_by queue c (j ∷ js) q buffer _ _ (turn_out queue q buffer held_some (last_is true e)) (leaves j js (eqb-true _ _ e)) (out_public queue buffer) freed_shows
  turn_shows_some t queue buffer false e =
      let n = eqb-false _ _ e in
      turn_shows_by queue c (j ∷ js) q buffer _ _ (turn_on queue q buffer held_some (last_is false e)) (stays j js n) (λ h. unfold public_of public_out map_out in refl) (kept_shows t n)

pub turn_shows : (queue c : ℕ) (js : List (Held Bytes)) (q buffer : Bytes) → ShowsQueue c js q → Tested q → TurnShows queue c js q buffer
unfolding undergo
turn_shows queue c [] q buffer r t =
    turn_shows_by queue c [] q buffer _ (record { jobs = []; out = none }) (turn_idle queue q buffer (eq-eqb _ _ r.held)) refl (λ h. unfold public_of public_out map_out in refl) r
turn_shows queue c (j ∷ js) q buffer r t = turn_shows_some c j js q r t queue buffer (eqb (j.turns + 1) (span_of j.kind)) refl

-- ---- a turn of a quarter that stands for a queue

pub record Turns (queue c : ℕ) (js : List (Held Bytes)) (q buffer : Bytes) : Type 0 where
  pub reply : record { answer = Turned (turn_quarter queue q buffer).answer; buffer = (turn_quarter queue q buffer).buffer } ≡ turn_reply buffer queue (undergo js).out
  pub shows : ShowsQueue c (undergo js).jobs (turn_quarter queue q buffer).quarter
  pub state : Searched (turn_quarter queue q buffer).quarter (undergo js).jobs

turns_by : (queue c : ℕ) (js : List (Held Bytes)) (q buffer : Bytes) → PartedQueue c js q → (d : DidQuarter) (u : Undergone Bytes) → turn_quarter queue q buffer ≡ d → undergo js ≡ u
    → record { answer = Turned d.answer; buffer = d.buffer } ≡ turn_reply buffer queue u.out → Searched d.quarter u.jobs → Turns queue c js q buffer
turns_by queue c js q buffer r d u ed eu reply state =
    record { reply = rw (ed, eu) reply; shows = (turn_shows queue c js q buffer r.shows (quarter_good c js q r)).shows; state = rw (ed, eu) state }

-- by a test
by_test : {A : Type 0} (b : Bool) (x y z : A) → (b ≡ true → x ≡ z) → (b ≡ false → y ≡ z) → cond b x y ≡ z
by_test true x y z f g = f refl
by_test false x y z f g = g refl

state_start : (job : Job) (k : ℕ) → k ≡ 0 → start_of job ≡ state_after job k
unfolding state_after
state_start job k e = rw e

state_next : (job : Job) (k : ℕ) → step_of job (state_after job k) ≡ state_after job (k + 1)
unfolding state_after
state_next job k = rw (add-one k)

module _ (c : ℕ) (j : Held Bytes) (js : List (Held Bytes)) (q : Bytes) (r : PartedQueue c (j ∷ js) q) where
  state_of_lem : state_of q ≡ state_after (job_of j) j.turns
  unfolding state_of
  state_of_lem =
      let job : first_job q ≡ job_of j = first_job_lem c j js q r.shows in
      let turns : u64_at q turns_at ≡ j.turns = turns_first c j js q r.shows in
      by_test (eqb (u64_at q turns_at) 0) _ _ _
      (λ e. ap start_of job ∙ state_start (job_of j) j.turns (sym turns ∙ eqb-true (u64_at q turns_at) 0 e))
      (λ e. (let n = eqb-false (u64_at q turns_at) 0 e in let s = state_then r.state (omega arith) in cc))

  stepped_is : stepped_of q ≡ state_after (job_of j) (j.turns + 1)
  unfolding stepped_of
  stepped_is = rw (first_job_lem c j js q r.shows, state_of_lem) (state_next (job_of j) j.turns)

  -- the record that is written
  record_is : (queue : ℕ) → j.turns + 1 ≡ span_of j.kind → record_bytes (first_ticket q) (first_kind q) queue (outcome_at (stepped_of q)) ≡ record_of queue (turned j)
  unfolding record_bytes record_of turned
  record_is queue e =
      let s : sealed_bytes (outcome_at (stepped_of q)) ≡ sealed_of j.kind j.n j.block =
      ap (λ (x : State). sealed_bytes (outcome_at x)) (stepped_is ∙ ap (state_after (job_of j)) e) ∙ stepping.finished j.kind j.n j.block (request_of c j js q r.shows) in
      rw (kind_is c j js q r.shows, ticket_is c j js q r.shows, s)

  kept_searched : Searched (kept_quarter q) (turned j ∷ js)
  unfolding turned
  kept_searched = searched (λ x. (kept_reads q r.shows.len (quarter_good c (j ∷ js) q r) (some_held c j js q r.shows)).state ∙ stepped_is)

  pub turn_some : (queue : ℕ) (buffer : Bytes) (b : Bool) → eqb (j.turns + 1) (span_of j.kind) ≡ b → Turns queue c (j ∷ js) q buffer
  unfolding turn_reply
  turn_some queue buffer true e =
      let w : j.turns + 1 ≡ span_of j.kind = eqb-true _ _ e in
      turns_by queue c (j ∷ js) q buffer r _ _ (turn_out queue q buffer (held_some c j js q r.shows) (last_is c j js q r.shows true e)) (leaves j js w)
      (ap (λ (x : Bytes). record { answer = Turned 1; buffer = splice buffer 0 x }) (record_is queue w)) (waiting_searched (freed_quarter q) (runs_waiting r.shows.running))
  turn_some queue buffer false e =
      turns_by queue c (j ∷ js) q buffer r _ _ (turn_on queue q buffer (held_some c j js q r.shows) (last_is c j js q r.shows false e)) (stays j js (eqb-false _ _ e)) refl kept_searched

pub turn_rep : (queue c : ℕ) (js : List (Held Bytes)) (q buffer : Bytes) → PartedQueue c js q → Turns queue c js q buffer
unfolding turn_reply undergo
turn_rep queue c [] q buffer r = turns_by queue c [] q buffer r _ (record { jobs = []; out = none }) (turn_idle queue q buffer (eq-eqb _ _ r.shows.held)) refl refl no_job
turn_rep queue c (j ∷ js) q buffer r = turn_some c j js q r queue buffer (eqb (j.turns + 1) (span_of j.kind)) refl
