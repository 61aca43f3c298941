-- A board that passes 6 passes it after every call, reached from zero bytes or not. Assumes nothing.
use mathlib.Core.Path.{◌≡◌, refl, ap, ◌∙◌}
use Prim.Native.Nat.{ℕ, suc, ◌+◌, ◌-◌, ◌%◌, ◌^◌, ◌≤◌, ◌<◌}
use mathlib.Core.Bool.{Bool, true, false}
use mathlib.Core.List.{[], ◌∷◌}
use native.Mathlib.Omega.{arith}
use lib.ListN.{length}
use lib.Dec.{ltb, eqb}
use borrow.Author.Tests.{le-leb, ltb-true, ltb-false, eqb-true, eqb-false}
use Rattle.buf.specs.Bytes.{u64_at, put_u64}
use Rattle.buf.proofs.Laws.{length_put_num, get_put_same}
use Rattle.schedule.specs.Spans.{span_of}
use Rattle.schedule.specs.Schedule.{Call, Submit, Turn, Look, Quote, Verdict, accept, refuse, submit_verdict, onward}
use Rattle.schedule.proofs.Rounds.{onward_low}
use Rattle.schedule.proofs.Tests.{both}
use Rattle.stepping.specs.States.{Request}
use Rattle.board_spec.specs.Layout.{quarter_length, turn_at, accepted_at, held_at, turns_at}
use Rattle.board_spec.specs.Quarter.{first_ticket, slot_of, first_slot, first_kind, slot_fits, quarter_fits, submit_quarter, kept_quarter, freed_quarter, DidQuarter, turn_quarter}
use Rattle.board_spec.specs.Board.{quarter_of, with_quarter, board_fits, refused_did, submit_judged, submit_board, turn_did, turn_judged, turn_board}
use Rattle.board_spec.specs.Run.{Bytes, Calls, did, board_after}
use Rattle.board_spec.specs.Demand1.{Passes6}
use Rattle.board_spec.specs.Fits.{PassesOn}
use Rattle.board_spec.proofs.Bytes.{SameSlot, slot_tail}
use Rattle.board_spec.proofs.Quarters.{slot_low, Added, added, freed}
use Rattle.board_spec.proofs.Tested.{slots_at, slots_all, state_fits_same, UnderWay, Tested, quarter_tested, tested_quarter, board_tested, tested_board}
use Rattle.board_spec.proofs.AnyQuarter.{turn_idle, turn_out, turn_on, first_kind_same, ticket_same, stepped_ready, turns_below, kept_reads}
use Rattle.board_spec.proofs.Sim.{length_quarter, length_with, quarter_turn, quarter_same, quarter_other, turn_with, submit_accepted}
use Rattle.board_spec.proofs.Runs.{look_unchanged, quote_unchanged}

-- ---- tickets and slots: a quarter with a jobs accepted and h held

-- the first ticket stays where a job is added,
ticket_added : (a h : ℕ) → h < 8 → ((a + 1) % 2 ^ 64 + (2 ^ 64 - (h + 1))) % 2 ^ 64 ≡ (a + (2 ^ 64 - h)) % 2 ^ 64
ticket_added a h k = omega arith

-- which stands in the slot after the others'
slot_new : (a h : ℕ) → h < 8 → ((a + (2 ^ 64 - h)) % 2 ^ 64 + h) % 8 ≡ a % 8
slot_new a h k = omega arith

slot_old : (a h i : ℕ) → i < h → h < 8 → ((a + (2 ^ 64 - h)) % 2 ^ 64 + i) % 8 ≡ a % 8 → ⊥
slot_old a h i k l e = omega arith

-- and the first is the next one where a job leaves
slot_freed : (a h i : ℕ) → 1 ≤ h → h ≤ 8 → ((a + (2 ^ 64 - (h - 1))) % 2 ^ 64 + i) % 8 ≡ ((a + (2 ^ 64 - h)) % 2 ^ 64 + suc i) % 8
slot_freed a h i k l = omega arith

slot_same : (p q : Bytes) (s : ℕ) → SameSlot p q s → slot_fits q s ≡ true → slot_fits p s ≡ true
unfolding slot_fits
slot_same p q s e h = rw (e.kind, e.n) h

-- ---- a job is added

module _ (q : Bytes) (l : length q ≡ quarter_length) (t : Tested q) (kind n : ℕ) (block : Bytes) (ok : Request kind n block) (room : u64_at q held_at < 8) where
  abbrev more : Bytes
  more = submit_quarter q kind n block

  more_reads : Added more q kind n block
  more_reads = added q l kind n block ok room

  more_ticket : first_ticket more ≡ first_ticket q
  unfolding first_ticket
  more_ticket = rw (more_reads.accepted, more_reads.held) (ticket_added (u64_at q accepted_at) (u64_at q held_at) room)

  -- the slots of the jobs held before
  old_apart : (i : ℕ) → i < u64_at q held_at → slot_of (first_ticket q + i) ≡ slot_of (u64_at q accepted_at) → ⊥
  unfolding first_ticket
  old_apart i h = slot_old (u64_at q accepted_at) (u64_at q held_at) i h room

  old_slot : (i : ℕ) → i < u64_at q held_at → SameSlot more q (slot_of (first_ticket q + i))
  old_slot i h = more_reads.others _ (slot_low (first_ticket q + i)) (old_apart i h)

  new_fits : slot_fits more (slot_of (u64_at q accepted_at)) ≡ true
  unfolding slot_fits
  new_fits = rw (more_reads.new_kind, more_reads.new_n) (both _ _ ok.fit_kind ok.fit_count)

  new_slot : slot_of (first_ticket q + u64_at q held_at) ≡ slot_of (u64_at q accepted_at)
  unfolding first_ticket
  new_slot = slot_new (u64_at q accepted_at) (u64_at q held_at) room

  more_slot : (i : ℕ) → i < u64_at q held_at + 1 → (b : Bool) → ltb i (u64_at q held_at) ≡ b → slot_fits more (slot_of (first_ticket q + i)) ≡ true
  more_slot i h true e =
      let k = ltb-true i (u64_at q held_at) e in
      slot_same more q _ (old_slot i k) (slots_at q (first_ticket q) (u64_at q held_at) t.slots i k)
  more_slot i h false e =
      let k = ltb-false i (u64_at q held_at) e in
      let z : i ≡ u64_at q held_at = omega arith in
      rw (z, new_slot) new_fits

  more_running : UnderWay q → UnderWay more
  more_running w =
      let z : first_ticket q + 0 ≡ first_ticket q = omega arith in
      let first : SameSlot more q (first_slot q) = rw z at (old_slot 0 w.held) in
      let kind = first_kind_same more q more_ticket first in
      record {
        held = rw more_reads.held (omega arith);
        below = rw (more_reads.turns, kind) w.below;
        state = state_fits_same kind more_reads.state w.state;
      }

  submit_tested : Tested more
  submit_tested =
      record {
        few = rw more_reads.held (omega arith);
        slots = rw (more_ticket, more_reads.held) (slots_all more (first_ticket q) (u64_at q held_at + 1) (λ i h. more_slot i h _ refl));
        running = λ h. more_running (t.running (rw more_reads.turns at h));
      }

-- ---- a turn

module _ (q : Bytes) (l : length q ≡ quarter_length) (t : Tested q) (some : 1 ≤ u64_at q held_at) where
  freed_next : (i : ℕ) → slot_of (first_ticket (freed_quarter q) + i) ≡ slot_of (first_ticket q + suc i)
  unfolding first_ticket
  freed_next i = rw ((freed q l).accepted, (freed q l).held) (slot_freed (u64_at q accepted_at) (u64_at q held_at) i some t.few)

  freed_slot : (i : ℕ) → i < u64_at q held_at - 1 → slot_fits (freed_quarter q) (slot_of (first_ticket (freed_quarter q) + i)) ≡ true
  freed_slot i h =
      let same = slot_tail (freed_quarter q) q (freed q l).slots _ (slot_low (first_ticket q + suc i)) in
      rw (freed_next i) (slot_same (freed_quarter q) q _ same (slots_at q (first_ticket q) (u64_at q held_at) t.slots (suc i) (omega arith)))

  freed_tested : Tested (freed_quarter q)
  freed_tested =
      let w = freed q l in
      let f = t.few in
      record {
        few = rw w.held (omega arith);
        slots = rw w.held (slots_all (freed_quarter q) (first_ticket (freed_quarter q)) (u64_at q held_at - 1) freed_slot);
        running = λ h. (let z = w.turns in absurd (omega arith));
      }

  kept_tested : (u64_at q turns_at + 1 ≡ span_of (first_kind q) → ⊥) → Tested (kept_quarter q)
  kept_tested n =
      let w = kept_reads q l t some in
      let ticket = ticket_same (kept_quarter q) q w.accepted w.held in
      let same = slot_tail (kept_quarter q) q w.slots in
      let kind = first_kind_same (kept_quarter q) q ticket (same (first_slot q) (slot_low (first_ticket q))) in
      let b = turns_below q l t some in
      let slots : (i : ℕ) → i < u64_at q held_at → slot_fits (kept_quarter q) (slot_of (first_ticket q + i)) ≡ true =
      λ i h. slot_same _ q _ (same (slot_of (first_ticket q + i)) (slot_low (first_ticket q + i))) (slots_at q (first_ticket q) (u64_at q held_at) t.slots i h) in
      record {
        few = rw w.held t.few;
        slots = rw (ticket, w.held) (slots_all (kept_quarter q) (first_ticket q) (u64_at q held_at) slots);
        running =
            λ h. record {
              held = rw w.held some;
              below = rw (w.turns, kind) (omega arith);
              state = state_fits_same kind w.state (stepped_ready q l t some).1;
            };
      }

-- a quarter that is of the right length and passes
record Good (q : Bytes) : Type 0 where
  len : length q ≡ quarter_length
  tested : Tested q

turn_good : (queue : ℕ) (q buffer : Bytes) → Good q → Good (turn_quarter queue q buffer).quarter
turn_good queue q buffer g = held (eqb (u64_at q held_at) 0) refl
  where
    by : (d : DidQuarter) → turn_quarter queue q buffer ≡ d → Good d.quarter → Good (turn_quarter queue q buffer).quarter
    by d e h = rw e h

    last : eqb (u64_at q held_at) 0 ≡ false → (b : Bool) → eqb (u64_at q turns_at + 1) (span_of (first_kind q)) ≡ b → Good (turn_quarter queue q buffer).quarter
    last e true f =
        let n = eqb-false (u64_at q held_at) 0 e in
        by _ (turn_out queue q buffer e f) (record { len = (freed q g.len).len; tested = freed_tested q g.len g.tested (omega arith) })
    last e false f =
        let n = eqb-false (u64_at q held_at) 0 e in
        let some : 1 ≤ u64_at q held_at = omega arith in
        by _ (turn_on queue q buffer e f) (record { len = (kept_reads q g.len g.tested some).len; tested = kept_tested q g.len g.tested some (eqb-false _ _ f) })

    held : (b : Bool) → eqb (u64_at q held_at) 0 ≡ b → Good (turn_quarter queue q buffer).quarter
    held true e = by _ (turn_idle queue q buffer e) g
    held false e = last e _ refl

-- ---- a quarter is replaced

module _ (b : Bytes) (t : Passes6 b) where
  quarter_good : (queue : ℕ) → queue ≤ 3 → Good (quarter_of b queue)
  quarter_good queue h = record { len = length_quarter b queue t.length_is h; tested = quarter_tested _ (t.quarters_inside queue h) }

  module _ (queue : ℕ) (low : queue ≤ 3) (v : Bytes) (g : Good v) where
    with_each : (s : ℕ) → s ≤ 3 → (x : Bool) → eqb s queue ≡ x → quarter_fits (quarter_of (with_quarter b queue v) s) ≡ true
    with_each s h true e =
        ap (λ (i : ℕ). quarter_fits (quarter_of (with_quarter b queue v) i)) (eqb-true s queue e) ∙ ap quarter_fits (quarter_same b v queue t.length_is low g.len) ∙ tested_quarter v g.tested
    with_each s h false e = ap quarter_fits (quarter_other b v queue s g.len (eqb-false s queue e)) ∙ t.quarters_inside s h

    with_tested : Passes6 (with_quarter b queue v)
    with_tested =
        record {
          length_is = length_with b v queue ∙ t.length_is;
          turn_inside = rw (turn_with b v queue g.len low) t.turn_inside;
          quarters_inside = λ s h. with_each s h _ refl;
        }

turned_tested : (b : Bytes) (x : ℕ) → x ≤ 3 → Passes6 b → Passes6 (put_u64 b turn_at x)
turned_tested b x h t =
    let len = t.length_is in
    record {
      length_is = length_put_num 8 b turn_at x ∙ t.length_is;
      turn_inside = rw (get_put_same 8 b turn_at x (le-leb (turn_at + 8) (length b) (omega arith)) (omega arith)) h;
      quarters_inside = λ s k. ap quarter_fits (quarter_turn b s x k) ∙ t.quarters_inside s k;
    }

-- ---- the calls

module _ (b : Bytes) (f : board_fits b ≡ true) where
  tested : Passes6 b
  tested = board_tested b f

  submit_fits : (queue kind n : ℕ) (block : Bytes) (v : Verdict) → submit_verdict queue kind n (length block) (u64_at (quarter_of b queue) held_at) ≡ v → board_fits (submit_judged b queue kind n block v).board ≡ true
  unfolding submit_judged refused_did
  submit_fits queue kind n block accept e =
      let s = submit_accepted queue kind n _ _ e in
      let g = quarter_good b tested queue s.queue_low in
      let ok : Request kind n block = record { fit_kind = s.fit_kind; fit_count = s.fit_count; block_fits = s.size_fits } in
      let v : Good (submit_quarter (quarter_of b queue) kind n block) = record { len = (added _ g.len kind n block ok s.room).len; tested = submit_tested _ g.len g.tested kind n block ok s.room } in
      tested_board _ (with_tested b tested queue s.queue_low _ v)
  submit_fits queue kind n block (refuse number) e = f

  turn_fits : (buffer : Bytes) (v : Verdict) → board_fits (turn_judged b buffer v).board ≡ true
  unfolding turn_judged turn_did refused_did
  turn_fits buffer accept =
      let at = u64_at b turn_at in
      let g = turn_good at (quarter_of b at) buffer (quarter_good b tested at tested.turn_inside) in
      tested_board _ (turned_tested _ (onward at) (onward_low at tested.turn_inside) (with_tested b tested at tested.turn_inside _ g))
  turn_fits buffer (refuse number) = f

  call_fits : (c : Call Bytes) → board_fits (did b c).board ≡ true
  unfolding did submit_board turn_board
  call_fits (Submit queue kind n block) = rw f (submit_fits queue kind n block _ refl)
  call_fits (Turn buffer) = turn_fits buffer _
  call_fits (Look queue) = ap board_fits (look_unchanged b queue).board ∙ f
  call_fits (Quote queue kind) = ap board_fits (quote_unchanged b queue kind).board ∙ f

calls_fit : (b : Bytes) (cs : Calls) → board_fits b ≡ true → board_fits (board_after b cs) ≡ true
unfolding board_after
calls_fit b [] f = f
calls_fit b (c ∷ cs) f = calls_fit (did b c).board cs (call_fits b f c)

pub passes_on : PassesOn
passes_on = record { one_call = λ b c f. call_fits b f c; any_calls = calls_fit }
