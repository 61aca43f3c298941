-- What the code of a quarter does, over plain values: its tickets, its slots, its jobs and its turns. Assumes nothing.
use Rattle.std.proofs.Common.{◌≡◌, ℕ, zero, suc, ◌+◌, ◌-◌, ◌*◌, ◌%◌, ◌^◌, ◌<◌, ◌≤◌, Bool, true, false, cond, not, ◌&&◌, eqb, ltb, leb, List, take, drop, sym, refl, ap, ◌∙◌, arith, ltb-true, eq-eqb, ne_eqb, eqb-true}
use borrow.Author.Tests.{eqb-false, not-true}
use Rattle.std.specs.Prelude.{Option, unwrap_or}
use Rattle.buf.specs.Bytes.{splice, u64_at}
use Rattle.buf.proofs.Laws.{num_at_lt, lent_part}
use Rattle.reader.specs.View.{view}
use Rattle.records.specs.declared.types.Outcome.{Outcome}
use Rattle.records.specs.Record.{record_bytes}
use Rattle.schedule.specs.Spans.{span_of}
use Rattle.schedule.proofs.Tests.{left_true, right_true, span_within}
use Rattle.solver_state.specs.declared.types.State.{State}
use Rattle.stepping.specs.Stepping.{start_of, step_of, at_end}
use Rattle.stepping.proofs.Still.{still}
use Rattle.stepping.specs.States.{outcome_at}
use Rattle.board_spec.specs.Layout.{accepted_at, held_at, turns_at, evaluations_at, kind_at}
use Rattle.board_spec.specs.Quarter.{first_ticket, first_slot, first_kind, first_job, slot_of, slot_fits, slots_fit, load_counters, load_state, running_fits, quarter_fits, spans_from, turns_left, state_of, stepped_of, kept_quarter, freed_quarter, turn_quarter}
use Rattle.board_spec.proofs.Tested.{quarter_tested}

-- ---- the first job

below_by : (a h r : ℕ) → h < 2 ^ 64 → r < 2 ^ 64 → (r + h) % 2 ^ 64 ≡ a → r ≡ (a + (2 ^ 64 - h)) % 2 ^ 64
below_by a h r hh hr e = omega arith

pub ticket_below : (q : List ℕ) (a h r : ℕ) → a ≡ u64_at q accepted_at → h ≡ u64_at q held_at → r < 2 ^ 64 → (r + h) % 2 ^ 64 ≡ a → r ≡ first_ticket q
unfolding first_ticket
ticket_below q a h r ea eh hr e = rw (← ea, ← eh) (below_by a h r (rw eh (num_at_lt 8 q held_at)) hr e)

-- the block of a slot is lent
job_seen : (q : List ℕ) (slot kind n : ℕ) → slot ≡ first_slot q → kind ≡ u64_at q (128 + 16 * slot) → n ≡ u64_at q (136 + 16 * slot)
    → view kind n (take (1024 + 640 * slot + 640 - (1024 + 640 * slot)) (drop (1024 + 640 * slot) q)) ≡ first_job q
unfolding first_job
job_seen q slot kind n es ek en =
    let k : 1024 + 640 * slot + 640 - (1024 + 640 * slot) ≡ 640 = omega arith in
    let lent = lent_part q (1024 + 640 * slot) (1024 + 640 * slot + 640 - (1024 + 640 * slot)) 640 k in
    rw (lent, ek, en, es)

pub job_stepped : (q : List ℕ) (slot kind n : ℕ) (stored : Option State) (s : State) → slot ≡ first_slot q → kind ≡ u64_at q (128 + 16 * slot) → n ≡ u64_at q (136 + 16 * slot)
    → s
    ≡ step_of (view kind n (take (1024 + 640 * slot + 640 - (1024 + 640 * slot)) (drop (1024 + 640 * slot) q)))
    (unwrap_or stored (start_of (view kind n (take (1024 + 640 * slot + 640 - (1024 + 640 * slot)) (drop (1024 + 640 * slot) q)))))
    → s ≡ step_of (first_job q) (unwrap_or stored (start_of (first_job q)))
job_stepped q slot kind n stored s es ek en e = e ∙ rw (job_seen q slot kind n es ek en)

-- ---- the slots of the jobs held, one after another

slots_step : (q : List ℕ) (t k : ℕ) → slots_fit q t (suc k) ≡ (slot_fits q (slot_of t) && slots_fit q (t + 1) k)
unfolding slots_fit
slots_step q t k = refl

-- the slot that a loop over jobs reaches
slot_at : (ticket i : ℕ) → (ticket % 8 + i) % 8 ≡ slot_of (ticket + i)
slot_at ticket i = omega arith

module _ (q : List ℕ) (ticket count i : ℕ) (w : Bool) (h : i < count) where
  left : slots_fit q (ticket + i) (count - i) ≡ (slot_fits q ((ticket % 8 + i) % 8) && slots_fit q (ticket + (i + 1)) (count - (i + 1)))
  left =
      let e : count - i ≡ suc (count - (i + 1)) = omega arith in
      let f : ticket + i + 1 ≡ ticket + (i + 1) = omega arith in
      rw (e, slots_step q (ticket + i) (count - (i + 1)), f, slot_at ticket i)

  pub slots_fail : slot_fits q ((ticket % 8 + i) % 8) ≡ false → slots_fit q (ticket + i) (count - i) ≡ w → false ≡ w
  slots_fail n e = sym (left ∙ rw n) ∙ e

  pub slots_more : slot_fits q ((ticket % 8 + i) % 8) ≡ true → slots_fit q (ticket + i) (count - i) ≡ w → slots_fit q (ticket + (i + 1)) (count - (i + 1)) ≡ w
  slots_more y e = sym (left ∙ rw y) ∙ e

pub slots_done : (q : List ℕ) (ticket count i : ℕ) (w : Bool) → count ≤ i → slots_fit q (ticket + i) (count - i) ≡ w → true ≡ w
unfolding slots_fit
slots_done q ticket count i w h e = let z : count - i ≡ 0 = omega arith in ap (slots_fit q (ticket + i)) (sym z) ∙ e

-- where all eight slots fit, so do those of any jobs
slot_of_lem : (q : List ℕ) (t k i : ℕ) → i < k → slots_fit q t k ≡ true → slot_fits q (slot_of (t + i)) ≡ true
unfolding slots_fit
slot_of_lem q t zero i h e = absurd (omega arith)
slot_of_lem q t (suc k) zero h e = let z : t + 0 ≡ t = omega arith in rw z (left_true (slot_fits q (slot_of t)) (slots_fit q (t + 1) k) e)
slot_of_lem q t (suc k) (suc i) h e =
    let z : t + suc i ≡ t + 1 + i = omega arith in
    rw z (slot_of_lem q (t + 1) k i (omega arith) (right_true (slot_fits q (slot_of t)) (slots_fit q (t + 1) k) e))

slots_of : (q : List ℕ) → ((slot : ℕ) → slot < 8 → slot_fits q slot ≡ true) → (t k : ℕ) → slots_fit q t k ≡ true
unfolding slots_fit
slots_of q f t zero = refl
slots_of q f t (suc k) = let h : t % 8 < 8 = omega arith in rw (f (t % 8) h, slots_of q f (t + 1) k)

pub eight_slots : (q : List ℕ) → slots_fit q 0 8 ≡ true → (ticket count : ℕ) → slots_fit q ticket count ≡ true
eight_slots q e = slots_of q (λ slot h. let z : slot_of (0 + slot) ≡ slot = omega arith in rw z at (slot_of_lem q 0 8 slot h e))

-- ---- the turns that the jobs held still need

pub spans_begin : (q : List ℕ) (ticket count : ℕ) → 0 + spans_from q (ticket + 0) (count - 0) ≡ spans_from q ticket count
spans_begin q ticket count =
    let e : ticket + 0 ≡ ticket = omega arith in
    let f : count - 0 ≡ count = omega arith in
    rw (e, f) (omega arith)

spans_step : (q : List ℕ) (t k : ℕ) → spans_from q t (suc k) ≡ span_of (u64_at q (kind_at (slot_of t))) + spans_from q (t + 1) k
unfolding spans_from
spans_step q t k = refl

module _ (q : List ℕ) (ticket count i sum w : ℕ) where
  pub spans_more : i < count → (kind span : ℕ) → kind ≡ u64_at q (kind_at ((ticket % 8 + i) % 8)) → span ≡ span_of kind → sum + spans_from q (ticket + i) (count - i) ≡ w
      → sum + span + spans_from q (ticket + (i + 1)) (count - (i + 1)) ≡ w
  spans_more h kind span ek es e =
      let z : count - i ≡ suc (count - (i + 1)) = omega arith in
      let f : ticket + i + 1 ≡ ticket + (i + 1) = omega arith in
      let step : spans_from q (ticket + i) (count - i) ≡ span + spans_from q (ticket + (i + 1)) (count - (i + 1)) =
      rw (z, spans_step q (ticket + i) (count - (i + 1)), f, ← slot_at ticket i, ← ek, ← es) in
      omega arith

  pub spans_done : count ≤ i → sum + spans_from q (ticket + i) (count - i) ≡ w → sum ≡ w
  unfolding spans_from
  spans_done h e =
      let z : count - i ≡ 0 = omega arith in
      let none : sum + spans_from q (ticket + i) 0 ≡ w = rw z at e in
      omega arith

spans_first : (q : List ℕ) (t k : ℕ) → 1 ≤ k → span_of (u64_at q (kind_at (slot_of t))) ≤ spans_from q t k
spans_first q t zero h = absurd (omega arith)
spans_first q t (suc k) h = omega (arith, spans_step q t k)

-- the first job has not had its last turn
pub turns_within : (q : List ℕ) → quarter_fits q ≡ true → u64_at q turns_at ≤ spans_from q (first_ticket q) (u64_at q held_at)
turns_within q e = go (u64_at q turns_at) refl
  where
    go : (n : ℕ) → u64_at q turns_at ≡ n → n ≤ spans_from q (first_ticket q) (u64_at q held_at)
    go zero z = omega arith
    go (suc n) z =
        let w = (quarter_tested q e).running (omega arith) in
        omega (arith, w.below, spans_first q (first_ticket q) (u64_at q held_at) w.held)

pub held_few : (q : List ℕ) (held : ℕ) → quarter_fits q ≡ true → held ≡ u64_at q held_at → held ≤ 8
held_few q held f eh = omega (arith, (quarter_tested q f).few)

module _ (q : List ℕ) (held ticket spans turns : ℕ) (f : quarter_fits q ≡ true) (eh : held ≡ u64_at q held_at) (ei : ticket ≡ first_ticket q) (es : spans ≡ spans_from q ticket held) (et : turns ≡ u64_at q turns_at) where
  all : spans ≡ spans_from q (first_ticket q) (u64_at q held_at)
  all = es ∙ rw (ei, eh)

  pub turns_off : turns ≤ spans
  turns_off = omega (arith, all, turns_within q f)

  pub turns_left_lem : spans ≤ 6204 * held → (spans - turns ≡ turns_left q) × (spans - turns ≤ 49632)
  unfolding turns_left
  turns_left_lem h = (rw (← all, ← et), omega (arith, held_few q held f eh))

-- a quarter in range counts few turns
running_low : (q : List ℕ) → running_fits q ≡ true → u64_at q turns_at < 6204
unfolding running_fits
running_low q e =
    let b = left_true (ltb (u64_at q turns_at) (span_of (first_kind q))) _ (right_true (leb 1 (u64_at q held_at)) _ e) in
    let l : u64_at q turns_at < span_of (first_kind q) = ltb-true _ _ b in
    omega (arith, (span_within (first_kind q)).high)

pub turns_low : (q : List ℕ) → quarter_fits q ≡ true → u64_at q turns_at < 6204
unfolding quarter_fits
turns_low q e = go (eqb (u64_at q turns_at) 0) refl (right_true (slots_fit q (first_ticket q) (u64_at q held_at)) _ (right_true (leb (u64_at q held_at) 8) _ e))
  where
    go : (b : Bool) → eqb (u64_at q turns_at) 0 ≡ b → cond b true (running_fits q) ≡ true → u64_at q turns_at < 6204
    go true z f = let t = eqb-true (u64_at q turns_at) 0 z in omega arith
    go false z f = running_low q f

pub turns_next : (q : List ℕ) → quarter_fits q ≡ true → u64_at q turns_at + 1 < 2 ^ 64
turns_next q e = let l = turns_low q e in omega arith

pub held_some : (q : List ℕ) (held : ℕ) → held ≡ u64_at q held_at → (held ≡ 0 → ⊥) → 1 ≤ u64_at q held_at
held_some q held e n = omega arith

-- ---- a turn

state_later : (q : List ℕ) (turns : ℕ) (s : State) → turns ≡ u64_at q turns_at → (turns ≡ 0 → ⊥) → s ≡ load_state q → s ≡ state_of q
unfolding state_of
state_later q turns s et n es = rw (← et, ne_eqb _ _ n, ← es)

module _ (queue : ℕ) (q buffer : List ℕ) where
  -- what the code answers and leaves is what the definition does
  abbrev pub Served : ℕ → List ℕ → List ℕ → Type 0
  Served r q' buffer' = (r ≡ (turn_quarter queue q buffer).answer) × (q' ≡ (turn_quarter queue q buffer).quarter) × (buffer' ≡ (turn_quarter queue q buffer).buffer)

  module _ (held : ℕ) (eh : held ≡ u64_at q held_at) where
    pub turn_none : held ≡ 0 → Served 0 q buffer
    unfolding turn_quarter
    turn_none z = rw (← eh, z) (refl, refl, refl)

    module _ (n : held ≡ 0 → ⊥) (kind turns span : ℕ) (ek : kind ≡ first_kind q) (et : turns ≡ u64_at q turns_at) (es : span ≡ span_of kind) where
      pub turn_out : turns + 1 ≡ span → (ticket : ℕ) (s : State) (o : Outcome) (buffer' q' : List ℕ) → ticket ≡ first_ticket q → s ≡ stepped_of q → o ≡ outcome_at s
          → buffer' ≡ splice buffer 0 (record_bytes ticket kind queue o) → q' ≡ freed_quarter q → Served 1 q' buffer'
      unfolding turn_quarter
      turn_out e ticket s o buffer' q' ei est eo eb eq =
          rw (← eh, ne_eqb _ _ n, ← et, ← ek, ← es, eq-eqb _ _ e) (refl, eq, eb ∙ rw (eo, est, ei))

      pub turn_on : (turns + 1 ≡ span → ⊥) → (q' : List ℕ) → q' ≡ kept_quarter q → Served 0 q' buffer
      unfolding turn_quarter
      turn_on e q' eq = rw (← eh, ne_eqb _ _ n, ← et, ← ek, ← es, ne_eqb _ _ e) (refl, eq, refl)

-- at an end the stored state stays, whatever the block
pub stepped_still : (q : List ℕ) (t : Bool) (s : State) → t ≡ (not (eqb (u64_at q turns_at) 0) && at_end (load_counters q)) → t ≡ true → s ≡ load_state q → s ≡ stepped_of q
unfolding stepped_of load_state
stepped_still q t s et e es =
    let both = sym et ∙ e in
    let later = not-true (eqb (u64_at q turns_at) 0) (left_true (not (eqb (u64_at q turns_at) 0)) (at_end (load_counters q)) both) in
    let ended = right_true (not (eqb (u64_at q turns_at) 0)) (at_end (load_counters q)) both in
    es ∙ sym (still (first_job q) (load_state q) ended (num_at_lt 8 q evaluations_at)) ∙ ap (step_of (first_job q)) (state_later q (u64_at q turns_at) (load_state q) refl (eqb-false (u64_at q turns_at) 0 later) refl)
