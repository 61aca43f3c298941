-- Any quarter that passes 6: what a turn of it starts from, answers, writes and leaves. Assumes nothing.
use mathlib.Core.Path.{◌≡◌, refl, ap, ◌∙◌}
use Prim.Native.Nat.{ℕ, ◌+◌, ◌≤◌, ◌<◌}
use mathlib.Core.Bool.{Bool, true, false}
use mathlib.Core.List.{◌++◌}
use native.Mathlib.Omega.{arith}
use lib.ListN.{length}
use lib.Dec.{eqb}
use borrow.Author.Tests.{eq-eqb, ne_eqb, eqb-true, eqb-false}
use Rattle.buf.specs.Bytes.{part, splice, u64_at}
use Rattle.buf.proofs.Laws.{splice_append, length_part, part_splice_before, part_splice_same, num_at_lt}
use Rattle.buf.proofs.Floats.{f64_fits}
use Rattle.solver_state.specs.declared.types.State.{State}
use Rattle.reader.specs.View.{view}
use Rattle.records.specs.declared.types.Outcome.{Outcome}
use Rattle.records.specs.Record.{public_bytes, sealed_bytes, record_bytes}
use Rattle.records.proofs.RecordLaws.{length_public}
use Rattle.schedule.specs.Spans.{kind_fits, span_of}
use Rattle.schedule.proofs.Tests.{left_true, right_true, span_within}
use Rattle.stepping.specs.Stepping.{start_of, step_of, state_fits}
use Rattle.stepping.specs.States.{Request, state_after, outcome_at}
use Rattle.stepping.specs.Storable.{Storable}
use Rattle.stepping.proofs.Laws.{stepping}
use Rattle.stepping.proofs.Kept.{fits_kept, stored_kept}
use Rattle.board_spec.specs.Layout.{quarter_length, accepted_at, held_at, turns_at, count_at, block_at}
use Rattle.board_spec.specs.Quarter.{load_counters, load_values, load_state, first_ticket, first_slot, first_kind, first_job, slot_fits, state_of, stepped_of, kept_quarter, freed_quarter, turn_quarter}
use Rattle.board_spec.specs.Run.{Bytes}
use Rattle.board_spec.proofs.Bytes.{SameSlot}
use Rattle.board_spec.proofs.Quarters.{slot_low, Kept, kept}
use Rattle.board_spec.proofs.Tested.{slots_at, Tested}

pub job_same : (k k' n n' : ℕ) (b b' : Bytes) → k ≡ k' → n ≡ n' → b ≡ b' → view k n b ≡ view k' n' b'
job_same k k' n n' b b' e f g = rw (e, f, g)

-- ---- what a turn answers and leaves: no job is held, its first job's span ends, or the job stays

pub turn_idle : (queue : ℕ) (q buffer : Bytes) → eqb (u64_at q held_at) 0 ≡ true → turn_quarter queue q buffer ≡ record { answer = 0; quarter = q; buffer = buffer }
unfolding turn_quarter
turn_idle queue q buffer e = rw e

pub turn_out : (queue : ℕ) (q buffer : Bytes) → eqb (u64_at q held_at) 0 ≡ false → eqb (u64_at q turns_at + 1) (span_of (first_kind q)) ≡ true
    → turn_quarter queue q buffer ≡ record { answer = 1; quarter = freed_quarter q; buffer = splice buffer 0 (record_bytes (first_ticket q) (first_kind q) queue (outcome_at (stepped_of q))) }
unfolding turn_quarter
turn_out queue q buffer e f = rw (e, f)

pub turn_on : (queue : ℕ) (q buffer : Bytes) → eqb (u64_at q held_at) 0 ≡ false → eqb (u64_at q turns_at + 1) (span_of (first_kind q)) ≡ false
    → turn_quarter queue q buffer ≡ record { answer = 0; quarter = kept_quarter q; buffer = buffer }
unfolding turn_quarter
turn_on queue q buffer e f = rw (e, f)

-- ---- what it writes

-- the first 16 bytes of a record, whatever is sealed in it
pub first_16 : (buffer : Bytes) (ticket kind queue : ℕ) (s : Bytes) → 64 ≤ length buffer → part (splice buffer 0 (public_bytes ticket kind queue ++ s)) 0 16 ≡ public_bytes ticket kind queue
first_16 buffer ticket kind queue s h =
    let p = public_bytes ticket kind queue in
    let lp : length p ≡ 16 = length_public ticket kind queue in
    ap (λ (w : Bytes). part w 0 16) (splice_append p s buffer 0)
    ∙ part_splice_before (splice buffer 0 p) (0 + length p) s 0 16 (omega arith)
    ∙ part_splice_same buffer 0 p 16 lp (omega arith)

pub record_public : (buffer : Bytes) (ticket kind queue : ℕ) (o : Outcome) → 64 ≤ length buffer → part (splice buffer 0 (record_bytes ticket kind queue o)) 0 16 ≡ public_bytes ticket kind queue
unfolding record_bytes
record_public buffer ticket kind queue o h = first_16 buffer ticket kind queue (sealed_bytes o) h

-- ---- what any bytes are read as can be stored

loaded : (q : Bytes) → Storable (load_state q)
unfolding load_state load_counters load_values
loaded q =
    record {
      counters = record { stage = num_at_lt 8 q 24; tag = num_at_lt 8 q 32; status = num_at_lt 8 q 40; left = num_at_lt 8 q 48; way = num_at_lt 8 q 56; rounds = num_at_lt 8 q 64 };
      evaluations = num_at_lt 8 q 96;
      floats = record { values = record { first = f64_fits q 72; second = f64_fits q 80; third = f64_fits q 88 }; latest = f64_fits q 104 };
    }

-- ---- where a turn begins: a later turn with the stored numbers, a first turn with the job's start

pub later_state : (q : Bytes) → 1 ≤ u64_at q turns_at → state_of q ≡ load_state q
unfolding state_of
later_state q h = rw (ne_eqb (u64_at q turns_at) 0 (λ e. omega arith))

pub first_state : (q : Bytes) → u64_at q turns_at ≡ 0 → state_of q ≡ start_of (first_job q)
unfolding state_of
first_state q e = rw (eq-eqb (u64_at q turns_at) 0 e)

pub later_stepped : (q : Bytes) → 1 ≤ u64_at q turns_at → stepped_of q ≡ step_of (first_job q) (load_state q)
unfolding stepped_of
later_stepped q h = ap (step_of (first_job q)) (later_state q h)

pub first_stepped : (q : Bytes) → u64_at q turns_at ≡ 0 → stepped_of q ≡ step_of (first_job q) (start_of (first_job q))
unfolding stepped_of
first_stepped q e = ap (step_of (first_job q)) (first_state q e)

-- ---- the first job

-- quarters with the same first ticket and the same slots
pub first_kind_same : (p q : Bytes) → first_ticket p ≡ first_ticket q → SameSlot p q (first_slot q) → first_kind p ≡ first_kind q
first_kind_same p q e s = rw e s.kind

pub first_job_same : (p q : Bytes) → first_ticket p ≡ first_ticket q → SameSlot p q (first_slot q) → first_job p ≡ first_job q
unfolding first_job
first_job_same p q e s = rw e (job_same _ _ _ _ _ _ s.kind s.n s.block)

pub ticket_same : (p q : Bytes) → u64_at p accepted_at ≡ u64_at q accepted_at → u64_at p held_at ≡ u64_at q held_at → first_ticket p ≡ first_ticket q
unfolding first_ticket
ticket_same p q e f = rw (e, f)

module _ (q : Bytes) (l : length q ≡ quarter_length) (t : Tested q) (some : 1 ≤ u64_at q held_at) where
  first_request : Request (first_kind q) (u64_at q (count_at (first_slot q))) (part q (block_at (first_slot q)) 640)
  unfolding slot_fits
  first_request =
      let z : first_ticket q + 0 ≡ first_ticket q = omega arith in
      let f : slot_fits q (first_slot q) ≡ true = rw z at (slots_at q (first_ticket q) (u64_at q held_at) t.slots 0 some) in
      let low : first_slot q < 8 = slot_low (first_ticket q) in
      record {
        fit_kind = left_true (kind_fits (first_kind q)) _ f;
        fit_count = right_true (kind_fits (first_kind q)) _ f;
        block_fits = length_part q (block_at (first_slot q)) 640 (omega arith);
      }

  -- a state of the first job that can be stored and is in its kind's range, and its step
  abbrev Ready : State → Type 0
  Ready s = Storable s × (state_fits (first_kind q) s ≡ true)

  step_ready : (s : State) → Ready s → Ready (step_of (first_job q) s)
  unfolding first_job
  step_ready s (h, f) = (stored_kept _ _ _ s h f, fits_kept _ _ _ s f)

  start_ready : Ready (start_of (first_job q))
  unfolding first_job state_after
  start_ready = (stepping.stores _ _ _ first_request 0, stepping.fits _ _ _ first_request 0)

  state_ready : (b : Bool) → eqb (u64_at q turns_at) 0 ≡ b → Ready (state_of q)
  state_ready true e = rw (first_state q (eqb-true _ _ e)) start_ready
  state_ready false e =
      let n = eqb-false (u64_at q turns_at) 0 e in
      let h : 1 ≤ u64_at q turns_at = omega arith in
      rw (later_state q h) (loaded q, (t.running h).state)

  pub stepped_ready : Ready (stepped_of q)
  unfolding stepped_of
  stepped_ready = step_ready (state_of q) (state_ready _ refl)

  pub turns_below : u64_at q turns_at < span_of (first_kind q)
  turns_below = go (eqb (u64_at q turns_at) 0) refl
    where
      go : (b : Bool) → eqb (u64_at q turns_at) 0 ≡ b → u64_at q turns_at < span_of (first_kind q)
      go true e = let z = eqb-true (u64_at q turns_at) 0 e in let s = span_within (first_kind q) in omega arith
      go false e = let n = eqb-false (u64_at q turns_at) 0 e in (t.running (omega arith)).below

  -- what is read after a turn that the job stays for
  pub kept_reads : Kept (kept_quarter q) q (stepped_of q)
  unfolding kept_quarter
  kept_reads =
      let b = turns_below in
      let s = span_within (first_kind q) in
      kept q l (stepped_of q) (omega arith) stepped_ready.0
