-- A turn goes on from the numbers that the quarter stores and a look reads them, on any board that passes 6. Assumes nothing.
use mathlib.Core.Path.{◌≡◌, refl, ap, ◌∙◌}
use Prim.Native.Nat.{ℕ, ◌≤◌}
use mathlib.Core.Bool.{true, false}
use mathlib.Core.List.{[]}
use native.Mathlib.Omega.{arith}
use lib.ListN.{length}
use lib.Dec.{eqb}
use borrow.Author.Tests.{le-leb, eq-eqb, ne_eqb}
use Rattle.buf.specs.Bytes.{u64_at}
use Rattle.float.specs.Sign.{finite_of}
use Rattle.solver.specs.Search.{Evaluator, next}
use Rattle.solver.specs.Evaluated.{evaluated}
use Rattle.solver_state.specs.declared.types.State.{State}
use Rattle.solver_state.specs.declared.types.Job as Search
use Rattle.solver_state.specs.State.{going}
use Rattle.reader.specs.declared.types.Job.{Job}
use Rattle.records.specs.Record.{record_bytes}
use Rattle.schedule.specs.Schedule.{turn_verdict, look_verdict, onward}
use Rattle.schedule.proofs.Tests.{span_within}
use Rattle.std.specs.Prelude.{Ok, Err}
use Rattle.reader.specs.declared.types.Refusal.{Refusal}
use Rattle.stepping.specs.Stepping.{Work, work_in, start_of, step_by, step_of}
use Rattle.stepping.specs.States.{outcome_at, wrapped}
use Rattle.stepping.proofs.Kept.{work_next}
use Rattle.board_spec.specs.Layout.{quarter_length, held_at, turns_at}
use Rattle.board_spec.specs.Quarter.{load_state, first_ticket, first_slot, first_kind, first_job, stepped_of, kept_quarter, DidQuarter, turn_quarter}
use Rattle.board_spec.specs.Board.{quarter_of, with_quarter, turns_in, board_fits, Shown, Did, turn_did, turn_judged, turn_board, look_judged, look_board}
use Rattle.board_spec.specs.Run.{Bytes}
use Rattle.board_spec.specs.Demand1.{Passes6}
use Rattle.board_spec.specs.Stored.{stored, job_in, Last, Serves, Steps, Hands, StoredOnly}
use Rattle.board_spec.proofs.Bytes.{slot_tail}
use Rattle.board_spec.proofs.Quarters.{slot_low, Kept}
use Rattle.board_spec.proofs.Tested.{Tested, quarter_tested, board_tested}
use Rattle.board_spec.proofs.AnyQuarter.{turn_out, turn_on, later_stepped, first_stepped, first_job_same, ticket_same, kept_reads}
use Rattle.board_spec.proofs.Sim.{length_quarter, quarter_turn, quarter_same}

-- ---- a step as a search under way

work_search : (ev : Evaluator) (w : Work) (search : Search.Job) (s : State) → w ≡ Ok search → going search (step_by ev w s) ≡ wrapped (next finite_of ev (going search s))
work_search ev w search s e = rw e (work_next ev search s)

one_evaluation : (job : Job) (search : Search.Job) (s : State) → work_in job ≡ Ok search
    → going search (step_of job s) ≡ wrapped (next finite_of (evaluated job.blend) (going search s))
unfolding step_of
one_evaluation job search s e = work_search _ _ search s e

work_refused : (ev : Evaluator) (w : Work) (refusal : Refusal) (s : State) → w ≡ Err refusal → step_by ev w s ≡ s
unfolding step_by
work_refused ev w refusal s e = rw e

-- ---- a turn of the board

module _ (b buffer : Bytes) (queue : ℕ) (s : Serves b buffer queue) where
  abbrev q : Bytes
  q = quarter_of b queue

  abbrev b' : Bytes
  b' = (turn_board b buffer).board

  tested : Passes6 b
  tested = board_tested b s.fits

  low : queue ≤ 3
  low = rw s.named at tested.turn_inside

  length_q : length q ≡ quarter_length
  length_q = length_quarter b queue tested.length_is low

  tested_q : Tested q
  tested_q = quarter_tested q (tested.quarters_inside queue low)

  turn_is : turn_board b buffer ≡ turn_did b queue (turn_quarter queue q buffer)
  unfolding turn_board turn_verdict turn_judged
  turn_is = rw (s.fits, le-leb 64 (length buffer) s.room, s.named)

  -- the served quarter afterwards
  quarter_did : (d : DidQuarter) → length d.quarter ≡ quarter_length → quarter_of (turn_did b queue d).board queue ≡ d.quarter
  unfolding turn_did
  quarter_did d l = quarter_turn (with_quarter b queue d.quarter) queue (onward queue) low ∙ quarter_same b d.quarter queue tested.length_is low l

  quarter_after : (d : DidQuarter) → turn_quarter queue q buffer ≡ d → length d.quarter ≡ quarter_length → quarter_of b' queue ≡ d.quarter
  quarter_after d e l = ap (λ (x : Did). quarter_of x.board queue) (turn_is ∙ ap (turn_did b queue) e) ∙ quarter_did d l

  module _ (some : 1 ≤ u64_at q held_at) where
    held_some : eqb (u64_at q held_at) 0 ≡ false
    held_some = ne_eqb (u64_at q held_at) 0 (λ e. omega arith)

    reads : Kept (kept_quarter q) q (stepped_of q)
    reads = kept_reads q length_q tested_q some

    kept_after : (Last b queue → ⊥) → quarter_of b' queue ≡ kept_quarter q
    kept_after n = quarter_after _ (turn_on queue q buffer held_some (ne_eqb _ _ n)) reads.len

    state_after_lem : (Last b queue → ⊥) → stored b' queue ≡ stepped_of q
    state_after_lem n = ap load_state (kept_after n) ∙ reads.state

  module _ (had : 1 ≤ turns_in b queue) where
    some : 1 ≤ u64_at q held_at
    some = (tested_q.running had).held

    module _ (n : Last b queue → ⊥) where
      one_step : stored b' queue ≡ step_of (job_in b queue) (stored b queue)
      one_step = state_after_lem some n ∙ later_stepped q had

      search_next : (search : Search.Job) → work_in (job_in b queue) ≡ Ok search
          → going search (stored b' queue) ≡ wrapped (next finite_of (evaluated (job_in b queue).blend) (going search (stored b queue)))
      search_next search e = ap (going search) one_step ∙ one_evaluation (job_in b queue) search (stored b queue) e

      refused_same : (refusal : Refusal) → work_in (job_in b queue) ≡ Err refusal → stored b' queue ≡ stored b queue
      refused_same refusal e = one_step ∙ unfold step_of in (work_refused _ _ refusal (stored b queue) e)

      same_job : job_in b' queue ≡ job_in b queue
      same_job =
          let r = reads some in
          ap first_job (kept_after some n)
          ∙ first_job_same (kept_quarter q) q (ticket_same _ _ r.accepted r.held) (slot_tail _ _ r.slots (first_slot q) (slot_low (first_ticket q)))

      later : Steps b b' queue
      later =
          record {
            one_step = one_step;
            same_job = same_job;
            one_turn = ap (λ (p : Bytes). u64_at p turns_at) (kept_after some n) ∙ (reads some).turns;
            search_next = search_next;
            refused_same = refused_same;
          }

    last : Last b queue → Hands b buffer queue (turn_board b buffer)
    unfolding turn_did
    last e =
        let out = turn_out queue q buffer (held_some some) (eq-eqb _ _ e) in
        let st = ap (λ (x : State). record_bytes (first_ticket q) (first_kind q) queue (outcome_at x)) (later_stepped q had) in
        rw (turn_is, out, st) (record { answer = refl; written = refl })

  first : turns_in b queue ≡ 0 → 1 ≤ u64_at q held_at → stored b' queue ≡ step_of (job_in b queue) (start_of (job_in b queue))
  first e some =
      let w = span_within (first_kind q) in
      state_after_lem some (λ h. omega arith) ∙ first_stepped q e

-- ---- a look

look_reads : (b : Bytes) (queue : ℕ) → board_fits b ≡ true → queue ≤ 3 → 1 ≤ turns_in b queue
    → look_board b queue ≡ record { answer = Shown (stored b queue).evaluations (stored b queue).latest; board = b; buffer = [] }
unfolding look_board look_verdict look_judged
look_reads b queue f h k = rw (f, le-leb queue 3 h, le-leb 1 (turns_in b queue) k)

pub stored_only : StoredOnly
stored_only =
    record {
      one_evaluation = one_evaluation;
      later_turn = later;
      last_turn = last;
      first_turn = first;
      look = look_reads;
    }
