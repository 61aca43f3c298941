-- A quarter of the board, for any list of bytes: its running state, the range test behind 6, a job that is added, and a turn. Definitions only.
use Rattle.std.specs.Prelude.{ℕ, zero, suc, ◌+◌, ◌-◌, ◌%◌, ◌^◌, Bool, true, cond, ◌&&◌, List, leb, ltb, eqb}
use Rattle.buf.specs.Bytes.{part, splice, u64_at, put_u64, f64_at, put_f64}
use Rattle.solver.specs.declared.types.Counters.{Counters}
use Rattle.solver.specs.declared.types.Values.{Values}
use Rattle.reader.specs.declared.types.Job.{Job}
use Rattle.reader.specs.View.{view}
use Rattle.records.specs.Record.{record_bytes}
use Rattle.schedule.specs.Spans.{kind_fits, count_fits, span_of}
use Rattle.solver_state.specs.declared.types.State.{State}
use Rattle.stepping.specs.Stepping.{start_of, step_of, state_fits}
use Rattle.board_spec.specs.Layout.{accepted_at, held_at, turns_at, evaluations_at, latest_at, kind_at, count_at, block_at}
use Rattle.stepping.specs.States.{outcome_at}

-- ---- the running search

unfoldable pub load_counters : List ℕ → Counters
load_counters q = record { stage = u64_at q 24; tag = u64_at q 32; status = u64_at q 40; left = u64_at q 48; way = u64_at q 56; rounds = u64_at q 64 }

unfoldable pub store_counters : List ℕ → Counters → List ℕ
store_counters q c =
    put_u64 (put_u64 (put_u64 (put_u64 (put_u64 (put_u64 q 24 c.stage) 32 c.tag) 40 c.status) 48 c.left) 56 c.way) 64 c.rounds

unfoldable pub load_values : List ℕ → Values
load_values q = record { first = f64_at q 72; second = f64_at q 80; third = f64_at q 88 }

unfoldable pub store_values : List ℕ → Values → List ℕ
store_values q v = put_f64 (put_f64 (put_f64 q 72 v.first) 80 v.second) 88 v.third

unfoldable pub load_state : List ℕ → State
load_state q =
    record { numbers = record { counters = load_counters q; values = load_values q }; evaluations = u64_at q evaluations_at; latest = f64_at q latest_at }

unfoldable pub store_state : List ℕ → State → List ℕ
store_state q s =
    put_f64 (put_u64 (store_values (store_counters q s.numbers.counters) s.numbers.values) evaluations_at s.evaluations) latest_at s.latest

-- ---- the jobs held

-- "tickets count accepted jobs per queue from 0, modulo 2^64": the first job's is as many below the next as jobs are held
unfoldable pub first_ticket : List ℕ → ℕ
first_ticket q = (u64_at q accepted_at + (2 ^ 64 - u64_at q held_at)) % 2 ^ 64

-- the slot of a ticket
abbrev pub slot_of : ℕ → ℕ
slot_of ticket = ticket % 8

abbrev pub first_slot : List ℕ → ℕ
first_slot q = slot_of (first_ticket q)

abbrev pub first_kind : List ℕ → ℕ
first_kind q = u64_at q (kind_at (first_slot q))

unfoldable pub first_job : List ℕ → Job
first_job q = view (first_kind q) (u64_at q (count_at (first_slot q))) (part q (block_at (first_slot q)) 640)

-- ---- "6 .. a stored number outside its range"

unfoldable pub slot_fits : List ℕ → (slot : ℕ) → Bool
slot_fits q slot = kind_fits (u64_at q (kind_at slot)) && count_fits (u64_at q (kind_at slot)) (u64_at q (count_at slot))

-- the next jobs from this ticket on
unfoldable pub slots_fit : List ℕ → (ticket count : ℕ) → Bool
slots_fit q ticket zero = true
slots_fit q ticket (suc k) = slot_fits q (slot_of ticket) && slots_fit q (ticket + 1) k

-- the running job, where there is one
unfoldable pub running_fits : List ℕ → Bool
running_fits q = leb 1 (u64_at q held_at) && (ltb (u64_at q turns_at) (span_of (first_kind q)) && state_fits (first_kind q) (load_state q))

unfoldable pub quarter_fits : List ℕ → Bool
quarter_fits q =
    leb (u64_at q held_at) 8 && (slots_fit q (first_ticket q) (u64_at q held_at) && cond (eqb (u64_at q turns_at) 0) true (running_fits q))

-- ---- the turns that the jobs held still need

-- the spans of the next jobs from this ticket on
unfoldable pub spans_from : List ℕ → (ticket count : ℕ) → ℕ
spans_from q ticket zero = 0
spans_from q ticket (suc k) = span_of (u64_at q (kind_at (slot_of ticket))) + spans_from q (ticket + 1) k

-- less the turns that the first has had
unfoldable pub turns_left : List ℕ → ℕ
turns_left q = spans_from q (first_ticket q) (u64_at q held_at) - u64_at q turns_at

-- ---- a job is added

unfoldable pub put_job : List ℕ → (slot kind n : ℕ) → List ℕ → List ℕ
put_job q slot kind n block = splice (put_u64 (put_u64 q (kind_at slot) kind) (count_at slot) n) (block_at slot) block

unfoldable pub submit_quarter : List ℕ → (kind n : ℕ) → List ℕ → List ℕ
submit_quarter q kind n block =
    put_u64 (put_u64 (put_job q (slot_of (u64_at q accepted_at)) kind n block) accepted_at ((u64_at q accepted_at + 1) % 2 ^ 64)) held_at (u64_at q held_at + 1)

-- ---- a turn

-- "A queue's free turn takes in its oldest job, checks it": the state from which the turn's evaluation is made
unfoldable pub state_of : List ℕ → State
state_of q = cond (eqb (u64_at q turns_at) 0) (start_of (first_job q)) (load_state q)

-- "a later turn's new state is one step of the definition from those stored numbers"
unfoldable pub stepped_of : List ℕ → State
stepped_of q = step_of (first_job q) (state_of q)

unfoldable pub kept_quarter : List ℕ → List ℕ
kept_quarter q = store_state (put_u64 q turns_at (u64_at q turns_at + 1)) (stepped_of q)

-- "frees the place"
unfoldable pub freed_quarter : List ℕ → List ℕ
freed_quarter q = put_u64 (put_u64 q held_at (u64_at q held_at - 1)) turns_at 0

pub record DidQuarter : Type 0 where
  -- "1 if a record was written, else 0"
  pub answer : ℕ
  pub quarter : List ℕ
  pub buffer : List ℕ

-- "The span's last turn writes the record's 64 bytes, and no others"; else "the buffer untouched"
unfoldable pub turn_quarter : (queue : ℕ) (q buffer : List ℕ) → DidQuarter
turn_quarter queue q buffer =
    cond (eqb (u64_at q held_at) 0) (record { answer = 0; quarter = q; buffer = buffer })
    (cond (eqb (u64_at q turns_at + 1) (span_of (first_kind q)))
    (record {
      answer = 1;
      quarter = freed_quarter q;
      buffer = splice buffer 0 (record_bytes (first_ticket q) (first_kind q) queue (outcome_at (stepped_of q)));
    })
    (record { answer = 0; quarter = kept_quarter q; buffer = buffer }))
