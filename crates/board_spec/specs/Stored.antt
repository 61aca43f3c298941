-- "On any board that passes 6, reached from zero bytes or not, a later turn's new state is one step of the definition from those stored numbers, and a look only reads them."
-- Stated of the calls and of what is read of the bytes before and after them. Statements only; `stored_only` in proofs/Stored.antt proves them.
use Rattle.std.specs.Prelude.{◌≡◌, ℕ, ◌+◌, ◌≤◌, true, [], length}
use Rattle.float.specs.Sign.{finite_of}
use Rattle.solver.specs.Search.{next}
use Rattle.solver.specs.Evaluated.{evaluated}
use Rattle.solver_state.specs.declared.types.State.{State}
use Rattle.solver_state.specs.declared.types.Job as Search
use Rattle.solver_state.specs.State.{going}
use Rattle.buf.specs.Bytes.{splice}
use Rattle.reader.specs.declared.types.Job.{Job}
use Rattle.records.specs.Record.{record_bytes}
use Rattle.schedule.specs.Spans.{span_of}
use Rattle.std.specs.Prelude.{Ok, Err}
use Rattle.reader.specs.declared.types.Refusal.{Refusal}
use Rattle.stepping.specs.Stepping.{work_in, start_of, step_of}
use Rattle.stepping.specs.States.{outcome_at, wrapped}
use Rattle.board_spec.specs.Quarter.{load_state, first_ticket, first_job}
use Rattle.board_spec.specs.Board.{quarter_of, served_in, held_in, turns_in, kind_in, board_fits, Turned, Shown, Did, turn_board, look_board}
use Rattle.board_spec.specs.Run.{Bytes}

-- the numbers that a queue's quarter stores, and the job in its first slot
abbrev pub stored : Bytes → (queue : ℕ) → State
stored b queue = load_state (quarter_of b queue)

abbrev pub job_in : Bytes → (queue : ℕ) → Job
job_in b queue = first_job (quarter_of b queue)

-- the next turn of the queue is the last of its first job's span
abbrev pub Last : Bytes → (queue : ℕ) → Type 0
Last b queue = turns_in b queue + 1 ≡ span_of (kind_in b queue)

-- a turn that is accepted and serves this queue, on any board that passes 6
pub record Serves (b buffer : Bytes) (queue : ℕ) : Type 0 where
  pub fits : board_fits b ≡ true
  pub named : served_in b ≡ queue
  pub room : 64 ≤ length buffer

-- a turn before the span's last, from the board b to the board b'
pub record Steps (b b' : Bytes) (queue : ℕ) : Type 0 where
  -- the state stored afterwards is one step from the stored numbers,
  pub one_step : stored b' queue ≡ step_of (job_in b queue) (stored b queue)
  -- of the same job, which has had one turn more
  pub same_job : job_in b' queue ≡ job_in b queue
  pub one_turn : turns_in b' queue ≡ turns_in b queue + 1
  -- as a search under way it is the definition's next: what is left, the latest density, and the count modulo 2^64
  pub search_next : (search : Search.Job) → work_in (job_in b queue) ≡ Ok search
      → going search (stored b' queue) ≡ wrapped (next finite_of (evaluated (job_in b queue).blend) (going search (stored b queue)))
  -- a job refused by its data stays as it is
  pub refused_same : (refusal : Refusal) → work_in (job_in b queue) ≡ Err refusal → stored b' queue ≡ stored b queue

-- the span's last turn: "writes the record's 64 bytes, and no others", of the state that is one step from the stored numbers
pub record Hands (b buffer : Bytes) (queue : ℕ) (d : Did) : Type 0 where
  pub answer : d.answer ≡ Turned 1
  pub written :
      d.buffer
      ≡ splice buffer 0 (record_bytes (first_ticket (quarter_of b queue)) (kind_in b queue) queue (outcome_at (step_of (job_in b queue) (stored b queue))))

pub record StoredOnly : Type 0 where
  -- a step from any state is the definition's: one evaluation of the search that is left there, counted modulo 2^64
  pub one_evaluation : (job : Job) (search : Search.Job) (s : State) → work_in job ≡ Ok search
      → going search (step_of job s) ≡ wrapped (next finite_of (evaluated job.blend) (going search s))
  -- "a later turn's new state is one step of the definition from those stored numbers"
  pub later_turn : (b buffer : Bytes) (queue : ℕ) → Serves b buffer queue → 1 ≤ turns_in b queue → (Last b queue → ⊥) → Steps b (turn_board b buffer).board queue
  pub last_turn : (b buffer : Bytes) (queue : ℕ) → Serves b buffer queue → 1 ≤ turns_in b queue → Last b queue → Hands b buffer queue (turn_board b buffer)
  -- "A queue's free turn takes in its oldest job, checks it and makes its first evaluation", whatever numbers stand there
  pub first_turn : (b buffer : Bytes) (queue : ℕ) → Serves b buffer queue → turns_in b queue ≡ 0 → 1 ≤ held_in b queue
      → stored (turn_board b buffer).board queue ≡ step_of (job_in b queue) (start_of (job_in b queue))
  -- "a look only reads them"
  pub look : (b : Bytes) (queue : ℕ) → board_fits b ≡ true → queue ≤ 3 → 1 ≤ turns_in b queue
      → look_board b queue ≡ record { answer = Shown (stored b queue).evaluations (stored b queue).latest; board = b; buffer = [] }
