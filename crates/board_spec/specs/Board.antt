-- The calls on a whole board, for any list of bytes and any arguments: what each answers, the board and the record buffer afterwards. Definitions only.
use Rattle.std.specs.Prelude.{ℕ, ◌+◌, ◌*◌, Bool, ◌&&◌, List, [], length, ltb, eqb, Float}
use Rattle.buf.specs.Bytes.{part, splice, u64_at, put_u64}
use Rattle.schedule.specs.Schedule.{Verdict, accept, refuse, check, submit_verdict, turn_verdict, look_verdict, quote_verdict, onward, turns_until}
use Rattle.board_spec.specs.Layout.{board_length, quarter_length, turn_at, accepted_at, held_at, turns_at, kind_at}
use Rattle.board_spec.specs.Quarter.{load_state, first_kind, slot_of, first_ticket, quarter_fits, turns_left, submit_quarter, DidQuarter, turn_quarter}

-- the quarter of a queue
unfoldable pub quarter_of : List ℕ → (queue : ℕ) → List ℕ
quarter_of b queue = part b (quarter_length * queue) quarter_length

-- the board with another quarter for a queue
unfoldable pub with_quarter : List ℕ → (queue : ℕ) → List ℕ → List ℕ
with_quarter b queue q = splice b (quarter_length * queue) q

-- ---- what a board stores: the queue that the next turn serves,
abbrev pub served_in : List ℕ → ℕ
served_in b = u64_at b turn_at

-- of a queue the jobs accepted, modulo 2^64, and the jobs held,
abbrev pub count_in : List ℕ → (queue : ℕ) → ℕ
count_in b queue = u64_at (quarter_of b queue) accepted_at

abbrev pub held_in : List ℕ → (queue : ℕ) → ℕ
held_in b queue = u64_at (quarter_of b queue) held_at

-- and of its first job the turns had and the kind
abbrev pub turns_in : List ℕ → (queue : ℕ) → ℕ
turns_in b queue = u64_at (quarter_of b queue) turns_at

abbrev pub kind_in : List ℕ → (queue : ℕ) → ℕ
kind_in b queue = first_kind (quarter_of b queue)

-- the kind of the job after i others
abbrev pub kind_after : List ℕ → (queue i : ℕ) → ℕ
kind_after b queue i = u64_at (quarter_of b queue) (kind_at (slot_of (first_ticket (quarter_of b queue) + i)))

-- "6 board of another length or a stored number outside its range"
unfoldable pub board_fits : List ℕ → Bool
board_fits b =
    eqb (length b) board_length
    && (ltb (u64_at b turn_at) 4
    && (quarter_fits (quarter_of b 0) && (quarter_fits (quarter_of b 1) && (quarter_fits (quarter_of b 2) && quarter_fits (quarter_of b 3)))))

-- what a call answers, in document 01's numbers
pub data Answer : Type 0 where
  -- "every refusal of the caller's"
  Refused : ℕ → Answer
  -- "Submit answers its ticket"
  Ticket : ℕ → Answer
  -- "1 if a record was written, else 0"
  Turned : ℕ → Answer
  -- "the running job's evaluations so far and the density of the latest one"
  Shown : (evaluations : ℕ) (density : Float) → Answer
  -- "the number of accepted turns until a job submitted now would be handed out"
  Quoted : (turns : ℕ) → Answer

-- a call that takes no record buffer has the empty one
pub record Did : Type 0 where
  pub answer : Answer
  pub board : List ℕ
  pub buffer : List ℕ

-- "The caller; nothing changes"
unfoldable pub refused_did : (b buffer : List ℕ) → ℕ → Did
refused_did b buffer number = record { answer = Refused number; board = b; buffer = buffer }

-- "Submit tests 6, 1, 2, 3, 8, 4"
unfoldable pub submit_judged : List ℕ → (queue kind n : ℕ) → List ℕ → Verdict → Did
submit_judged b queue kind n block accept =
    record {
      answer = Ticket (u64_at (quarter_of b queue) accepted_at);
      board = with_quarter b queue (submit_quarter (quarter_of b queue) kind n block);
      buffer = [];
    }
submit_judged b queue kind n block (refuse number) = refused_did b [] number

unfoldable pub submit_board : List ℕ → (queue kind n : ℕ) → List ℕ → Did
submit_board b queue kind n block =
    submit_judged b queue kind n block (check (board_fits b) 6 (submit_verdict queue kind n (length block) (u64_at (quarter_of b queue) held_at)))

-- "A turn serves the queue it names and steps on"
unfoldable pub turn_did : List ℕ → (queue : ℕ) → DidQuarter → Did
turn_did b queue d =
    record { answer = Turned d.answer; board = put_u64 (with_quarter b queue d.quarter) turn_at (onward queue); buffer = d.buffer }

-- "turn 6, 5"
unfoldable pub turn_judged : (b buffer : List ℕ) → Verdict → Did
turn_judged b buffer accept = turn_did b (u64_at b turn_at) (turn_quarter (u64_at b turn_at) (quarter_of b (u64_at b turn_at)) buffer)
turn_judged b buffer (refuse number) = refused_did b buffer number

unfoldable pub turn_board : (b buffer : List ℕ) → Did
turn_board b buffer = turn_judged b buffer (check (board_fits b) 6 (turn_verdict (length buffer)))

-- "look 6, 1, 7"; "a look only reads"
unfoldable pub look_judged : List ℕ → (queue : ℕ) → Verdict → Did
look_judged b queue accept =
    record {
      answer = Shown (load_state (quarter_of b queue)).evaluations (load_state (quarter_of b queue)).latest;
      board = b;
      buffer = [];
    }
look_judged b queue (refuse number) = refused_did b [] number

unfoldable pub look_board : List ℕ → (queue : ℕ) → Did
look_board b queue = look_judged b queue (check (board_fits b) 6 (look_verdict queue (u64_at (quarter_of b queue) turns_at)))

-- of a quote "Faults 6, 1, 2 and 4 are answered as by submit"; it reads the turn, the kinds of the jobs held and the turns had by the first
unfoldable pub quote_judged : List ℕ → (queue kind : ℕ) → Verdict → Did
quote_judged b queue kind accept =
    record { answer = Quoted (turns_until (u64_at b turn_at) queue (turns_left (quarter_of b queue)) kind); board = b; buffer = [] }
quote_judged b queue kind (refuse number) = refused_did b [] number

unfoldable pub quote_board : List ℕ → (queue kind : ℕ) → Did
quote_board b queue kind = quote_judged b queue kind (check (board_fits b) 6 (quote_verdict queue kind (u64_at (quarter_of b queue) held_at)))
