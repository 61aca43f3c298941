-- A run: a list of calls on a board, what each replies, and what the schedule says of it. Definitions only.
use Rattle.std.specs.Prelude.{ℕ, List, [], ◌∷◌, ◌++◌, map, cond, length, eqb}
use Rattle.std.proofs.Math.Option.{Option, none, some}
use Rattle.buf.specs.Bytes.{part, splice, zeros}
use Rattle.records.specs.Record.{public_bytes, sealed_of}
use Rattle.schedule.specs.Schedule.{Held, Schedule, Call, Submit, Turn, Look, Quote, Event, refused, accepted, served, looked, quoted, happens, map_call}
use Rattle.board_spec.specs.Layout.{board_length}
use Rattle.stepping.specs.States.{Sight, sight}
use Rattle.board_spec.specs.Board.{Answer, Refused, Ticket, Turned, Shown, Quoted, Did, submit_board, turn_board, look_board, quote_board}

abbrev pub Bytes : Type 0
Bytes = List ℕ

abbrev pub Calls : Type 0
Calls = List (Call Bytes)

-- "Zero bytes are a fresh board."
unfoldable pub zero_board : Bytes
zero_board = zeros board_length

-- what a call makes of a board
unfoldable pub did : Bytes → Call Bytes → Did
did b (Submit queue kind n block) = submit_board b queue kind n block
did b (Turn buffer) = turn_board b buffer
did b (Look queue) = look_board b queue
did b (Quote queue kind) = quote_board b queue kind

-- the board after a run
unfoldable pub board_after : Bytes → Calls → Bytes
board_after b [] = b
board_after b (c ∷ cs) = board_after (did b c).board cs

-- what the caller has of a call: its answer and the record buffer afterwards
pub record Reply : Type 0 where
  pub answer : Answer
  pub buffer : Bytes

unfoldable pub reply_by : Did → Reply
reply_by d = record { answer = d.answer; buffer = d.buffer }

unfoldable pub replies : Bytes → Calls → List Reply
replies b [] = []
replies b (c ∷ cs) = reply_by (did b c) ∷ replies (did b c).board cs

-- ---- what the schedule says

-- the buffer that a call brings
unfoldable pub buffer_of : Call Bytes → Bytes
buffer_of (Submit queue kind n block) = []
buffer_of (Turn buffer) = buffer
buffer_of (Look queue) = []
buffer_of (Quote queue kind) = []

-- the record of a job: "Sealed bytes depend on kind, N and block only"
unfoldable pub record_of : (queue : ℕ) → Held Bytes → Bytes
record_of queue j = public_bytes j.ticket j.kind queue ++ sealed_of j.kind j.n j.block

-- "leaves, handed out, when its turns make its kind's span: answer 1, else 0"
unfoldable pub turn_reply : Bytes → (queue : ℕ) → Option (Held Bytes) → Reply
turn_reply buffer queue none = record { answer = Turned 0; buffer = buffer }
turn_reply buffer queue (some j) = record { answer = Turned 1; buffer = splice buffer 0 (record_of queue j) }

unfoldable pub sight_reply : Bytes → Sight → Reply
sight_reply buffer s = record { answer = Shown s.evaluations s.density; buffer = buffer }

unfoldable pub reply_of : Bytes → Event Bytes → Reply
reply_of buffer (refused number) = record { answer = Refused number; buffer = buffer }
reply_of buffer (accepted ticket) = record { answer = Ticket ticket; buffer = buffer }
reply_of buffer (served queue o) = turn_reply buffer queue o
reply_of buffer (looked j) = sight_reply buffer (sight j.kind j.n j.block j.turns)
reply_of buffer (quoted turns) = record { answer = Quoted turns; buffer = buffer }

unfoldable pub scheduled : Schedule Bytes → Calls → List Reply
scheduled σ [] = []
scheduled σ (c ∷ cs) = reply_of (buffer_of c) (happens length σ c).event ∷ scheduled (happens length σ c).after cs

-- ---- what is public

-- "Public are queue, kind, N, buffer lengths"
unfoldable pub fields_of : Calls → List (Call ℕ)
fields_of cs = map (map_call length) cs

-- "every refusal of the caller's"; "what a look shows belong[s] to the queue's owner. Every other answer is public"; of a record bytes 0 to 15
pub data Public : Type 0 where
  refusal : ℕ → Public
  ticketed : ℕ → Public
  turning : (answer : ℕ) (written : Bytes) → Public
  looking : Public
  quoting : (turns : ℕ) → Public

unfoldable pub public_of : Reply → Public
public_of r = open_answer r.answer r.buffer
  where
    open_answer : Answer → Bytes → Public
    open_answer (Refused number) buffer = refusal number
    open_answer (Ticket ticket) buffer = ticketed ticket
    open_answer (Turned answer) buffer = turning answer (cond (eqb answer 1) (part buffer 0 16) [])
    open_answer (Shown evaluations density) buffer = looking
    open_answer (Quoted turns) buffer = quoting turns

-- the public part of an event, from the public fields alone
unfoldable pub public_out : (queue : ℕ) → Option (Held ℕ) → Public
public_out queue none = turning 0 []
public_out queue (some j) = turning 1 (public_bytes j.ticket j.kind queue)

unfoldable pub public_event : Event ℕ → Public
public_event (refused number) = refusal number
public_event (accepted ticket) = ticketed ticket
public_event (served queue o) = public_out queue o
public_event (looked j) = looking
public_event (quoted turns) = quoting turns
