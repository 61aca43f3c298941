-- The answers of the calls in document 01's numbers, and an answer in parts as C takes it. Definitions only.
use Rattle.std.specs.Prelude.{ℕ, Bool, if◌then◌else◌, Float, Result, Ok, Err}
use Rattle.board_spec.specs.Board.{Answer, Refused}
use Rattle.board_spec.specs.Board as Says
use Rattle.board.specs.declared.types.Refusal.{Refusal}
use Rattle.board.specs.declared.types.Refusal.TheVariants.{BadQueue, BadKind, BadCount, Full, ShortRecord, BadBoard, NotRunning, BadBlockLength}
use Rattle.board.specs.declared.types.Reply.{Reply}
use Rattle.board.specs.declared.types.Shown.{Shown}

unfoldable pub refusal_number : Refusal → ℕ
refusal_number BadQueue = 1
refusal_number BadKind = 2
refusal_number BadCount = 3
refusal_number Full = 4
refusal_number ShortRecord = 5
refusal_number BadBoard = 6
refusal_number NotRunning = 7
refusal_number BadBlockLength = 8

-- what each call answers, or why it refuses
unfoldable pub submitted_of : Result ℕ Refusal → Answer
submitted_of (Ok ticket) = Says.Ticket ticket
submitted_of (Err refusal) = Refused (refusal_number refusal)

-- "1 if a record was written, else 0"
unfoldable pub turned_of : Result Bool Refusal → Answer
turned_of (Ok written) = Says.Turned (if written then 1 else 0)
turned_of (Err refusal) = Refused (refusal_number refusal)

unfoldable pub looked_of : Result Shown Refusal → Answer
looked_of (Ok shown) = Says.Shown shown.evaluations shown.density
looked_of (Err refusal) = Refused (refusal_number refusal)

unfoldable pub quoted_of : Result ℕ Refusal → Answer
quoted_of (Ok turns) = Says.Quoted turns
quoted_of (Err refusal) = Refused (refusal_number refusal)

-- any call's
unfoldable pub answer_of : Result Reply Refusal → Answer
answer_of (Ok (Reply.Ticket ticket)) = Says.Ticket ticket
answer_of (Ok (Reply.Turned written)) = Says.Turned (if written then 1 else 0)
answer_of (Ok (Reply.Shown shown)) = Says.Shown shown.evaluations shown.density
answer_of (Ok (Reply.Quoted turns)) = Says.Quoted turns
answer_of (Err refusal) = Refused (refusal_number refusal)

-- ---- an answer in parts

-- A refusal's number, a turn's 0 or 1, and 0 for the others. The refusals of submit, look and quote are 1 or more and turn's 5 and 6,
-- so the number tells them from an answer.
unfoldable pub number_of : Answer → ℕ
number_of (Refused number) = number
number_of (Says.Ticket ticket) = 0
number_of (Says.Turned answer) = answer
number_of (Says.Shown evaluations density) = 0
number_of (Says.Quoted turns) = 0

-- what stands where the ticket goes, v before: a refusal leaves it
unfoldable pub ticket_of : ℕ → Answer → ℕ
ticket_of v (Refused number) = v
ticket_of v (Says.Ticket ticket) = ticket
ticket_of v (Says.Turned answer) = v
ticket_of v (Says.Shown evaluations density) = v
ticket_of v (Says.Quoted turns) = v

-- the same for what a look shows
unfoldable pub evaluations_of : ℕ → Answer → ℕ
evaluations_of v (Refused number) = v
evaluations_of v (Says.Ticket ticket) = v
evaluations_of v (Says.Turned answer) = v
evaluations_of v (Says.Shown evaluations density) = evaluations
evaluations_of v (Says.Quoted turns) = v

unfoldable pub density_of : Float → Answer → Float
density_of v (Refused number) = v
density_of v (Says.Ticket ticket) = v
density_of v (Says.Turned answer) = v
density_of v (Says.Shown evaluations density) = density
density_of v (Says.Quoted turns) = v

-- and for what a quote gives
unfoldable pub turns_of : ℕ → Answer → ℕ
turns_of v (Refused number) = v
turns_of v (Says.Ticket ticket) = v
turns_of v (Says.Turned answer) = v
turns_of v (Says.Shown evaluations density) = v
turns_of v (Says.Quoted turns) = turns
