-- A whole run from bytes: the calls that stand in them are made on a fresh board, and what the public sees of each is written. Definitions only.
use Rattle.std.specs.Prelude.{◌≡◌, ℕ, ◌/◌, cond, map, length, eqb, Result, Ok, Err}
use Rattle.buf.specs.Bytes.{splice}
use Rattle.schedule.specs.Schedule.{Call, events, fresh}
use Rattle.board_spec.specs.Layout.{board_length}
use Rattle.board_spec.specs.Board.{Answer}
use Rattle.board_spec.specs.Run.{Bytes, Calls, zero_board, did, board_after, reply_by, replies, fields_of, public_of, public_event}
use Rattle.calls.specs.Calls.{calls_from, answer_bytes, answers_bytes}
use Rattle.replay.specs.declared.types.BadBoard.{BadBoard}

-- as many calls as there is room for answers
unfoldable pub calls_for : (calls answers : Bytes) → Calls
calls_for calls answers = calls_from (length answers / 32) calls 0

-- what is written of a run: the schedule's answers, which come from the public fields alone
unfoldable pub replayed : Calls → Bytes → Bytes
replayed run answers = splice answers 0 (answers_bytes (map public_event (events (λ n. n) fresh (fields_of run))))

-- what is answered, and the board and the answers' bytes afterwards
pub record Did : Type 0 where
  pub answer : Result ℕ BadBoard
  pub board : Bytes
  pub answers : Bytes

-- a board of another length is refused, and nothing changes
unfoldable pub replay_did : (board calls answers : Bytes) → Did
replay_did board calls answers =
    cond (eqb (length board) board_length)
    (record {
      answer = Ok (length (calls_for calls answers));
      board = board_after zero_board (calls_for calls answers);
      answers = replayed (calls_for calls answers) answers;
    })
    (record { answer = Err (record {}); board = board; answers = answers })

-- ---- what the parts of the code do

-- a call is made with a record buffer that is the start of r, and is answered a
pub record ToldCall (b r : Bytes) (c : Call Bytes) (a : Answer) (b' r' : Bytes) : Type 0 where
  pub answer : a ≡ (did b c).answer
  pub board : b' ≡ (did b c).board
  pub buffer : r' ≡ splice r 0 (did b c).buffer

-- one call is made, and its answer written at an index
pub record MadeCall (b w : Bytes) (at : ℕ) (c : Call Bytes) (b' w' : Bytes) : Type 0 where
  pub board : b' ≡ (did b c).board
  pub answers : w' ≡ splice w at (answer_bytes (public_of (reply_by (did b c))))

-- a run is made on any board, and its answers written one after the other
pub record MadeRun (b w : Bytes) (run : Calls) (b' w' : Bytes) (made : ℕ) : Type 0 where
  pub board : b' ≡ board_after b run
  pub answers : w' ≡ splice w 0 (answers_bytes (map public_of (replies b run)))
  pub count : made ≡ length run
