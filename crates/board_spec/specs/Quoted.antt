-- What a quote promises, of any board that passes 6, reached from zero bytes or not, and any calls: "the number of accepted turns until a job submitted now would be
-- handed out, that turn counted". Statements only; `quoted_exact` in proofs/Quoted.antt proves them.
use Rattle.std.specs.Prelude.{◌≡◌, ℕ, ◌+◌, ◌^◌, ◌≤◌, ◌<◌, List, [], ◌∷◌, length}
use Rattle.buf.specs.Bytes.{part, splice}
use Rattle.records.specs.Record.{public_bytes}
use Rattle.schedule.specs.Spans.{span_of}
use Rattle.schedule.specs.Refusals.{Inside, CountRight}
use Rattle.board_spec.specs.Board.{served_in, board_fits, Answer, Refused, Ticket, Turned, Shown, Quoted, Did, submit_board, turn_board, quote_board}
use Rattle.board_spec.specs.Run.{Bytes, Calls, zero_board, board_after, Reply, replies, record_of}
use Rattle.board_spec.specs.Demand1.{SameFill}

-- ---- counting

-- 1 for an accepted turn
unfoldable pub taken : Answer → ℕ
taken (Refused number) = 0
taken (Ticket ticket) = 0
taken (Turned answer) = 1
taken (Shown evaluations density) = 0
taken (Quoted turns) = 0

-- the accepted turns among calls
unfoldable pub turns_taken : List Reply → ℕ
turns_taken [] = 0
turns_taken (r ∷ rs) = taken r.answer + turns_taken rs

-- ---- a quote and a submit on one board, then any calls, other submits to that queue too, and one turn more that has room for a record

pub record Planned (b : Bytes) : Type 0 where
  pub queue : ℕ
  pub kind : ℕ
  pub turns : ℕ
  pub quoted : (quote_board b queue kind).answer ≡ Quoted turns
  pub n : ℕ
  pub block : Bytes
  pub ticket : ℕ
  pub accepted : (submit_board b queue kind n block).answer ≡ Ticket ticket
  pub between : Calls
  pub buffer : Bytes
  pub room : 64 ≤ length buffer

-- the board that the submit leaves
unfoldable pub entered : {b : Bytes} → Planned b → Bytes
entered {b} x = (submit_board b x.queue x.kind x.n x.block).board

-- what the turn does
unfoldable pub turn_then : {b : Bytes} → Planned b → Did
turn_then x = turn_board (board_after (entered x) x.between) x.buffer

-- which accepted turn it is, counted from the submit
unfoldable pub place : {b : Bytes} → Planned b → ℕ
place x = turns_taken (replies (entered x) x.between) + 1

-- a record of this ticket, kind and queue is written
pub record HandsOut (d : Did) (ticket kind queue : ℕ) : Type 0 where
  pub answer : d.answer ≡ Turned 1
  pub written : part d.buffer 0 16 ≡ public_bytes ticket kind queue

-- ---- the promise

pub record QuotedExact : Type 0 where
  -- the turn is accepted,
  pub turn_accepted : {b : Bytes} (x : Planned b) → taken (turn_then x).answer ≡ 1
  -- and if it is the one of the quoted number, it hands the job out;
  pub then_it : {b : Bytes} (x : Planned b) → place x ≡ x.turns → HandsOut (turn_then x) x.ticket x.kind x.queue
  -- none before it does, whichever kind the record would name,
  pub none_before : {b : Bytes} (x : Planned b) (kind : ℕ) → place x < x.turns → HandsOut (turn_then x) x.ticket kind x.queue → ⊥
  -- and none after it, as long as tickets cannot have come round
  pub no_other : {b : Bytes} (x : Planned b) (kind : ℕ) → place x ≤ 2 ^ 64 → HandsOut (turn_then x) x.ticket kind x.queue → place x ≡ x.turns
  -- on a board reached from zero bytes the record is the job's, sealed bytes too
  pub its_record : (run : Calls) (x : Planned (board_after zero_board run)) → place x ≡ x.turns
      → (turn_then x).buffer ≡ splice x.buffer 0 (record_of x.queue (record { kind = x.kind; n = x.n; block = x.block; ticket = x.ticket; turns = span_of x.kind }))
  -- "Faults .. are answered as by submit": a quote is refused exactly where a submit with that queue and kind, and an N and a block that fit, is, by the same number;
  pub refused_as_submit : (b : Bytes) (queue kind n : ℕ) (block : Bytes) → CountRight kind n → length block ≡ 640 → (number : ℕ)
      → ((quote_board b queue kind).answer ≡ Refused number → (submit_board b queue kind n block).answer ≡ Refused number) × ((submit_board b queue kind n block).answer ≡ Refused number → (quote_board b queue kind).answer ≡ Refused number)
  -- so where a submit is accepted, a quote is answered
  pub answered : (b : Bytes) (queue kind n : ℕ) (block : Bytes) (ticket : ℕ) → (submit_board b queue kind n block).answer ≡ Ticket ticket → (turns : ℕ) × ((quote_board b queue kind).answer ≡ Quoted turns)
  -- from a job of the shortest span alone to eight of the longest: it fits 64 bits
  pub within : (b : Bytes) (queue kind turns : ℕ) → (quote_board b queue kind).answer ≡ Quoted turns → Inside 117 198528 turns
  -- "Only public fields may enter it": the turn, the number and kinds of the jobs that the queue holds, and the turns had by the first
  pub public_only : (b b' : Bytes) (queue kind : ℕ) → board_fits b ≡ board_fits b' → served_in b ≡ served_in b' → (queue ≤ 3 → SameFill b b' queue)
      → (quote_board b queue kind).answer ≡ (quote_board b' queue kind).answer
  -- the board is only read
  pub only_read : (b : Bytes) (queue kind : ℕ) → (quote_board b queue kind).board ≡ b
