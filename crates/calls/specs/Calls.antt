-- Calls and answers as bytes, one after the other. The format is ours:
--
-- A call is a header of 40 bytes, five little-endian u64: what, a, b, c, length.
--   what 0, submit: queue a, kind b, N c; the `length` bytes of the block follow the header.
--   what 1, turn: a record buffer of `length` zero bytes, at most 256; nothing follows.
--   what 2, look: queue a; nothing follows.
-- The list ends where fewer than 40 bytes are left, `what` is another number, a block is cut short, or a turn's length is above 256.
--
-- An answer is 32 bytes: what u64 (0 refused, 1 ticket, 2 turned, 3 looked), number u64 (the refusal, the ticket, 0 or 1, 0), and bytes 0 to 15
-- of the record that was written, else zeros. What a look shows belongs to the queue's owner and is not in it. No list has a quote; as 32 bytes its
-- answer has what 4 and the turns as number.
--
-- Definitions only.
use Rattle.std.specs.Prelude.{ℕ, zero, suc, ◌+◌, Bool, true, cond, List, [], ◌∷◌, ◌++◌, length, leb, eqb, Option, None, Some}
use Rattle.buf.specs.Bytes.{part, splice, u64_at, put_u64, zeros}
use Rattle.schedule.specs.Schedule.{Call, Submit, Turn, Look}
use Rattle.board_spec.specs.Run.{Bytes, Calls, Public, refusal, ticketed, turning, looking, quoting}
use Rattle.calls.specs.declared.types.Call as code_call

-- ---- calls

-- a call, and where the next begins
pub record Placed : Type 0 where
  pub call : Call Bytes
  pub next : ℕ

unfoldable pub submit_at : Bytes → (at : ℕ) → Option Placed
submit_at s at =
    cond (leb (at + 40 + u64_at s (at + 32)) (length s))
    (Some (record { call = Submit (u64_at s (at + 8)) (u64_at s (at + 16)) (u64_at s (at + 24)) (part s (at + 40) (u64_at s (at + 32))); next = at + 40 + u64_at s (at + 32) }))
    None

unfoldable pub turn_at : Bytes → (at : ℕ) → Option Placed
turn_at s at = cond (leb (u64_at s (at + 32)) 256) (Some (record { call = Turn (zeros (u64_at s (at + 32))); next = at + 40 })) None

unfoldable pub look_at : Bytes → (at : ℕ) → Option Placed
look_at s at = Some (record { call = Look (u64_at s (at + 8)); next = at + 40 })

-- the call at an offset, if there is one
unfoldable pub call_at : Bytes → (at : ℕ) → Option Placed
call_at s at =
    cond (leb (at + 40) (length s))
    (cond (eqb (u64_at s at) 0) (submit_at s at) (cond (eqb (u64_at s at) 1) (turn_at s at) (cond (eqb (u64_at s at) 2) (look_at s at) None)))
    None

unfoldable pub before : Option Placed → (ℕ → Calls) → Calls
before None rest = []
before (Some p) rest = p.call ∷ rest p.next

-- the calls from an offset on, at most `room`
unfoldable pub calls_from : (room : ℕ) → Bytes → (at : ℕ) → Calls
calls_from zero s at = []
calls_from (suc room) s at = before (call_at s at) (calls_from room s)

-- ---- answers

-- 32 bytes: zeros, with `what` at 0, `number` at 8 and what is written from 16 on
unfoldable pub framed : (what number : ℕ) → Bytes → Bytes
framed what number written = splice (put_u64 (put_u64 (zeros 32) 0 what) 8 number) 16 written

unfoldable pub answer_bytes : Public → Bytes
answer_bytes (refusal number) = framed 0 number []
answer_bytes (ticketed ticket) = framed 1 ticket []
answer_bytes (turning answer written) = framed 2 answer written
answer_bytes looking = framed 3 0 []
answer_bytes (quoting turns) = framed 4 turns []

unfoldable pub answers_bytes : List Public → Bytes
answers_bytes [] = []
answers_bytes (p ∷ ps) = answer_bytes p ++ answers_bytes ps

-- ---- what the code's values stand for

-- with a record buffer for each length
unfoldable pub call_with : Bytes → (ℕ → Bytes) → code_call.Call → Call Bytes
call_with s buffer (code_call.TheVariants.Submit queue kind n from length) = Submit queue kind n (part s from length)
call_with s buffer (code_call.TheVariants.Turn length) = Turn (buffer length)
call_with s buffer (code_call.TheVariants.Look queue) = Look queue

abbrev pub call_of : Bytes → code_call.Call → Call Bytes
call_of s call = call_with s zeros call

unfoldable pub found_of : Bytes → Option (code_call.Call × ℕ) → Option Placed
found_of s None = None
found_of s (Some (call, next)) = Some (record { call = call_of s call; next = next })

-- a block lies in the `size` bytes of calls, and a record buffer is short
unfoldable pub call_fits : (size : ℕ) → code_call.Call → Bool
call_fits size (code_call.TheVariants.Submit queue kind n from length) = leb (from + length) size
call_fits size (code_call.TheVariants.Turn length) = leb length 256
call_fits size (code_call.TheVariants.Look queue) = true

unfoldable pub found_fits : (size : ℕ) → Option (code_call.Call × ℕ) → Bool
found_fits size None = true
found_fits size (Some (call, next)) = call_fits size call
