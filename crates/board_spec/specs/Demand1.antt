-- Demand 1, over any bytes and any arguments: which answer each call gives when, that a refused call changes nothing, that the blend's data never show, and that
-- every accepted job runs to an answer. Statements only; `demand_1` in proofs/Demand1.antt proves them.
use Rattle.std.specs.Prelude.{◌≡◌, ℕ, ◌+◌, ◌≤◌, ◌<◌, true, false, length}
use Rattle.buf.specs.Bytes.{u64_at, f64_at}
use Rattle.reader.specs.View.{view}
use Rattle.records.specs.Record.{sealed_bytes, sealed_of}
use Rattle.records.specs.Statuses.{Sealed}
use Rattle.schedule.specs.Spans.{span_of}
use Rattle.schedule.specs.Schedule.{Call, Submit, Turn, Look, Quote, accept, refuse, turns_until, map_call}
use Rattle.schedule.specs.Refusals.{Exactly, Inside, SubmitTests, TurnTests, LookTests, QuoteTests}
use Rattle.stepping.specs.States.{state_after, outcome_at}
use Rattle.board_spec.specs.Layout.{evaluations_at, latest_at}
use Rattle.board_spec.specs.Quarter.{quarter_fits, turns_left}
use Rattle.board_spec.specs.Board.{quarter_of, served_in, count_in, held_in, turns_in, kind_in, kind_after, board_fits, Answer, Refused, Ticket, Turned, Shown, Quoted, submit_board, turn_board, look_board, quote_board}
use Rattle.board_spec.specs.Run.{Bytes, Calls, did, reply_by, buffer_of, public_of}
use Rattle.board_spec.specs.Demand3.{Release, sealed_in}

-- ---- "6 board of another length or a stored number outside its range"

pub data Breaks6 (b : Bytes) : Type 0 where
  another_length : (length b ≡ 24584 → ⊥) → Breaks6 b
  turn_outside : 3 < served_in b → Breaks6 b
  quarter_outside : (queue : ℕ) → queue ≤ 3 → quarter_fits (quarter_of b queue) ≡ false → Breaks6 b

pub record Passes6 (b : Bytes) : Type 0 where
  pub length_is : length b ≡ 24584
  pub turn_inside : served_in b ≤ 3
  pub quarters_inside : (queue : ℕ) → queue ≤ 3 → quarter_fits (quarter_of b queue) ≡ true

-- ---- which answer comes when; `SubmitTests`, `TurnTests`, `LookTests` and `QuoteTests` have the tests after 6, in their order, as inequalities

-- "Submit tests 6, 1, 2, 3, 8, 4"; "Submit answers its ticket; tickets count accepted jobs per queue from 0, modulo 2^64"
pub data SubmitAnswers (b : Bytes) (queue kind n : ℕ) (block : Bytes) : Answer → Type 0 where
  refused_6 : Breaks6 b → SubmitAnswers b queue kind n block (Refused 6)
  refused : {number : ℕ} → Passes6 b → SubmitTests queue kind n (length block) (held_in b queue) (refuse number) → SubmitAnswers b queue kind n block (Refused number)
  accepted : Passes6 b → SubmitTests queue kind n (length block) (held_in b queue) accept → SubmitAnswers b queue kind n block (Ticket (count_in b queue))

-- "turn 6, 5"; "the served queue's first job, if any, has had one turn more, and leaves, handed out, when its turns make its kind's span: answer 1, else 0"
pub data TurnAnswers (b buffer : Bytes) : Answer → Type 0 where
  refused_6 : Breaks6 b → TurnAnswers b buffer (Refused 6)
  refused : {number : ℕ} → Passes6 b → TurnTests (length buffer) (refuse number) → TurnAnswers b buffer (Refused number)
  no_job : Passes6 b → TurnTests (length buffer) accept → held_in b (served_in b) ≡ 0 → TurnAnswers b buffer (Turned 0)
  before_last : Passes6 b → TurnTests (length buffer) accept → 1 ≤ held_in b (served_in b) → turns_in b (served_in b) + 1 < span_of (kind_in b (served_in b)) → TurnAnswers b buffer (Turned 0)
  last : Passes6 b → TurnTests (length buffer) accept → 1 ≤ held_in b (served_in b) → turns_in b (served_in b) + 1 ≡ span_of (kind_in b (served_in b)) → TurnAnswers b buffer (Turned 1)

-- "look 6, 1, 7"; "Look gives the running job's evaluations so far and the density of the latest one"; a running job is held
pub data LookAnswers (b : Bytes) (queue : ℕ) : Answer → Type 0 where
  refused_6 : Breaks6 b → LookAnswers b queue (Refused 6)
  refused : {number : ℕ} → Passes6 b → LookTests queue (turns_in b queue) (refuse number) → LookAnswers b queue (Refused number)
  shown : Passes6 b → LookTests queue (turns_in b queue) accept → 1 ≤ held_in b queue
      → LookAnswers b queue (Shown (u64_at (quarter_of b queue) evaluations_at) (f64_at (quarter_of b queue) latest_at))

-- of a quote "Faults 6, 1, 2 and 4 are answered as by submit"; that the number is the one promised, `quoted_exact` says (Quoted.antt)
pub data QuoteAnswers (b : Bytes) (queue kind : ℕ) : Answer → Type 0 where
  refused_6 : Breaks6 b → QuoteAnswers b queue kind (Refused 6)
  refused : {number : ℕ} → Passes6 b → QuoteTests queue kind (held_in b queue) (refuse number) → QuoteAnswers b queue kind (Refused number)
  quoted : Passes6 b → QuoteTests queue kind (held_in b queue) accept
      → QuoteAnswers b queue kind (Quoted (turns_until (served_in b) queue (turns_left (quarter_of b queue)) kind))

-- "Kind, span": 3,101; 6,204; 30; 30; 150; 250; and "Kind 7 .., span 150"; "Kind 8 .., kind 9 .., span 200"
pub record Spans : Type 0 where
  pub kind_1 : span_of 1 ≡ 3101
  pub kind_2 : span_of 2 ≡ 6204
  pub kind_3 : span_of 3 ≡ 30
  pub kind_4 : span_of 4 ≡ 30
  pub kind_5 : span_of 5 ≡ 150
  pub kind_6 : span_of 6 ≡ 250
  pub kind_7 : span_of 7 ≡ 150
  pub kind_8 : span_of 8 ≡ 200
  pub kind_9 : span_of 9 ≡ 200

-- ---- boards that may differ in their blocks and in what they store of a search, and in nothing that is public

pub record SameQueue (b b' : Bytes) (queue : ℕ) : Type 0 where
  pub count : count_in b queue ≡ count_in b' queue
  pub held : held_in b queue ≡ held_in b' queue
  pub turns : turns_in b queue ≡ turns_in b' queue
  pub kind : kind_in b queue ≡ kind_in b' queue

pub record SamePublic (b b' : Bytes) : Type 0 where
  -- both pass 6, or neither does
  pub six : board_fits b ≡ board_fits b'
  pub turn : served_in b ≡ served_in b'
  pub queues : (queue : ℕ) → queue ≤ 3 → SameQueue b b' queue

-- the same number of jobs held, with the same kinds in order, and the same turns had by the first: what a quote is told by besides
pub record SameFill (b b' : Bytes) (queue : ℕ) : Type 0 where
  pub held : held_in b queue ≡ held_in b' queue
  pub turns : turns_in b queue ≡ turns_in b' queue
  pub kinds : (i : ℕ) → i < held_in b queue → kind_after b queue i ≡ kind_after b' queue i

-- of a quote's queue the kinds of all jobs, of any other call nothing more
abbrev pub SameAsked : (b b' : Bytes) → Call Bytes → Type 0
SameAsked b b' (Submit queue kind n block) = Unit {0}
SameAsked b b' (Turn buffer) = Unit {0}
SameAsked b b' (Look queue) = Unit {0}
SameAsked b b' (Quote queue kind) = queue ≤ 3 → SameFill b b' queue

-- ---- the demand

pub record Demand1 : Type 0 where
  -- every bad call is refused on the spot with its number; each of these holds of the call's answer and of no other answer
  pub submit_answers : (b : Bytes) (queue kind n : ℕ) (block : Bytes) → Exactly (submit_board b queue kind n block).answer (SubmitAnswers b queue kind n block)
  pub turn_answers : (b buffer : Bytes) → Exactly (turn_board b buffer).answer (TurnAnswers b buffer)
  pub look_answers : (b : Bytes) (queue : ℕ) → Exactly (look_board b queue).answer (LookAnswers b queue)
  pub quote_answers : (b : Bytes) (queue kind : ℕ) → Exactly (quote_board b queue kind).answer (QuoteAnswers b queue kind)
  -- 4 comes with eight jobs held: no board that passes 6 holds more
  pub at_most_eight : (b : Bytes) → Passes6 b → (queue : ℕ) → queue ≤ 3 → held_in b queue ≤ 8
  pub spans : Spans
  -- "The caller; nothing changes"
  pub refused_same : (b : Bytes) (c : Call Bytes) (number : ℕ) → (did b c).answer ≡ Refused number → ((did b c).board ≡ b) × ((did b c).buffer ≡ buffer_of c)
  -- unfit blend data are refused inside the sealed part: no call answers a refusal of the data's or the equation's,
  pub callers_alone : (b : Bytes) (c : Call Bytes) (number : ℕ) → (did b c).answer ≡ Refused number → Inside 1 8 number
  -- submit answers the same whatever stands in the block,
  pub block_unread : (b : Bytes) (queue kind n : ℕ) (block block' : Bytes) → length block ≡ length block' → (submit_board b queue kind n block).answer ≡ (submit_board b queue kind n block').answer
  -- and all that is public of any call, a record's first 16 bytes too, is the same whatever the blocks brought and stored, and the searches, are
  pub data_unseen : (b b' : Bytes) → SamePublic b b' → (c c' : Call Bytes) → map_call length c ≡ map_call length c' → SameAsked b b' c → public_of (reply_by (did b c)) ≡ public_of (reply_by (did b' c'))
  -- every other request runs to an answer: a job that submit accepts, on any board, has sealed bytes with a status 0, 11 to 17 or 21 to 27 and at most its span's evaluations,
  pub accepted_sealed : (b : Bytes) (queue kind n : ℕ) (block : Bytes) (ticket : ℕ) → (submit_board b queue kind n block).answer ≡ Ticket ticket → Sealed kind n block
  -- has reached them after its span's turns,
  pub accepted_ends : (b : Bytes) (queue kind n : ℕ) (block : Bytes) (ticket : ℕ) → (submit_board b queue kind n block).answer ≡ Ticket ticket
      → sealed_bytes (outcome_at (state_after (view kind n block) (span_of kind))) ≡ sealed_of kind n block
  -- and these are in every record that a run from the fresh board writes; when it is written, `on_time` of Demand3.antt says
  pub record_sealed : (run : Calls) (x : Release run) → (sealed_in x ≡ sealed_of x.job.kind x.job.n x.job.block) × Sealed x.job.kind x.job.n x.job.block
