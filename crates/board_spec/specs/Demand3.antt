-- Demand 3: what holds of whole runs, lists of calls of any kind and any arguments, from the fresh board. Statements only; `demand_3` in proofs/Demand3.antt proves them.
use Rattle.std.specs.Prelude.{◌≡◌, ℕ, ◌+◌, ◌≤◌, true, List, [], ◌∷◌, ◌++◌, map, length}
use Rattle.std.proofs.Math.Option.{Option, some}
use Rattle.buf.specs.Bytes.{part, u64_at}
use Rattle.reader.specs.Alike.{Alike}
use Rattle.records.specs.Record.{public_bytes, sealed_at, sealed_of}
use Rattle.records.specs.Demand2.{rust_sealed, clean_request}
use Rattle.schedule.specs.Spans.{span_of}
use Rattle.schedule.specs.Schedule.{Held, Call, Submit, Look, Quote, Event, served, happens, events, after_all, fresh}
use Rattle.schedule.specs.History.{times, queues_served, all_as_accepted, accepted_in, handed_in, work}
use Rattle.board_spec.specs.Layout.{turn_at}
use Rattle.board_spec.specs.Board.{Refused, Ticket, Did, quarter_of}
use Rattle.board_spec.specs.Run.{Bytes, Calls, zero_board, did, board_after, replies, buffer_of, scheduled, fields_of, public_of, public_event}

-- ---- a place in a run: "A release's turn is its place in the list"

pub record Place (run : Calls) : Type 0 where
  pub before : Calls
  pub call : Call Bytes
  pub after : Calls
  pub whole : run ≡ before ++ (call ∷ after)

-- the board there, and what the call makes of it
unfoldable pub board_at : {run : Calls} → Place run → Bytes
board_at p = board_after zero_board p.before

unfoldable pub did_at : {run : Calls} → Place run → Did
did_at p = did (board_at p) p.call

-- what the schedule says happens there
unfoldable pub event_at : {run : Calls} → Place run → Event Bytes
event_at p = (happens length (after_all length fresh p.before) p.call).event

-- a place where a job is handed out of a queue
pub record Release (run : Calls) : Type 0 where
  pub place : Place run
  pub queue : ℕ
  pub job : Held Bytes
  pub handed : event_at place ≡ served queue (some job)

-- the sealed bytes of the record that is written there
unfoldable pub sealed_in : {run : Calls} → Release run → Bytes
sealed_in x = part (did_at x.place).buffer sealed_at 48

-- ---- a job that is accepted, and a later call

pub record Course (run : Calls) : Type 0 where
  pub before : Calls
  pub queue : ℕ
  pub kind : ℕ
  pub n : ℕ
  pub block : Bytes
  pub ticket : ℕ
  pub between : Calls
  pub call : Call Bytes
  pub after : Calls
  pub whole : run ≡ before ++ (Submit queue kind n block ∷ (between ++ (call ∷ after)))
  -- the board accepted the job under this ticket
  pub accepted : (did (board_after zero_board before) (Submit queue kind n block)).answer ≡ Ticket ticket

-- the jobs that the queue held when this one came
unfoldable pub held : {run : Calls} → Course run → List (Held Bytes)
held x = ((after_all length fresh x.before).queues x.queue).jobs

-- what happened since
unfoldable pub since : {run : Calls} → Course run → List (Event Bytes)
since x = events length (happens length (after_all length fresh x.before) (Submit x.queue x.kind x.n x.block)).after x.between

-- the turns of its queue since
unfoldable pub turns_since : {run : Calls} → Course run → ℕ
turns_since x = times x.queue (queues_served (since x))

-- the jobs handed out of its queue since
unfoldable pub handed_since : {run : Calls} → Course run → ℕ
handed_since x = length (handed_in x.queue (since x))

-- what the later call does
unfoldable pub event_then : {run : Calls} → Course run → Event Bytes
event_then x =
    (happens length (after_all length (happens length (after_all length fresh x.before) (Submit x.queue x.kind x.n x.block)).after x.between) x.call).event

-- this call is, counted in turns of its queue, the last of the job's span: the jobs before it needed `work (held x)` turns, the next takes the job in, and the
-- span's last is `span_of kind` turns further than those
unfoldable pub IsLast : {run : Calls} → Course run → Type 0
IsLast x = turns_since x + 1 ≡ work (held x) + span_of x.kind

-- the job with all its turns had
unfoldable pub ended_job : {run : Calls} → Course run → Held Bytes
ended_job x = record { kind = x.kind; n = x.n; block = x.block; ticket = x.ticket; turns = span_of x.kind }

-- ---- one run

pub record Orderly (run : Calls) : Type 0 where
  -- every answer, what a look shows, and every byte of every record buffer afterwards are the schedule's
  pub as_scheduled : replies zero_board run ≡ scheduled fresh run
  -- the public answers and the public bytes of the records are told by the public fields alone
  pub public_alone : map public_of (replies zero_board run) ≡ map public_event (events (λ n. n) fresh (fields_of run))
  -- a record's sealed bytes are those of its job, and its public bytes name it
  pub record_sealed : (x : Release run) → sealed_in x ≡ sealed_of x.job.kind x.job.n x.job.block
  -- "holding demand 2's answer, else document 01's": the Rust's where the request is clean
  pub record_rust : (x : Release run) → clean_request x.job.kind x.job.n x.job.block ≡ true → sealed_in x ≡ rust_sealed x.job.kind x.job.n x.job.block
  pub record_public : (x : Release run) → part (did_at x.place).buffer 0 16 ≡ public_bytes x.job.ticket x.job.kind x.queue
  -- the jobs handed out of a queue, in order, and then those it still holds, are the jobs it accepted, in order
  pub in_order : (q : ℕ) → accepted_in length q fresh run ≡ handed_in q (events length fresh run) ++ all_as_accepted ((after_all length fresh run).queues q).jobs
  -- every accepted job is handed out in the last turn of its kind's span, if the run reaches it,
  pub on_time : (x : Course run) (o : Option (Held Bytes)) → event_then x ≡ served x.queue o → IsLast x → o ≡ some (ended_job x)
  -- and in no other: a turn that hands out of its queue as many jobs after it came as were held before it is that last turn
  pub no_other : (x : Course run) (j : Held Bytes) → event_then x ≡ served x.queue (some j) → handed_since x ≡ length (held x) → IsLast x
  -- 6 never comes
  pub never_6 : (p : Place run) → (did_at p).answer ≡ Refused 6 → ⊥
  -- a turn serves the queue that the board's turn names, and leaves the other quarters as they were
  pub serves_named : (p : Place run) (queue : ℕ) (o : Option (Held Bytes)) → event_at p ≡ served queue o → u64_at (board_at p) turn_at ≡ queue
  pub others_kept : (p : Place run) (queue : ℕ) (o : Option (Held Bytes)) → event_at p ≡ served queue o → (q : ℕ) → q ≤ 3 → (q ≡ queue → ⊥) → quarter_of (did_at p).board q ≡ quarter_of (board_at p) q
  -- and so does a submit
  pub submit_others : (p : Place run) (queue kind n : ℕ) (block : Bytes) → p.call ≡ Submit queue kind n block → (q : ℕ) → q ≤ 3 → (q ≡ queue → ⊥) → quarter_of (did_at p).board q ≡ quarter_of (board_at p) q
  -- any four successive accepted turns serve each queue once
  pub four_turns : (xs ys : List ℕ) (a b c d : ℕ) → queues_served (events length fresh run) ≡ xs ++ (a ∷ b ∷ c ∷ d ∷ ys) → (q : ℕ) → q ≤ 3 → times q (a ∷ b ∷ c ∷ d ∷ []) ≡ 1
  -- refused calls, looks and quotes change nothing
  pub refused_same : (p : Place run) (number : ℕ) → (did_at p).answer ≡ Refused number → ((did_at p).board ≡ board_at p) × ((did_at p).buffer ≡ buffer_of p.call)
  pub look_same : (p : Place run) (queue : ℕ) → p.call ≡ Look queue → (did_at p).board ≡ board_at p
  pub quote_same : (p : Place run) (queue kind : ℕ) → p.call ≡ Quote queue kind → (did_at p).board ≡ board_at p

-- jobs alike in kind, N and data get the same sealed bytes; data are alike where the job reads the same of both blocks (specs/Alike.antt of `reader`)
unfoldable pub SealedAlike : Calls → Calls → Type 0
SealedAlike run run' =
    (x : Release run) (y : Release run') → x.job.kind ≡ y.job.kind → x.job.n ≡ y.job.n
    → Alike x.job.kind x.job.n x.job.block y.job.block → sealed_in x ≡ sealed_in y

-- ---- two runs: "the same calls in the same order with the same public fields" is `fields_of run ≡ fields_of run'`

pub record Demand3 (run run' : Calls) : Type 0 where
  pub first : Orderly run
  pub second : Orderly run'
  -- answers that are public, and tickets, kinds, queues and places of the records written, are the same in both
  pub public_same : map public_of (replies zero_board run) ≡ map public_of (replies zero_board run')
  -- within a run and across the two
  pub alike_first : SealedAlike run run
  pub alike_second : SealedAlike run' run'
  pub alike_across : SealedAlike run run'
