-- The line that a request is answered with: its job is submitted to queue 0 of a fresh board and has its turns. Definitions only.
use Rattle.std.specs.Prelude.{ℕ, length, get_or, Result, Ok, Err}
use Rattle.buf.specs.Bytes.{part, splice}
use Rattle.schedule.specs.Spans.{span_of}
use Rattle.schedule.specs.Schedule.{Held, Verdict, accept, refuse, submit_verdict}
use Rattle.board_spec.specs.Run.{Bytes, record_of}
use Rattle.board.specs.declared.types.Refusal.{Refusal}
use Rattle.board.specs.Answers.{refusal_number}
use Rattle.text.specs.Line.{newline, number_text, line_of}

-- the first job of its queue, with its turns had
unfoldable pub job_after : (kind n : ℕ) → Bytes → (turns : ℕ) → Held Bytes
job_after kind n block turns = record { kind = kind; n = n; block = block; ticket = 0; turns = turns }

-- the record that its span's last turn writes
unfoldable pub record_for : (kind n : ℕ) → Bytes → Bytes
record_for kind n block = record_of 0 (job_after kind n block (span_of kind))

-- "prints kind, status, three floats .., evaluations"; "a refused submit prints its number alone"
unfoldable pub line_by : (kind n : ℕ) → Bytes → Verdict → Bytes
line_by kind n block accept = line_of kind (record_for kind n block)
line_by kind n block (refuse number) = number_text number newline

-- a submit to a queue that holds nothing
unfoldable pub verdict_of : (kind n : ℕ) → Bytes → Verdict
verdict_of kind n block = submit_verdict 0 kind n (length block) 0

-- "A program reads kind, N (a byte each) and a block"
unfoldable pub reply_of : Bytes → Bytes
reply_of request = line_by (get_or request 0 0) (get_or request 1 0) (part request 2 640) (verdict_of (get_or request 0 0) (get_or request 1 0) (part request 2 640))

-- ---- what the parts of the code do

-- the number of a submit that was refused, else 0
unfoldable pub refused_number : {T : Type 0} → Result T Refusal → ℕ
refused_number (Ok t) = 0
refused_number (Err refusal) = refusal_number refusal

-- a refusal's number, else 0
unfoldable pub refusal_by : Verdict → ℕ
refusal_by accept = 0
refusal_by (refuse number) = number

-- the record buffer afterwards
unfoldable pub record_by : (kind n : ℕ) (block buffer : Bytes) → Verdict → Bytes
record_by kind n block buffer accept = splice buffer 0 (record_for kind n block)
record_by kind n block buffer (refuse number) = buffer
