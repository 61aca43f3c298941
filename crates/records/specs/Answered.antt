-- What `answer` says and writes, for any kind, N, block and buffer. Definitions only.
use Rattle.std.specs.Prelude.{ℕ, Bool, cond, List, length, leb, eqb, Ok, Err}
use Rattle.buf.specs.Bytes.{splice}
use Rattle.schedule.specs.Spans.{kind_fits, count_fits}
use Rattle.std.specs.declared.result.Result.{Result}
use Rattle.records.specs.declared.types.Unanswered.{Unanswered}
use Rattle.records.specs.declared.types.Unanswered.TheVariants.{BadKind, BadCount, BadBlockLength, ShortRecord}
use Rattle.records.specs.Record.{sealed_at, sealed_of}

-- "2 kind ..; 3 N ..; .. 5 record buffer under 64 bytes; .. 8 block not 640 bytes"
unfoldable pub refusal_number : Unanswered → ℕ
refusal_number BadKind = 2
refusal_number BadCount = 3
refusal_number BadBlockLength = 8
refusal_number ShortRecord = 5

-- what is said: written, or not and why
abbrev pub Answered : Type 0
Answered = Result (Unit {0}) Unanswered

-- 0 where nothing is refused
unfoldable pub number_of : Answered → ℕ
number_of (Ok _) = 0
number_of (Err refusal) = refusal_number refusal

-- a check and what it is refused by
abbrev pub check : Bool → Unanswered → Answered → Answered
check ok refusal next = cond ok next (Err refusal)

-- 2, 3 and 8 in submit's order, then 5, of a block and a buffer of these sizes
unfoldable pub fits : (kind n size room : ℕ) → Answered
fits kind n size room =
    check (kind_fits kind) BadKind
    (check (count_fits kind n) BadCount
    (check (eqb size 640) BadBlockLength
    (check (leb 64 room) ShortRecord (Ok tt))))

-- what is said, and the buffer afterwards
pub record Did : Type 0 where
  pub answer : Answered
  pub bytes : List ℕ

-- the record, or after a refusal the buffer as it was: "The caller; nothing changes"
unfoldable pub did_by : (kind n : ℕ) (block buffer : List ℕ) → Answered → Did
did_by kind n block buffer (Ok _) = record { answer = Ok tt; bytes = splice buffer sealed_at (sealed_of kind n block) }
did_by kind n block buffer (Err refusal) = record { answer = Err refusal; bytes = buffer }

unfoldable pub answered : (kind n : ℕ) (block buffer : List ℕ) → Did
answered kind n block buffer = did_by kind n block buffer (fits kind n (length block) (length buffer))
