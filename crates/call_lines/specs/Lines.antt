-- The readable line of a call's reply. Definitions only.
use Rattle.std.specs.Prelude.{◌≡◌, ℕ, ◌≤◌, cond, [], ◌∷◌, ◌++◌, length, ◌==◌, to_bits, Float}
use Rattle.std.specs.Float.{binary64}
use Rattle.buf.specs.Bytes.{splice, num_at, u64_at}
use Rattle.schedule.specs.Schedule.{Call}
use Rattle.board_spec.specs.Board.{Answer, Refused, Ticket, Turned, Shown, Quoted}
use Rattle.board_spec.specs.Run.{Bytes, did, Reply, reply_by}
use Rattle.text.specs.Digits.{digits}
use Rattle.text.specs.Line.{space, newline, number_text}

-- `refused `
unfoldable pub refused_word : Bytes
refused_word = 114 ∷ 101 ∷ 102 ∷ 117 ∷ 115 ∷ 101 ∷ 100 ∷ 32 ∷ []

-- `ticket `
unfoldable pub ticket_word : Bytes
ticket_word = 116 ∷ 105 ∷ 99 ∷ 107 ∷ 101 ∷ 116 ∷ 32 ∷ []

-- `turned 0` and a newline
unfoldable pub nothing_line : Bytes
nothing_line = 116 ∷ 117 ∷ 114 ∷ 110 ∷ 101 ∷ 100 ∷ 32 ∷ 48 ∷ 10 ∷ []

-- `turned 1 `
unfoldable pub written_word : Bytes
written_word = 116 ∷ 117 ∷ 114 ∷ 110 ∷ 101 ∷ 100 ∷ 32 ∷ 49 ∷ 32 ∷ []

-- `looked `
unfoldable pub looked_word : Bytes
looked_word = 108 ∷ 111 ∷ 111 ∷ 107 ∷ 101 ∷ 100 ∷ 32 ∷ []

-- `quoted `
unfoldable pub quoted_word : Bytes
quoted_word = 113 ∷ 117 ∷ 111 ∷ 116 ∷ 101 ∷ 100 ∷ 32 ∷ []

-- a record's ticket, kind and queue
unfoldable pub written_line : Bytes → Bytes
written_line r = written_word ++ (number_text (u64_at r 0) space ++ (number_text (num_at 1 r 8) space ++ number_text (num_at 1 r 9) newline))

-- the evaluations, and the density's pattern as 16 hexadecimal digits
unfoldable pub looked_line : (evaluations : ℕ) → Float → Bytes
looked_line evaluations density = looked_word ++ (number_text evaluations space ++ (digits 16 16 (to_bits binary64 density) ++ (newline ∷ [])))

-- the line of an answer, with the record buffer after the call
unfoldable pub line_for : Answer → Bytes → Bytes
line_for (Refused number) r = refused_word ++ number_text number newline
line_for (Ticket ticket) r = ticket_word ++ number_text ticket newline
line_for (Turned answer) r = cond (answer == 1) (written_line r) nothing_line
line_for (Shown evaluations density) r = looked_line evaluations density
line_for (Quoted turns) r = quoted_word ++ number_text turns newline

abbrev pub line_of : Reply → Bytes
line_of r = line_for r.answer r.buffer

-- ---- what the parts of the code do

-- a line stands at the start of w', the rest of which is that of w, and is `end` bytes long
pub record Line (w : Bytes) (l : Bytes) (w' : Bytes) (end : ℕ) : Type 0 where
  pub bytes : w' ≡ splice w 0 l
  pub size : end ≡ length l
  pub short : end ≤ 80

-- a call is made, and its line stored
pub record SaidCall (b w : Bytes) (c : Call Bytes) (b' w' : Bytes) (end : ℕ) : Type 0 where
  pub board : b' ≡ (did b c).board
  pub line : Line w (line_of (reply_by (did b c))) w' end
