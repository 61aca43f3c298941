-- The line that a request is answered with. Definitions only.
use Rattle.std.specs.Prelude.{ℕ, cond, List, get_or, eqb}
use Rattle.buf.specs.Bytes.{part, zeros}
use Rattle.records.specs.Answered.{Did, answered, number_of}
use Rattle.text.specs.Line.{newline, number_text, line_of}

-- "A program reads kind, N (a byte each) and a block, runs the job": into a record of zeros
unfoldable pub did : List ℕ → Did
did request = answered (get_or request 0 0) (get_or request 1 0) (part request 2 640) (zeros 64)

-- "prints kind, status, three floats .., evaluations"; "a refused submit prints its number alone"
unfoldable pub reply_of : List ℕ → List ℕ
reply_of request = cond (eqb (number_of (did request).answer) 0) (line_of (get_or request 0 0) (did request).bytes) (number_text (number_of (did request).answer) newline)
