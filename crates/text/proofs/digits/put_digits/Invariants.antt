-- `text::digits::put_digits`.
use mathlib.Core.Path.{◌≡◌}
use Rattle.buf.specs.Bytes.{splice}
use Rattle.text.specs.Digits.{digits}
use Rattle.text.proofs.digits.put_digits.Given as goal

abbrev pub invariant-loop-i : goal.invariant-loop-i
invariant-loop-i l = splice l.out l.at (digits l.base l.i l.rest) ≡ splice l.initial.out l.at (digits l.base l.count l.n)
