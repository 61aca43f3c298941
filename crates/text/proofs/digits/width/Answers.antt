use mathlib.Core.Path.{◌≡◌, ◌∙◌}
use native.Mathlib.Nat.{zero-add}
use native.Mathlib.Omega.{arith}
use borrow.Author.Rules.{rules}
use Rattle.text.proofs.DigitLaws.{width_again, width_ends, width_full}
use Rattle.text.specs.Digits.{width}
use Rattle.text.proofs.digits.width.Goals as goal

pub loop-k-init : goal.loop-k-init
unfolding width
loop-k-init c = rw zero-add

pub returns-then-rest-lt10 : goal.returns-then-rest-lt10
returns-then-rest-lt10 c = (width_ends c.loop-k.k _ _ (omega arith) (omega arith) c.if-rest-lt10.true c.loop-k.invariant, search rules)

pub loop-k-preserved : goal.loop-k-preserved
loop-k-preserved c = width_again c.loop-k.k _ _ (omega arith) (omega arith) c.if-rest-lt10.false c.loop-k.invariant

pub returns : goal.returns
returns c = let last : 20 ≡ c.loop-k.k = omega arith in (last ∙ width_full c.loop-k.k _ _ (omega arith) (omega arith) c.loop-k.invariant, search rules)
