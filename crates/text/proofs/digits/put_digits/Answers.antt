use mathlib.Core.Path.{refl}
use native.Mathlib.Nat.{mod-lt}
use native.Mathlib.Omega.{arith}
use Rattle.text.proofs.DigitLaws.{digit_turn, digits_done}
use Rattle.text.proofs.digits.put_digits.Goals as goal

pub loop-i-init : goal.loop-i-init
loop-i-init c = refl

pub glyph-requires : goal.glyph-requires
glyph-requires c = let h = mod-lt c.loop-i.rest c.requires.1 in omega (arith, h)

pub loop-i-preserved : goal.loop-i-preserved
loop-i-preserved c = let L = c.loop-i in digit_turn L.out _ _ _ L.i L.rest _ c.loop-i-test.true c.glyph.ensures L.invariant

pub returns : goal.returns
returns c = digits_done _ _ _ _ c.loop-i.i _ c.loop-i-test.false c.loop-i.invariant
