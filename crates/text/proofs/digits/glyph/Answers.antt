-- `text::digits::glyph`.
use borrow.Author.Tests.{le-ltb, lt-ltb}
use Rattle.text.specs.Digits.{glyph}
use Rattle.text.proofs.digits.glyph.Goals as goal

pub returns-then-d-lt10 : goal.returns-then-d-lt10
unfolding glyph
returns-then-d-lt10 c = simp (lt-ltb _ _ c.if-d-lt10.true)

pub returns-else-d-lt10 : goal.returns-else-d-lt10
unfolding glyph
returns-else-d-lt10 c = simp (le-ltb _ _ c.if-d-lt10.false)
