-- `text::line::put_word`.
use mathlib.Core.Path.{refl}
use Rattle.text.proofs.LineLaws.{word_put}
use Rattle.text.proofs.line.put_word.Goals as goal

pub returns : goal.returns
returns c = (word_put _ _ _ _ c.put_digits.ensures, refl)
