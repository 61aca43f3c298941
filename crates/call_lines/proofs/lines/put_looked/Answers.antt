-- `call_lines::lines::put_looked`.
use Rattle.call_lines.specs.Lines.{looked_word}
use Rattle.call_lines.proofs.TextLaws.{looked_put}
use Rattle.std.proofs.Common.{◌∙◌, length-set}
use Rattle.call_lines.proofs.lines.put_looked.Goals as goal

pub shape_of-out : goal.shape_of-out
shape_of-out c = length-set c.put_digits.new.out _ _ ∙ c.put_digits.auto.out ∙ c.put_number-a.auto.out ∙ c.put_part.auto.s

pub returns : goal.returns
unfolding looked_word
returns c = looked_put _ _ _ _ _ _ _ _ c.to_bits-bits.ensures c.put_part.ensures c.put_number-a.ensures c.put_digits.ensures
