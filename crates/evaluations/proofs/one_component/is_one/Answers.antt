-- `evaluations::one_component::is_one`.
use Rattle.evaluations.proofs.One.{is_one_law}
use borrow.Author.Rules.{rules}
use Rattle.evaluations.proofs.one_component.is_one.Goals as goal

pub returns : goal.returns
returns c = (rw c.to_bits.ensures, is_one_law c.args.z _ (search rules) (rw c.to_bits.ensures))
