-- `reader::requests::ready`.
use borrow.Author.Tests.{not-false, not-true}
use Rattle.reader.specs.View.{refused}
use Rattle.reader.proofs.requests.ready.Goals as goal

pub returns-then-not-positive : goal.returns-then-not-positive
unfolding refused
returns-then-not-positive c = rw (← c.compute_max_density.ensures, ← c.positive.ensures, not-true c.positive.result c.if-not-positive.true-raw)

pub returns : goal.returns
returns c = rw (← c.compute_max_density.ensures, ← c.positive.ensures, not-false c.positive.result c.if-not-positive.false-raw)
