-- `eos::mixture::root_place`.
use mathlib.Core.Path.{refl}
use native.Mathlib.Omega.{arith}
use borrow.Author.Tests.{le-leb, lt-leb}
use Rattle.eos.specs.Jets.{place_of}
use Rattle.eos.proofs.mixture.root_place.Goals as goal

pub returns-then-j-i : goal.returns-then-j-i
unfolding place_of
returns-then-j-i c = rw (le-leb c.args.j c.args.i (omega arith)) (refl, omega arith)

pub returns-else-j-i : goal.returns-else-j-i
unfolding place_of
returns-else-j-i c = rw (lt-leb c.args.j c.args.i (omega arith)) (refl, omega arith)
