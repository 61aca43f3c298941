-- `writer::packing::interactions_size`.
use mathlib.Core.Path.{refl}
use native.Mathlib.Omega.{arith}
use Rattle.block.proofs.Sizes.{product}
use borrow.Author.Rules.{rules}
use Rattle.writer.proofs.packing.interactions_size.Goals as goal

pub overflow_mul-result : goal.overflow_mul-result
overflow_mul-result c = let h = product c.args.n (search rules) in omega arith

pub overflow_mul-result-2 : goal.overflow_mul-result-2
overflow_mul-result-2 c = let h = product c.args.n (search rules) in omega arith

pub returns : goal.returns
returns c = let h = product c.args.n (search rules) in (refl, omega arith)
