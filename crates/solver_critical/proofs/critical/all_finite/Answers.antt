-- `solver_critical::critical::all_finite`.
use Rattle.std.proofs.Common.{rules}
use borrow.Author.Tests.{tests}
use Rattle.std.proofs.lemmas.Iterator.{YieldsList-from_slice}
use Rattle.std.proofs.lemmas.Iterator.Search.{all_from_yields_List}
use Rattle.float.specs.Sign.{finite_of}
use Rattle.solver_critical.proofs.critical.all_finite.Goals as goal

pub returns : goal.returns
returns c = all_from_yields_List finite_of _ _ _ c.all.ensures.ran (YieldsList-from_slice c.args.xs.now cc) (λ x b q k. search (rules, tests))
