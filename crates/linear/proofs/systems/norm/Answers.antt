-- `linear::systems::norm`.
use Rattle.linear.proofs.Norms.{norm_none, norm_some}
use Rattle.linear.proofs.systems.norm.Goals as goal

pub returns-in_default : goal.returns-in_default
returns-in_default c = norm_none _ _ c.in_default.ensures.cases c.sqrt.ensures

pub returns : goal.returns
returns c = norm_some _ _ _ _ _ c.in-Some.ensures.cases.0 c.add_squares.ensures c.sqrt-2.ensures
