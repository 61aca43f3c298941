-- `linear::systems::solve`.
use Rattle.linear.proofs.Rows2.{swapped_law, kept_law}
use Rattle.linear.proofs.systems.solve.Goals as goal

pub returns-then-abs : goal.returns-then-abs
returns-then-abs c = swapped_law c.args.m c.args.r _ _ c.abs.ensures c.abs-2.ensures _ c.if-abs.true c.eliminate.ensures

pub returns : goal.returns
returns c = kept_law c.args.m c.args.r _ _ c.abs.ensures c.abs-2.ensures _ c.if-abs.false c.eliminate-2.ensures
