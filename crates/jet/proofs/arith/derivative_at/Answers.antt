-- `jet::arith::derivative_at`.
use mathlib.Core.List.{[]}
use Rattle.jet.proofs.ByE0.{from_fourth, with_e0, free_of_e0}
use Rattle.jet.proofs.arith.derivative_at.Goals as goal

pub returns-then-k-gt3 : goal.returns-then-k-gt3
returns-then-k-gt3 c = from_fourth c.args.k c.args.a.now [] c.args.m c.if-k-gt3.true

pub returns-then-m-ne0 : goal.returns-then-m-ne0
returns-then-m-ne0 c = with_e0 c.args.k c.args.a.now [] c.args.m c.if-m-ne0.true

pub returns : goal.returns
returns c = free_of_e0 c.args.k c.args.a.now [] c.args.m _ c.if-k-gt3.false c.if-m-ne0.false c.factorial.ensures
