-- `jet::positions::next`.
use Rattle.jet.proofs.Next.{in_e0, in_e1, in_e2, in_e3}
use Rattle.jet.proofs.positions.next.Goals as goal

pub returns-then-p-m : goal.returns-then-p-m
returns-then-p-m c = in_e0 c.args.p c.args.m c.requires.0 c.requires.2 c.if-p-m.true

pub returns-then-p-m-2 : goal.returns-then-p-m-2
returns-then-p-m-2 c = in_e1 c.args.p c.args.m c.requires.0 c.requires.2 c.if-p-m.false c.if-p-m-2.true

pub returns-then-p-m-3 : goal.returns-then-p-m-3
returns-then-p-m-3 c = in_e2 c.args.p c.args.m c.requires.0 c.requires.2 c.if-p-m.false c.if-p-m-2.false c.if-p-m-3.true

pub returns : goal.returns
returns c = in_e3 c.args.p c.args.m c.requires.0 c.requires.2 c.if-p-m.false c.if-p-m-2.false c.if-p-m-3.false
