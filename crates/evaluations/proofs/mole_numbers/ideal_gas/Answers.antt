-- `evaluations::mole_numbers::ideal_gas`.
use Rattle.evaluations.proofs.CriticalLaws.{none_law, some_law}
use Rattle.evaluations.proofs.mole_numbers.ideal_gas.Goals as goal

pub returns-then-n : goal.returns-then-n
returns-then-n g c =
    none_law _ c.args.n.c c.args.v.c _ _ c.if-n.true c.number.ensures c.mul.ensures

pub returns : goal.returns
returns g c =
    some_law _ c.args.n.c c.args.v.c _ _ _ _ _ c.if-n.false c.div.ensures c.ln-l.ensures c.number-2.ensures c.sub.ensures c.mul-2.ensures
