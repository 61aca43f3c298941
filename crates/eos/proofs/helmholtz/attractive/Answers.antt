-- `eos::helmholtz::attractive`.
use Rattle.eos.proofs.Chain.{attraction_law}
use Rattle.eos.proofs.helmholtz.attractive.Goals as goal

pub returns : goal.returns
returns g c = attraction_law _ c.args.ak.c c.args.b.c c.args.t.c c.args.v.c _ _ _ _ _ _ _ _ c.number.ensures c.mul.ensures c.number-2.ensures c.mul-b2.ensures c.mul-2.ensures c.div-q.ensures c.log_ratio.ensures c.mul-3.ensures
