-- `eos::helmholtz::ak`.
use Rattle.eos.proofs.Chain.{ak_law}
use Rattle.eos.proofs.helmholtz.ak.Goals as goal

pub returns : goal.returns
returns g c = ak_law _ c.args.t.c c.args.tc c.args.kappa c.args.a _ _ _ _ _ _ _ _ _ _ _ c.number-one.ensures c.number.ensures c.div-q.ensures c.sqrt.ensures c.sub-d.ensures c.number-2.ensures c.mul.ensures c.add-y.ensures c.mul-2.ensures c.number-3.ensures c.mul-3.ensures
