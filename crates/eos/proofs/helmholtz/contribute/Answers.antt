-- `eos::helmholtz::contribute`.
use Rattle.eos.proofs.Chain.{contribution_law}
use Rattle.eos.proofs.helmholtz.contribute.Goals as goal

pub returns : goal.returns
returns g c = contribution_law _ c.args.density.c c.args.ak.c c.args.b.c c.args.t.c _ _ _ _ _ _ c.number.ensures c.div-v.ensures c.repulsive.ensures c.attractive.ensures c.sub-d.ensures c.mul.ensures
