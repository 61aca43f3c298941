-- `eos::helmholtz::repulsive`.
use Rattle.eos.proofs.Chain.{repulsion_law}
use Rattle.eos.proofs.helmholtz.repulsive.Goals as goal

pub returns : goal.returns
returns g c = repulsion_law _ c.args.v.c c.args.b.c _ _ _ c.sub.ensures c.div.ensures c.ln.ensures
