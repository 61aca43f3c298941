-- `eos::helmholtz::log_ratio`.
use Rattle.eos.proofs.Chain.{log_ratio_law}
use Rattle.eos.proofs.helmholtz.log_ratio.Goals as goal

pub returns : goal.returns
returns g c = log_ratio_law _ c.args.v.c c.args.b.c _ _ _ _ _ _ _ _ c.number.ensures c.mul.ensures c.add-upper.ensures c.number-2.ensures c.mul-2.ensures c.add-lower.ensures c.div.ensures c.ln.ensures
