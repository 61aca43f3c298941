-- `eos::helmholtz::ak_root`.
use Rattle.eos.proofs.Pair.{ak_root_law}
use Rattle.eos.proofs.helmholtz.ak_root.Goals as goal

pub returns : goal.returns
returns g c = ak_root_law _ _ _ _ _ c.mul.ensures c.sqrt.ensures
