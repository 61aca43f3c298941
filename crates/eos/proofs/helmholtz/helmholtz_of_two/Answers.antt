-- `eos::helmholtz::helmholtz_of_two`.
use native.Mathlib.Omega.{arith}
use Rattle.eos.proofs.helmholtz.helmholtz_of_two.Goals as goal

pub returns : goal.returns
returns g c =
    c.energy.ensures c.args.blend 2 (omega arith) _ (c.two.ensures _ c.requires)
