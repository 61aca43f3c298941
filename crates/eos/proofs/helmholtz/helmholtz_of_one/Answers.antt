-- `eos::helmholtz::helmholtz_of_one`.
use native.Mathlib.Omega.{arith}
use Rattle.eos.proofs.helmholtz.helmholtz_of_one.Goals as goal

pub returns : goal.returns
returns g c =
    c.energy.ensures c.args.blend 1 (omega arith) _ c.alone.ensures
