-- `eos::helmholtz::energy`.
use Rattle.eos.proofs.Energy.{helmholtz_law}
use Rattle.eos.proofs.helmholtz.energy.Goals as goal

pub returns : goal.returns
returns g c =
    λ b n h moles em.
    let a = c.args in
    helmholtz_law _ n h b a.t.c a.v.c moles a.m _ _ _ _ _ em c.contribute.ensures c.number.ensures c.add-e.ensures c.mul.ensures c.mul-2.ensures
