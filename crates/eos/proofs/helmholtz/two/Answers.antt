-- `eos::helmholtz::two`.
use Rattle.eos.specs.Helmholtz.{aks_of}
use Rattle.eos.proofs.Pair.{two_law}
use Rattle.eos.proofs.helmholtz.two.Goals as goal

pub returns : goal.returns
returns g c =
    λ t R.
    let a = c.args in
    two_law _ a.blend t _ _ _ _ _ _ _ _ c.ak_mix.result.c c.b_mix.result.c c.div-rho1.ensures c.div-rho2.ensures c.add-density.ensures c.div-x1.ensures c.div-x2.ensures (c.ak_mix.ensures (aks_of a.blend t) R) c.b_mix.ensures
