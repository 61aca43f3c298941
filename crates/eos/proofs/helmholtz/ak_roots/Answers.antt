-- `eos::helmholtz::ak_roots`.
use Rattle.eos.specs.Helmholtz.{aks_of}
use Rattle.eos.proofs.Pair.{ak_roots_law}
use Rattle.eos.proofs.helmholtz.ak_roots.Goals as goal

pub returns : goal.returns
returns g c =
    let a = c.args in
    ak_roots_law _ (aks_of a.blend a.t.c) c.ak-a1.result.c c.ak-a2.result.c _ c.ak-a1.ensures c.ak-a2.ensures c.ak_root.ensures c.ak_root-2.ensures c.ak_root-3.ensures c.ak_root-4.ensures
