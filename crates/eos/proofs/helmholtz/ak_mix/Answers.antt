-- `eos::helmholtz::ak_mix`.
use Rattle.eos.proofs.Pair.{ak_mix_law}
use Rattle.eos.proofs.helmholtz.ak_mix.Goals as goal

pub returns : goal.returns
returns g c =
    let a = c.args in
    ak_mix_law _ _ _ a.root a.k.now _ _ _ _ _ _ _ _ _ c.number.ensures c.mix_term.ensures c.add-m.ensures c.mix_term-2.ensures c.add-m-2.ensures c.mix_term-3.ensures c.add-m-3.ensures c.mix_term-4.ensures c.add.ensures
