-- `eos::helmholtz::b_mix`.
use Rattle.eos.proofs.Pair.{b_mix_law}
use Rattle.eos.proofs.helmholtz.b_mix.Goals as goal

pub returns : goal.returns
returns g c =
    let a = c.args in
    b_mix_law _ _ _ a.b.now _ _ _ _ _ c.number.ensures c.mul-m.ensures c.number-2.ensures c.mul.ensures c.add.ensures
