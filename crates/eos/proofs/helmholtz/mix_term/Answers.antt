-- `eos::helmholtz::mix_term`.
use Rattle.eos.proofs.Pair.{term_law}
use Rattle.eos.proofs.helmholtz.mix_term.Goals as goal

pub returns : goal.returns
returns g c =
    let a = c.args in
    term_law _ _ _ _ a.k _ _ _ _ c.mul-x.ensures c.number.ensures c.mul.ensures c.mul-2.ensures
