-- `eos::helmholtz::alone`.
use Rattle.eos.proofs.Energy.{alone_law}
use Rattle.eos.proofs.Pair.{term_of_root}
use Rattle.eos.proofs.helmholtz.alone.Goals as goal

pub returns : goal.returns
returns g c =
    let a = c.args in
    alone_law _ a.blend a.t.c a.v.c a.moles.c c.div-density.result.c c.div-x.result.c c.ak-one.result.c c.number.result.c c.mix_term-term.result.c c.add.result.c c.number-2.result.c c.mul.result.c c.div-density.ensures c.div-x.ensures c.ak-one.ensures (term_of_root _ c.ak-one.result.c c.ak-one.result.c c.div-x.result.c c.div-x.result.c _ c.ak_root.result.c c.mix_term-term.result.c c.ak_root.ensures c.mix_term-term.ensures) c.number.ensures c.add.ensures c.number-2.ensures c.mul.ensures
