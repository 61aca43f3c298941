-- `evaluations::two_components::TwoComponents::energy_over_t`.
use Rattle.eos.specs.Jets.{pair_of}
use Rattle.evaluations.proofs.CriticalLaws.{energy_law}
use Rattle.evaluations.proofs.two_components.TwoComponents.energy_over_t.Goals as goal

pub returns : goal.returns
returns g c =
    let a = c.args in
    let s = a.self.now in
    energy_law g.row.W s.blend s.t.c a.v.c 2 (pair_of a.n1.c a.n2.c) _ _ c.helmholtz_of_two-a.ensures c.div.ensures
