-- `evaluations::one_component::energy_over_t`.
use Rattle.evaluations.proofs.CriticalLaws.{energy_law}
use Rattle.evaluations.proofs.one_component.energy_over_t.Goals as goal

pub returns : goal.returns
returns c =
    let a = c.args in
    energy_law 12 a.blend a.t.c a.v.c 1 (λ i. a.n.c) c.helmholtz_of_one.result.c _ c.helmholtz_of_one.ensures c.div.ensures
