-- `evaluations::one_component::OneComponent::smallest`.
use Rattle.evaluations.proofs.CriticalLaws.{smallest_of_one}
use Rattle.evaluations.proofs.one_component.OneComponent.smallest.Goals as goal

pub returns : goal.returns
returns c =
    let a = c.args in
    let s = a.self.now in
    smallest_of_one s.blend s.t.c s.v.c s.energy.c _ _ c.sqrt-s.result.c c.entry.result.c s.marked c.number.ensures c.sqrt-s.ensures c.derivative.ensures c.entry.ensures
