-- `evaluations::one_component::OneComponent::third_derivative`.
use Rattle.evaluations.proofs.CriticalLaws.{third_of_one}
use Rattle.evaluations.proofs.one_component.OneComponent.third_derivative.Goals as goal

pub returns : goal.returns
returns c =
    let a = c.args in
    let s = a.self.now in
    third_of_one s.blend s.t.c s.v.c _ _ _ _ _ c.moved_along_one-n.ensures c.moved_energy-a.ensures c.ideal_gas.ensures c.add.ensures c.derivative.ensures
