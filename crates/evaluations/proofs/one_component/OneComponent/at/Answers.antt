-- `evaluations::one_component::OneComponent::at`.
use Rattle.evaluations.proofs.CriticalLaws.{marked_law}
use Rattle.evaluations.proofs.one_component.OneComponent.at.Goals as goal

pub invariant_of-result : goal.invariant_of-result
invariant_of-result c =
    let a = c.args in
    record { marked = marked_law a.blend a.t.c a.v.c _ c.energy_over_t.result.c c.marked.ensures c.energy_over_t.ensures }
