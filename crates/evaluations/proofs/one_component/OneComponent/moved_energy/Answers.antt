-- `evaluations::one_component::OneComponent::moved_energy`.
use mathlib.Core.Path.{◌∙◌}
use Rattle.evaluations.proofs.CriticalLaws.{moved_energy_law}
use Rattle.evaluations.proofs.One.{moved_by_mark}
use Rattle.evaluations.proofs.one_component.OneComponent.moved_energy.Goals as goal

pub returns-then-is_one : goal.returns-then-is_one
returns-then-is_one c =
    let a = c.args in
    let s = a.self.now in
    moved_energy_law s.blend s.t.c s.v.c a.n.c s.energy.c (c.requires ∙ moved_by_mark _ (c.is_one.ensures.1 c.if-is_one.true)) s.marked
