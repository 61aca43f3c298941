-- `solver_density::density::density_search`.
use Rattle.std.proofs.Common.{ap, ◌∙◌}
use Rattle.std.specs.Prelude.{Float}
use Rattle.solver.proofs.Runs.{ran}
use Rattle.solver.specs.Search.{run}
use Rattle.solver_density.specs.declared.types.SlopeOutcome.TheVariants as Slope
use Rattle.solver_density.proofs.Runs.{first_turn}
use Rattle.solver_density.proofs.Settles.{slope_led}
use Rattle.solver_density.specs.Density.{density_from, density_search}
use Rattle.solver_density.proofs.density.density_search.Goals as goal

pub returns-then-start : goal.returns-then-start
unfolding density_search run
returns-then-start c = rw c.if-start.true

pub returns-in-NotFinite : goal.returns-in-NotFinite
unfolding slope_led run
returns-in-NotFinite c = first_turn _ _ _ Slope.NotFinite c.if-start.false c.p_dpdrho-y.ensures c.in-NotFinite.ensures

pub returns-in-Converged : goal.returns-in-Converged
unfolding slope_led run
returns-in-Converged c = rw c.found_density.ensures (first_turn _ _ _ (Slope.Converged _) c.if-start.false c.p_dpdrho-y.ensures c.in-Converged.ensures)

pub returns-in-Next : goal.returns-in-Next
unfolding slope_led
returns-in-Next c = c.iterate.ensures ∙ first_turn _ _ _ (Slope.Next _) c.if-start.false c.p_dpdrho-y.ensures c.in-Next.ensures

pub returns-in-Unstable : goal.returns-in-Unstable
unfolding slope_led
returns-in-Unstable c =
    let a = c.args in
    (c.iterate-in-Unstable.ensures ∙ ap (λ (x : Float). ran a.blend 1 (density_from a.c 50 x)) c.correct.ensures)
    ∙ first_turn _ _ _ (Slope.Unstable _) c.if-start.false c.p_dpdrho-y.ensures c.in-Unstable.ensures
