-- `solver_density::density::iterate`.
use Rattle.std.proofs.Common.{◌≡◌, refl, ◌∙◌, ◌-◌, arith}
use Rattle.solver.proofs.Runs.{part_found, part_most, part_refused}
use Rattle.solver.specs.Search.{run}
use Rattle.solver_density.specs.declared.types.SlopeOutcome.TheVariants as Slope
use Rattle.solver_density.proofs.Runs.{density_over, slope_turn}
use Rattle.solver_density.proofs.Settles.{slope_led}
use Rattle.solver_density.proofs.Spans.{unstable_61}
use Rattle.solver_density.proofs.density.iterate.Goals as goal
use Rattle.solver_density.proofs.density.iterate.Goals.{in-Next, in-Unstable+in-Ok}

pub loop-made-init : goal.loop-made-init
loop-made-init c = let q : c.args.rounds - 0 ≡ c.args.rounds = omega arith in (omega arith, rw q refl)

pub returns-in-NotFinite : goal.returns-in-NotFinite
unfolding slope_led run
returns-in-NotFinite c = slope_turn _ _ _ c.loop-made.made c.args.rounds c.loop-made.evaluations _ Slope.NotFinite _ (omega arith) c.p_dpdrho-y.ensures c.in-NotFinite.ensures c.loop-made.invariant.1

pub returns-in-Converged : goal.returns-in-Converged
unfolding slope_led run
returns-in-Converged c =
    rw c.found_density.ensures
    (slope_turn _ _ _ c.loop-made.made c.args.rounds c.loop-made.evaluations _ (Slope.Converged _) _ (omega arith) c.p_dpdrho-y.ensures c.in-Converged.ensures c.loop-made.invariant.1)

pub overflow_add-evaluations-in-Unstable : goal.overflow_add-evaluations-in-Unstable
overflow_add-evaluations-in-Unstable c = let most = part_most _ 61 _ c.unstable-d.result (unstable_61 _ _ _) c.unstable-d.ensures in omega arith

pub returns-in-Err : goal.returns-in-Err
unfolding slope_led
returns-in-Err c =
    rw c.in-Err.is
    (part_refused _ _ _ _ c.unstable-d.result _ c.unstable-d.ensures c.in-Err.is
    ∙ slope_turn _ _ _ c.loop-made.made c.args.rounds c.loop-made.evaluations _ (Slope.Unstable _) _ (omega arith) c.p_dpdrho-y.ensures c.in-Unstable.ensures c.loop-made.invariant.1)

pub loop-made-preserved : goal.loop-made-preserved
unfolding slope_led
loop-made-preserved c =
    elim c.match-slope_round.branch [
      | in-Next w ↦
          rw (w.evaluations-is, w.rho-is)
          (omega arith, slope_turn _ _ _ c.loop-made.made c.args.rounds c.loop-made.evaluations _ (Slope.Next _) _ (omega arith) c.p_dpdrho-y.ensures w.in-Next.ensures c.loop-made.invariant.1)
      | in-Unstable+in-Ok w ↦
          let most = part_most _ 61 _ w.unstable-d.result (unstable_61 _ _ _) w.unstable-d.ensures in
          rw (w.evaluations-is, w.rho-is) (
            omega arith,
            part_found _ _ _ _ w.unstable-d.result _ w.unstable-d.ensures w.in-Ok.is
                ∙ slope_turn _ _ _ c.loop-made.made c.args.rounds c.loop-made.evaluations _ (Slope.Unstable _) _ (omega arith) c.p_dpdrho-y.ensures w.in-Unstable.ensures c.loop-made.invariant.1,
          )
    ]

pub returns : goal.returns
returns c = density_over _ _ _ c.loop-made.made c.args.rounds _ _ (omega arith) c.loop-made.invariant.1
