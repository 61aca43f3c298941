-- `jobs::run`.
use Rattle.std.proofs.lemmas.Result.{err_from_is_err_and}
use Rattle.jobs.specs.Line.{refused_number}
use Rattle.jobs.proofs.JobLaws.{run_refused, run_begun, run_done, run_on, run_never, turned_true, turned_false}
use lib.ListN.{length}
use native.Mathlib.Omega.{arith}
use mathlib.Core.Path.{refl, ap, ◌∙◌}
use Rattle.jobs.proofs.run.Goals as goal

pub returns-in_err-submit : goal.returns-in_err-submit
unfolding refused_number
returns-in_err-submit c =
    let p = err_from_is_err_and c.from_residual.result c.from_residual.ensures.1 in
    rw (p.1, p.2) (run_refused _ _ _ _ _ _ _ c.requires.0 c.clear.ensures c.submit.ensures.0 c.submit.ensures.1 _ _ c.in_err-submit.was)

pub loop-made-init : goal.loop-made-init
loop-made-init c =
    let s = run_begun _ _ _ _ _ _ _ c.requires.0 c.clear.ensures c.submit.ensures.0 c.submit.ensures.1 _ c.in_ok-submit.was in
    (c.submit.auto.board ∙ c.clear.auto.s ∙ c.requires.0, refl, s.0, s.1)

pub returns-then-written : goal.returns-then-written
unfolding refused_number
returns-then-written c =
    let L = c.loop-made in
    let t = turned_true c.turn.result _ c.unwrap_or-written.ensures c.if-written.true in
    run_done _ _ _ _ _ _ _ _ _ _ L.invariant.3 c.requires.1 L.invariant.1 c.turn.ensures.0 c.turn.ensures.1 c.turn.ensures.2 t L.invariant.2

pub loop-made-preserved : goal.loop-made-preserved
loop-made-preserved c =
    let L = c.loop-made in
    let t = turned_false c.turn.result _ c.unwrap_or-written.ensures c.if-written.false in
    let s = run_on _ _ _ _ _ _ _ _ _ L.invariant.3 (omega (arith, c.requires.1, ap length L.invariant.1)) c.turn.ensures.0 c.turn.ensures.1 c.turn.ensures.2 t in
    (c.turn.auto.board ∙ L.invariant.0, s.0 ∙ L.invariant.1, L.invariant.2, s.1)

pub returns : goal.returns
returns c = absurd (run_never _ _ _ _ _ c.loop-made.invariant.3 c.loop-made-test.false)
