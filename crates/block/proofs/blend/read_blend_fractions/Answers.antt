use mathlib.Core.Path.{refl, ◌∙◌}
use native.Mathlib.Omega.{arith}
use Rattle.float.specs.Ops.{f0}
use Rattle.block.specs.Lists.{all_below}
use Rattle.block.specs.Numbers.{floats_at}
use Rattle.block.specs.Blend.{at as at_row}
use Rattle.block.specs.Checks.{fractions_fit}
use Rattle.block.proofs.Lists.{upto_none, upto_more, all_more, all_fails}
use Rattle.block.proofs.PairLaws.{fractions_most}
use Rattle.block.proofs.ReadLaws.{read_at, fraction_test, fraction_tested, fractions_stored, fractions_all}
use Rattle.block.proofs.blend.read_blend_fractions.Goals as goal

pub loop-i-init : goal.loop-i-init
unfolding all_below
loop-i-init c =
    let A = c.args in
    record {
      in_row = omega (arith, c.fraction_count-count.ensures, fractions_most A.kind A.n);
      fit = refl;
      filled = rw (← upto_none 8 f0 (at_row (floats_at c.fraction_count-count.result A.block.now A.at)) A.blend.now.x c.requires.2);
    }

pub returns-then-not-fraction_fits-clause-fits : goal.returns-then-not-fraction_fits-clause-fits
unfolding fractions_fit
returns-then-not-fraction_fits-clause-fits c =
    let i = c.loop-i.i in
    let A = c.args in
    let row = floats_at c.fraction_count-count.result A.block.now A.at in
    rw (← c.fraction_count-count.ensures)
    (all_fails (fraction_test row) _ i (omega (arith, c.loop-i.invariant.in_row))
    (fraction_tested _ _ _ i _ _ _ c.loop-i-test.true (omega arith) c.get_f64-fraction.ensures c.fraction_fits.ensures c.if-not-fraction_fits.true))

pub loop-i-preserved : goal.loop-i-preserved
loop-i-preserved c =
    let L = c.loop-i in
    let A = c.args in
    let row = floats_at c.fraction_count-count.result A.block.now A.at in
    let h = c.loop-i-test.true in
    let r = c.get_f64-fraction.ensures in
    record {
      in_row = L.invariant.in_row;
      fit = all_more (fraction_test row) L.i L.invariant.fit (fraction_tested _ _ _ L.i _ _ _ h (omega arith) r c.fraction_fits.ensures c.if-not-fraction_fits.false);
      filled = rw (L.invariant.filled, upto_more 8 f0 (at_row row) L.i _ _ (omega arith) (r ∙ read_at _ _ _ L.i h (omega arith)) refl);
    }

pub returns-clause-fits : goal.returns-clause-fits
unfolding fractions_fit
returns-clause-fits c =
    let L = c.loop-i in
    rw (← c.fraction_count-count.ensures) (fractions_all _ _ _ _ L.i c.loop-i-test.false L.auto.i-end L.invariant.in_row (omega arith) L.invariant.fit)

pub returns-clause-read : goal.returns-clause-read
returns-clause-read c = λ _.
    let L = c.loop-i in
    let A = c.args in
    rw (← c.fraction_count-count.ensures) (L.invariant.filled ∙ rw (fractions_stored c.fraction_count-count.result A.block.now A.at L.i _ c.loop-i-test.false L.auto.i-end refl))

pub returns-then-not-fraction_fits-clause-kept : goal.returns-then-not-fraction_fits-clause-kept
returns-then-not-fraction_fits-clause-kept c = rw c.loop-i.invariant.filled

pub returns-clause-kept : goal.returns-clause-kept
returns-clause-kept c = rw c.loop-i.invariant.filled
