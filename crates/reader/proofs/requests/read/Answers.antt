-- `reader::requests::read`.
use mathlib.Core.Path.{refl, sym, ◌∙◌}
use borrow.Author.Tests.{eq-eqb, ne_eqb, not-false, not-true}
use Rattle.schedule.proofs.Tests.{count_within}
use Rattle.reader.specs.declared.types.Refusal.TheVariants as Refusal
use Rattle.reader.specs.View.{view}
use Rattle.reader.proofs.BlendLaws.{refused_reads}
use Rattle.reader.proofs.requests.read.Goals as goal

pub returns-then-not-kind_fits : goal.returns-then-not-kind_fits
unfolding view
returns-then-not-kind_fits c = rw (sym c.kind_fits.ensures ∙ not-true _ c.if-not-kind_fits.true-raw) (refused_reads Refusal.Kind _ _ refl)

pub returns-then-not-count_fits : goal.returns-then-not-count_fits
unfolding view
returns-then-not-count_fits c = rw (sym c.kind_fits.ensures ∙ not-false _ c.if-not-kind_fits.false-raw, sym c.count_fits.ensures ∙ not-true _ c.if-not-count_fits.true-raw) (refused_reads Refusal.Count _ _ refl)

pub returns-then-block-ne640 : goal.returns-then-block-ne640
unfolding view
returns-then-block-ne640 c = rw (sym c.kind_fits.ensures ∙ not-false _ c.if-not-kind_fits.false-raw, sym c.count_fits.ensures ∙ not-false _ c.if-not-count_fits.false-raw, ne_eqb _ _ c.if-block-ne640.true) (refused_reads Refusal.BlockLength _ _ refl)

pub pairs_fit-requires : goal.pairs_fit-requires
pairs_fit-requires c = let w = count_within _ _ (sym c.count_fits.ensures ∙ not-false _ c.if-not-count_fits.false-raw) in (w.low, w.high, c.if-block-ne640.false)

pub returns-then-not-pairs_fit : goal.returns-then-not-pairs_fit
unfolding view
returns-then-not-pairs_fit c = rw (sym c.kind_fits.ensures ∙ not-false _ c.if-not-kind_fits.false-raw, sym c.count_fits.ensures ∙ not-false _ c.if-not-count_fits.false-raw, eq-eqb _ _ c.if-block-ne640.false, sym c.pairs_fit.ensures ∙ not-true _ c.if-not-pairs_fit.true-raw) (refused_reads Refusal.Pairs _ _ refl)

pub checked-requires : goal.checked-requires
checked-requires c =
    let w = count_within _ _ (sym c.count_fits.ensures ∙ not-false _ c.if-not-count_fits.false-raw) in
    (w.low, w.high, c.if-block-ne640.false, sym c.pairs_fit.ensures ∙ not-false _ c.if-not-pairs_fit.false-raw, c.requires)

pub returns : goal.returns
unfolding view
returns c = rw (sym c.kind_fits.ensures ∙ not-false _ c.if-not-kind_fits.false-raw, sym c.count_fits.ensures ∙ not-false _ c.if-not-count_fits.false-raw, eq-eqb _ _ c.if-block-ne640.false, sym c.pairs_fit.ensures ∙ not-false _ c.if-not-pairs_fit.false-raw) c.checked.ensures
