-- `writer::writing::write_block`.
use mathlib.Core.Path.{refl, sym, ap, ◌∙◌}
use borrow.Author.Tests.{not-false, not-true}
use Rattle.buf.specs.Bytes.{zeros}
use Rattle.schedule.proofs.Tests.{count_within}
use Rattle.writer.proofs.WriterLaws.{over_zeros, refuses_2, refuses_3, refuses_8, refuses_11, refuses_data, writes}
use borrow.Author.Rules.{rules}
use Rattle.reader.specs.declared.types.Job.{Job}
use Rattle.reader.specs.Refusals.{number_of}
use Rattle.reader.specs.Reading.{refusal_of}
use Rattle.writer.proofs.writing.write_block.Goals as goal

pub returns-then-not-kind_fits : goal.returns-then-not-kind_fits
unfolding refusal_of number_of
returns-then-not-kind_fits c = refuses_2 _ _ _ _ (sym c.kind_fits.ensures ∙ not-true _ c.if-not-kind_fits.true-raw)

pub returns-then-not-count_fits : goal.returns-then-not-count_fits
unfolding refusal_of number_of
returns-then-not-count_fits c = refuses_3 _ _ _ _ (sym c.kind_fits.ensures ∙ not-false _ c.if-not-kind_fits.false-raw) (sym c.count_fits.ensures ∙ not-true _ c.if-not-count_fits.true-raw)

pub returns-then-buffer-ne640 : goal.returns-then-buffer-ne640
unfolding refusal_of number_of
returns-then-buffer-ne640 c = refuses_8 _ _ _ _ (sym c.kind_fits.ensures ∙ not-false _ c.if-not-kind_fits.false-raw) (sym c.count_fits.ensures ∙ not-false _ c.if-not-count_fits.false-raw) c.if-buffer-ne640.true

pub counts_fit-requires : goal.counts_fit-requires
counts_fit-requires c = let w = count_within _ _ (sym c.count_fits.ensures ∙ not-false _ c.if-not-count_fits.false-raw) in (w.low, w.high)

pub returns-then-not-counts_fit : goal.returns-then-not-counts_fit
unfolding refusal_of number_of
returns-then-not-counts_fit c = refuses_11 _ _ _ _ (sym c.kind_fits.ensures ∙ not-false _ c.if-not-kind_fits.false-raw) (sym c.count_fits.ensures ∙ not-false _ c.if-not-count_fits.false-raw) c.if-buffer-ne640.false (sym c.counts_fit.ensures ∙ not-true _ c.if-not-counts_fit.true-raw)

pub fill-requires : goal.fill-requires
fill-requires c = let w = count_within _ _ (sym c.count_fits.ensures ∙ not-false _ c.if-not-count_fits.false-raw) in (w.low, w.high, search rules, (sym c.counts_fit.ensures ∙ not-false _ c.if-not-counts_fit.false-raw))

pub returns-in_err-job : goal.returns-in_err-job
unfolding zeros
returns-in_err-job c =
    let count = (sym c.count_fits.ensures ∙ not-false _ c.if-not-count_fits.false-raw) in
    let lists = (sym c.counts_fit.ensures ∙ not-false _ c.if-not-counts_fit.false-raw) in
    let filled = c.fill.ensures in
    refuses_data _ _ _ _ _ _ c.if-buffer-ne640.false lists filled.1 (over_zeros _ _ _ _ (count_within _ _ count).high lists refl filled.0) (sym c.in_err-job.was ∙ ap (λ (job : Job). job.task) c.view-job.ensures) c.from_residual.ensures.1

pub returns : goal.returns
unfolding zeros refusal_of
returns c =
    let count = (sym c.count_fits.ensures ∙ not-false _ c.if-not-count_fits.false-raw) in
    let lists = (sym c.counts_fit.ensures ∙ not-false _ c.if-not-counts_fit.false-raw) in
    let filled = c.fill.ensures in
    writes _ _ _ _ _ _ _ count c.if-buffer-ne640.false lists filled.1 (over_zeros _ _ _ _ (count_within _ _ count).high lists refl filled.0) (sym c.in_ok-job.was ∙ ap (λ (job : Job). job.task) c.view-job.ensures) c.put_part.ensures
