-- `stepping::answers::answer`.
use Rattle.std.proofs.Common.{sym, ◌∙◌}
use Rattle.records.proofs.RecordLaws.{fit, answer_refused}
use Rattle.stepping.proofs.AnswerLaws.{answer_stepped}
use Rattle.stepping.proofs.answers.answer.Goals as goal

pub returns-in_err-fits : goal.returns-in_err-fits
returns-in_err-fits c = answer_refused _ _ _ _ _ c.from_residual.ensures.1 (sym c.in_err-fits.was ∙ c.fits.ensures)

pub write_sealed-requires : goal.write_sealed-requires
write_sealed-requires c = (fit _ _ _ _ (sym c.in_ok-fits.was ∙ c.fits.ensures)).record_fits

pub returns : goal.returns
returns c = answer_stepped _ _ _ _ _ _ _ _ _ (sym c.in_ok-fits.was ∙ c.fits.ensures) c.view-job.ensures c.span_of.ensures c.after-state.ensures c.outcome.ensures c.write_sealed.ensures
