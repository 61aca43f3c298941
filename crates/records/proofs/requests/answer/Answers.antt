-- `records::requests::answer`.
use mathlib.Core.Path.{sym, ◌∙◌}
use Rattle.records.proofs.RecordLaws.{fit, answer_refused, answer_written}
use Rattle.records.proofs.requests.answer.Goals as goal

pub returns-in_err-fits : goal.returns-in_err-fits
returns-in_err-fits c = answer_refused _ _ _ _ _ c.from_residual.ensures.1 (sym c.in_err-fits.was ∙ c.fits.ensures)

pub write_sealed-requires : goal.write_sealed-requires
write_sealed-requires c = (fit _ _ _ _ (sym c.in_ok-fits.was ∙ c.fits.ensures)).record_fits

pub returns : goal.returns
returns c = answer_written _ _ _ _ _ _ _ (sym c.in_ok-fits.was ∙ c.fits.ensures) c.view-job.ensures c.run_job.ensures c.write_sealed.ensures
