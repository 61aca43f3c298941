-- `float::logarithm::reduced`.
use Rattle.float.specs.Ln.{reduced_ln}
use Rattle.float.proofs.logarithm.reduced.Goals as goal

pub returns : goal.returns
unfolding reduced_ln
returns c = rw (c.combined.ensures, c.series.ensures, c.exponent.ensures)
