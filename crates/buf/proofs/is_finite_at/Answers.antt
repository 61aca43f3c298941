-- `buf::is_finite_at`.
use Rattle.buf.proofs.is_finite_at.Goals as goal

pub returns : goal.returns
returns c = rw (c.finite_bits.ensures, c.get_u64.ensures)
