-- An answer that is stored is read back. Assumes nothing.
use mathlib.Core.Path.{◌≡◌, refl}
use Rattle.solver.specs.declared.types.Refusal.TheVariants.{StartNotPositive, NotConverged, IterationFailed, BothPhasesFailed, WrongBranch, Supercritical, NotFinite}
use Rattle.solver.specs.Answer.{Answer, number_of, status_of, values_of}
use Rattle.std.specs.Prelude.{Ok, Err}
use Rattle.solver.specs.Stored.{refusal_by, answer_by}

pub answer_back : (a : Answer) → answer_by (status_of a) (values_of a) ≡ a
unfolding answer_by status_of values_of number_of refusal_by
answer_back (Ok v) = refl
answer_back (Err StartNotPositive) = refl
answer_back (Err NotConverged) = refl
answer_back (Err IterationFailed) = refl
answer_back (Err BothPhasesFailed) = refl
answer_back (Err WrongBranch) = refl
answer_back (Err Supercritical) = refl
answer_back (Err NotFinite) = refl
