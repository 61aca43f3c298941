-- A job that ends within a number of evaluations. Definitions only.
use Rattle.std.specs.Prelude.{ℕ}
use Rattle.solver.specs.Search.{Search, Within}
use Rattle.records.specs.Outcome.{Course, refused_by, searches}

-- it ends after at most n evaluations, whatever they yield
pub data CourseWithin (n : ℕ) : Course → Type 0 where
  refused_within : {number : ℕ} → CourseWithin n (refused_by number)
  search_within : {t : Search} → Within n t → CourseWithin n (searches t)
