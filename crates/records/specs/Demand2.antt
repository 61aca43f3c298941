-- Demand 2: the Rust's answer to a request. The Rust is the same search without the tests for 27, which document 01 adds. Definitions and a statement; `demand_2` in
-- proofs/Demand2.antt proves it.
use Rattle.std.specs.Prelude.{◌≡◌, ℕ, Bool, true, false, List}
use Rattle.solver.specs.Search.{Evaluator, run, clean}
use Rattle.solver.specs.Evaluated.{evaluated}
use Rattle.reader.specs.declared.types.Job.{Job}
use Rattle.reader.specs.View.{view}
use Rattle.records.specs.declared.types.Outcome.{Outcome}
use Rattle.records.specs.Outcome.{Course, refused_by, searches, refused_end, search_end, job_course}
use Rattle.records.specs.Record.{sealed_bytes, sealed_of}

-- the Rust's end: its search run with every test for 27 passed. A job that its data refuse never comes to the Rust; it is not clean
unfoldable pub rust_end : Evaluator → Course → Outcome
rust_end ev (refused_by number) = refused_end number
rust_end ev (searches t) = search_end (run (λ _. true) ev 0 t)

-- it comes to its search, and no number tested along the run leaves the finite range
unfoldable pub clean_course : Evaluator → Course → Bool
clean_course ev (refused_by number) = false
clean_course ev (searches t) = clean ev t

unfoldable pub rust_outcome : Job → Outcome
rust_outcome job = rust_end (evaluated job.blend) (job_course job)

unfoldable pub clean_job : Job → Bool
clean_job job = clean_course (evaluated job.blend) (job_course job)

-- the 48 sealed bytes that state the Rust's answer and its evaluations
unfoldable pub rust_sealed : (kind n : ℕ) → List ℕ → List ℕ
rust_sealed kind n block = sealed_bytes (rust_outcome (view kind n block))

unfoldable pub clean_request : (kind n : ℕ) → List ℕ → Bool
clean_request kind n block = clean_job (view kind n block)

-- "answers equal those of the Rust with document 01's root, logarithm and derivative rules, bit for bit"
pub record Demand2 : Type 0 where
  pub answers : (kind n : ℕ) (block : List ℕ) → clean_request kind n block ≡ true → sealed_of kind n block ≡ rust_sealed kind n block
