-- Demand 2: a clean request has the Rust's sealed bytes. Assumes nothing.
use mathlib.Core.Path.{◌≡◌, ap}
use Prim.Native.Nat.{ℕ}
use mathlib.Core.Bool.{true}
use mathlib.Core.List.{List}
use native.Mathlib.Omega.{arith}
use Rattle.solver.specs.Search.{Evaluator}
use Rattle.solver.specs.Evaluated.{evaluated}
use Rattle.solver.proofs.Rule.{clean_agrees}
use Rattle.reader.specs.View.{view}
use Rattle.records.specs.Outcome.{Course, refused_by, searches, search_end, end_of, job_course, outcome_of}
use Rattle.records.specs.Record.{sealed_bytes, sealed_of}
use Rattle.records.specs.Demand2.{rust_end, clean_course, rust_outcome, clean_job, rust_sealed, clean_request, Demand2}

rust_end_lem : (ev : Evaluator) (c : Course) → clean_course ev c ≡ true → end_of ev c ≡ rust_end ev c
unfolding end_of rust_end clean_course
rust_end_lem ev (refused_by number) h = let z : ◌≡◌ {A = ℕ} 0 1 = cc in absurd (omega arith)
rust_end_lem ev (searches t) h = ap search_end (clean_agrees ev 0 t h)

rust_sealed_lem : (kind n : ℕ) (block : List ℕ) → clean_request kind n block ≡ true → sealed_of kind n block ≡ rust_sealed kind n block
unfolding sealed_of outcome_of rust_sealed rust_outcome clean_request clean_job
rust_sealed_lem kind n block h = ap sealed_bytes (rust_end_lem (evaluated (view kind n block).blend) (job_course (view kind n block)) h)

pub demand_2 : Demand2
demand_2 = record { answers = rust_sealed_lem }
