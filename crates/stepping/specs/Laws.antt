-- What holds of every job that is made one evaluation at a time. Statements only; `stepping` in proofs/Laws.antt proves them.
use Rattle.std.specs.Prelude.{◌≡◌, ℕ, true, List}
use Rattle.reader.specs.View.{view}
use Rattle.records.specs.Record.{sealed_bytes, sealed_of}
use Rattle.schedule.specs.Spans.{span_of}
use Rattle.stepping.specs.Stepping.{state_fits}
use Rattle.stepping.specs.States.{Request, state_after, outcome_at, Sight, sight}
use Rattle.stepping.specs.Storable.{Storable}

pub record Stepping : Type 0 where
  -- every state of a request can be stored, and is in its kind's range
  pub stores : (kind n : ℕ) (block : List ℕ) → Request kind n block → (turns : ℕ) → Storable (state_after (view kind n block) turns)
  pub fits : (kind n : ℕ) (block : List ℕ) → Request kind n block → (turns : ℕ) → state_fits kind (state_after (view kind n block) turns) ≡ true
  -- the states are the definition's
  pub shows : (kind n : ℕ) (block : List ℕ) → Request kind n block → (turns : ℕ)
      → ◌≡◌ {A = Sight} (record { evaluations = (state_after (view kind n block) turns).evaluations; density = (state_after (view kind n block) turns).latest }) (sight kind n block turns)
  -- the end is reached within the span
  pub finished : (kind n : ℕ) (block : List ℕ) → Request kind n block → sealed_bytes (outcome_at (state_after (view kind n block) (span_of kind))) ≡ sealed_of kind n block
