-- Which board bytes stand for a schedule, whole and in two parts. Definitions only.
use Rattle.std.specs.Prelude.{◌≡◌, ℕ, suc, ◌-◌, ◌%◌, ◌^◌, ◌≤◌, ◌<◌, List, [], ◌∷◌, length}
use Rattle.buf.specs.Bytes.{part, u64_at}
use Rattle.reader.specs.View.{view}
use Rattle.schedule.specs.Spans.{span_of}
use Rattle.schedule.specs.Schedule.{Held, Schedule, turns_of}
use Rattle.board_spec.specs.Layout.{board_length, quarter_length, turn_at, accepted_at, held_at, turns_at, kind_at, count_at, block_at}
use Rattle.stepping.specs.States.{Request, state_after}
use Rattle.board_spec.specs.Quarter.{load_state, slot_of}
use Rattle.board_spec.specs.Board.{quarter_of}
use Rattle.board_spec.specs.Run.{Bytes}

-- a slot holds a job's request
pub record InSlot (q : Bytes) (slot : ℕ) (j : Held Bytes) : Type 0 where
  pub kind : u64_at q (kind_at slot) ≡ j.kind
  pub n : u64_at q (count_at slot) ≡ j.n
  pub block : part q (block_at slot) 640 ≡ j.block
  pub request : Request j.kind j.n j.block

-- the jobs stand in the slots of the tickets from t on
pub data Stands (q : Bytes) : ℕ → List (Held Bytes) → Type 0 where
  no_more : {t : ℕ} → Stands q t []
  stands : {t : ℕ} {j : Held Bytes} {js : List (Held Bytes)} → InSlot q (slot_of t) j → j.ticket ≡ t % 2 ^ 64 → Stands q (suc t) js → Stands q t (j ∷ js)

-- no job has had a turn
pub data Waiting : List (Held Bytes) → Type 0 where
  nobody : Waiting []
  waits : {j : Held Bytes} {js : List (Held Bytes)} → j.turns ≡ 0 → Waiting js → Waiting (j ∷ js)

-- the first job is under way: the stored state is its state after the turns had
pub data Running (q : Bytes) : List (Held Bytes) → Type 0 where
  idle : Running q []
  runs : {j : Held Bytes} {js : List (Held Bytes)} → j.turns < span_of j.kind
      → (1 ≤ j.turns → load_state q ≡ state_after (view j.kind j.n j.block) j.turns) → Waiting js → Running q (j ∷ js)

-- a quarter stands for a queue
pub record RepQueue (count : ℕ) (jobs : List (Held Bytes)) (q : Bytes) : Type 0 where
  pub len : length q ≡ quarter_length
  pub accepted : u64_at q accepted_at ≡ count % 2 ^ 64
  pub held : u64_at q held_at ≡ length jobs
  pub few : length jobs ≤ 8
  pub enough : length jobs ≤ count
  pub turns : u64_at q turns_at ≡ turns_of jobs
  pub slots : Stands q (count - length jobs) jobs
  pub running : Running q jobs

-- a board stands for a schedule
pub record Rep (σ : Schedule Bytes) (b : Bytes) : Type 0 where
  pub len : length b ≡ board_length
  pub turn : u64_at b turn_at ≡ σ.turn
  pub low : σ.turn ≤ 3
  pub each : (queue : ℕ) → queue ≤ 3 → RepQueue (σ.queues queue).count (σ.queues queue).jobs (quarter_of b queue)

-- ---- the same in two parts: what is public, which any board that passes 6 shows of some schedule, and the searches

-- the first job has turns left, and the others have had none
pub data Begun : List (Held Bytes) → Type 0 where
  none_begun : Begun []
  begun : {j : Held Bytes} {js : List (Held Bytes)} → j.turns < span_of j.kind → Waiting js → Begun (j ∷ js)

-- a quarter shows a queue
pub record ShowsQueue (count : ℕ) (jobs : List (Held Bytes)) (q : Bytes) : Type 0 where
  pub len : length q ≡ quarter_length
  pub accepted : u64_at q accepted_at ≡ count % 2 ^ 64
  pub held : u64_at q held_at ≡ length jobs
  pub few : length jobs ≤ 8
  pub enough : length jobs ≤ count
  pub turns : u64_at q turns_at ≡ turns_of jobs
  pub slots : Stands q (count - length jobs) jobs
  pub running : Begun jobs

-- a board shows a schedule
pub record Shows (σ : Schedule Bytes) (b : Bytes) : Type 0 where
  pub len : length b ≡ board_length
  pub turn : u64_at b turn_at ≡ σ.turn
  pub low : σ.turn ≤ 3
  pub each : (queue : ℕ) → queue ≤ 3 → ShowsQueue (σ.queues queue).count (σ.queues queue).jobs (quarter_of b queue)

-- the stored state is that of the first job after the turns had
pub data Searched (q : Bytes) : List (Held Bytes) → Type 0 where
  no_job : Searched q []
  searched : {j : Held Bytes} {js : List (Held Bytes)} → (1 ≤ j.turns → load_state q ≡ state_after (view j.kind j.n j.block) j.turns) → Searched q (j ∷ js)

-- a quarter stands for a queue
pub record PartedQueue (count : ℕ) (jobs : List (Held Bytes)) (q : Bytes) : Type 0 where
  pub shows : ShowsQueue count jobs q
  pub state : Searched q jobs

-- a board stands for a schedule
pub record Parted (σ : Schedule Bytes) (b : Bytes) : Type 0 where
  pub shows : Shows σ b
  pub state : (queue : ℕ) → queue ≤ 3 → Searched (quarter_of b queue) (σ.queues queue).jobs
