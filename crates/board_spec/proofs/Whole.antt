-- A board stands for a schedule whole where it does so in two parts, and the other way round; the laws of the simulation over boards that stand for a schedule.
use mathlib.Core.Path.{◌≡◌}
use Prim.Native.Nat.{ℕ, ◌≤◌}
use mathlib.Core.List.{List, [], ◌∷◌}
use mathlib.Core.Bool.{true}
use lib.ListN.{length}
use Rattle.schedule.specs.Schedule.{Held, Schedule, Call, accept, turn_verdict, Happened, happens, fresh}
use Rattle.board_spec.specs.Board.{Did, quarter_of, board_fits, submit_board, turn_board}
use Rattle.board_spec.specs.Run.{Bytes, did, zero_board, reply_by, buffer_of, reply_of}
use Rattle.board_spec.specs.Rep.{Running, idle, runs, RepQueue, Rep, Begun, none_begun, begun, ShowsQueue, Shows, Searched, no_job, searched, PartedQueue, Parted}
use Rattle.board_spec.proofs.Sim.{parted_fits, zero_parted, parted_simulates, parted_turn_others, parted_submit_others}

running_begun : {q : Bytes} {js : List (Held Bytes)} → Running q js → Begun js
running_begun idle = none_begun
running_begun (runs h s w) = begun h w

running_searched : {q : Bytes} {js : List (Held Bytes)} → Running q js → Searched q js
running_searched idle = no_job
running_searched (runs h s w) = searched s

begun_runs : {q : Bytes} {js : List (Held Bytes)} → Begun js → Searched q js → Running q js
begun_runs none_begun s = idle
begun_runs (begun h w) (searched s) = runs h s w

queue_parted : {c : ℕ} {js : List (Held Bytes)} {q : Bytes} → RepQueue c js q → PartedQueue c js q
queue_parted r =
    record {
      shows = record { len = r.len; accepted = r.accepted; held = r.held; few = r.few; enough = r.enough; turns = r.turns; slots = r.slots; running = running_begun r.running };
      state = running_searched r.running;
    }

queue_whole : {c : ℕ} {js : List (Held Bytes)} {q : Bytes} → ShowsQueue c js q → Searched q js → RepQueue c js q
queue_whole s t =
    record { len = s.len; accepted = s.accepted; held = s.held; few = s.few; enough = s.enough; turns = s.turns; slots = s.slots; running = begun_runs s.running t }

pub rep_parted : {σ : Schedule Bytes} {b : Bytes} → Rep σ b → Parted σ b
rep_parted r =
    record {
      shows = record { len = r.len; turn = r.turn; low = r.low; each = λ q h. (queue_parted (r.each q h)).shows };
      state = λ q h. (queue_parted (r.each q h)).state;
    }

pub parted_rep : {σ : Schedule Bytes} {b : Bytes} → Parted σ b → Rep σ b
parted_rep p = record { len = p.shows.len; turn = p.shows.turn; low = p.shows.low; each = λ q h. queue_whole (p.shows.each q h) (p.state q h) }

-- ---- the simulation

pub rep_fits : (σ : Schedule Bytes) (b : Bytes) → Rep σ b → board_fits b ≡ true
rep_fits σ b r = parted_fits σ b (rep_parted r)

pub zero_rep : Rep fresh zero_board
zero_rep = parted_rep zero_parted

pub record Simulates (d : Did) (buffer : Bytes) (h : Happened Bytes) : Type 0 where
  pub reply : reply_by d ≡ reply_of buffer h.event
  pub rep : Rep h.after d.board

module _ (σ : Schedule Bytes) (b : Bytes) (r : Rep σ b) where
  pub simulates : (c : Call Bytes) → Simulates (did b c) (buffer_of c) (happens length σ c)
  simulates c = let s = parted_simulates σ b (rep_parted r) c in record { reply = s.reply; rep = parted_rep s.rep }

  pub turn_others : (buffer : Bytes) → turn_verdict (length buffer) ≡ accept → (q : ℕ) → q ≤ 3 → (q ≡ σ.turn → ⊥) → quarter_of (turn_board b buffer).board q ≡ quarter_of b q
  turn_others = parted_turn_others σ b (rep_parted r)

  pub submit_others : (queue kind n : ℕ) (block : Bytes) (q : ℕ) → (q ≡ queue → ⊥) → quarter_of (submit_board b queue kind n block).board q ≡ quarter_of b q
  submit_others = parted_submit_others σ b (rep_parted r)
