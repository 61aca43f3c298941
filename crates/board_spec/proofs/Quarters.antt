-- What is read of any quarter of the right length after a job is added, after a turn that the job stays for, and after its place is freed. Assumes nothing.
use mathlib.Core.Path.{◌≡◌, refl, ◌∙◌}
use Prim.Native.Nat.{ℕ, ◌+◌, ◌-◌, ◌%◌, ◌^◌, ◌<◌}
use mathlib.Core.Bool.{true}
use native.Mathlib.Omega.{arith}
use lib.ListN.{length}
use lib.Dec.{leb}
use borrow.Author.Tests.{le-leb, leb-true}
use Rattle.buf.specs.Bytes.{part, num_at, u64_at, put_u64}
use Rattle.buf.proofs.Laws.{length_put_num, num_at_lt, get_put_same, get_put_before, get_put_after}
use Rattle.schedule.specs.Spans.{kind_fits, count_fits}
use Rattle.schedule.proofs.Tests.{right_true, count_within}
use Rattle.solver_state.specs.declared.types.State.{State}
use Rattle.stepping.specs.States.{Request}
use Rattle.stepping.specs.Storable.{Storable}
use Rattle.board_spec.specs.Layout.{quarter_length, accepted_at, held_at, turns_at, kind_at, count_at, block_at}
use Rattle.board_spec.specs.Quarter.{load_counters, load_values, load_state, store_counters, store_values, store_state, slot_of, put_job, submit_quarter, freed_quarter}
use Rattle.board_spec.specs.Run.{Bytes}
use Rattle.board_spec.proofs.Bytes.{length_state, state_back, num_head, state_head, SameSlot, slot_tail, tail_put, tail_state, length_job, head_job, kind_put, count_put, block_put, slot_other}

pub slot_low : (t : ℕ) → t % 8 < 8
slot_low t = omega arith

ticket_low : (x : ℕ) → x % 2 ^ 64 < 2 ^ 64
ticket_low x = omega arith

kind_low : (kind : ℕ) → kind_fits kind ≡ true → kind < 2 ^ 64
kind_low kind e = let h = leb-true kind 9 (right_true (leb 1 kind) (leb kind 9) e) in omega arith

count_low : (kind n : ℕ) → count_fits kind n ≡ true → n < 2 ^ 64
count_low kind n e = let h = count_within kind n e in omega arith

-- the quarter p after q was given another job
pub record Added (p q : Bytes) (kind n : ℕ) (block : Bytes) : Type 0 where
  pub len : length p ≡ quarter_length
  pub accepted : u64_at p accepted_at ≡ (u64_at q accepted_at + 1) % 2 ^ 64
  pub held : u64_at p held_at ≡ u64_at q held_at + 1
  pub turns : u64_at p turns_at ≡ u64_at q turns_at
  pub state : load_state p ≡ load_state q
  -- it stands in the slot of its ticket, and the other slots are as they were
  pub new_kind : u64_at p (kind_at (slot_of (u64_at q accepted_at))) ≡ kind
  pub new_n : u64_at p (count_at (slot_of (u64_at q accepted_at))) ≡ n
  pub new_block : part p (block_at (slot_of (u64_at q accepted_at))) 640 ≡ block
  pub others : (s : ℕ) → s < 8 → (s ≡ slot_of (u64_at q accepted_at) → ⊥) → SameSlot p q s

-- after one turn more, with this state stored
pub record Kept (p q : Bytes) (s : State) : Type 0 where
  pub len : length p ≡ quarter_length
  pub accepted : u64_at p accepted_at ≡ u64_at q accepted_at
  pub held : u64_at p held_at ≡ u64_at q held_at
  pub turns : u64_at p turns_at ≡ u64_at q turns_at + 1
  pub slots : part p 128 6016 ≡ part q 128 6016
  pub state : load_state p ≡ s

-- after its first job has left
pub record Freed (p q : Bytes) : Type 0 where
  pub len : length p ≡ quarter_length
  pub accepted : u64_at p accepted_at ≡ u64_at q accepted_at
  pub held : u64_at p held_at ≡ u64_at q held_at - 1
  pub turns : u64_at p turns_at ≡ 0
  pub slots : part p 128 6016 ≡ part q 128 6016

module _ (q : Bytes) (l : length q ≡ quarter_length) where
  module _ (kind n : ℕ) (block : Bytes) (ok : Request kind n block) (room : u64_at q held_at < 8) where
    abbrev slot : ℕ
    slot = slot_of (u64_at q accepted_at)

    abbrev put_in : Bytes
    put_in = put_job q slot kind n block

    abbrev counted : Bytes
    counted = put_u64 put_in accepted_at ((u64_at q accepted_at + 1) % 2 ^ 64)

    abbrev filled : Bytes
    filled = put_u64 counted held_at (u64_at q held_at + 1)

    slot_fits_lem : slot < 8
    slot_fits_lem = slot_low (u64_at q accepted_at)

    length_put : length put_in ≡ quarter_length
    length_put = length_job q slot kind n block ∙ l

    length_counted : length counted ≡ quarter_length
    length_counted = length_put_num 8 put_in accepted_at _ ∙ length_put

    -- the slots are those after the job is put in
    in_slot : (s : ℕ) → s < 8 → SameSlot filled put_in s
    in_slot = slot_tail filled put_in (tail_put counted held_at _ refl ∙ tail_put put_in accepted_at _ refl)

    state_filled : load_state filled ≡ load_state q
    unfolding load_state load_counters load_values
    state_filled = simp get_put_after (state_head put_in q (head_job q slot kind n block))

    added_others : (s : ℕ) → s < 8 → (s ≡ slot → ⊥) → SameSlot filled q s
    added_others s h apart =
        let a = in_slot s h in
        let b = slot_other q slot kind n block ok.block_fits slot_fits_lem s h apart in
        record { kind = a.kind ∙ b.kind; n = a.n ∙ b.n; block = a.block ∙ b.block }

    pub added : Added (submit_quarter q kind n block) q kind n block
    unfolding submit_quarter
    added =
        let small : u64_at q held_at + 1 < 2 ^ 64 = omega arith in
        let a = in_slot slot slot_fits_lem in
        record {
          len = length_put_num 8 counted held_at _ ∙ length_counted;
          accepted =
              get_put_before 8 8 counted held_at _ accepted_at refl
              ∙ get_put_same 8 put_in accepted_at _ (le-leb (accepted_at + 8) (length put_in) (rw length_put (omega arith))) (ticket_low (u64_at q accepted_at + 1));
          held = get_put_same 8 counted held_at _ (le-leb (held_at + 8) (length counted) (rw length_counted (omega arith))) small;
          turns =
              get_put_after 8 8 counted held_at _ turns_at refl ∙ get_put_after 8 8 put_in accepted_at _ turns_at refl ∙ num_head put_in q (head_job q slot kind n block) turns_at refl;
          state = state_filled;
          new_kind = a.kind ∙ kind_put q slot kind n block l slot_fits_lem (kind_low kind ok.fit_kind);
          new_n = a.n ∙ count_put q slot kind n block l slot_fits_lem (count_low kind n ok.fit_count);
          new_block = a.block ∙ block_put q slot kind n block l slot_fits_lem ok.block_fits;
          others = added_others;
        }

  head_state : (p : Bytes) (s : State) → (num_at 8 (store_state p s) 0 ≡ num_at 8 p 0) × (num_at 8 (store_state p s) 8 ≡ num_at 8 p 8) × (num_at 8 (store_state p s) 16 ≡ num_at 8 p 16)
  unfolding store_state store_values store_counters
  head_state p s = (simp get_put_before, simp get_put_before, simp get_put_before)

  pub kept : (s : State) → u64_at q turns_at + 1 < 2 ^ 64 → Storable s → Kept (store_state (put_u64 q turns_at (u64_at q turns_at + 1)) s) q s
  kept s small st =
      let q₁ = put_u64 q turns_at (u64_at q turns_at + 1) in
      let l₁ : length q₁ ≡ quarter_length = length_put_num 8 q turns_at _ ∙ l in
      let h = head_state q₁ s in
      record {
        len = length_state q₁ s ∙ l₁;
        accepted = h.0 ∙ get_put_before 8 8 q turns_at _ accepted_at refl;
        held = h.1 ∙ get_put_before 8 8 q turns_at _ held_at refl;
        turns = h.2 ∙ get_put_same 8 q turns_at _ (le-leb (turns_at + 8) (length q) (rw l (omega arith))) small;
        slots = tail_state q₁ s ∙ tail_put q turns_at _ refl;
        state = state_back q₁ s l₁ st;
      }

  pub freed : Freed (freed_quarter q) q
  unfolding freed_quarter
  freed =
      let low : u64_at q held_at < 2 ^ 64 = num_at_lt 8 q held_at in
      let small : u64_at q held_at - 1 < 2 ^ 64 = omega arith in
      let q₁ = put_u64 q held_at (u64_at q held_at - 1) in
      let l₁ : length q₁ ≡ quarter_length = length_put_num 8 q held_at _ ∙ l in
      record {
        len = length_put_num 8 q₁ turns_at 0 ∙ l₁;
        accepted = get_put_before 8 8 q₁ turns_at 0 accepted_at refl ∙ get_put_before 8 8 q held_at _ accepted_at refl;
        held = get_put_before 8 8 q₁ turns_at 0 held_at refl ∙ get_put_same 8 q held_at _ (le-leb (held_at + 8) (length q) (rw l (omega arith))) small;
        turns = get_put_same 8 q₁ turns_at 0 (le-leb (turns_at + 8) (length q₁) (rw l₁ (omega arith))) (omega arith);
        slots = tail_put q₁ turns_at 0 refl ∙ tail_put q held_at _ refl;
      }
