-- What passing 6 says of a quarter and of a board, number by number. Assumes nothing.
use mathlib.Core.Path.{◌≡◌, refl}
use Prim.Native.Nat.{ℕ, zero, suc, ◌+◌, ◌≤◌, ◌<◌}
use mathlib.Core.Bool.{Bool, true, false, cond}
use native.Mathlib.Omega.{arith}
use lib.ListN.{length}
use lib.Dec.{leb, ltb, eqb}
use borrow.Author.Tests.{le-leb, leb-true, lt-ltb, ltb-true, eq-eqb, ne_eqb, eqb-true, eqb-false}
use Rattle.buf.specs.Bytes.{u64_at}
use Rattle.schedule.specs.Spans.{span_of}
use Rattle.schedule.proofs.Tests.{both, left_true, right_true}
use Rattle.solver_state.specs.declared.types.State.{State}
use Rattle.stepping.specs.Stepping.{state_fits}
use Rattle.board_spec.specs.Layout.{board_length, turn_at, held_at, turns_at}
use Rattle.board_spec.specs.Quarter.{load_state, first_ticket, slot_of, first_kind, slot_fits, slots_fit, running_fits, quarter_fits}
use Rattle.board_spec.specs.Board.{quarter_of, board_fits}
use Rattle.board_spec.specs.Run.{Bytes}
use Rattle.board_spec.specs.Demand1.{Passes6}

-- ---- the slots from a ticket on

pub slots_at : (q : Bytes) (t k : ℕ) → slots_fit q t k ≡ true → (i : ℕ) → i < k → slot_fits q (slot_of (t + i)) ≡ true
unfolding slots_fit
slots_at q t zero e i h = absurd (omega arith)
slots_at q t (suc k) e zero h = let z : t + 0 ≡ t = omega arith in rw z (left_true (slot_fits q (slot_of t)) _ e)
slots_at q t (suc k) e (suc i) h = let z : t + suc i ≡ t + 1 + i = omega arith in rw z (slots_at q (t + 1) k (right_true (slot_fits q (slot_of t)) _ e) i (omega arith))

pub slots_all : (q : Bytes) (t k : ℕ) → ((i : ℕ) → i < k → slot_fits q (slot_of (t + i)) ≡ true) → slots_fit q t k ≡ true
unfolding slots_fit
slots_all q t zero f = refl
slots_all q t (suc k) f =
    let z : t + 0 ≡ t = omega arith in
    let first : slot_fits q (slot_of t) ≡ true = rw z at (f 0 (omega arith)) in
    both _ _ first (slots_all q (t + 1) k (λ i h. (let w : t + suc i ≡ t + 1 + i = omega arith in rw w at (f (suc i) (omega arith)))))

-- ---- a quarter

-- the same kind and the same state
pub state_fits_same : {kind k : ℕ} {s t : State} → kind ≡ k → s ≡ t → state_fits k t ≡ true → state_fits kind s ≡ true
state_fits_same e f h = rw (e, f) h

-- the first job has had a turn
pub record UnderWay (q : Bytes) : Type 0 where
  pub held : 1 ≤ u64_at q held_at
  pub below : u64_at q turns_at < span_of (first_kind q)
  pub state : state_fits (first_kind q) (load_state q) ≡ true

pub record Tested (q : Bytes) : Type 0 where
  pub few : u64_at q held_at ≤ 8
  pub slots : slots_fit q (first_ticket q) (u64_at q held_at) ≡ true
  pub running : 1 ≤ u64_at q turns_at → UnderWay q

under_way : (q : Bytes) → running_fits q ≡ true → UnderWay q
unfolding running_fits
under_way q e =
    let f = right_true (leb 1 (u64_at q held_at)) _ e in
    record {
      held = leb-true 1 (u64_at q held_at) (left_true (leb 1 (u64_at q held_at)) _ e);
      below = ltb-true (u64_at q turns_at) (span_of (first_kind q)) (left_true (ltb (u64_at q turns_at) (span_of (first_kind q))) _ f);
      state = right_true (ltb (u64_at q turns_at) (span_of (first_kind q))) _ f;
    }

running_fits_lem : (q : Bytes) → UnderWay q → running_fits q ≡ true
unfolding running_fits
running_fits_lem q w = both _ _ (le-leb _ _ w.held) (both _ _ (lt-ltb _ _ w.below) w.state)

pub quarter_tested : (q : Bytes) → quarter_fits q ≡ true → Tested q
unfolding quarter_fits
quarter_tested q e =
    let f = right_true (leb (u64_at q held_at) 8) _ e in
    let g = right_true (slots_fit q (first_ticket q) (u64_at q held_at)) _ f in
    record {
      few = leb-true (u64_at q held_at) 8 (left_true (leb (u64_at q held_at) 8) _ e);
      slots = left_true (slots_fit q (first_ticket q) (u64_at q held_at)) _ f;
      running = λ h. under_way q (rw (ne_eqb (u64_at q turns_at) 0 (λ z. omega arith)) at g);
    }

pub tested_quarter : (q : Bytes) → Tested q → quarter_fits q ≡ true
unfolding quarter_fits
tested_quarter q t = both _ _ (le-leb _ _ t.few) (both _ _ t.slots (go (eqb (u64_at q turns_at) 0) refl))
  where
    go : (b : Bool) → eqb (u64_at q turns_at) 0 ≡ b → cond b true (running_fits q) ≡ true
    go true e = refl
    go false e = let n = eqb-false (u64_at q turns_at) 0 e in running_fits_lem q (t.running (omega arith))

-- ---- a board

pub board_tested : (b : Bytes) → board_fits b ≡ true → Passes6 b
unfolding board_fits
board_tested b e =
    let f = right_true (eqb (length b) board_length) _ e in
    let low = ltb-true (u64_at b turn_at) 4 (left_true (ltb (u64_at b turn_at) 4) _ f) in
    let g = right_true (ltb (u64_at b turn_at) 4) _ f in
    let g₁ = right_true (fits 0) _ g in
    let g₂ = right_true (fits 1) _ g₁ in
    record {
      length_is = eqb-true (length b) board_length (left_true (eqb (length b) board_length) _ e);
      turn_inside = omega arith;
      quarters_inside = one (left_true (fits 0) _ g) (left_true (fits 1) _ g₁) (left_true (fits 2) _ g₂) (right_true (fits 2) _ g₂);
    }
  where
    fits : ℕ → Bool
    fits queue = quarter_fits (quarter_of b queue)

    one : fits 0 ≡ true → fits 1 ≡ true → fits 2 ≡ true → fits 3 ≡ true → (queue : ℕ) → queue ≤ 3 → fits queue ≡ true
    one e₀ e₁ e₂ e₃ zero h = e₀
    one e₀ e₁ e₂ e₃ (suc zero) h = e₁
    one e₀ e₁ e₂ e₃ (suc (suc zero)) h = e₂
    one e₀ e₁ e₂ e₃ (suc (suc (suc zero))) h = e₃
    one e₀ e₁ e₂ e₃ (suc (suc (suc (suc n)))) h = absurd (omega arith)

pub tested_board : (b : Bytes) → Passes6 b → board_fits b ≡ true
unfolding board_fits
tested_board b t =
    let low : u64_at b turn_at < 4 = omega (arith, t.turn_inside) in
    let q = t.quarters_inside in
    both _ _ (eq-eqb _ _ t.length_is) (both _ _ (lt-ltb _ _ low) (both _ _ (q 0 (omega arith)) (both _ _ (q 1 (omega arith)) (both _ _ (q 2 (omega arith)) (q 3 (omega arith))))))
