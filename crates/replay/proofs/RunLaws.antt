-- A run of calls, one after the other. Assumes nothing.
use mathlib.Core.Path.{◌≡◌, refl, sym, ap, ◌∙◌}
use Prim.Native.Nat.{ℕ, zero, suc, ◌+◌, ◌-◌, ◌*◌, ◌/◌, ◌≤◌, ◌<◌}
use mathlib.Core.Bool.{true}
use mathlib.Core.List.{List, [], ◌∷◌, map}
use native.Mathlib.Omega.{arith}
use native.Mathlib.Nat.{sub-zero, zero-add}
use lib.ListN.{length}
use borrow.Author.Tests.{eq-eqb, ne_eqb}
use Rattle.buf.specs.Bytes.{splice, zeros}
use Rattle.buf.proofs.Laws.{splice_append, splice_nil}
use Rattle.schedule.specs.Schedule.{Call}
use Rattle.board_spec.specs.Layout.{board_length}
use Rattle.board_spec.specs.Run.{Bytes, Calls, zero_board, did, board_after, reply_by, replies, Public, public_of}
use Rattle.board_spec.proofs.Runs.{public_told}
use Rattle.calls.specs.declared.types.Call as code_call
use Rattle.calls.specs.Calls.{Placed, call_at, before, calls_from, answer_bytes, answers_bytes, call_of, found_of, call_fits, found_fits}
use Rattle.calls.proofs.WriteLaws.{length_answer}
use Rattle.std.specs.Prelude.{Option, None, Some, Ok, Err}
use Rattle.replay.specs.Replay.{calls_for, replayed, replay_did, MadeCall, MadeRun}

-- ---- what is left to do where `made` calls have been made: the rest of the run gives the whole

pub record Left (s b w : Bytes) (room made at : ℕ) (b' w' : Bytes) (all : ℕ) : Type 0 where
  pub board : board_after b (calls_from (room - made) s at) ≡ b'
  pub answers : splice w (32 * made) (answers_bytes (map public_of (replies b (calls_from (room - made) s at)))) ≡ w'
  pub count : made + length (calls_from (room - made) s at) ≡ all

-- the run that is left, as a list
record Rest (b w : Bytes) (made : ℕ) (run : Calls) (b' w' : Bytes) (all : ℕ) : Type 0 where
  board : board_after b run ≡ b'
  answers : splice w (32 * made) (answers_bytes (map public_of (replies b run))) ≡ w'
  count : made + length run ≡ all

rest_of : {s b w : Bytes} {room made at : ℕ} {b' w' : Bytes} {all : ℕ} (run : Calls) → calls_from (room - made) s at ≡ run → Left s b w room made at b' w' all → Rest b w made run b' w' all
rest_of run e l = rw (← e) (record { board = l.board; answers = l.answers; count = l.count })

rest_none : (b w : Bytes) (made : ℕ) (b' w' : Bytes) (all : ℕ) → Rest b w made [] b' w' all → (b ≡ b') × (w ≡ w') × (made ≡ all)
unfolding board_after replies answers_bytes
rest_none b w made b' w' all r = (r.board, sym (splice_nil w (32 * made)) ∙ r.answers, let h : made + 0 ≡ all = r.count in omega arith)

rest_cons : (b w : Bytes) (made : ℕ) (c : Call Bytes) (run : Calls) (b₁ w₁ b' w' : Bytes) (all : ℕ) → MadeCall b w (32 * made) c b₁ w₁ → Rest b w made (c ∷ run) b' w' all → Rest b₁ w₁ (made + 1) run b' w' all
unfolding board_after replies answers_bytes
rest_cons b w made c run b₁ w₁ b' w' all m r =
    let p = public_of (reply_by (did b c)) in
    let later = answers_bytes (map public_of (replies (did b c).board run)) in
    let e : 32 * made + length (answer_bytes p) ≡ 32 * (made + 1) = omega (arith, length_answer p) in
    record {
      board = ap (λ (x : Bytes). board_after x run) m.board ∙ r.board;
      answers =
          ap (λ (x : Bytes). splice w₁ (32 * (made + 1)) (answers_bytes (map public_of (replies x run)))) m.board
          ∙ ap (λ (x : Bytes). splice x (32 * (made + 1)) later) m.answers
          ∙ sym (splice_append (answer_bytes p) later w (32 * made) ∙ ap (λ (k : ℕ). splice (splice w (32 * made) (answer_bytes p)) k later) e)
          ∙ r.answers;
      count = let h : made + suc (length run) ≡ all = r.count in omega arith;
    }

-- ---- the loop's start, its turns and its ends

-- made calls of a run on b₀ and w₀, with what is left
abbrev pub LeftOf : (s b₀ w₀ b w : Bytes) (room made at : ℕ) → Type 0
LeftOf s b₀ w₀ b w room made at =
    Left s b w room made at (board_after b₀ (calls_for s w₀)) (splice w₀ 0 (answers_bytes (map public_of (replies b₀ (calls_for s w₀))))) (length (calls_for s w₀))

pub left_start : (s b w : Bytes) (room : ℕ) → room ≡ length w / 32 → LeftOf s b w b w room 0 0
unfolding calls_for
left_start s b w room e =
    let z : room - 0 ≡ length w / 32 = sub-zero room ∙ e in
    record {
      board = ap (λ (k : ℕ). board_after b (calls_from k s 0)) z;
      answers = ap (λ (k : ℕ). splice w 0 (answers_bytes (map public_of (replies b (calls_from k s 0))))) z;
      count = zero-add (length (calls_from (room - 0) s 0)) ∙ ap (λ (k : ℕ). length (calls_from k s 0)) z;
    }

end_none : (s : Bytes) (at : ℕ) → None ≡ call_at s at → (k : ℕ) → calls_from k s at ≡ []
unfolding calls_from before
end_none s at n zero = refl
end_none s at n (suc k) = rw (← n)

module _ (s b₀ w₀ b w : Bytes) (room made at : ℕ) (l : LeftOf s b₀ w₀ b w room made at) where
  no_more : calls_from (room - made) s at ≡ [] → MadeRun b₀ w₀ (calls_for s w₀) b w made
  no_more e =
      let r = rest_none _ _ _ _ _ _ (rest_of [] e l) in
      record { board = r.0; answers = r.1; count = r.2 }

  pub left_end : (r : Option (code_call.Call × ℕ)) → r ≡ None → found_of s r ≡ call_at s at → MadeRun b₀ w₀ (calls_for s w₀) b w made
  unfolding found_of
  left_end r e f = no_more (end_none s at (rw e at f) (room - made))

  pub left_full : room ≤ made → made ≤ room → MadeRun b₀ w₀ (calls_for s w₀) b w room
  unfolding calls_from
  left_full h k =
      let z : room - made ≡ 0 = omega arith in
      let e : made ≡ room = omega arith in
      let m : MadeRun b₀ w₀ (calls_for s w₀) b w made = no_more (ap (λ (k : ℕ). calls_from k s at) z) in
      record { board = m.board; answers = m.answers; count = sym e ∙ m.count }

  pub left_step : (r : Option (code_call.Call × ℕ)) (c : code_call.Call) (next : ℕ) (b₁ w₁ : Bytes) → made < room → r ≡ Some (c, next) → found_of s r ≡ call_at s at → MadeCall b w (32 * made) (call_of s c) b₁ w₁
      → LeftOf s b₀ w₀ b₁ w₁ room (made + 1) next
  unfolding calls_from before found_of
  left_step r c next b₁ w₁ h e f m =
      let z : room - made ≡ suc (room - (made + 1)) = omega arith in
      let g : Some (record { call = call_of s c; next = next }) ≡ call_at s at = rw e at f in
      let whole : calls_from (room - made) s at ≡ call_of s c ∷ calls_from (room - (made + 1)) s next = ap (λ (k : ℕ). calls_from k s at) z ∙ ap (λ (o : Option Placed). before o (calls_from (room - (made + 1)) s)) (sym g) in
      let t = rest_cons b w made (call_of s c) (calls_from (room - (made + 1)) s next) b₁ w₁ _ _ _ m (rest_of _ whole l) in
      record { board = t.board; answers = t.answers; count = t.count }

-- what a call that was found is known to fit
pub found_fits_lem : (size : ℕ) (r : Option (code_call.Call × ℕ)) (c : code_call.Call) (next : ℕ) → r ≡ Some (c, next) → found_fits size r ≡ true → call_fits size c ≡ true
unfolding found_fits
found_fits_lem size r c next e f = rw e at f

-- ---- the whole

-- a board of another length
pub replay_bad : (b s w : Bytes) → (length b ≡ board_length → ⊥) → (Err (record {}) ≡ (replay_did b s w).answer) × (b ≡ (replay_did b s w).board) × (w ≡ (replay_did b s w).answers)
unfolding replay_did
replay_bad b s w h = simp (ne_eqb _ _ h) (refl, refl, refl)

-- from zeros the public answers are the schedule's, told by the public fields
pub replay_made : (b s w b₁ b₂ w₂ : Bytes) (made : ℕ) → length b ≡ board_length → b₁ ≡ zeros (length b) → MadeRun b₁ w (calls_for s w) b₂ w₂ made
    → (Ok made ≡ (replay_did b s w).answer) × (b₂ ≡ (replay_did b s w).board) × (w₂ ≡ (replay_did b s w).answers)
unfolding replay_did replayed zero_board
replay_made b s w b₁ b₂ w₂ made h e m =
    let z : b₁ ≡ zeros board_length = e ∙ ap zeros h in
    simp (eq-eqb _ _ h) (
      ap Ok m.count,
      m.board ∙ ap (λ (x : Bytes). board_after x (calls_for s w)) z,
      m.answers
          ∙ ap (λ (x : Bytes). splice w 0 (answers_bytes (map public_of (replies x (calls_for s w))))) z
          ∙ ap (λ (x : List Public). splice w 0 (answers_bytes x)) (public_told (calls_for s w)),
    )
