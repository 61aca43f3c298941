-- One call made, its record buffer the start of a longer one, and its answer written. Assumes nothing.
use mathlib.Core.Path.{◌≡◌, refl, sym, ap, ◌∙◌}
use Prim.Native.Nat.{ℕ, ◌+◌, ◌-◌, ◌≤◌, ◌<◌}
use mathlib.Core.Bool.{Bool, true, false, cond}
use mathlib.Core.List.{[], ◌++◌, append-nil}
use native.Mathlib.Omega.{arith}
use lib.ListN.{length, take, drop, length-drop, take-append-drop, drop_of_length-le}
use lib.Seq.{sets-eq, take_all, length-take-le}
use lib.Dec.{leb, eqb}
use borrow.Author.Tests.{leb-true, eqb-true}
use Rattle.buf.specs.Bytes.{part, splice, u64_at, zeros}
use Rattle.buf.proofs.Laws.{length_splice, length_part, length_zeros, part_zeros, part_part, part_splice_before, part_splice_same, splice_append, splice_nil, lent, lent_part}
use Rattle.schedule.specs.Spans.{span_of}
use Rattle.schedule.specs.Schedule.{Call, Submit, Turn, Look, Quote, Verdict, accept, refuse, check, turn_verdict}
use Rattle.schedule.proofs.Tests.{check_ok, check_next}
use Rattle.board_spec.specs.Layout.{held_at, turns_at}
use Rattle.board_spec.specs.Quarter.{first_kind, DidQuarter, turn_quarter}
use Rattle.board_spec.specs.Board.{Answer, Refused, Ticket, Turned, Shown, Quoted, refused_did, board_fits, submit_judged, submit_board, turn_did, turn_judged, turn_board, look_judged, look_board, quote_judged, quote_board}
use Rattle.board_spec.specs.Run.{Bytes, did, buffer_of, reply_by, Public, turning, public_of}
use Rattle.board_spec.proofs.Runs.{look_unchanged}
use Rattle.calls.specs.declared.types.Call as code_call
use Rattle.calls.specs.Calls.{answer_bytes, call_with, call_of, call_fits}
use Rattle.replay.specs.Replay.{ToldCall, MadeCall}

-- ---- lists

-- as many elements over the whole
pub splice_whole : (s v : Bytes) → length v ≡ length s → splice s 0 v ≡ v
unfolding splice
splice_whole s v e =
    let h : length s ≤ 0 + length v = omega arith in
    sets-eq v s 0 (omega arith) ∙ ap (λ (t : Bytes). v ++ t) (drop_of_length-le s h) ∙ append-nil v

-- the start of what is stored
part_start : (s v : Bytes) (n : ℕ) → n ≤ length s → n ≤ length v → part (splice s 0 v) 0 n ≡ part v 0 n
unfolding part
part_start s v n h k =
    let l : length (part v 0 n) ≡ n = length_part v 0 n (omega arith) in
    ap (λ (t : Bytes). part (splice s 0 t) 0 n) (sym (take-append-drop n v))
    ∙ ap (λ (t : Bytes). part t 0 n) (splice_append (part v 0 n) (drop n v) s 0)
    ∙ part_splice_before (splice s 0 (part v 0 n)) (0 + length (part v 0 n)) (drop n v) 0 n (omega arith)
    ∙ part_splice_same s 0 (part v 0 n) n l (omega arith)

-- a part as far as there is one
pub part_none : (s : Bytes) (from l : ℕ) → length s ≤ from → take 0 s ≡ part s from l
unfolding part
part_none s from l h = sym (ap (take l) (drop_of_length-le s h) ∙ take_all l [] (omega arith))

pub part_rest : (s : Bytes) (from l : ℕ) → from < length s → length s - from < l → take (length s - from) (drop from s) ≡ part s from l
unfolding part
part_rest s from l h k =
    let e : length (drop from s) ≡ length s - from = length-drop from s in
    take_all (length s - from) (drop from s) (omega arith) ∙ sym (take_all l (drop from s) (omega arith))

pub part_whole : (s : Bytes) (from l : ℕ) → take (from + l - from) (drop from s) ≡ part s from l
part_whole s from l = lent_part s from (from + l - from) l (omega arith)

-- ---- a record that was written

-- a turn keeps its buffer's length
either : (x : Bool) (a b : DidQuarter) (n : ℕ) → length a.buffer ≡ n → length b.buffer ≡ n → length (cond x a b).buffer ≡ n
either true a b n ea eb = ea
either false a b n ea eb = eb

buffer_kept : (queue : ℕ) (q buffer : Bytes) → length (turn_quarter queue q buffer).buffer ≡ length buffer
unfolding turn_quarter
buffer_kept queue q buffer = either (eqb (u64_at q held_at) 0) _ _ _ refl (either (eqb (u64_at q turns_at + 1) (span_of (first_kind q))) _ _ _ (length_splice buffer 0 _) refl)

turn_room : (b buffer : Bytes) (v : Verdict) → check (board_fits b) 6 (turn_verdict (length buffer)) ≡ v → (turn_judged b buffer v).answer ≡ Turned 1 → 64 ≤ length (turn_judged b buffer v).buffer
unfolding turn_judged turn_did refused_did turn_verdict
turn_room b buffer accept e a =
    let h : 64 ≤ length buffer = leb-true 64 (length buffer) (check_ok (leb 64 (length buffer)) 5 accept (check_next (board_fits b) 6 _ e)) in
    rw buffer_kept h
turn_room b buffer (refuse number) e a = let z : ◌≡◌ {A = ℕ} 0 1 = cc in absurd (omega arith)

submit_never : (b : Bytes) (queue kind n : ℕ) (block : Bytes) (v : Verdict) → (submit_judged b queue kind n block v).answer ≡ Turned 1 → ⊥
unfolding submit_judged refused_did
submit_never b queue kind n block accept e = let z : ◌≡◌ {A = ℕ} 0 1 = cc in omega arith
submit_never b queue kind n block (refuse number) e = let z : ◌≡◌ {A = ℕ} 0 1 = cc in omega arith

look_never : (b : Bytes) (queue : ℕ) (v : Verdict) → (look_judged b queue v).answer ≡ Turned 1 → ⊥
unfolding look_judged refused_did
look_never b queue accept e = let z : ◌≡◌ {A = ℕ} 0 1 = cc in omega arith
look_never b queue (refuse number) e = let z : ◌≡◌ {A = ℕ} 0 1 = cc in omega arith

quote_never : (b : Bytes) (queue kind : ℕ) (v : Verdict) → (quote_judged b queue kind v).answer ≡ Turned 1 → ⊥
unfolding quote_judged refused_did
quote_never b queue kind accept e = let z : ◌≡◌ {A = ℕ} 0 1 = cc in omega arith
quote_never b queue kind (refuse number) e = let z : ◌≡◌ {A = ℕ} 0 1 = cc in omega arith

-- it is in a buffer of 64 bytes or more
record_room : (b : Bytes) (c : Call Bytes) → (did b c).answer ≡ Turned 1 → 64 ≤ length (did b c).buffer
unfolding did submit_board turn_board look_board quote_board
record_room b (Submit queue kind n block) e = absurd (submit_never b queue kind n block _ e)
record_room b (Turn buffer) e = turn_room b buffer _ refl e
record_room b (Look queue) e = absurd (look_never b queue _ e)
record_room b (Quote queue kind) e = absurd (quote_never b queue kind _ e)

-- and starts the longer buffer too
pub record_start : {b r : Bytes} {c : Call Bytes} {a : Answer} {b' r' : Bytes} → ToldCall b r c a b' r' → 64 ≤ length r → a ≡ Turned 1 → part r' 0 64 ≡ part (did b c).buffer 0 64
record_start {b} {r} {c} t h e = ap (λ (x : Bytes). part x 0 64) t.buffer ∙ part_start r (did b c).buffer 64 h (record_room b c (sym t.answer ∙ e))

-- ---- the ways in which a call is made

-- a submit and a look have no record buffer
submit_none : (b : Bytes) (queue kind n : ℕ) (block : Bytes) (v : Verdict) → [] ≡ (submit_judged b queue kind n block v).buffer
unfolding submit_judged refused_did
submit_none b queue kind n block accept = refl
submit_none b queue kind n block (refuse number) = refl

submit_buffer : (b : Bytes) (queue kind n : ℕ) (block : Bytes) → [] ≡ (submit_board b queue kind n block).buffer
unfolding submit_board
submit_buffer b queue kind n block = submit_none b queue kind n block _

module _ (s : Bytes) (c : code_call.Call) (b r : Bytes) (a : Answer) where
  pub submit_told : (queue kind n from l : ℕ) (b' block : Bytes) → c ≡ code_call.TheVariants.Submit queue kind n from l → block ≡ part s from l
      → a ≡ (submit_board b queue kind n block).answer → b' ≡ (submit_board b queue kind n block).board → ToldCall b r (call_with s (part r 0) c) a b' r
  unfolding call_with did
  submit_told queue kind n from l b' block e p ea eb =
      rw (e, ← p) (record { answer = ea; board = eb; buffer = sym (splice_nil r 0) ∙ ap (splice r 0) (submit_buffer b queue kind n block) })

  pub turn_told : (l : ℕ) (b' r' : Bytes) → c ≡ code_call.TheVariants.Turn l → ToldCall b r (Turn (part r 0 l)) a b' r' → ToldCall b r (call_with s (part r 0) c) a b' r'
  unfolding call_with
  turn_told l b' r' e h = rw e h

  pub look_told : (queue : ℕ) → c ≡ code_call.TheVariants.Look queue → a ≡ (look_board b queue).answer → ToldCall b r (call_with s (part r 0) c) a b r
  unfolding call_with did buffer_of
  look_told queue e ea =
      rw e (record { answer = ea; board = sym (look_unchanged b queue).board; buffer = sym (splice_nil r 0) ∙ ap (splice r 0) (sym (look_unchanged b queue).buffer) })

-- a turn with all of a buffer, and with its start
module _ (b r : Bytes) (l : ℕ) (a : Answer) (b' : Bytes) where
  pub turn_all : (r' : Bytes) → length r < l → length r' ≡ length r → a ≡ (turn_board b r).answer → b' ≡ (turn_board b r).board → r' ≡ (turn_board b r).buffer
      → ToldCall b r (Turn (part r 0 l)) a b' r'
  unfolding did part
  turn_all r' h k ea eb er =
      let z : length r ≤ l = omega arith in
      rw (take_all l r z) (record { answer = ea; board = eb; buffer = sym (splice_whole r r' k) ∙ ap (splice r 0) er })

  pub turn_start : (v : Bytes) → l ≤ length r → length v ≡ length (take l r) → a ≡ (turn_board b (take l r)).answer → b' ≡ (turn_board b (take l r)).board → v ≡ (turn_board b (take l r)).buffer
      → ToldCall b r (Turn (part r 0 l)) a b' (v ++ drop l r)
  unfolding did part
  turn_start v h k ea eb ev =
      let n : length v ≡ l = k ∙ length-take-le l r h in
      record { answer = ea; board = eb; buffer = lent r v 0 l n (omega arith) ∙ ap (splice r 0) ev }

-- ---- the call as it stands in the bytes, with a buffer of zeros

call_zeros : (s : Bytes) (c : code_call.Call) → call_fits (length s) c ≡ true → call_with s (part (zeros 256) 0) c ≡ call_of s c
unfolding call_with call_fits
call_zeros s (code_call.TheVariants.Submit queue kind n from l) h = refl
call_zeros s (code_call.TheVariants.Turn l) h = ap Turn (let k : l ≤ 256 = leb-true l 256 h in part_zeros 256 0 l (omega arith))
call_zeros s (code_call.TheVariants.Look queue) h = refl

pub told_zeros : (s : Bytes) (c : code_call.Call) {b b' r' : Bytes} {a : Answer} → call_fits (length s) c ≡ true → ToldCall b (zeros 256) (call_with s (part (zeros 256) 0) c) a b' r'
    → ToldCall b (zeros 256) (call_of s c) a b' r'
told_zeros s c h t = rw (call_zeros s c h) at t

-- the public part is in the first 64 bytes
public_start : (a : Answer) (u v : Bytes) → (a ≡ Turned 1 → part u 0 64 ≡ part v 0 64) → public_of (record { answer = a; buffer = u }) ≡ public_of (record { answer = a; buffer = v })
unfolding public_of
public_start (Refused number) u v h = refl
public_start (Ticket ticket) u v h = refl
public_start (Turned answer) u v h = go (eqb answer 1) refl
  where
    go : (x : Bool) → eqb answer 1 ≡ x → turning answer (cond x (part u 0 16) []) ≡ turning answer (cond x (part v 0 16) [])
    go true e = ap (turning answer) (sym (part_part u 0 64 0 16 (omega arith)) ∙ ap (λ (t : Bytes). part t 0 16) (h (ap Turned (eqb-true answer 1 e))) ∙ part_part v 0 64 0 16 (omega arith))
    go false e = refl
public_start (Shown evaluations density) u v h = refl
public_start (Quoted turns) u v h = refl

pub call_made : (s b b' w w' r' : Bytes) (at : ℕ) (c : code_call.Call) (a : Answer) → call_fits (length s) c ≡ true → ToldCall b (zeros 256) (call_with s (part (zeros 256) 0) c) a b' r'
    → w' ≡ splice w at (answer_bytes (public_of (record { answer = a; buffer = r' }))) → MadeCall b w at (call_of s c) b' w'
unfolding reply_by
call_made s b b' w w' r' at c a f h e =
    let m : ToldCall b (zeros 256) (call_of s c) a b' r' = told_zeros s c f h in
    record {
      board = m.board;
      answers =
          e
          ∙ ap (λ (p : Public). splice w at (answer_bytes p)) (public_start a r' (did b (call_of s c)).buffer (record_start m (omega (arith, length_zeros 256))))
          ∙ ap (λ (x : Answer). splice w at (answer_bytes (public_of (record { answer = x; buffer = (did b (call_of s c)).buffer })))) m.answer;
    }
