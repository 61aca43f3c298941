-- One call made and its line stored. Assumes nothing.
use Rattle.std.proofs.Common.{◌≡◌, ℕ, ◌+◌, Bool, true, false, cond, eqb, leb, length, sym, refl, ap, ◌∙◌, arith, eqb-true}
use Rattle.buf.specs.Bytes.{part, num_at, zeros}
use Rattle.buf.proofs.Laws.{num_at_part, length_zeros}
use Rattle.board_spec.specs.Board.{Answer, Refused, Ticket, Turned, Shown, Quoted}
use Rattle.board_spec.specs.Run.{Bytes, did, reply_by}
use Rattle.calls.specs.declared.types.Call.{Call}
use Rattle.calls.specs.Calls.{call_with, call_of, call_fits}
use Rattle.replay.specs.Replay.{ToldCall}
use Rattle.replay.proofs.CallLaws.{record_start, told_zeros}
use Rattle.call_lines.specs.Lines.{nothing_line, written_line, line_for, Line, SaidCall}

-- a line is in the first 64 bytes of the record buffer
num_start : (k : ℕ) (u v : Bytes) (i : ℕ) → leb (i + k) 64 ≡ true → part u 0 64 ≡ part v 0 64 → num_at k u (0 + i) ≡ num_at k v (0 + i)
num_start k u v i h e = sym (num_at_part k u 0 64 i h) ∙ ap (λ (t : Bytes). num_at k t i) e ∙ num_at_part k v 0 64 i h

written_start : (u v : Bytes) → part u 0 64 ≡ part v 0 64 → written_line u ≡ written_line v
unfolding written_line
written_start u v e = rw (num_start 8 u v 0 refl e, num_start 1 u v 8 refl e, num_start 1 u v 9 refl e)

line_start : (a : Answer) (u v : Bytes) → (a ≡ Turned 1 → part u 0 64 ≡ part v 0 64) → line_for a u ≡ line_for a v
unfolding line_for
line_start (Refused number) u v h = refl
line_start (Ticket ticket) u v h = refl
line_start (Turned answer) u v h = go (eqb answer 1) refl
  where
    go : (x : Bool) → eqb answer 1 ≡ x → cond x (written_line u) nothing_line ≡ cond x (written_line v) nothing_line
    go true e = written_start u v (h (ap Turned (eqb-true answer 1 e)))
    go false e = refl
line_start (Shown evaluations density) u v h = refl
line_start (Quoted turns) u v h = refl

pub call_said : (s b b' w w' r' : Bytes) (c : Call) (a : Answer) (end : ℕ) → call_fits (length s) c ≡ true → ToldCall b (zeros 256) (call_with s (part (zeros 256) 0) c) a b' r'
    → Line w (line_for a r') w' end → SaidCall b w (call_of s c) b' w' end
unfolding reply_by
call_said s b b' w w' r' c a end f h l =
    let m : ToldCall b (zeros 256) (call_of s c) a b' r' = told_zeros s c f h in
    let e : line_for a r' ≡ line_for (did b (call_of s c)).answer (did b (call_of s c)).buffer =
    line_start a r' (did b (call_of s c)).buffer (record_start m (omega (arith, length_zeros 256))) ∙ ap (λ (x : Answer). line_for x (did b (call_of s c)).buffer) m.answer in
    record { board = m.board; line = rw e at l }
