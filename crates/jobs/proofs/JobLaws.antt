-- A job's run on a cleared board, and the line of its record. Assumes nothing.
use mathlib.Core.Path.{◌≡◌, refl, sym, ap, ◌∙◌}
use Prim.Native.Nat.{ℕ, ◌+◌, ◌-◌, ◌*◌, ◌≤◌}
use mathlib.Core.Bool.{Bool, true, false}
use mathlib.Core.List.{List}
use native.Mathlib.Omega.{arith}
use lib.ListN.{length, get_or, take, drop, length-append}
use lib.Dec.{leb, ltb, eqb}
use borrow.Author.Tests.{eqb-true, eqb-false}
use Rattle.buf.specs.Bytes.{part, zeros, splice}
use Rattle.buf.proofs.Laws.{length_zeros}
use Rattle.records.specs.Record.{sealed_of}
use Rattle.records.proofs.RecordLaws.{length_public, length_sealed}
use Rattle.schedule.specs.Spans.{kind_fits, count_fits, span_of}
use Rattle.schedule.specs.Schedule.{Verdict, accept, refuse, check, submit_verdict}
use Rattle.schedule.proofs.Tests.{span_within}
use Rattle.board_spec.specs.Layout.{board_length}
use Rattle.board_spec.specs.Board.{Answer, Refused, Ticket, Turned, submit_board, turn_board}
use Rattle.board_spec.specs.Run.{Bytes, zero_board, record_of}
use Rattle.text.specs.Line.{newline, number_text, line_of}
use Rattle.std.specs.Prelude.{Result, Ok, Err}
use Rattle.std.specs.Result.{result_unwrap_or}
use Rattle.board.specs.declared.types.Refusal.{Refusal}
use Rattle.board.specs.declared.types.Refusal.TheVariants.{BadQueue, BadKind, BadCount, Full, ShortRecord, BadBoard, NotRunning, BadBlockLength}
use Rattle.board.specs.Answers.{refusal_number, submitted_of, turned_of}
use Rattle.replay.proofs.CallLaws.{splice_whole}
use Rattle.jobs.specs.Line.{record_for, line_by, verdict_of, reply_of, refusal_by, record_by}
use Rattle.jobs.proofs.Alone.{Alone, submit_refused, submit_accepted, Again, Last, turn_again, turn_last}

-- ---- the submit

-- no refusal is 0
check_number : (ok : Bool) (number m : ℕ) (next : Verdict) → check ok number next ≡ refuse m → (number ≡ 0 → ⊥) → (next ≡ refuse m → m ≡ 0 → ⊥) → m ≡ 0 → ⊥
check_number true number m next e a f = f e
check_number false number m next e a f = λ z. a (cc)

never_zero : (kind n : ℕ) (block : Bytes) (m : ℕ) → verdict_of kind n block ≡ refuse m → m ≡ 0 → ⊥
unfolding verdict_of submit_verdict
never_zero kind n block m e =
    check_number (leb 0 3) 1 m _ e (λ z. omega arith)
    (λ e₂. check_number (kind_fits kind) 2 m _ e₂ (λ z. omega arith)
    (λ e₃. check_number (count_fits kind n) 3 m _ e₃ (λ z. omega arith)
    (λ e₈. check_number (eqb (length block) 640) 8 m _ e₈ (λ z. omega arith)
    (λ e₄. check_number (ltb 0 8) 4 m accept e₄ (λ z. omega arith) (λ x. let z : ◌≡◌ {A = ℕ} 0 1 = cc in absurd (omega arith))))))

-- nor a refusal's
pub refusal_some : (e : Refusal) → refusal_number e ≡ 0 → ⊥
unfolding refusal_number
refusal_some BadQueue z = omega arith
refusal_some BadKind z = omega arith
refusal_some BadCount z = omega arith
refusal_some Full z = omega arith
refusal_some ShortRecord z = omega arith
refusal_some BadBoard z = omega arith
refusal_some NotRunning z = omega arith
refusal_some BadBlockLength z = omega arith

refused_is : (m k : ℕ) → Refused m ≡ Refused k → m ≡ k
refused_is m k e = cc

-- what is known after a submit to the cleared board
module _ (kind n : ℕ) (block b₁ b₂ : Bytes) (m : ℕ) (r : Result ℕ Refusal) (lm : m ≡ board_length) (cleared : b₁ ≡ zeros m) (ea : submitted_of r ≡ (submit_board b₁ 0 kind n block).answer)
    (eb : b₂ ≡ (submit_board b₁ 0 kind n block).board) where
  fresh_board : b₁ ≡ zero_board
  unfolding zero_board
  fresh_board = cleared ∙ ap zeros lm

  answer_is : submitted_of r ≡ (submit_board zero_board 0 kind n block).answer
  answer_is = ea ∙ ap (λ (x : Bytes). (submit_board x 0 kind n block).answer) fresh_board

  board_is : b₂ ≡ (submit_board zero_board 0 kind n block).board
  board_is = eb ∙ ap (λ (x : Bytes). (submit_board x 0 kind n block).board) fresh_board

  pub run_refused : (e : Refusal) (w : Bytes) → r ≡ Err e → (refusal_number e ≡ refusal_by (verdict_of kind n block)) × (w ≡ record_by kind n block w (verdict_of kind n block))
  unfolding refusal_by record_by submitted_of
  run_refused e w d = go (verdict_of kind n block) refl
    where
      said : Refused (refusal_number e) ≡ (submit_board zero_board 0 kind n block).answer
      said = rw d at answer_is

      go : (v : Verdict) → verdict_of kind n block ≡ v → (refusal_number e ≡ refusal_by v) × (w ≡ record_by kind n block w v)
      go accept x = let y : Refused (refusal_number e) ≡ Ticket 0 = said ∙ (submit_accepted kind n block x).answer in let z : ◌≡◌ {A = ℕ} 0 1 = cc in absurd (omega arith)
      go (refuse k) x = (refused_is _ _ (said ∙ submit_refused kind n block k x), refl)

  pub run_begun : (t : ℕ) → r ≡ Ok t → (verdict_of kind n block ≡ accept) × Alone kind n block 0 b₂
  unfolding submitted_of
  run_begun t d = go (verdict_of kind n block) refl
    where
      said : Ticket t ≡ (submit_board zero_board 0 kind n block).answer
      said = rw d at answer_is

      go : (v : Verdict) → verdict_of kind n block ≡ v → (v ≡ accept) × Alone kind n block 0 b₂
      go accept x = (refl, rw board_is (submit_accepted kind n block x).alone)
      go (refuse k) x = let y : Ticket t ≡ Refused k = said ∙ submit_refused kind n block k x in let z : ◌≡◌ {A = ℕ} 0 1 = cc in absurd (omega arith)

-- ---- the turns

-- whether a record was written, a refusal taken for none
pub turned_true : (r : Result Bool Refusal) (w : Bool) → w ≡ result_unwrap_or r false → w ≡ true → turned_of r ≡ Turned 1
unfolding turned_of
turned_true (Ok true) w e t = refl
turned_true (Ok false) w e t = let x : false ≡ true = sym e ∙ t in let z : ◌≡◌ {A = ℕ} 0 1 = cc in absurd (omega arith)
turned_true (Err refusal) w e t = let x : false ≡ true = sym e ∙ t in let z : ◌≡◌ {A = ℕ} 0 1 = cc in absurd (omega arith)

pub turned_false : (r : Result Bool Refusal) (w : Bool) → w ≡ result_unwrap_or r false → w ≡ false → turned_of r ≡ Turned 1 → ⊥
unfolding turned_of
turned_false (Ok true) w e f a = let x : true ≡ false = sym e ∙ f in let z : ◌≡◌ {A = ℕ} 0 1 = cc in omega arith
turned_false (Ok false) w e f a = let z : ◌≡◌ {A = ℕ} 0 1 = cc in omega arith
turned_false (Err refusal) w e f a = let z : ◌≡◌ {A = ℕ} 0 1 = cc in omega arith

module _ (kind n : ℕ) (block : Bytes) (made : ℕ) (b b' r r' : Bytes) (a : Answer) (al : Alone kind n block made b) (h : 64 ≤ length r) (ea : a ≡ (turn_board b r).answer)
    (eb : b' ≡ (turn_board b r).board) (er : r' ≡ (turn_board b r).buffer) where
  pub run_written : a ≡ Turned 1 → verdict_of kind n block ≡ accept → (0 ≡ refusal_by (verdict_of kind n block)) × (r' ≡ record_by kind n block r (verdict_of kind n block))
  unfolding refusal_by record_by
  run_written t v = rw v (refl, go (eqb made (4 * (span_of kind - 1))) refl)
    where
      go : (y : Bool) → eqb made (4 * (span_of kind - 1)) ≡ y → r' ≡ splice r 0 (record_for kind n block)
      go true e = er ∙ (turn_last kind n block made b r al h (eqb-true _ _ e)).buffer
      go false e =
          let d : made ≡ 4 * (span_of kind - 1) → ⊥ = eqb-false _ _ e in
          let k : made ≤ 4 * (span_of kind - 1) = al.early in
          let f : Turned 0 ≡ Turned 1 = sym (ea ∙ (turn_again kind n block made b r al h (omega arith)).answer) ∙ t in
          let z : ◌≡◌ {A = ℕ} 0 1 = cc in
          absurd (omega arith)

  pub run_on : (a ≡ Turned 1 → ⊥) → (r' ≡ r) × Alone kind n block (made + 1) b'
  run_on f = go (eqb made (4 * (span_of kind - 1))) refl
    where
      go : (y : Bool) → eqb made (4 * (span_of kind - 1)) ≡ y → (r' ≡ r) × Alone kind n block (made + 1) b'
      go true e = absurd (f (ea ∙ (turn_last kind n block made b r al h (eqb-true _ _ e)).answer))
      go false e =
          let d : made ≡ 4 * (span_of kind - 1) → ⊥ = eqb-false _ _ e in
          let k : made ≤ 4 * (span_of kind - 1) = al.early in
          let g = turn_again kind n block made b r al h (omega arith) in
          (er ∙ g.buffer, rw eb g.alone)

-- the same, where the record buffer is still r₀
pub run_done : (kind n : ℕ) (block : Bytes) (made : ℕ) (b b' r₀ r r' : Bytes) (a : Answer) → Alone kind n block made b → 64 ≤ length r₀ → r ≡ r₀ → a ≡ (turn_board b r).answer
    → b' ≡ (turn_board b r).board → r' ≡ (turn_board b r).buffer → a ≡ Turned 1 → verdict_of kind n block ≡ accept
    → (0 ≡ refusal_by (verdict_of kind n block)) × (r' ≡ record_by kind n block r₀ (verdict_of kind n block))
run_done kind n block made b b' r₀ r r' a al h e ea eb er t v =
    let k : 64 ≤ length r = omega (arith, ap length e) in
    let d = run_written kind n block made b b' r r' a al k ea eb er t v in
    (d.0, d.1 ∙ ap (λ (y : Bytes). record_by kind n block y (verdict_of kind n block)) e)

-- the longest span has its last turn before the count ends
pub run_never : (kind n : ℕ) (block : Bytes) (made : ℕ) (b : Bytes) → Alone kind n block made b → 24816 ≤ made → ⊥
run_never kind n block made b al h = let w = span_within kind in let k : made ≤ 4 * (span_of kind - 1) = al.early in omega arith

-- ---- the line

length_record : (kind n : ℕ) (block : Bytes) → length (record_for kind n block) ≡ 64
unfolding record_for record_of sealed_of
length_record kind n block = simp (length-append, length_public, length_sealed)

record_whole : (kind n : ℕ) (block : Bytes) → splice (zeros 64) 0 (record_for kind n block) ≡ record_for kind n block
record_whole kind n block = splice_whole (zeros 64) (record_for kind n block) (length_record kind n block ∙ sym (length_zeros 64))

-- `l` stands at the start of s', the rest of which is that of s, and is `end` bytes long
abbrev pub Stored : (s s' : List ℕ) (end : ℕ) → List ℕ → Type 0
Stored s s' end l = (s' ≡ splice s 0 l) × (end ≡ length l) × (end ≤ 114)

module _ (q s s' w : List ℕ) (kind n end number : ℕ) (ek : kind ≡ get_or q 0 0) (en : n ≡ get_or q 1 0)
    (er : number ≡ refusal_by (verdict_of kind n (take 640 (drop 2 q)))) (ew : w ≡ record_by kind n (take 640 (drop 2 q)) (zeros 64) (verdict_of kind n (take 640 (drop 2 q)))) where
  reply_is : reply_of q ≡ line_by kind n (take 640 (drop 2 q)) (verdict_of kind n (take 640 (drop 2 q)))
  unfolding reply_of part
  reply_is = rw (← ek, ← en)

  pub reply_line : number ≡ 0 → Stored s s' end (line_of kind w) → Stored s s' end (reply_of q)
  unfolding line_by refusal_by record_by
  reply_line z h = rw reply_is (go (verdict_of kind n (take 640 (drop 2 q))) refl er ew)
    where
      go : (v : Verdict) → verdict_of kind n (take 640 (drop 2 q)) ≡ v → number ≡ refusal_by v → w ≡ record_by kind n (take 640 (drop 2 q)) (zeros 64) v → Stored s s' end (line_by kind n (take 640 (drop 2 q)) v)
      go accept e en' ew' = rw (ew' ∙ record_whole kind n (take 640 (drop 2 q))) at h
      go (refuse m) e en' ew' = absurd (never_zero kind n (take 640 (drop 2 q)) m e (sym en' ∙ z))

  pub reply_number : (number ≡ 0 → ⊥) → Stored s s' end (number_text number newline) → Stored s s' end (reply_of q)
  unfolding line_by refusal_by
  reply_number z h = rw reply_is (go (verdict_of kind n (take 640 (drop 2 q))) er)
    where
      go : (v : Verdict) → number ≡ refusal_by v → Stored s s' end (line_by kind n (take 640 (drop 2 q)) v)
      go accept e = absurd (z e)
      go (refuse m) e = rw e at h
