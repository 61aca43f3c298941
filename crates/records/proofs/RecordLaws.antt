-- The record's bytes written number by number, and a whole answer; data that are alike have the same sealed bytes. Assumes nothing.
use mathlib.Core.Path.{◌≡◌, refl, sym, ap, ◌∙◌}
use Prim.Native.Nat.{ℕ, zero, suc, ◌≤◌}
use mathlib.Core.Bool.{Bool, true, false}
use mathlib.Core.List.{List}
use lib.ListN.{length, length-append}
use lib.Dec.{leb, eqb}
use borrow.Author.Tests.{leb-true, eqb-true}
use Rattle.buf.specs.Bytes.{bytes_of, zeros, splice, put_num, put_u64, put_f64}
use Rattle.buf.proofs.Laws.{splice_append, length_bytes_of, length_zeros}
use Rattle.schedule.specs.Spans.{kind_fits, count_fits}
use Rattle.reader.specs.declared.types.Job.{Job}
use Rattle.reader.specs.View.{view}
use Rattle.block.specs.SameBytes.{SameBytes}
use Rattle.reader.specs.Alike.{SameNumbers, Alike}
use Rattle.reader.proofs.AlikeLaws.{bytes_alike, numbers_alike}
use Rattle.records.specs.declared.types.Outcome.{Outcome}
use Rattle.std.specs.Prelude.{Ok, Err}
use Rattle.std.specs.Result.{IsErrAnd}
use Rattle.records.specs.declared.types.Unanswered.{Unanswered}
use Rattle.records.specs.Outcome.{outcome_of}
use Rattle.records.specs.Record.{public_bytes, sealed_bytes, record_bytes, sealed_at, sealed_of}
use Rattle.records.specs.declared.types.Unanswered.TheVariants.{BadKind, BadCount, BadBlockLength, ShortRecord}
use Rattle.records.specs.Answered.{Answered, check, fits, did_by, answered}

bytes_zeros : (k : ℕ) → bytes_of k 0 ≡ zeros k
unfolding bytes_of zeros
bytes_zeros zero = refl
bytes_zeros (suc k) = rw (bytes_zeros k)

pub sealed_written : (w w₁ w₂ w₃ w₄ w₅ w₆ : List ℕ) (o : Outcome) → w₁ ≡ put_u64 w 16 o.status → w₂ ≡ put_f64 w₁ 24 o.values.first → w₃ ≡ put_f64 w₂ 32 o.values.second
    → w₄ ≡ put_f64 w₃ 40 o.values.third → w₅ ≡ put_u64 w₄ 48 o.evaluations → w₆ ≡ put_u64 w₅ 56 0 → w₆ ≡ splice w sealed_at (sealed_bytes o)
unfolding sealed_bytes put_num
sealed_written w w₁ w₂ w₃ w₄ w₅ w₆ o e₁ e₂ e₃ e₄ e₅ e₆ = rw (e₆, e₅, e₄, e₃, e₂, e₁, ← bytes_zeros 8) (simp (splice_append, length_bytes_of))

pub public_written : (w w₁ w₂ w₃ w₄ : List ℕ) (ticket kind queue : ℕ) → w₁ ≡ put_u64 w 0 ticket → w₂ ≡ put_num 1 w₁ 8 kind → w₃ ≡ put_num 1 w₂ 9 queue → w₄ ≡ put_num 6 w₃ 10 0
    → w₄ ≡ splice w 0 (public_bytes ticket kind queue)
unfolding public_bytes put_num
public_written w w₁ w₂ w₃ w₄ ticket kind queue e₁ e₂ e₃ e₄ = rw (e₄, e₃, e₂, e₁, ← bytes_zeros 6) (simp (splice_append, length_bytes_of))

pub length_public : (ticket kind queue : ℕ) → length (public_bytes ticket kind queue) ≡ 16
unfolding public_bytes
length_public ticket kind queue = simp (length-append, length_bytes_of, length_zeros)

pub length_sealed : (o : Outcome) → length (sealed_bytes o) ≡ 48
unfolding sealed_bytes
length_sealed o = simp (length-append, length_bytes_of, length_zeros)

pub record_written : (w w₁ w₂ : List ℕ) (ticket kind queue : ℕ) (o : Outcome) → w₁ ≡ splice w 0 (public_bytes ticket kind queue) → w₂ ≡ splice w₁ sealed_at (sealed_bytes o)
    → w₂ ≡ splice w 0 (record_bytes ticket kind queue o)
unfolding record_bytes
record_written w w₁ w₂ ticket kind queue o e₁ e₂ = rw (e₂, e₁) (sym (rw (splice_append, length_public)))

-- what the sizes of a request's buffers are where nothing is refused
pub record Fit (kind n size room : ℕ) : Type 0 where
  pub fit_kind : kind_fits kind ≡ true
  pub fit_count : count_fits kind n ≡ true
  pub block_fits : size ≡ 640
  pub record_fits : 64 ≤ room

pub fit : (kind n size room : ℕ) {u : Unit {0}} → Ok u ≡ fits kind n size room → Fit kind n size room
unfolding fits
fit kind n size room {u} e = go (kind_fits kind) refl (count_fits kind n) refl (eqb size 640) refl (leb 64 room) refl e
  where
    go : (t₁ : Bool) → kind_fits kind ≡ t₁ → (t₂ : Bool) → count_fits kind n ≡ t₂ → (t₃ : Bool) → eqb size 640 ≡ t₃ → (t₄ : Bool) → leb 64 room ≡ t₄
        → ◌≡◌ {A = Answered} (Ok u) (check t₁ BadKind (check t₂ BadCount (check t₃ BadBlockLength (check t₄ ShortRecord (Ok tt))))) → Fit kind n size room
    go true k true c true l true r e = record { fit_kind = k; fit_count = c; block_fits = eqb-true size 640 l; record_fits = leb-true 64 room r }
    go true k true c true l false r e = absurd cc
    go true k true c false l t₄ r e = absurd cc
    go true k false c t₃ l t₄ r e = absurd cc
    go false k t₂ c t₃ l t₄ r e = absurd cc

module _ (kind n : ℕ) (s w : List ℕ) where
  pub answer_refused : (told : Answered) {refusal : Unanswered} → IsErrAnd told (λ y. y ≡ refusal) → Err refusal ≡ fits kind n (length s) (length w)
      → (told ≡ (answered kind n s w).answer) × (w ≡ (answered kind n s w).bytes)
  unfolding answered did_by
  answer_refused (Ok _) h e = elim h [ ]
  answer_refused (Err y) h e = rw (← e) (ap Err h, refl)

  pub answer_written : (w' : List ℕ) (job : Job) (o : Outcome) {u : Unit {0}} → Ok u ≡ fits kind n (length s) (length w)
      → job ≡ view kind n s → o ≡ outcome_of job → w' ≡ splice w sealed_at (sealed_bytes o) → (Ok tt ≡ (answered kind n s w).answer) × (w' ≡ (answered kind n s w).bytes)
  unfolding answered did_by sealed_of
  answer_written w' job o e ej eo ew = rw (← e) (refl, ew ∙ ap (λ (p : Outcome). splice w sealed_at (sealed_bytes p)) (eo ∙ ap outcome_of ej))

-- ---- data that are alike

-- "Data are alike where the blocks are, ignored or unread bytes aside": by what the job reads,
pub sealed_alike : (kind n : ℕ) (s t : List ℕ) → Alike kind n s t → sealed_of kind n s ≡ sealed_of kind n t
unfolding sealed_of
sealed_alike kind n s t a = ap (λ (job : Job). sealed_bytes (outcome_of job)) a

-- by the numbers, as far as they are read,
pub sealed_same_numbers : (kind n : ℕ) (s t : List ℕ) → SameNumbers kind n s t → sealed_of kind n s ≡ sealed_of kind n t
sealed_same_numbers kind n s t a = sealed_alike kind n s t (numbers_alike kind n s t a)

-- and by the bytes where read
pub sealed_same_bytes : (kind n : ℕ) (s t : List ℕ) → SameBytes kind n s t → sealed_of kind n s ≡ sealed_of kind n t
sealed_same_bytes kind n s t a = sealed_alike kind n s t (bytes_alike kind n s t a)
