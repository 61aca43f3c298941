-- The laws of `specs/Laws.antt`, and what the code's returns cite. Assumes nothing.
use mathlib.Core.Path.{◌≡◌, refl, sym, ap, ◌∙◌}
use Prim.Native.Nat.{ℕ, zero, suc, ◌+◌, ◌-◌, ◌*◌, ◌/◌, ◌≤◌}
use native.Mathlib.Omega.{arith}
use native.Mathlib.Nat.{zero-add}
use mathlib.Core.Bool.{Bool, true, false, cond}
use mathlib.Core.List.{List, ◌++◌, append-nil}
use lib.ListN.{length, drop, drop_of_length-le}
use lib.Seq.{sets-eq}
use lib.Dec.{eqb}
use lib.Ieee.{nan}
use borrow.Author.Tests.{eq-eqb, ne_eqb, eqb-true}
use Rattle.buf.specs.Bytes.{splice, zeros, f64_at}
use Rattle.buf.proofs.Laws.{num_at_lt, length_zeros}
use Rattle.buf.proofs.Floats.{f64_fits}
use Rattle.schedule.specs.Spans.{kind_fits, count_fits}
use Rattle.schedule.proofs.Tests.{count_within}
use Rattle.block.specs.declared.types.Numbers.{Numbers}
use Rattle.block.specs.Pairs.{offset_of, coefficients, interactions, fractions, conditions, pairs_fit}
use Rattle.block.specs.Numbers.{list_at, conditions_at, filed_in, as_read, numbers_of}
use Rattle.block.proofs.Lists.{length_tabulate, get_d_tabulate}
use Rattle.block.proofs.Sizes.{product}
use Rattle.reader.specs.declared.types.Job.{Job}
use Rattle.reader.specs.View.{refused, ready_job, checked, view}
use Rattle.std.specs.Prelude.{Ok, Err}
use Rattle.std.specs.declared.result.Result.{Result}
use Rattle.std.specs.Result.{IsErrAnd}
use Rattle.reader.specs.declared.types.Refusal.{Refusal}
use Rattle.reader.specs.declared.types.Task.{Task}
use Rattle.reader.specs.Refusals.{number_of}
use Rattle.reader.specs.Reading.{refusal_of}
use Rattle.reader.proofs.ViewLaws.{number_not_0, Passed, requested_passed, ready_no_number}
use Rattle.records.proofs.RecordLaws.{sealed_alike}
use Rattle.writer.specs.Packed.{filled, packed}
use Rattle.writer.specs.Written.{counts_fit, lists_fit, verdict, written}
use Rattle.writer.specs.Laws.{Binary64, Representable, Answers, Ordered, WhatWasGiven, RefusedUnchanged, ReadsTheSame, AsTheReader, SameVerdict, SealedByNumbers}
use Rattle.writer.proofs.PackedLaws.{same, length_filled, length_packed, packed_fits, filed_packed}

-- ---- a packed block is read as the numbers that it was made of

view_packed : (kind n : ℕ) (d : Numbers) → kind_fits kind ≡ true → count_fits kind n ≡ true → lists_fit n d ≡ true → Representable d → view kind n (packed n d) ≡ checked kind n (as_read kind n d)
unfolding view numbers_of
view_packed kind n d k c f m =
    let h = (count_within kind n c).high in
    rw (k, c, eq-eqb _ _ (length_packed n d f h), packed_fits n d h f, filed_packed n d h f m)

-- and refused by the same number
verdict_data : (kind n : ℕ) (d : Numbers) → kind_fits kind ≡ true → count_fits kind n ≡ true → lists_fit n d ≡ true → verdict kind n d 640 ≡ refusal_of (checked kind n (as_read kind n d)).task
unfolding verdict
verdict_data kind n d k c f = rw (k, c, f)

pub as_the_reader : AsTheReader
unfolding verdict view refusal_of refused number_of
as_the_reader kind n d f m = go (kind_fits kind) refl (count_fits kind n) refl
  where
    go : (s : Bool) → kind_fits kind ≡ s → (t : Bool) → count_fits kind n ≡ t → verdict kind n d 640 ≡ refusal_of (view kind n (packed n d)).task
    go false k t c = rw k
    go true k false c = rw (k, c)
    go true k true c = verdict_data kind n d k c f ∙ ap (λ (job : Job). refusal_of job.task) (sym (view_packed kind n d k c f m))

-- ---- what comes before the data

pub ordered : Ordered
unfolding verdict refusal_of refused number_of
ordered kind n d size = record {
  refused_2 = λ k. rw k;
  refused_3 = λ k c. rw (k, c);
  refused_8 = λ k c l. rw (k, c, ne_eqb size 640 l);
  refused_11 = λ k c l f. rw (k, c, eq-eqb size 640 l, f);
}

-- the buffer on a refusal, and where there is none
kept : (t : Bool) (u v : List ℕ) → t ≡ false → v ≡ cond t u v
kept t u v e = rw e

made : (t : Bool) (u v : List ℕ) → t ≡ true → u ≡ cond t u v
made t u v e = rw e

-- ---- what was given is found

written_packed : (kind n : ℕ) (d : Numbers) (buffer : List ℕ) → verdict kind n d (length buffer) ≡ 0 → written kind n d buffer ≡ packed n d
unfolding written
written_packed kind n d buffer e = sym (made _ _ _ (ap (λ (k : ℕ). eqb k 0) e))

pub what_was_given : WhatWasGiven
unfolding numbers_of
what_was_given kind n d buffer m e =
    let p = requested_passed kind n (length buffer) (lists_fit n d) (as_read kind n d) (unfold verdict in e) in
    let w = written_packed kind n d buffer e in
    let h = (count_within kind n p.fit_count).high in
    let parts = ap (filed_in n) w ∙ filed_packed n d h p.pairs_fit_lem m in
    let job = ap (view kind n) w ∙ view_packed kind n d p.fit_kind p.fit_count p.pairs_fit_lem m ∙ p.job in
    record { in_parts = parts; same_as_read = ap (as_read kind n) parts; as_job = job; not_refused_lem = rw job (ready_no_number kind n (as_read kind n d)) }

pub refused_unchanged : RefusedUnchanged
unfolding written
refused_unchanged kind n d buffer z = sym (kept _ _ _ (ne_eqb _ 0 z))

-- ---- what the code's returns cite

-- bytes stored from the first on
splice_start : (s v : List ℕ) → length v ≤ length s → splice s 0 v ≡ v ++ drop (length v) s
unfolding splice
splice_start s v h = let k : 0 + length v ≤ length s = omega arith in sets-eq v s 0 k ∙ rw zero-add

-- all of them
over : (s v : List ℕ) → length v ≡ length s → splice s 0 v ≡ v
over s v e = let h : length s ≤ length v = omega arith in splice_start s v (omega arith) ∙ ap (λ (l : List ℕ). v ++ l) (drop_of_length-le s h) ∙ append-nil v

drop_zeros : (n k : ℕ) → drop k (zeros n) ≡ zeros (n - k)
unfolding zeros
drop_zeros n zero = let e : n ≡ n - 0 = omega arith in ap zeros e
drop_zeros zero (suc k) = let e : 0 ≡ 0 - suc k = omega arith in ap zeros e
drop_zeros (suc n) (suc k) = let e : n - k ≡ suc n - suc k = omega arith in drop_zeros n k ∙ ap zeros e

-- the pairs and parts over zeros are the packed block
pub over_zeros : (n : ℕ) (d : Numbers) (s block : List ℕ) → n ≤ 8 → lists_fit n d ≡ true → s ≡ zeros 640 → block ≡ splice s 0 (filled n d) → block ≡ packed n d
unfolding packed
over_zeros n d s block h f es eb =
    let size = length_filled n d f in
    let p = product n h in
    let room : length (filled n d) ≤ length (zeros 640) = rw (length_zeros) (omega arith) in
    eb ∙ ap (λ (l : List ℕ). splice l 0 (filled n d)) es ∙ splice_start (zeros 640) (filled n d) room ∙ ap (λ (l : List ℕ). filled n d ++ l) (drop_zeros 640 (length (filled n d)) ∙ ap (λ (k : ℕ). zeros (640 - k)) size)

module _ (kind n : ℕ) (d : Numbers) (buffer : List ℕ) where
  refuses : (number : ℕ) → verdict kind n d (length buffer) ≡ suc number → Answers kind n d buffer (suc number) buffer
  unfolding written
  refuses number e =
      let not_zero : suc number ≡ 0 → ⊥ = λ z. omega arith in
      (sym e, kept _ _ _ (ap (λ (k : ℕ). eqb k 0) e ∙ ne_eqb (suc number) 0 not_zero), λ z. absurd (not_zero z))

  pub refuses_2 : kind_fits kind ≡ false → Answers kind n d buffer 2 buffer
  refuses_2 k = refuses 1 ((ordered kind n d (length buffer)).refused_2 k)

  pub refuses_3 : kind_fits kind ≡ true → count_fits kind n ≡ false → Answers kind n d buffer 3 buffer
  refuses_3 k c = refuses 2 ((ordered kind n d (length buffer)).refused_3 k c)

  pub refuses_8 : kind_fits kind ≡ true → count_fits kind n ≡ true → (length buffer ≡ 640 → ⊥) → Answers kind n d buffer 8 buffer
  refuses_8 k c l = refuses 7 ((ordered kind n d (length buffer)).refused_8 k c l)

  pub refuses_11 : kind_fits kind ≡ true → count_fits kind n ≡ true → length buffer ≡ 640 → lists_fit n d ≡ false → Answers kind n d buffer 11 buffer
  refuses_11 k c l f = refuses 10 ((ordered kind n d (length buffer)).refused_11 k c l f)

  -- the reader's number is the verdict
  numbered : (number : ℕ) (block : List ℕ) → length buffer ≡ 640 → lists_fit n d ≡ true → Representable d → block ≡ packed n d → number ≡ refusal_of (view kind n block).task
      → number ≡ verdict kind n d (length buffer)
  numbered number block l f m eb en = en ∙ ap (λ (s : List ℕ). refusal_of (view kind n s).task) eb ∙ sym (as_the_reader kind n d f m) ∙ ap (verdict kind n d) (sym l)

  -- and a refusal where it is one
  pub refuses_data : (told : Result (Unit {0}) Refusal) {refusal : Refusal} (block : List ℕ) → length buffer ≡ 640 → lists_fit n d ≡ true → Representable d → block ≡ packed n d
      → Err refusal ≡ (view kind n block).task → IsErrAnd told (λ y. y ≡ refusal) → Answers kind n d buffer (refusal_of told) buffer
  unfolding written refusal_of
  refuses_data (Ok _) block l f m eb en h = elim h [ ]
  refuses_data (Err y) {refusal} block l f m eb en h =
      let e = numbered (number_of y) block l f m eb (ap number_of h ∙ ap refusal_of en) in
      (e, kept _ _ _ (ap (λ (k : ℕ). eqb k 0) (sym e) ∙ ne_eqb (number_of y) 0 (number_not_0 y)), λ q. absurd (number_not_0 y q))

  -- else the block
  pub writes : (task : Task) (block bytes : List ℕ) → count_fits kind n ≡ true → length buffer ≡ 640 → lists_fit n d ≡ true → Representable d → block ≡ packed n d
      → Ok task ≡ (view kind n block).task → bytes ≡ splice buffer 0 block → Answers kind n d buffer 0 bytes
  unfolding written refusal_of
  writes task block bytes c l f m eb en ew =
      let e : 0 ≡ verdict kind n d (length buffer) = numbered 0 block l f m eb (ap refusal_of en) in
      let size = length_packed n d f (count_within kind n c).high in
      (e, ew ∙ ap (splice buffer 0) eb ∙ over buffer (packed n d) (size ∙ sym l) ∙ made _ _ _ (ap (λ (k : ℕ). eqb k 0) (sym e)), λ _. what_was_given kind n d buffer m (sym e))

-- ---- a block read and written again

-- what stands in a block has the lengths that fit, and is held by the code's types
filed_fit : (n : ℕ) (s : List ℕ) → lists_fit n (filed_in n s) ≡ true
unfolding counts_fit filed_in list_at
filed_fit n s = simp (length_tabulate, same)

list_held : (count : ℕ) (s : List ℕ) (from : ℕ) → Binary64 (list_at count s from)
unfolding list_at
list_held count s from i h =
    let l = length_tabulate count (λ i. f64_at s (from + 8 * i)) in
    rw (get_d_tabulate count (λ i. f64_at s (from + 8 * i)) i nan (omega arith)) (f64_fits s (from + 8 * i))

filed_held : (n : ℕ) (s : List ℕ) → Representable (filed_in n s)
unfolding filed_in conditions_at
filed_held n s = record {
  coefficients = list_held (3 * n) s (offset_of s coefficients);
  interactions = list_held (n * (n - 1) / 2) s (offset_of s interactions);
  fractions = list_held n s (offset_of s fractions);
  conditions = record {
    choice = num_at_lt 8 s (offset_of s conditions);
    temperature = f64_fits s (offset_of s conditions + 8);
    pressure = f64_fits s (offset_of s conditions + 16);
    start = f64_fits s (offset_of s conditions + 24);
  };
}

pub same_verdict : SameVerdict
unfolding verdict view numbers_of
same_verdict kind n block h = rw (filed_fit n block, h)

pub reads_the_same : ReadsTheSame
unfolding numbers_of
reads_the_same kind n block buffer l e =
    let p = requested_passed kind n (length block) (pairs_fit n block) (numbers_of kind n block) (unfold view in e) in
    let accepted : verdict kind n (filed_in n block) (length buffer) ≡ 0 = ap (verdict kind n (filed_in n block)) (l ∙ sym (eqb-true (length block) 640 p.size_fits)) ∙ same_verdict kind n block p.pairs_fit_lem ∙ e in
    let found = what_was_given kind n (filed_in n block) buffer (filed_held n block) accepted in
    let job = found.as_job ∙ sym (viewed p) in
    record { accepted = accepted; in_parts = found.in_parts; same_as_read = found.same_as_read; as_job = job; as_sealed = sealed_alike kind n _ _ job }
  where
    viewed : Passed kind n (length block) (pairs_fit n block) (numbers_of kind n block) → view kind n block ≡ ready_job kind n (as_read kind n (filed_in n block))
    viewed p = unfold view in rw (p.fit_kind, p.fit_count, p.size_fits, p.pairs_fit_lem) p.job

-- ---- the same numbers

pub sealed_by_numbers : SealedByNumbers
unfolding view
sealed_by_numbers kind n s t l p q e = sealed_alike kind n s t (rw (l, p, q, e))
