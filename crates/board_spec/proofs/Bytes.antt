-- What is read of a quarter after it is written: its numbers, its slots and its running state. Assumes nothing.
use mathlib.Core.Path.{◌≡◌, refl, sym, ap, ◌∙◌}
use Prim.Native.Nat.{ℕ, ◌+◌, ◌*◌, ◌^◌, ◌≤◌, ◌<◌}
use mathlib.Core.Bool.{Bool, true, false}
use mathlib.Core.List.{List}
use native.Mathlib.Omega.{arith}
use lib.ListN.{length}
use lib.Dec.{leb, ltb}
use borrow.Author.Tests.{le-leb, leb-true, ltb-true, ltb-false}
use Rattle.buf.specs.Bytes.{le, part, splice, num_at, u64_at, put_u64}
use Rattle.buf.proofs.Laws.{length_splice, length_put_num, get_put_same, get_put_before, get_put_after, part_put_before, part_put_after, part_splice_before, part_splice_after, part_splice_same, part_part, num_at_part}
use Rattle.buf.proofs.Floats.{f64_same}
use Rattle.solver.specs.declared.types.Counters.{Counters}
use Rattle.solver.specs.declared.types.Values.{Values}
use Rattle.solver_state.specs.declared.types.State.{State}
use Rattle.board_spec.specs.Layout.{quarter_length, kind_at, count_at, block_at}
use Rattle.stepping.specs.Storable.{CountersStorable, ValuesStorable, Storable}
use Rattle.board_spec.specs.Quarter.{load_counters, store_counters, load_values, store_values, load_state, store_state, put_job}

-- ---- the running state that is stored is loaded

length_counters : (q : List ℕ) (c : Counters) → length (store_counters q c) ≡ length q
unfolding store_counters
length_counters q c = simp length_put_num

length_values : (q : List ℕ) (v : Values) → length (store_values q v) ≡ length q
unfolding store_values
length_values q v = simp length_put_num

pub length_state : (q : List ℕ) (s : State) → length (store_state q s) ≡ length q
unfolding store_state
length_state q s = simp (length_put_num, length_values, length_counters)

counters_back : (q : List ℕ) (c : Counters) → length q ≡ quarter_length → CountersStorable c → load_counters (store_counters q c) ≡ c
unfolding load_counters store_counters
counters_back q c l f = simp (get_put_same, get_put_before, length_put_num, l, f.stage, f.tag, f.status, f.left, f.way, f.rounds)

counters_after : (q : List ℕ) (v : Values) → load_counters (store_values q v) ≡ load_counters q
unfolding load_counters store_values
counters_after q v = simp get_put_before

values_back : (q : List ℕ) (v : Values) → length q ≡ quarter_length → ValuesStorable v → load_values (store_values q v) ≡ v
unfolding load_values store_values
values_back q v l f = simp (f64_same, get_put_before, length_put_num, l, f.first, f.second, f.third)

-- numbers after the floats
tail_counters : (q : List ℕ) (i x : ℕ) → leb 96 i ≡ true → load_counters (put_u64 q i x) ≡ load_counters q
unfolding load_counters
tail_counters q i x h =
    let k : 96 ≤ i = leb-true 96 i h in
    simp (
      get_put_before 8 8 q i x 24 (le-leb 32 i (omega arith)),
      get_put_before 8 8 q i x 32 (le-leb 40 i (omega arith)),
      get_put_before 8 8 q i x 40 (le-leb 48 i (omega arith)),
      get_put_before 8 8 q i x 48 (le-leb 56 i (omega arith)),
      get_put_before 8 8 q i x 56 (le-leb 64 i (omega arith)),
      get_put_before 8 8 q i x 64 (le-leb 72 i (omega arith)),
    )

tail_values : (q : List ℕ) (i x : ℕ) → leb 96 i ≡ true → load_values (put_u64 q i x) ≡ load_values q
unfolding load_values
tail_values q i x h =
    let k : 96 ≤ i = leb-true 96 i h in
    simp (get_put_before 8 8 q i x 72 (le-leb 80 i (omega arith)), get_put_before 8 8 q i x 80 (le-leb 88 i (omega arith)), get_put_before 8 8 q i x 88 (le-leb 96 i (omega arith)))

pub state_back : (q : List ℕ) (s : State) → length q ≡ quarter_length → Storable s → load_state (store_state q s) ≡ s
unfolding load_state store_state
state_back q s l f =
    let cs = s.numbers.counters in
    let vs = s.numbers.values in
    let q₁ = store_counters q cs in
    let l₁ : length q₁ ≡ quarter_length = length_counters q cs ∙ l in
    let l₂ : length (store_values q₁ vs) ≡ quarter_length = length_values q₁ vs ∙ l₁ in
    simp (tail_counters, tail_values, counters_after, counters_back q cs l f.counters, values_back q₁ vs l₁ f.floats.values, get_put_before, get_put_same, f64_same, length_put_num, l₂, f.evaluations, f.floats.latest)

-- ---- the numbers before the slots, and the slots

-- the first 128 bytes are the same, and so are the numbers and the state in them
pub num_head : (p q : List ℕ) → part p 0 128 ≡ part q 0 128 → (i : ℕ) → leb (i + 8) 128 ≡ true → num_at 8 p i ≡ num_at 8 q i
num_head p q e i h = sym (at p) ∙ ap (λ (s : List ℕ). num_at 8 s i) e ∙ at q
  where
    zero_plus : (m : ℕ) → 0 + m ≡ m
    zero_plus m = omega arith

    at : (s : List ℕ) → num_at 8 (part s 0 128) i ≡ num_at 8 s i
    at s = num_at_part 8 s 0 128 i h ∙ ap (num_at 8 s) (zero_plus i)

pub state_head : (p q : List ℕ) → part p 0 128 ≡ part q 0 128 → load_state p ≡ load_state q
unfolding load_state load_counters load_values
state_head p q e =
    simp (
      num_head p q e 24 refl,
      num_head p q e 32 refl,
      num_head p q e 40 refl,
      num_head p q e 48 refl,
      num_head p q e 56 refl,
      num_head p q e 64 refl,
      num_head p q e 72 refl,
      num_head p q e 80 refl,
      num_head p q e 88 refl,
      num_head p q e 96 refl,
      num_head p q e 104 refl,
    )

-- a slot reads the same
pub record SameSlot (p q : List ℕ) (slot : ℕ) : Type 0 where
  pub kind : u64_at p (kind_at slot) ≡ u64_at q (kind_at slot)
  pub n : u64_at p (count_at slot) ≡ u64_at q (count_at slot)
  pub block : part p (block_at slot) 640 ≡ part q (block_at slot) 640

-- the bytes from 128 on are the same, and so is each slot
num_tail : (p q : List ℕ) → part p 128 6016 ≡ part q 128 6016 → (i : ℕ) → i + 8 ≤ 6016 → num_at 8 p (128 + i) ≡ num_at 8 q (128 + i)
num_tail p q e i h = sym (num_at_part 8 p 128 6016 i (le-leb (i + 8) 6016 h)) ∙ ap (λ (s : List ℕ). num_at 8 s i) e ∙ num_at_part 8 q 128 6016 i (le-leb (i + 8) 6016 h)

part_tail : (p q : List ℕ) → part p 128 6016 ≡ part q 128 6016 → (i n : ℕ) → i + n ≤ 6016 → part p (128 + i) n ≡ part q (128 + i) n
part_tail p q e i n h = sym (part_part p 128 6016 i n h) ∙ ap (λ (s : List ℕ). part s i n) e ∙ part_part q 128 6016 i n h

pub slot_tail : (p q : List ℕ) → part p 128 6016 ≡ part q 128 6016 → (slot : ℕ) → slot < 8 → SameSlot p q slot
slot_tail p q e slot h =
    let e₂ : 128 + (8 + 16 * slot) ≡ count_at slot = omega arith in
    let e₃ : 128 + (896 + 640 * slot) ≡ block_at slot = omega arith in
    record {
      kind = num_tail p q e (16 * slot) (omega arith);
      n = rw e₂ at (num_tail p q e (8 + 16 * slot) (omega arith));
      block = rw e₃ at (part_tail p q e (896 + 640 * slot) 640 (omega arith));
    }

-- a number that is written before the slots leaves them
pub tail_put : (q : List ℕ) (i x : ℕ) → leb (i + 8) 128 ≡ true → part (put_u64 q i x) 128 6016 ≡ part q 128 6016
tail_put q i x h = part_put_after 8 6016 q i x 128 h

pub tail_state : (q : List ℕ) (s : State) → part (store_state q s) 128 6016 ≡ part q 128 6016
unfolding store_state store_values store_counters
tail_state q s = simp part_put_after

-- ---- a job that is put into a slot

module _ (q : List ℕ) (slot kind n : ℕ) (block : List ℕ) where
  pub length_job : length (put_job q slot kind n block) ≡ length q
  unfolding put_job
  length_job = simp (length_splice, length_put_num)

  pub head_job : part (put_job q slot kind n block) 0 128 ≡ part q 0 128
  unfolding put_job
  head_job =
      part_splice_before (put_u64 (put_u64 q (kind_at slot) kind) (count_at slot) n) (block_at slot) block 0 128 (omega arith)
      ∙ part_put_before 8 128 (put_u64 q (kind_at slot) kind) (count_at slot) n 0 (le-leb (0 + 128) (count_at slot) (omega arith))
      ∙ part_put_before 8 128 q (kind_at slot) kind 0 (le-leb (0 + 128) (kind_at slot) (omega arith))

  -- a number before the blocks
  before_block : (i : ℕ) → slot < 8 → i + 8 ≤ 1024 → num_at 8 (put_job q slot kind n block) i ≡ num_at 8 (put_u64 (put_u64 q (kind_at slot) kind) (count_at slot) n) i
  unfolding put_job num_at
  before_block i h k = ap le (part_splice_before (put_u64 (put_u64 q (kind_at slot) kind) (count_at slot) n) (block_at slot) block i 8 (omega arith))

  pub kind_put : length q ≡ quarter_length → slot < 8 → kind < 2 ^ 64 → u64_at (put_job q slot kind n block) (kind_at slot) ≡ kind
  kind_put l h k =
      before_block (kind_at slot) h (omega arith)
      ∙ get_put_before 8 8 (put_u64 q (kind_at slot) kind) (count_at slot) n (kind_at slot) (le-leb (kind_at slot + 8) (count_at slot) (omega arith))
      ∙ get_put_same 8 q (kind_at slot) kind (le-leb (kind_at slot + 8) (length q) (omega arith)) k

  pub count_put : length q ≡ quarter_length → slot < 8 → n < 2 ^ 64 → u64_at (put_job q slot kind n block) (count_at slot) ≡ n
  count_put l h k =
      let l₁ : length (put_u64 q (kind_at slot) kind) ≡ length q = length_put_num 8 q (kind_at slot) kind in
      before_block (count_at slot) h (omega arith)
      ∙ get_put_same 8 (put_u64 q (kind_at slot) kind) (count_at slot) n (le-leb (count_at slot + 8) (length (put_u64 q (kind_at slot) kind)) (omega arith)) k

  pub block_put : length q ≡ quarter_length → slot < 8 → length block ≡ 640 → part (put_job q slot kind n block) (block_at slot) 640 ≡ block
  unfolding put_job
  block_put l h k =
      let l₁ : length (put_u64 (put_u64 q (kind_at slot) kind) (count_at slot) n) ≡ length q = length_put_num 8 _ (count_at slot) n ∙ length_put_num 8 q (kind_at slot) kind in
      part_splice_same (put_u64 (put_u64 q (kind_at slot) kind) (count_at slot) n) (block_at slot) block 640 k (omega arith)

  -- another slot
  num_other : (i : ℕ) → slot < 8 → i + 8 ≤ 1024 → (b : Bool) → ltb i (kind_at slot) ≡ b → (i < kind_at slot → i + 8 ≤ kind_at slot) → (kind_at slot ≤ i → count_at slot + 8 ≤ i)
      → num_at 8 (put_job q slot kind n block) i ≡ num_at 8 q i
  num_other i h k true e lo hi =
      let z : i + 8 ≤ kind_at slot = lo (ltb-true i (kind_at slot) e) in
      before_block i h k
      ∙ get_put_before 8 8 (put_u64 q (kind_at slot) kind) (count_at slot) n i (le-leb (i + 8) (count_at slot) (omega arith))
      ∙ get_put_before 8 8 q (kind_at slot) kind i (le-leb (i + 8) (kind_at slot) z)
  num_other i h k false e lo hi =
      let z : count_at slot + 8 ≤ i = hi (ltb-false i (kind_at slot) e) in
      before_block i h k
      ∙ get_put_after 8 8 (put_u64 q (kind_at slot) kind) (count_at slot) n i (le-leb (count_at slot + 8) i z)
      ∙ get_put_after 8 8 q (kind_at slot) kind i (le-leb (kind_at slot + 8) i (omega arith))

  block_other : (s : ℕ) → length block ≡ 640 → slot < 8 → s < 8 → (s ≡ slot → ⊥) → (b : Bool) → ltb s slot ≡ b → part (put_job q slot kind n block) (block_at s) 640 ≡ part q (block_at s) 640
  unfolding put_job
  block_other s k h₀ h ne b e =
      splice_other b e
      ∙ part_put_after 8 640 (put_u64 q (kind_at slot) kind) (count_at slot) n (block_at s) (le-leb (count_at slot + 8) (block_at s) (omega arith))
      ∙ part_put_after 8 640 q (kind_at slot) kind (block_at s) (le-leb (kind_at slot + 8) (block_at s) (omega arith))
    where
      w : List ℕ
      w = put_u64 (put_u64 q (kind_at slot) kind) (count_at slot) n

      splice_other : (b : Bool) → ltb s slot ≡ b → part (splice w (block_at slot) block) (block_at s) 640 ≡ part w (block_at s) 640
      splice_other true e = let z = ltb-true s slot e in part_splice_before w (block_at slot) block (block_at s) 640 (omega arith)
      splice_other false e = let z = ltb-false s slot e in part_splice_after w (block_at slot) block (block_at s) 640 (omega arith)

  pub slot_other : length block ≡ 640 → slot < 8 → (s : ℕ) → s < 8 → (s ≡ slot → ⊥) → SameSlot (put_job q slot kind n block) q s
  slot_other k h s h' ne =
      record {
        kind = num_other (kind_at s) h (omega arith) (ltb (kind_at s) (kind_at slot)) refl (λ x. omega arith) (λ x. omega arith);
        n = num_other (count_at s) h (omega arith) (ltb (count_at s) (kind_at slot)) refl (λ x. omega arith) (λ x. omega arith);
        block = block_other s k h h' ne (ltb s slot) refl;
      }
