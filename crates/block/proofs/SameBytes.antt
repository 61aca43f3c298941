-- Blocks with the same bytes where read have the same pairs and give the same numbers. Assumes nothing.
use mathlib.Core.Path.{◌≡◌, refl, sym, ap, ◌∙◌}
use Prim.Native.Nat.{ℕ, ◌+◌, ◌-◌, ◌*◌, ◌/◌, ◌≤◌}
use native.Mathlib.Omega.{arith}
use mathlib.Core.Bool.{Bool, true, false, cond}
use mathlib.Core.List.{List}
use lib.Dec.{ltb}
use lib.Ieee.{binary64, of_bits}
use borrow.Author.Tests.{le-leb, ltb-true}
use Rattle.float.specs.Ops.{f0}
use Rattle.buf.specs.Bytes.{part, num_at, u64_at, f64_at}
use Rattle.buf.proofs.Laws.{num_at_part}
use Rattle.block.specs.Pairs.{offset_of, length_of, coefficients, interactions, fractions, conditions, lengths_fit, offsets_fit, pairs_fit}
use Rattle.block.specs.Numbers.{floats_at, reads_fractions, fraction_count, uses_choice, uses_pressure, uses_start, used_choice, used_pressure, used_start, used, conditions_at, conditions_of, numbers_of}
use Rattle.block.specs.SameBytes.{SameRead}
use Rattle.block.proofs.Lists.{tabulate_same}
use Rattle.block.proofs.NumberLaws.{cond_same, numbers_rows}

-- ---- numbers in bytes that are the same, in one block at index at and in the other at index to

abbrev Same : (s : List ℕ) (at : ℕ) (t : List ℕ) (to count : ℕ) → Type 0
Same s at t to count = part s at count ≡ part t to count

num_same : (s : List ℕ) (at : ℕ) (t : List ℕ) (to count k i : ℕ) → Same s at t to count → i + k ≤ count → num_at k s (at + i) ≡ num_at k t (to + i)
num_same s at t to count k i e h =
    sym (num_at_part k s at count i (le-leb _ _ h)) ∙ ap (λ (l : List ℕ). num_at k l i) e ∙ num_at_part k t to count i (le-leb _ _ h)

first_same : (s : List ℕ) (at : ℕ) (t : List ℕ) (to : ℕ) → Same s at t to 8 → num_at 8 s at ≡ num_at 8 t to
first_same s at t to e =
    let z : at + 0 ≡ at = omega arith in
    let w : to + 0 ≡ to = omega arith in
    rw (z, w) at (num_same s at t to 8 8 0 e (omega arith))

f64_same : (s : List ℕ) (at : ℕ) (t : List ℕ) (to : ℕ) → Same s at t to 8 → f64_at s at ≡ f64_at t to
f64_same s at t to e = ap (of_bits binary64) (first_same s at t to e)

floats_same : (s : List ℕ) (at : ℕ) (t : List ℕ) (to count bytes : ℕ) → Same s at t to bytes → 8 * count ≤ bytes → floats_at count s at ≡ floats_at count t to
unfolding floats_at
floats_same s at t to count bytes e h =
    tabulate_same 28 _ _ (λ i _. cond_same (ltb i count) _ _ f0 (λ q. ap (of_bits binary64) (num_same s at t to bytes 8 (8 * i) e (omega (arith, ltb-true i count q)))))

-- ---- the pairs

pair_same : (s t : List ℕ) (i : ℕ) → Same s 0 t 0 16 → i + 2 ≤ 16 → num_at 2 s i ≡ num_at 2 t i
pair_same s t i e h = let z : 0 + i ≡ i = omega arith in rw z at (num_same s 0 t 0 16 2 i e h)

offset_same : (s t : List ℕ) (i : ℕ) → Same s 0 t 0 16 → i ≤ 3 → offset_of s i ≡ offset_of t i
unfolding offset_of
offset_same s t i e h = pair_same s t (4 * i) e (omega arith)

length_same : (s t : List ℕ) (i : ℕ) → Same s 0 t 0 16 → i ≤ 3 → length_of s i ≡ length_of t i
unfolding length_of
length_same s t i e h = pair_same s t (4 * i + 2) e (omega arith)

pub pairs_same : (n : ℕ) (s t : List ℕ) → Same s 0 t 0 16 → pairs_fit n s ≡ pairs_fit n t
unfolding pairs_fit lengths_fit offsets_fit
pairs_same n s t e =
    rw (
      offset_same s t 0 e (omega arith),
      offset_same s t 1 e (omega arith),
      offset_same s t 2 e (omega arith),
      offset_same s t 3 e (omega arith),
      length_same s t 0 e (omega arith),
      length_same s t 1 e (omega arith),
      length_same s t 2 e (omega arith),
      length_same s t 3 e (omega arith),
    )

-- ---- the numbers read

fraction_bytes : (kind n : ℕ) (s : List ℕ) (at : ℕ) (t : List ℕ) (to : ℕ) → (reads_fractions kind ≡ true → Same s at t to (8 * n))
    → floats_at (fraction_count kind n) s at ≡ floats_at (fraction_count kind n) t to
unfolding fraction_count
fraction_bytes kind n s at t to h = go (reads_fractions kind) h
  where
    go : (b : Bool) → (b ≡ true → Same s at t to (8 * n)) → floats_at (cond b n 0) s at ≡ floats_at (cond b n 0) t to
    go true h = floats_same s at t to n (8 * n) (h refl) (omega arith)
    go false h = floats_same s at t to 0 0 (unfold part in refl) (omega arith)

conditions_same : (kind : ℕ) (s : List ℕ) (at : ℕ) (t : List ℕ) (to : ℕ) → (uses_choice kind ≡ true → Same s at t to 8) → Same s (at + 8) t (to + 8) 8
    → (uses_pressure kind ≡ true → Same s (at + 16) t (to + 16) 8) → (uses_start kind (used_choice kind (u64_at s at)) ≡ true → Same s (at + 24) t (to + 24) 8)
    → conditions_of kind s at ≡ conditions_of kind t to
unfolding conditions_of conditions_at used used_choice used_pressure used_start
conditions_same kind s at t to c temperature p start =
    let ec = cond_same (uses_choice kind) (u64_at s at) (u64_at t to) 0 (λ q. first_same s at t to (c q)) in
    let et = f64_same s (at + 8) t (to + 8) temperature in
    let ep = cond_same (uses_pressure kind) (f64_at s (at + 16)) (f64_at t (to + 16)) f0 (λ q. f64_same s (at + 16) t (to + 16) (p q)) in
    let es = cond_same (uses_start kind (used_choice kind (u64_at s at))) (f64_at s (at + 24)) (f64_at t (to + 24)) f0 (λ q. f64_same s (at + 24) t (to + 24) (start q)) in
    rw (es, et, ep, ec)

pub numbers_same : (kind n : ℕ) (s t : List ℕ) → SameRead kind n s t → numbers_of kind n s ≡ numbers_of kind n t
numbers_same kind n s t r =
    let none : (k : ℕ) → k + 0 ≡ k = λ k. omega arith in
    rw (
      numbers_rows kind n s,
      numbers_rows kind n t,
      floats_same s (offset_of s coefficients) t (offset_of t coefficients) (3 * n) (24 * n) (simp none at r.in_coefficients) (omega arith),
      floats_same s (offset_of s interactions) t (offset_of t interactions) (n * (n - 1) / 2) (4 * (n * (n - 1))) (simp none at r.in_interactions) (omega arith),
      fraction_bytes kind n s (offset_of s fractions) t (offset_of t fractions) (λ q. simp none at (r.in_fractions q)),
      conditions_same kind s (offset_of s conditions) t (offset_of t conditions) (λ q. simp none at (r.in_choice q)) r.in_temperature r.in_pressure r.in_start,
    )
