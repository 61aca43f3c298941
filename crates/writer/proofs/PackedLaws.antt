-- The bytes of a packed block: its length, its pairs, and its numbers read back. Assumes nothing.
use mathlib.Core.Path.{◌≡◌, refl, sym, ap, ◌∙◌}
use Prim.Native.Nat.{ℕ, zero, suc, ◌+◌, ◌-◌, ◌*◌, ◌/◌, ◌^◌, ◌≤◌, ◌<◌}
use native.Mathlib.Omega.{arith}
use native.Mathlib.Nat.{add-zero}
use mathlib.Core.Bool.{true}
use mathlib.Core.List.{List, [], ◌∷◌, ◌++◌, append_assoc}
use lib.ListN.{length, take, drop, length-append}
use lib.Seq.{take_at, drop_at, drop-drop}
use lib.Dec.{T, eqb}
use lib.Ieee.{Float, nan, binary64, of_bits, to_bits, fits}
use lib.Ieee.Bits.{of_bits-to_bits, to_bits-lt}
use borrow.Author.Tests.{eq-eqb, eqb-true, le-leb}
use Rattle.buf.specs.Bytes.{le, bytes_of, part, num_at, u64_at, f64_at, zeros}
use Rattle.buf.proofs.Laws.{length_bytes_of, le_bytes_of, length_zeros}
use Rattle.block.specs.declared.types.Conditions.{Conditions}
use Rattle.block.specs.declared.types.Numbers.{Numbers}
use Rattle.block.specs.Pairs.{offset_of, length_of, coefficients, interactions, fractions, conditions, coefficients_length, interactions_length, fractions_length, conditions_length, lengths_fit, offsets_fit, pairs_fit}
use Rattle.block.specs.Numbers.{list_at, conditions_at, filed_in}
use Rattle.block.specs.Blend.{at}
use Rattle.block.proofs.Lists.{tabulate_ext}
use Rattle.block.proofs.PairLaws.{both}
use Rattle.block.proofs.Sizes.{product}
use Rattle.writer.specs.Packed.{coefficients_from, interactions_from, fractions_from, conditions_from, packed_end, pair_bytes, pairs_bytes, floats_bytes, condition_bytes, filled, packed}
use Rattle.writer.specs.Written.{counts_fit, lists_fit}
use Rattle.writer.specs.Laws.{Binary64, ConditionsRepresentable, Representable}

-- ---- numbers in bytes that stand one after the other

-- behind the first m
num_skip : (k : ℕ) (p s : List ℕ) (m i : ℕ) → length p ≡ m → num_at k (p ++ s) (m + i) ≡ num_at k s i
unfolding num_at part
num_skip k p s m i e = ap (λ (l : List ℕ). le (take k l)) (sym (drop-drop i m (p ++ s)) ∙ ap (drop i) (drop_at p s m e))

-- the first
num_first : (k v : ℕ) (s : List ℕ) → v < 256 ^ k → num_at k (bytes_of k v ++ s) 0 ≡ v
unfolding num_at part
num_first k v s h = ap le (take_at (bytes_of k v) s k (length_bytes_of k v)) ∙ le_bytes_of k v h

-- ---- floats one after the other

pub length_floats : (l : List Float) → length (floats_bytes l) ≡ 8 * length l
unfolding floats_bytes
length_floats [] = refl
length_floats (x ∷ l) =
    let r = length_floats l in
    length-append (bytes_of 8 (to_bits binary64 x)) (floats_bytes l) ∙ rw (length_bytes_of, r) (omega arith)

first_float : (x : Float) (s : List ℕ) → T (fits binary64 x) → f64_at (bytes_of 8 (to_bits binary64 x) ++ s) 0 ≡ x
first_float x s h = ap (of_bits binary64) (num_first 8 (to_bits binary64 x) s (to_bits-lt binary64 x h)) ∙ of_bits-to_bits binary64 x h

float_at : (l : List Float) (s : List ℕ) (i : ℕ) → i < length l → Binary64 l → f64_at (floats_bytes l ++ s) (8 * i) ≡ at l i
unfolding floats_bytes
float_at [] s i h b = absurd (omega arith)
float_at (x ∷ l) s zero h b = ap (λ (w : List ℕ). f64_at w 0) (append_assoc (bytes_of 8 (to_bits binary64 x)) (floats_bytes l) s) ∙ first_float x (floats_bytes l ++ s) (b 0 h)
float_at (x ∷ l) s (suc i) h b =
    let next : 8 * suc i ≡ 8 + 8 * i = omega arith in
    ap (f64_at ((bytes_of 8 (to_bits binary64 x) ++ floats_bytes l) ++ s)) next
    ∙ ap (λ (w : List ℕ). f64_at w (8 + 8 * i)) (append_assoc (bytes_of 8 (to_bits binary64 x)) (floats_bytes l) s)
    ∙ ap (of_bits binary64) (num_skip 8 (bytes_of 8 (to_bits binary64 x)) (floats_bytes l ++ s) 8 (8 * i) (length_bytes_of 8 (to_bits binary64 x)))
    ∙ float_at l s i (omega arith) (λ k g. b (suc k) (omega arith))

-- a list that stands behind the first m bytes
list_read : (p s : List ℕ) (l : List Float) (count m : ℕ) → length p ≡ m → length l ≡ count → Binary64 l → list_at count (p ++ (floats_bytes l ++ s)) m ≡ l
unfolding list_at
list_read p s l count m e c b =
    sym (tabulate_ext count (λ i. f64_at (p ++ (floats_bytes l ++ s)) (m + 8 * i)) l nan c
    (λ i h. sym (ap (of_bits binary64) (num_skip 8 p (floats_bytes l ++ s) m (8 * i) e) ∙ float_at l s i (omega arith) b)))

-- ---- the conditions

length_conditions : (c : Conditions) → length (condition_bytes c) ≡ 32
unfolding condition_bytes
length_conditions c = length-append (bytes_of 8 c.choice) _ ∙ rw (length_bytes_of, length_floats)

conditions_read : (p s : List ℕ) (c : Conditions) (m : ℕ) → length p ≡ m → ConditionsRepresentable c → conditions_at (p ++ (condition_bytes c ++ s)) m ≡ c
unfolding conditions_at condition_bytes
conditions_read p s c m e h = rw (choice_at, float_there 0 (omega arith), float_there 1 (omega arith), float_there 2 (omega arith))
  where
    three : List Float
    three = c.temperature ∷ c.pressure ∷ c.start ∷ []

    whole : List ℕ
    whole = p ++ ((bytes_of 8 c.choice ++ floats_bytes three) ++ s)

    held : Binary64 three
    held zero g = h.temperature
    held (suc zero) g = h.pressure
    held (suc (suc zero)) g = h.start
    held (suc (suc (suc i))) g = absurd (omega arith)

    spread : whole ≡ p ++ (bytes_of 8 c.choice ++ (floats_bytes three ++ s))
    spread = ap (λ (w : List ℕ). p ++ w) (append_assoc (bytes_of 8 c.choice) (floats_bytes three) s)

    choice_at : u64_at whole m ≡ c.choice
    choice_at =
        ap (u64_at whole) (sym (add-zero m)) ∙ ap (λ (w : List ℕ). u64_at w (m + 0)) spread ∙ num_skip 8 p _ m 0 e ∙ num_first 8 c.choice _ h.choice

    float_there : (i : ℕ) → i < 3 → f64_at whole (m + (8 + 8 * i)) ≡ at three i
    float_there i g =
        ap (λ (w : List ℕ). f64_at w (m + (8 + 8 * i))) spread
        ∙ ap (of_bits binary64) (num_skip 8 p _ m (8 + 8 * i) e ∙ num_skip 8 (bytes_of 8 c.choice) _ 8 (8 * i) (length_bytes_of 8 c.choice))
        ∙ float_at three s i g held

-- ---- the pairs

pub length_pair : (o l : ℕ) → length (pair_bytes o l) ≡ 4
unfolding pair_bytes
length_pair o l = length-append (bytes_of 2 o) (bytes_of 2 l) ∙ simp length_bytes_of

pub length_pairs : (n : ℕ) → length (pairs_bytes n) ≡ 16
unfolding pairs_bytes
length_pairs n = simp (length-append, length_pair)

-- the offset and the length of a pair, and what stands behind it
pair_offset : (o l : ℕ) (s : List ℕ) → o < 65536 → num_at 2 (pair_bytes o l ++ s) 0 ≡ o
unfolding pair_bytes
pair_offset o l s h = ap (λ (w : List ℕ). num_at 2 w 0) (append_assoc (bytes_of 2 o) (bytes_of 2 l) s) ∙ num_first 2 o _ h

pair_length : (o l : ℕ) (s : List ℕ) → l < 65536 → num_at 2 (pair_bytes o l ++ s) 2 ≡ l
unfolding pair_bytes
pair_length o l s h =
    ap (λ (w : List ℕ). num_at 2 w 2) (append_assoc (bytes_of 2 o) (bytes_of 2 l) s)
    ∙ num_skip 2 (bytes_of 2 o) _ 2 0 (length_bytes_of 2 o)
    ∙ num_first 2 l s h

pair_skip : (o l : ℕ) (s : List ℕ) (i : ℕ) → num_at 2 (pair_bytes o l ++ s) (4 + i) ≡ num_at 2 s i
pair_skip o l s i = num_skip 2 (pair_bytes o l) s 4 i (length_pair o l)

-- ---- the whole block

lengths_fit_lem : (n : ℕ) (d : Numbers) → lists_fit n d ≡ true → (length d.coefficients ≡ 3 * n) × ((length d.interactions ≡ n * (n - 1) / 2) × (length d.fractions ≡ n))
unfolding counts_fit
lengths_fit_lem n d h =
    let p = both (eqb (length d.coefficients) (3 * n)) h in
    let q = both (eqb (length d.interactions) (n * (n - 1) / 2)) p.1 in
    (eqb-true _ _ p.0, (eqb-true _ _ q.0, eqb-true _ _ q.1))

-- n(n − 1) is even, so that half as many floats of eight bytes fill four times as many
unfoldable triangle : ℕ → ℕ
triangle zero = 0
triangle (suc m) = triangle m + suc m

triangle_twice : (m : ℕ) → 2 * triangle m ≡ suc m * m
unfolding triangle
triangle_twice zero = refl
triangle_twice (suc m) = let r = triangle_twice m in omega arith

even : (n : ℕ) → 8 * (n * (n - 1) / 2) ≡ 4 * (n * (n - 1))
even zero = refl
even (suc m) =
    let less : suc m - 1 ≡ m = omega arith in
    let r = triangle_twice m in
    rw less (omega arith)

module _ (n : ℕ) (d : Numbers) (fit : lists_fit n d ≡ true) where
  pub coefficients_bytes : length (floats_bytes d.coefficients) ≡ coefficients_length n
  coefficients_bytes = length_floats d.coefficients ∙ rw (lengths_fit_lem n d fit).0 (omega arith)

  pub interactions_bytes : length (floats_bytes d.interactions) ≡ interactions_length n
  interactions_bytes = length_floats d.interactions ∙ rw (lengths_fit_lem n d fit).1.0 (even n)

  pub fractions_bytes : length (floats_bytes d.fractions) ≡ fractions_length n
  fractions_bytes = length_floats d.fractions ∙ rw (lengths_fit_lem n d fit).1.1

  pub length_filled : length (filled n d) ≡ packed_end n
  unfolding filled
  length_filled = simp (length-append, length_pairs, coefficients_bytes, interactions_bytes, fractions_bytes, length_conditions) (omega arith)

  pub length_packed : n ≤ 8 → length (packed n d) ≡ 640
  unfolding packed
  length_packed h = let p = product n h in length-append (filled n d) _ ∙ rw (length_filled, length_zeros) (omega arith)

  -- the parts one after the other, with what is behind each
  pub spread : packed n d ≡ pairs_bytes n ++ (floats_bytes d.coefficients ++ (floats_bytes d.interactions ++ (floats_bytes d.fractions ++ (condition_bytes d.conditions ++ zeros (640 - packed_end n)))))
  unfolding packed filled
  spread = simp append_assoc

-- ---- the pairs of the whole block

record Packs (n : ℕ) (s : List ℕ) : Type 0 where
  offset_0 : offset_of s coefficients ≡ coefficients_from n
  length_0 : length_of s coefficients ≡ coefficients_length n
  offset_1 : offset_of s interactions ≡ interactions_from n
  length_1 : length_of s interactions ≡ interactions_length n
  offset_2 : offset_of s fractions ≡ fractions_from n
  length_2 : length_of s fractions ≡ fractions_length n
  offset_3 : offset_of s conditions ≡ conditions_from n
  length_3 : length_of s conditions ≡ conditions_length

pairs_read : (n : ℕ) (r : List ℕ) → n ≤ 8 → Packs n (pairs_bytes n ++ r)
unfolding offset_of length_of pairs_bytes
pairs_read n r h =
    let p = product n h in
    let there : (at : ℕ) → num_at 2 (pairs_bytes n ++ r) at ≡ num_at 2 (first ++ (second ++ (third ++ (fourth ++ r)))) at = λ at. ap (λ (w : List ℕ). num_at 2 w at) apart in
    let skip₁ : (at : ℕ) → num_at 2 (first ++ (second ++ (third ++ (fourth ++ r)))) (4 + at) ≡ num_at 2 (second ++ (third ++ (fourth ++ r))) at = λ at. pair_skip _ _ _ at in
    let skip₂ : (at : ℕ) → num_at 2 (second ++ (third ++ (fourth ++ r))) (4 + at) ≡ num_at 2 (third ++ (fourth ++ r)) at = λ at. pair_skip _ _ _ at in
    let skip₃ : (at : ℕ) → num_at 2 (third ++ (fourth ++ r)) (4 + at) ≡ num_at 2 (fourth ++ r) at = λ at. pair_skip _ _ _ at in
    record {
      offset_0 = there 0 ∙ pair_offset _ _ _ (omega arith);
      length_0 = there 2 ∙ pair_length _ _ _ (omega arith);
      offset_1 = there 4 ∙ skip₁ 0 ∙ pair_offset _ _ _ (omega arith);
      length_1 = there 6 ∙ skip₁ 2 ∙ pair_length _ _ _ (omega arith);
      offset_2 = there 8 ∙ skip₁ 4 ∙ skip₂ 0 ∙ pair_offset _ _ _ (omega arith);
      length_2 = there 10 ∙ skip₁ 6 ∙ skip₂ 2 ∙ pair_length _ _ _ (omega arith);
      offset_3 = there 12 ∙ skip₁ 8 ∙ skip₂ 4 ∙ skip₃ 0 ∙ pair_offset _ _ _ (omega arith);
      length_3 = there 14 ∙ skip₁ 10 ∙ skip₂ 6 ∙ skip₃ 2 ∙ pair_length _ _ _ (omega arith);
    }
  where
    first : List ℕ
    first = pair_bytes (coefficients_from n) (coefficients_length n)

    second : List ℕ
    second = pair_bytes (interactions_from n) (interactions_length n)

    third : List ℕ
    third = pair_bytes (fractions_from n) (fractions_length n)

    fourth : List ℕ
    fourth = pair_bytes (conditions_from n) conditions_length

    apart : pairs_bytes n ++ r ≡ first ++ (second ++ (third ++ (fourth ++ r)))
    apart = simp append_assoc

pub same : (k : ℕ) → eqb k k ≡ true
same k = eq-eqb k k refl

packs_fit : (n : ℕ) (s : List ℕ) → n ≤ 8 → Packs n s → pairs_fit n s ≡ true
unfolding pairs_fit lengths_fit offsets_fit
packs_fit n s h p =
    let q = product n h in
    let begins : 16 ≤ coefficients_from n = omega arith in
    let end₀ : coefficients_from n + coefficients_length n ≤ interactions_from n = omega arith in
    let end₁ : interactions_from n + interactions_length n ≤ fractions_from n = omega arith in
    let end₂ : fractions_from n + fractions_length n ≤ conditions_from n = omega arith in
    let end₃ : conditions_from n + conditions_length ≤ 640 = omega arith in
    rw (p.offset_0, p.length_0, p.offset_1, p.length_1, p.offset_2, p.length_2, p.offset_3, p.length_3, same (coefficients_length n), same (interactions_length n), same (fractions_length n), le-leb _ _ begins, le-leb _ _ end₀, le-leb _ _ end₁, le-leb _ _ end₂, le-leb _ _ end₃)

-- ---- the numbers of the whole block

numbers_read : (n : ℕ) (d : Numbers) (s : List ℕ) → lists_fit n d ≡ true → Representable d → Packs n s → s ≡ packed n d → filed_in n s ≡ d
unfolding filed_in
numbers_read n d s fit m p e = rw (p.offset_0, p.offset_1, p.offset_2, p.offset_3, e, spread n d fit, list_0, list_1, list_2, conditions_3)
  where
    a : List ℕ
    a = floats_bytes d.coefficients

    b : List ℕ
    b = floats_bytes d.interactions

    c : List ℕ
    c = floats_bytes d.fractions

    w : List ℕ
    w = condition_bytes d.conditions

    z : List ℕ
    z = zeros (640 - packed_end n)

    lengths : (length d.coefficients ≡ 3 * n) × ((length d.interactions ≡ n * (n - 1) / 2) × (length d.fractions ≡ n))
    lengths = lengths_fit_lem n d fit

    whole : List ℕ
    whole = pairs_bytes n ++ (a ++ (b ++ (c ++ (w ++ z))))

    before_1 : length (pairs_bytes n ++ a) ≡ interactions_from n
    before_1 = length-append (pairs_bytes n) a ∙ rw (length_pairs, coefficients_bytes n d fit)

    before_2 : length ((pairs_bytes n ++ a) ++ b) ≡ fractions_from n
    before_2 = length-append (pairs_bytes n ++ a) b ∙ rw (before_1, interactions_bytes n d fit)

    before_3 : length (((pairs_bytes n ++ a) ++ b) ++ c) ≡ conditions_from n
    before_3 = length-append ((pairs_bytes n ++ a) ++ b) c ∙ rw (before_2, fractions_bytes n d fit)

    list_0 : list_at (3 * n) whole (coefficients_from n) ≡ d.coefficients
    list_0 = list_read (pairs_bytes n) _ d.coefficients (3 * n) 16 (length_pairs n) lengths.0 m.coefficients

    list_1 : list_at (n * (n - 1) / 2) whole (interactions_from n) ≡ d.interactions
    list_1 =
        ap (λ (l : List ℕ). list_at (n * (n - 1) / 2) l (interactions_from n)) (sym (append_assoc (pairs_bytes n) a _))
        ∙ list_read (pairs_bytes n ++ a) _ d.interactions (n * (n - 1) / 2) (interactions_from n) before_1 lengths.1.0 m.interactions

    list_2 : list_at n whole (fractions_from n) ≡ d.fractions
    list_2 =
        ap (λ (l : List ℕ). list_at n l (fractions_from n)) (sym (append_assoc (pairs_bytes n ++ a) b _ ∙ append_assoc (pairs_bytes n) a _))
        ∙ list_read ((pairs_bytes n ++ a) ++ b) _ d.fractions n (fractions_from n) before_2 lengths.1.1 m.fractions

    conditions_3 : conditions_at whole (conditions_from n) ≡ d.conditions
    conditions_3 =
        ap (λ (l : List ℕ). conditions_at l (conditions_from n)) (sym (append_assoc ((pairs_bytes n ++ a) ++ b) c _ ∙ append_assoc (pairs_bytes n ++ a) b _ ∙ append_assoc (pairs_bytes n) a _))
        ∙ conditions_read (((pairs_bytes n ++ a) ++ b) ++ c) z d.conditions (conditions_from n) before_3 m.conditions

module _ (n : ℕ) (d : Numbers) (h : n ≤ 8) (fit : lists_fit n d ≡ true) where
  packs : Packs n (packed n d)
  packs = rw (spread n d fit) (pairs_read n _ h)

  pub packed_fits : pairs_fit n (packed n d) ≡ true
  packed_fits = packs_fit n (packed n d) h packs

  pub filed_packed : Representable d → filed_in n (packed n d) ≡ d
  filed_packed m = numbers_read n d (packed n d) fit m packs refl
