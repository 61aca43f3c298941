-- The laws of `specs/Bytes.antt`. Assumes nothing.
use mathlib.Core.Path.{◌≡◌, refl, sym, ap, ◌∙◌}
use Prim.Native.Nat.{ℕ, zero, suc, ◌+◌, ◌-◌, ◌*◌, ◌/◌, ◌%◌, ◌^◌, ◌≤◌, ◌<◌}
use mathlib.Core.Bool.{true}
use mathlib.Core.List.{List, [], ◌∷◌, ◌++◌, append_assoc}
use native.Mathlib.Omega.{arith}
use native.Mathlib.Nat.{div-div-eq-div-mul, le_of_suc-le-suc, not-suc-le-zero, pow-suc, add-zero, add-suc, sub-zero}
use lib.ListN.{length, take, drop, get_or, set, length-replicate, length-take, length-drop, drop_of_length-le}
use lib.Seq.{get_or-take, get_or-drop, sets, sets-eq, length-sets, drop-cons, drop-set-lt, take-set-le, take-set-lt, drop-set-add, drop-drop, take-take, take_at, drop_at, length-take-le}
use lib.Dec.{leb}
use borrow.Author.Tests.{leb-true}
use Rattle.std.specs.Int.{w64, byte_at, bytes_low_first, to_le_bytes, from_le_bytes}
use Rattle.buf.specs.Bytes.{zeros, le, bytes_of, part, splice, num_at, put_num}

-- ---- numbers

pub length_bytes_of : (k n : ℕ) → length (bytes_of k n) ≡ k
unfolding bytes_of
length_bytes_of zero n = refl
length_bytes_of (suc k) n = ap suc (length_bytes_of k (n / 256))

pub le_cons : (b : ℕ) (bs : List ℕ) → le (b ∷ bs) ≡ le bs * 256 + b % 256
unfolding le
le_cons b bs = refl

step_lt : (v p b : ℕ) → v < p → v * 256 + b % 256 < p * 256
step_lt v p b h = omega arith

pow_pos : (k : ℕ) → 0 < 256 ^ k
pow_pos zero = omega arith
pow_pos (suc k) = let h : 0 < 256 ^ k = pow_pos k in rw pow-suc (omega arith)

-- the number of k elements is below 256 ^ k, whatever the elements are
pub le_lt : (k : ℕ) (bs : List ℕ) → length bs ≤ k → le bs < 256 ^ k
unfolding le
le_lt k [] h = pow_pos k
le_lt zero (b ∷ bs) h = absurd (not-suc-le-zero h)
le_lt (suc k) (b ∷ bs) h = rw pow-suc (step_lt (le bs) (256 ^ k) b (le_lt k bs (le_of_suc-le-suc h)))

pub le_bytes_of : (k n : ℕ) → n < 256 ^ k → le (bytes_of k n) ≡ n
unfolding le bytes_of
le_bytes_of zero n h = omega arith
le_bytes_of (suc k) n h =
    let p : n < 256 ^ k * 256 = rw pow-suc at h in
    let q : n / 256 < 256 ^ k = omega arith in
    rw (le_bytes_of k (n / 256) q) (omega arith)

-- ---- parts

pub length_splice : (s : List ℕ) (at : ℕ) (v : List ℕ) → length (splice s at v) ≡ length s
unfolding splice
length_splice s at v = length-sets s at v

pub length_part : (s : List ℕ) (at n : ℕ) → at + n ≤ length s → length (part s at n) ≡ n
unfolding part
length_part s at n h = simp (length-take, length-drop) (omega arith)

pub length_part_le : (s : List ℕ) (at n : ℕ) → length (part s at n) ≤ n
unfolding part
length_part_le s at n = simp (length-take, length-drop) (omega arith)

pub part_cons : (s : List ℕ) (at n : ℕ) → at < length s → part s at (suc n) ≡ get_or s at 0 ∷ part s (suc at) n
unfolding part
part_cons s at n h = rw (drop-cons s at 0)

-- v stored element by element
pub splice_cons : (s : List ℕ) (at x : ℕ) (v : List ℕ) → splice s at (x ∷ v) ≡ splice (set s at x) (suc at) v
unfolding splice
splice_cons s at x v = refl

pub splice_nil : (s : List ℕ) (at : ℕ) → splice s at [] ≡ s
unfolding splice
splice_nil s at = refl

pub splice_append : (u v s : List ℕ) (at : ℕ) → splice s at (u ++ v) ≡ splice (splice s at u) (at + length u) v
unfolding splice
splice_append [] v s at = rw add-zero
splice_append (x ∷ u) v s at = splice_append u v (set s at x) (suc at) ∙ ap (λ (k : ℕ). sets (sets (set s at x) (suc at) u) k v) (omega arith)

-- what comes back after a loan of a part: v in the place of the n elements from a
pub lent : (s v : List ℕ) (a n : ℕ) → length v ≡ n → a + n ≤ length s → take a s ++ (v ++ drop n (drop a s)) ≡ splice s a v
unfolding splice
lent s v a n e h =
    let k : a + length v ≤ length s = omega arith in
    sym (sets-eq v s a k ∙ append_assoc (take a s) v (drop (a + length v) s) ∙ rw (drop-drop, e))

part_set_before : (s : List ℕ) (i x j n : ℕ) → j + n ≤ i → part (set s i x) j n ≡ part s j n
unfolding part
part_set_before s i x j n h =
    let e : i ≡ j + (i - j) = omega arith in
    ap (λ (k : ℕ). take n (drop j (set s k x))) e
    ∙ ap (take n) (drop-set-add j s (i - j) x)
    ∙ take-set-le n (drop j s) (i - j) x (omega arith)

part_set_after : (s : List ℕ) (i x j n : ℕ) → i < j → part (set s i x) j n ≡ part s j n
unfolding part
part_set_after s i x j n h = ap (take n) (drop-set-lt j s i x h)

-- a part that ends before what is stored
pub part_splice_before : (s : List ℕ) (i : ℕ) (v : List ℕ) (j n : ℕ) → j + n ≤ i → part (splice s i v) j n ≡ part s j n
unfolding splice
part_splice_before s i [] j n h = refl
part_splice_before s i (x ∷ v) j n h = part_splice_before (set s i x) (suc i) v j n (omega arith) ∙ part_set_before s i x j n h

-- a part that starts after what is stored
pub part_splice_after : (s : List ℕ) (i : ℕ) (v : List ℕ) (j n : ℕ) → i + length v ≤ j → part (splice s i v) j n ≡ part s j n
unfolding splice
part_splice_after s i [] j n h = refl
part_splice_after s i (x ∷ v) j n h = part_splice_after (set s i x) (suc i) v j n (omega arith) ∙ part_set_after s i x j n (omega arith)

-- the part that is stored
pub part_splice_same : (s : List ℕ) (i : ℕ) (v : List ℕ) (n : ℕ) → length v ≡ n → i + n ≤ length s → part (splice s i v) i n ≡ v
unfolding splice part
part_splice_same s i v n e h =
    ap (λ (l : List ℕ). take n (drop i l)) (sets-eq v s i (omega arith))
    ∙ ap (λ (l : List ℕ). take n (drop i l)) (append_assoc (take i s) v (drop (i + length v) s))
    ∙ ap (take n) (drop_at (take i s) (v ++ drop (i + length v) s) i (length-take-le i s (omega arith)))
    ∙ take_at v (drop (i + length v) s) n e

part_set_in : (s : List ℕ) (a n i x : ℕ) → i < n → part (set s (a + i) x) a n ≡ set (part s a n) i x
unfolding part
part_set_in s a n i x h = ap (take n) (drop-set-add a s i x) ∙ take-set-lt n (drop a s) i x h

-- a part around what is stored
pub part_splice_in : (s : List ℕ) (a n i : ℕ) (v : List ℕ) → i + length v ≤ n → part (splice s (a + i) v) a n ≡ splice (part s a n) i v
unfolding splice
part_splice_in s a n i [] h = refl
part_splice_in s a n i (x ∷ v) h =
    ap (λ (k : ℕ). part (sets (set s (a + i) x) k v) a n) (sym (add-suc a i))
    ∙ part_splice_in (set s (a + i) x) a n (suc i) v (omega arith)
    ∙ ap (λ (l : List ℕ). sets l (suc i) v) (part_set_in s a n i x (omega arith))

take_drop_take : (i k n : ℕ) (l : List ℕ) → i + k ≤ n → take k (drop i (take n l)) ≡ take k (drop i l)
take_drop_take zero k n l h = take-take k n l (omega arith)
take_drop_take (suc i) k zero l h = absurd (not-suc-le-zero {n = i + k} (omega arith))
take_drop_take (suc i) k (suc n) [] h = refl
take_drop_take (suc i) k (suc n) (x ∷ l) h = take_drop_take i k n l (omega arith)

pub part_part : (s : List ℕ) (a n i k : ℕ) → i + k ≤ n → part (part s a n) i k ≡ part s (a + i) k
unfolding part
part_part s a n i k h = take_drop_take i k n (drop a s) h ∙ ap (take k) (drop-drop i a s)

-- ---- numbers in place. The side conditions are computed tests, which `simp` proves by `refl` at literals.

pub length_put_num : (k : ℕ) (s : List ℕ) (i v : ℕ) → length (put_num k s i v) ≡ length s
unfolding put_num
length_put_num k s i v = length_splice s i (bytes_of k v)

pub num_at_lt : (k : ℕ) (s : List ℕ) (i : ℕ) → num_at k s i < 256 ^ k
unfolding num_at
num_at_lt k s i = le_lt k (part s i k) (length_part_le s i k)

pub get_put_same : (k : ℕ) (s : List ℕ) (i v : ℕ) → leb (i + k) (length s) ≡ true → v < 256 ^ k → num_at k (put_num k s i v) i ≡ v
unfolding num_at put_num
get_put_same k s i v h b =
    ap le (part_splice_same s i (bytes_of k v) k (length_bytes_of k v) (leb-true (i + k) (length s) h)) ∙ le_bytes_of k v b

pub get_put_before : (k m : ℕ) (s : List ℕ) (i v j : ℕ) → leb (j + m) i ≡ true → num_at m (put_num k s i v) j ≡ num_at m s j
unfolding num_at put_num
get_put_before k m s i v j h = ap le (part_splice_before s i (bytes_of k v) j m (leb-true (j + m) i h))

pub get_put_after : (k m : ℕ) (s : List ℕ) (i v j : ℕ) → leb (i + k) j ≡ true → num_at m (put_num k s i v) j ≡ num_at m s j
unfolding num_at put_num
get_put_after k m s i v j h =
    let e : length (bytes_of k v) ≡ k = length_bytes_of k v in
    let g : i + k ≤ j = leb-true (i + k) j h in
    ap le (part_splice_after s i (bytes_of k v) j m (omega arith))

-- a part elsewhere
pub part_put_before : (k m : ℕ) (s : List ℕ) (i v j : ℕ) → leb (j + m) i ≡ true → part (put_num k s i v) j m ≡ part s j m
unfolding put_num
part_put_before k m s i v j h = part_splice_before s i (bytes_of k v) j m (leb-true (j + m) i h)

pub part_put_after : (k m : ℕ) (s : List ℕ) (i v j : ℕ) → leb (i + k) j ≡ true → part (put_num k s i v) j m ≡ part s j m
unfolding put_num
part_put_after k m s i v j h =
    let e : length (bytes_of k v) ≡ k = length_bytes_of k v in
    let g : i + k ≤ j = leb-true (i + k) j h in
    part_splice_after s i (bytes_of k v) j m (omega arith)

-- numbers and numbers stored, in a part
pub num_at_part : (k : ℕ) (s : List ℕ) (a n i : ℕ) → leb (i + k) n ≡ true → num_at k (part s a n) i ≡ num_at k s (a + i)
unfolding num_at
num_at_part k s a n i h = ap le (part_part s a n i k (leb-true (i + k) n h))

-- ---- one turn of each loop

pub get_small : (s : List ℕ) (at k v i : ℕ) → 0 < i → k ≤ 8 → v ≡ le (part s (at + i) (k - i)) → v < 2 ^ 56
get_small s at k v i p q ev =
    let l : length (part s (at + i) (k - i)) ≤ k - i = length_part_le s (at + i) (k - i) in
    let b : le (part s (at + i) (k - i)) < 2 ^ 56 = le_lt 7 (part s (at + i) (k - i)) (omega arith) in
    omega arith

pub get_step : (s : List ℕ) (at k v i r : ℕ) → 0 < i → i ≤ k → at + k ≤ length s → v ≡ le (part s (at + i) (k - i)) → r ≡ get_or s (at + (i - 1)) 0 → r < 256
    → v * 256 + r ≡ le (part s (at + (i - 1)) (k - (i - 1)))
get_step s at k v i r p q h ev er b =
    let at_less : at + (i - 1) < length s = omega arith in
    let e₁ : k - (i - 1) ≡ suc (k - i) = omega arith in
    let e₂ : suc (at + (i - 1)) ≡ at + i = omega arith in
    sym
    (ap (λ (n : ℕ). le (part s (at + (i - 1)) n)) e₁
    ∙ ap le (part_cons s (at + (i - 1)) (k - i) at_less)
    ∙ le_cons (get_or s (at + (i - 1)) 0) (part s (suc (at + (i - 1))) (k - i))
    ∙ ap (λ (n : ℕ). le (part s n (k - i)) * 256 + get_or s (at + (i - 1)) 0 % 256) e₂
    ∙ omega arith)

pub put_step : (s : List ℕ) (at k x i : ℕ) → i < k
    → splice s (at + i) (bytes_of (k - i) x) ≡ splice (set s (at + i) (x % 256)) (at + (i + 1)) (bytes_of (k - (i + 1)) (x / 256))
unfolding bytes_of
put_step s at k x i h =
    let e₁ : k - i ≡ suc (k - (i + 1)) = omega arith in
    let e₂ : suc (at + i) ≡ at + (i + 1) = omega arith in
    ap (λ (n : ℕ). splice s (at + i) (bytes_of n x)) e₁
    ∙ splice_cons s (at + i) (x % 256) (bytes_of (k - (i + 1)) (x / 256))
    ∙ ap (λ (n : ℕ). splice (set s (at + i) (x % 256)) n (bytes_of (k - (i + 1)) (x / 256))) e₂

pub copy_step : (s b : List ℕ) (at i : ℕ) → i < length b
    → splice s (at + i) (drop i b) ≡ splice (set s (at + i) (get_or b i 0)) (at + (i + 1)) (drop (i + 1) b)
copy_step s b at i h =
    let e₁ : suc i ≡ i + 1 = omega arith in
    let e₂ : suc (at + i) ≡ at + (i + 1) = omega arith in
    ap (splice s (at + i)) (drop-cons b i 0 h)
    ∙ splice_cons s (at + i) (get_or b i 0) (drop (suc i) b)
    ∙ ap (λ (n : ℕ). splice (set s (at + i) (get_or b i 0)) n (drop (suc i) b)) e₂
    ∙ ap (λ (n : ℕ). splice (set s (at + i) (get_or b i 0)) (at + (i + 1)) (drop n b)) e₁

-- where a loop begins, and where it ends
pub get_none : (s : List ℕ) (at k i : ℕ) → i ≡ k → 0 ≡ le (part s (at + i) (k - i))
unfolding le part
get_none s at k i e = let z : k - i ≡ 0 = omega arith in rw z

pub get_all : (s : List ℕ) (at k i v : ℕ) → i ≤ 0 → v ≡ le (part s (at + i) (k - i)) → v ≡ num_at k s at
unfolding num_at
get_all s at k i v h e = let z : i ≡ 0 = omega arith in e ∙ ap (λ (n : ℕ). le (part s (at + n) (k - n))) z ∙ simp (add-zero, sub-zero)

-- the number of eight bytes at once
pub get_eight : (s : List ℕ) (at b0 b1 b2 b3 b4 b5 b6 b7 : ℕ) → at + 8 ≤ length s → b0 ≡ get_or s at 0 → b0 < 256 → b1 ≡ get_or s (at + 1) 0 → b1 < 256 → b2 ≡ get_or s (at + 2) 0 → b2 < 256 → b3 ≡ get_or s (at + 3) 0 → b3 < 256 → b4 ≡ get_or s (at + 4) 0 → b4 < 256 → b5 ≡ get_or s (at + 5) 0 → b5 < 256 → b6 ≡ get_or s (at + 6) 0 → b6 < 256 → b7 ≡ get_or s (at + 7) 0 → b7 < 256
    → b0 + b1 * 0x100 + b2 * 0x10000 + b3 * 0x1000000 + b4 * 0x100000000 + b5 * 0x10000000000 + b6 * 0x1000000000000 + b7 * 0x100000000000000 ≡ num_at 8 s at
get_eight s at b0 b1 b2 b3 b4 b5 b6 b7 h e0 l0 e1 l1 e2 l2 e3 l3 e4 l4 e5 l5 e6 l6 e7 l7 =
    let v7 = get_step s at 8 (0) 8 b7 (omega arith) (omega arith) h (get_none s at 8 8 refl) e7 l7 in
    let v6 = get_step s at 8 ((0) * 256 + b7) 7 b6 (omega arith) (omega arith) h v7 e6 l6 in
    let v5 = get_step s at 8 (((0) * 256 + b7) * 256 + b6) 6 b5 (omega arith) (omega arith) h v6 e5 l5 in
    let v4 = get_step s at 8 ((((0) * 256 + b7) * 256 + b6) * 256 + b5) 5 b4 (omega arith) (omega arith) h v5 e4 l4 in
    let v3 = get_step s at 8 (((((0) * 256 + b7) * 256 + b6) * 256 + b5) * 256 + b4) 4 b3 (omega arith) (omega arith) h v4 e3 l3 in
    let v2 = get_step s at 8 ((((((0) * 256 + b7) * 256 + b6) * 256 + b5) * 256 + b4) * 256 + b3) 3 b2 (omega arith) (omega arith) h v3 e2 l2 in
    let v1 = get_step s at 8 (((((((0) * 256 + b7) * 256 + b6) * 256 + b5) * 256 + b4) * 256 + b3) * 256 + b2) 2 b1 (omega arith) (omega arith) h v2 e1 l1 in
    let v0 = get_step s at 8 ((((((((0) * 256 + b7) * 256 + b6) * 256 + b5) * 256 + b4) * 256 + b3) * 256 + b2) * 256 + b1) 1 b0 (omega arith) (omega arith) h v1 (e0 ∙ ap (λ (n : ℕ). get_or s n 0) (sym (add-zero at))) l0 in
    let same : b0 + b1 * 0x100 + b2 * 0x10000 + b3 * 0x1000000 + b4 * 0x100000000 + b5 * 0x10000000000 + b6 * 0x1000000000000 + b7 * 0x100000000000000 ≡ ((((((((0) * 256 + b7) * 256 + b6) * 256 + b5) * 256 + b4) * 256 + b3) * 256 + b2) * 256 + b1) * 256 + b0 = omega arith in
    same ∙ get_all s at 8 0 (((((((((0) * 256 + b7) * 256 + b6) * 256 + b5) * 256 + b4) * 256 + b3) * 256 + b2) * 256 + b1) * 256 + b0) (omega arith) v0

-- `u64::from_le_bytes` of a part, and `u64::to_le_bytes`
part_at : (s : List ℕ) (at n i : ℕ) → i < n → get_or (part s at n) i 0 ≡ get_or s (at + i) 0
unfolding part
part_at s at n i h = get_or-take n (drop at s) i 0 h ∙ get_or-drop at s i 0

pub from_eight : (s bs : List ℕ) (at : ℕ) → at + 8 ≤ length s → bs ≡ take 8 (drop at s) → ((i : ℕ) → get_or s i 0 < 256) → from_le_bytes w64 bs ≡ num_at 8 s at
unfolding part
from_eight s bs at h e small = rw e (get_eight s at _ _ _ _ _ _ _ _ h (it 0 (omega arith) ∙ ap (λ (n : ℕ). get_or s n 0) (add-zero at)) (low 0 (omega arith)) (it 1 (omega arith)) (low 1 (omega arith)) (it 2 (omega arith)) (low 2 (omega arith)) (it 3 (omega arith)) (low 3 (omega arith)) (it 4 (omega arith)) (low 4 (omega arith)) (it 5 (omega arith)) (low 5 (omega arith)) (it 6 (omega arith)) (low 6 (omega arith)) (it 7 (omega arith)) (low 7 (omega arith)))
  where
    it : (i : ℕ) → i < 8 → get_or (part s at 8) i 0 ≡ get_or s (at + i) 0
    it i l = part_at s at 8 i l

    low : (i : ℕ) → i < 8 → get_or (part s at 8) i 0 < 256
    low i l = rw (part_at s at 8 i l) (small (at + i))

low_first : (k i n : ℕ) → bytes_low_first i k n ≡ bytes_of k (n / 256 ^ i)
unfolding bytes_of
low_first zero i n = refl
low_first (suc k) i n =
    ap (λ (l : List ℕ). byte_at i n ∷ l) (low_first k (suc i) n ∙ ap (bytes_of k) (sym (div-div-eq-div-mul n (256 ^ i) 256 ∙ ap (λ (m : ℕ). n / m) (sym (pow-suc 256 i)))))
    ∙ ap (λ (b : ℕ). b ∷ bytes_of k (n / 256 ^ i / 256)) (byte_is i)
  where
    byte_is : (i : ℕ) → byte_at i n ≡ n / 256 ^ i % 256
    byte_is zero = omega arith
    byte_is (suc i) = refl

pub to_eight : (n : ℕ) → to_le_bytes w64 n ≡ bytes_of 8 n
to_eight n = low_first 8 0 n ∙ ap (bytes_of 8) (by_one n)
  where
    by_one : (n : ℕ) → n / 1 ≡ n
    by_one n = omega arith

pub put_all : (s w : List ℕ) (at k x i : ℕ) → k ≤ i → splice s (at + i) (bytes_of (k - i) x) ≡ w → s ≡ w
unfolding bytes_of
put_all s w at k x i h e = let z : k - i ≡ 0 = omega arith in sym (splice_nil s (at + i)) ∙ ap (λ (n : ℕ). splice s (at + i) (bytes_of n x)) (sym z) ∙ e

-- ---- a part that is lent and comes back

-- what is lent
pub lent_part : (s : List ℕ) (a k n : ℕ) → k ≡ n → take k (drop a s) ≡ part s a n
unfolding part
lent_part s a k n e = ap (λ (m : ℕ). take m (drop a s)) e

-- what comes back
pub lent_back : (s v : List ℕ) (a k n : ℕ) → k ≡ n → length v ≡ n → a + n ≤ length s → take a s ++ (v ++ drop k (drop a s)) ≡ splice s a v
lent_back s v a k n e l h = ap (λ (m : ℕ). take a s ++ (v ++ drop m (drop a s))) e ∙ lent s v a n l h

-- ---- a list of zeros
take_drop_zeros : (n a k : ℕ) → a + k ≤ n → take k (drop a (zeros n)) ≡ zeros k
unfolding zeros
take_drop_zeros n zero zero h = refl
take_drop_zeros zero zero (suc k) h = absurd (omega arith)
take_drop_zeros (suc n) zero (suc k) h = ap (λ (l : List ℕ). 0 ∷ l) (take_drop_zeros n zero k (omega arith))
take_drop_zeros zero (suc a) k h = absurd (omega arith)
take_drop_zeros (suc n) (suc a) k h = take_drop_zeros n a k (omega arith)

le_zeros : (n : ℕ) → le (zeros n) ≡ 0
unfolding le zeros
le_zeros zero = refl
le_zeros (suc n) = rw (le_zeros n)

pub length_zeros : (n : ℕ) → length (zeros n) ≡ n
unfolding zeros
length_zeros n = length-replicate n 0

pub part_zeros : (n a k : ℕ) → a + k ≤ n → part (zeros n) a k ≡ zeros k
unfolding part
part_zeros n a k h = take_drop_zeros n a k h

pub num_at_zeros : (k n a : ℕ) → leb (a + k) n ≡ true → num_at k (zeros n) a ≡ 0
unfolding num_at
num_at_zeros k n a h = ap le (part_zeros n a k (leb-true (a + k) n h)) ∙ le_zeros k

pub copy_all : (s w b : List ℕ) (at i : ℕ) → length b ≤ i → splice s (at + i) (drop i b) ≡ w → s ≡ w
copy_all s w b at i h e = sym (splice_nil s (at + i)) ∙ ap (splice s (at + i)) (sym (drop_of_length-le b h)) ∙ e
