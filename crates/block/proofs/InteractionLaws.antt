-- The matrix of the interactions while its upper half is stored row by row, each number twice. Assumes nothing.
use mathlib.Core.Path.{◌≡◌, refl, sym, ap, ◌∙◌}
use Prim.Native.Nat.{ℕ, ◌+◌, ◌-◌, ◌*◌, ◌/◌, ◌%◌, ◌≤◌, ◌<◌}
use native.Mathlib.Omega.{arith}
use native.Mathlib.Numerals.{add-one}
use mathlib.Core.Bool.{Bool, true, false, cond, ◌&&◌}
use mathlib.Core.List.{List}
use lib.ListN.{set, replicate}
use lib.Dec.{ltb, eqb}
use lib.Ieee.{Float}
use borrow.Author.Tests.{ltb-true, lt-ltb, le-ltb, eqb-true, eqb-false, eq-eqb, ne_eqb}
use Rattle.float.specs.Ops.{f0}
use Rattle.float.specs.Sign.{finite_of}
use Rattle.buf.specs.Bytes.{f64_at}
use Rattle.block.specs.Lists.{tabulate}
use Rattle.block.specs.Numbers.{floats_at}
use Rattle.block.specs.Blend.{at, rows_before, place, interaction_at}
use Rattle.block.proofs.Lists.{ltb_same, ltb_next, tabulate_same, tabulate_replicate, tabulate_set}
use Rattle.block.proofs.PairLaws.{both}
use Rattle.block.proofs.ReadLaws.{read_at}
use Rattle.block.proofs.Sizes.{product, row_next, place_below}

-- ---- a matrix from its upper half

abbrev mirrored : ℕ → (ℕ → ℕ → Float) → ℕ → ℕ → Float
mirrored n h u v = cond (ltb u v && ltb v n) (h u v) (cond (ltb v u && ltb u n) (h v u) f0)

abbrev pub entry : ℕ → (ℕ → ℕ → Float) → ℕ → Float
entry n h q = mirrored n h (q / 8) (q % 8)

mirrored_same : (n : ℕ) (h g : ℕ → ℕ → Float) (u v : ℕ) → (u < v → v < n → h u v ≡ g u v) → (v < u → u < n → h v u ≡ g v u) → mirrored n h u v ≡ mirrored n g u v
mirrored_same n h g u v a b = go (ltb u v && ltb v n) refl (ltb v u && ltb u n) refl
  where
    go : (s : Bool) → (ltb u v && ltb v n) ≡ s → (t : Bool) → (ltb v u && ltb u n) ≡ t → mirrored n h u v ≡ mirrored n g u v
    go true p t q = rw p (a (ltb-true u v (both (ltb u v) p).0) (ltb-true v n (both (ltb u v) p).1))
    go false p true q = rw (p, q) (b (ltb-true v u (both (ltb v u) q).0) (ltb-true u n (both (ltb v u) q).1))
    go false p false q = rw (p, q)

mirrored_upper : (n : ℕ) (g : ℕ → ℕ → Float) (i j : ℕ) → i < j → j < n → g i j ≡ mirrored n g i j
mirrored_upper n g i j a b = rw (lt-ltb i j a, lt-ltb j n b)

mirrored_lower : (n : ℕ) (g : ℕ → ℕ → Float) (i j : ℕ) → i < j → j < n → g i j ≡ mirrored n g j i
mirrored_lower n g i j a b = let c : i ≤ j = omega arith in rw (le-ltb j i c, lt-ltb i j a, lt-ltb j n b)

-- a number of the upper half and its mirror are stored
mirrored_set : (n : ℕ) (h g : ℕ → ℕ → Float) (i j : ℕ) (k : List Float) (x : Float) → i < j → j < n → n ≤ 8 → k ≡ tabulate 64 (entry n h) → x ≡ g i j
    → ((u v : ℕ) → u < v → v < n → (8 * u + v ≡ 8 * i + j → ⊥) → h u v ≡ g u v) → set (set k (8 * i + j) x) (8 * j + i) x ≡ tabulate 64 (entry n g)
mirrored_set n h g i j k x a b m e q o =
    tabulate_set 64 half (entry n g) (8 * j + i) (set k (8 * i + j) x) x (omega arith)
    (tabulate_set 64 (entry n h) half (8 * i + j) k x (omega arith) e (rw (eq-eqb (8 * i + j) (8 * i + j) refl)) (λ r c ne. rw (ne_eqb r (8 * i + j) ne)))
    (q ∙ mirrored_lower n g i j a b ∙ at_entry j i (omega arith))
    (λ r c ne. others r c ne (eqb r (8 * i + j)) refl)
  where
    half : ℕ → Float
    half r = cond (eqb r (8 * i + j)) x (entry n h r)

    at_entry : (u v : ℕ) → v < 8 → mirrored n g u v ≡ entry n g (8 * u + v)
    at_entry u v c =
        let d : (8 * u + v) / 8 ≡ u = omega arith in
        let e : (8 * u + v) % 8 ≡ v = omega arith in
        rw (d, e)

    others : (r : ℕ) → r < 64 → (r ≡ 8 * j + i → ⊥) → (t : Bool) → eqb r (8 * i + j) ≡ t → cond (eqb r (8 * i + j)) x (entry n h r) ≡ entry n g r
    others r c ne true p = rw p (q ∙ mirrored_upper n g i j a b ∙ at_entry i j (omega arith) ∙ ap (entry n g) (sym (eqb-true r (8 * i + j) p)))
    others r c ne false p =
        let no-upper = eqb-false r (8 * i + j) p in
        rw p
        (mirrored_same n h g (r / 8) (r % 8)
        (λ l y. o (r / 8) (r % 8) l y (λ z. no-upper (omega arith)))
        (λ l y. o (r % 8) (r / 8) l y (λ z. ne (omega arith))))

-- ---- the upper half as far as it is stored: the numbers at positions below p

abbrev pub known : ℕ → List Float → ℕ → ℕ → ℕ → Float
known n row p u v = cond (ltb (8 * u + v) p) (at row (place n u v)) f0

-- nothing yet
pub matrix_none : (n : ℕ) (row k : List Float) → k ≡ replicate 64 f0 → k ≡ tabulate 64 (entry n (known n row 0))
matrix_none n row k e = tabulate_replicate 64 (entry n (known n row 0)) f0 k e (λ q h. go (q / 8) (q % 8) (ltb (q / 8) (q % 8) && ltb (q % 8) n) (ltb (q % 8) (q / 8) && ltb (q / 8) n))
  where
    go : (u v : ℕ) (s t : Bool) → f0 ≡ cond s (known n row 0 u v) (cond t (known n row 0 v u) f0)
    go u v true t = let h : 0 ≤ 8 * u + v = omega arith in rw (le-ltb (8 * u + v) 0 h)
    go u v false true = let h : 0 ≤ 8 * v + u = omega arith in rw (le-ltb (8 * v + u) 0 h)
    go u v false false = refl

-- positions between which the upper half has none
matrix_same : (n : ℕ) (row k : List Float) (p r : ℕ) → ((u v : ℕ) → u < v → v < n → 8 * u + v < p → 8 * u + v < r) → ((u v : ℕ) → u < v → v < n → 8 * u + v < r → 8 * u + v < p)
    → k ≡ tabulate 64 (entry n (known n row p)) → k ≡ tabulate 64 (entry n (known n row r))
matrix_same n row k p r f g e =
    e
    ∙ tabulate_same 64 (entry n (known n row p)) (entry n (known n row r))
    (λ q h. mirrored_same n (known n row p) (known n row r) (q / 8) (q % 8) (λ a b. same (q / 8) (q % 8) a b) (λ a b. same (q % 8) (q / 8) a b))
  where
    same : (u v : ℕ) → u < v → v < n → known n row p u v ≡ known n row r u v
    same u v a b = ap (λ (t : Bool). cond t (at row (place n u v)) f0) (ltb_same (8 * u + v) p (8 * u + v) r (f u v a b) (g u v a b))

-- where a row begins, and where it ends
pub row_begins : (n : ℕ) (row k : List Float) (i : ℕ) → n ≤ 8 → k ≡ tabulate 64 (entry n (known n row (8 * i))) → k ≡ tabulate 64 (entry n (known n row (8 * i + (i + 1))))
row_begins n row k i h e = matrix_same n row k (8 * i) (8 * i + (i + 1)) (λ u v a b c. omega arith) (λ u v a b c. omega arith) e

pub row_ends : (n : ℕ) (row k : List Float) (i j : ℕ) → n ≤ 8 → n ≤ j → j ≤ n → k ≡ tabulate 64 (entry n (known n row (8 * i + j))) → k ≡ tabulate 64 (entry n (known n row (8 * (i + 1))))
row_ends n row k i j h a b e = matrix_same n row k (8 * i + j) (8 * (i + 1)) (λ u v l m c. omega arith) (λ u v l m c. omega arith) e

-- one further
pub matrix_more : (n : ℕ) (row k : List Float) (i j : ℕ) (x : Float) → i < j → j < n → n ≤ 8 → x ≡ at row (place n i j) → k ≡ tabulate 64 (entry n (known n row (8 * i + j)))
    → set (set k (8 * i + j) x) (8 * j + i) x ≡ tabulate 64 (entry n (known n row (8 * i + (j + 1))))
matrix_more n row k i j x a b m q e =
    mirrored_set n (known n row (8 * i + j)) (known n row (8 * i + (j + 1))) i j k x a b m e
    (let h : 8 * i + j < 8 * i + (j + 1) = omega arith in rw (lt-ltb (8 * i + j) (8 * i + (j + 1)) h, q))
    (λ u v c d ne. ap (λ (t : Bool). cond t (at row (place n u v)) f0) (ltb_next (8 * u + v) (8 * i + j) ne ∙ ap (ltb (8 * u + v)) next))
  where
    next : 8 * i + j + 1 ≡ 8 * i + (j + 1)
    next = omega arith

-- all of it
pub matrix_all : (n : ℕ) (row k : List Float) (i : ℕ) → n ≤ 8 → n ≤ i → k ≡ tabulate 64 (entry n (known n row (8 * i))) → k ≡ tabulate 64 (λ q. interaction_at n row (q / 8) (q % 8))
unfolding interaction_at
matrix_all n row k i h a e =
    e
    ∙ tabulate_same 64 (entry n (known n row (8 * i))) (entry n (λ u v. at row (place n u v)))
    (λ q b. mirrored_same n (known n row (8 * i)) (λ u v. at row (place n u v)) (q / 8) (q % 8) (λ c d. whole (q / 8) (q % 8) c d) (λ c d. whole (q % 8) (q / 8) c d))
  where
    whole : (u v : ℕ) → u < v → v < n → known n row (8 * i) u v ≡ at row (place n u v)
    whole u v c d = let b : 8 * u + v < 8 * i = omega arith in rw (lt-ltb (8 * u + v) (8 * i) b)

-- ---- places in the row

-- what check 13 tests of an interaction
abbrev pub interaction_test : List Float → ℕ → Bool
interaction_test row k = finite_of (at row k)

pub place_first : (n i p : ℕ) → p ≡ rows_before n i → p ≡ place n i (i + 1)
unfolding place
place_first n i p e = omega arith

pub place_next : (n i j p : ℕ) → i < j → p ≡ place n i j → p + 1 ≡ place n i (j + 1)
unfolding place
place_next n i j p h e = omega arith

pub place_last : (n i j p : ℕ) → i < j → n ≤ j → j ≤ n → p ≡ place n i j → p ≡ rows_before n (i + 1)
unfolding place
place_last n i j p h a b e = rw add-one (omega (arith, row_next n i))

-- the number read
pub interaction_at_lem : (n : ℕ) (s : List ℕ) (from p : ℕ) → n ≤ 8 → p < n * (n - 1) / 2 → f64_at s (from + 8 * p) ≡ at (floats_at (n * (n - 1) / 2) s from) p
interaction_at_lem n s from p m h = let d = product n m in read_at (n * (n - 1) / 2) s from p h (omega arith)

pub interaction_read : (n : ℕ) (s : List ℕ) (from i j p : ℕ) → n ≤ 8 → i < j → j < n → p ≡ place n i j → f64_at s (from + 8 * p) ≡ at (floats_at (n * (n - 1) / 2) s from) p
interaction_read n s from i j p m a b ep = let c = place_below n i j a b in interaction_at_lem n s from p m (omega arith)
