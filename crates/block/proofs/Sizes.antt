-- Bounds on counts and places of a blend of at most 8 components. Assumes nothing.
use mathlib.Core.Path.{◌≡◌, refl}
use mathlib.Core.Logic.{⊎_elim}
use Prim.Native.Nat.{ℕ, zero, suc, ◌+◌, ◌-◌, ◌*◌, ◌/◌, ◌≤◌, ◌<◌}
use native.Mathlib.Omega.{arith}
use native.Mathlib.Nat.{mul-le-mul, mul-suc, suc-mul, eq-or-lt_of_le}
use Rattle.block.specs.Blend.{rows_before, place}

pub product : (n : ℕ) → n ≤ 8 → n * (n - 1) ≤ 56
product n h = mul-le-mul {n₁ = n} {m₁ = n - 1} {n₂ = 8} {m₂ = 7} h (omega arith)

-- a row further
pub row_next : (n i : ℕ) → rows_before n (suc i) ≡ rows_before n i + (n - 1 - i)
unfolding rows_before
row_next n i = refl

-- the sum of the first rows' lengths, twice
rows_twice : (n i : ℕ) → i ≤ n → 2 * rows_before n i + i * i + i ≡ 2 * (n * i)
unfolding rows_before
rows_twice n zero h = omega arith
rows_twice n (suc i) h = let r = rows_twice n i (omega arith) in omega arith

-- all rows are all interactions
pub rows_all : (n : ℕ) → rows_before n n ≡ n * (n - 1) / 2
rows_all zero = omega (arith, rows_twice 0 0 (omega arith))
rows_all (suc m) =
    let r = rows_twice (suc m) (suc m) (omega arith) in
    let s : suc m * suc m ≡ m * m + m + m + 1 = simp (suc-mul, mul-suc) (omega arith) in
    let o : suc m - 1 ≡ m = omega arith in
    let p : suc m * (suc m - 1) ≡ m * m + m = rw (o, suc-mul) in
    omega arith

rows_up : (n i k : ℕ) → i ≤ k → rows_before n i ≤ rows_before n k
rows_up n i zero h = let e : i ≡ 0 = omega arith in rw e (omega arith)
rows_up n i (suc k) h =
    ⊎_elim (λ (e : i ≡ suc k). rw e (omega arith)) (λ (l : i < suc k). let r = rows_up n i k (omega arith) in let e = row_next n k in omega arith) (eq-or-lt_of_le h)

-- the place of k_ij is below the count
pub place_below : (n i j : ℕ) → i < j → j < n → place n i j < n * (n - 1) / 2
unfolding place
place_below n i j a b = let u = rows_up n (suc i) n (omega arith) in let e = row_next n i in let w = rows_all n in omega arith
