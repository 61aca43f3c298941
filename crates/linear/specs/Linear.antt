-- The 2 by 2 solve and the norm of document 01's stand-ins, and request P5's 3 by 3 solve. Definitions only.
use Rattle.std.specs.Prelude.{ℕ, cond, List, [], ◌∷◌, get_or, Result, Ok, Err, Float}
use Rattle.std.specs.List.{fold, swap}
use Rattle.std.specs.Float.{nan}
use Rattle.std.specs.Float.Ieee.{lt, eq}
use Rattle.float.specs.Ops.{◌⊕◌, ◌⊖◌, ◌⊗◌, ◌⊘◌, f0}
use Rattle.float.specs.Root.{root}
use Rattle.float.specs.Sign.{abs_of}
use Rattle.linear.specs.declared.types.ZeroPivot.{ZeroPivot}

-- the unknowns of a system, or its refusal
abbrev pub Solved : Type 0
Solved = Result (List Float) ZeroPivot

-- the entry of row i, column j
abbrev pub entry : List (List Float) → ℕ → ℕ → Float
entry m i j = get_or (get_or m i []) j nan

-- Rows (a, b | r) and (c, d | s), a the pivot. "f = lower left over pivot; the second unknown comes first." "a zero pivot is refusal 23"
unfoldable pub eliminated : Float → Float → Float → Float → Float → Float → Solved
eliminated a b r c d s =
    cond (eq a f0) (Err (record {}))
    (let f = c ⊘ a in
    let pivot = d ⊖ f ⊗ b in
    cond (eq pivot f0) (Err (record {}))
    (let y = (s ⊖ f ⊗ r) ⊘ pivot in
    Ok ((r ⊖ b ⊗ y) ⊘ a ∷ y ∷ [])))

-- "The 2 by 2 solve swaps rows exactly if the lower left entry is larger in size"
unfoldable pub solve2 : List (List Float) → List Float → Solved
solve2 m r =
    cond (lt (abs_of (entry m 0 0)) (abs_of (entry m 1 0)))
    (eliminated (entry m 1 0) (entry m 1 1) (get_or r 1 nan) (entry m 0 0) (entry m 0 1) (get_or r 0 nan))
    (eliminated (entry m 0 0) (entry m 0 1) (get_or r 0 nan) (entry m 1 0) (entry m 1 1) (get_or r 1 nan))

-- "`norm` is the root of the sum of squares.", added up from the first
unfoldable pub norm_of : List Float → Float
norm_of [] = root f0
norm_of (x ∷ xs) = root (fold (λ sum y. sum ⊕ y ⊗ y) (x ⊗ x) xs)

-- ---- three unknowns, m being the matrix and r the right side

-- "the largest entry in size at or below each column's diagonal as pivot, the upper row on equality": its row in the first column
unfoldable pub pivot_row : List (List Float) → ℕ
pivot_row m = let upper : ℕ = cond (lt (size 0) (size 1)) 1 0 in cond (lt (size upper) (size 2)) 2 upper
  where
    size : ℕ → Float
    size i = abs_of (entry m i 0)

-- "a factor is the lower entry over the pivot": row i less its factor of the first, which leaves two columns
unfoldable pub factor_of : List (List Float) → ℕ → Float
factor_of m i = entry m i 0 ⊘ entry m 0 0

unfoldable pub lower_row : List (List Float) → ℕ → List Float
lower_row m i = (entry m i 1 ⊖ factor_of m i ⊗ entry m 0 1) ∷ (entry m i 2 ⊖ factor_of m i ⊗ entry m 0 2) ∷ []

unfoldable pub lower_right : List (List Float) → List Float → ℕ → Float
lower_right m r i = get_or r i nan ⊖ factor_of m i ⊗ get_or r 0 nan

-- "The last unknown comes first, each being its right side, less its row's known products in ascending column, over the pivot": the first unknown, from the other two
unfoldable pub with_first : List (List Float) → List Float → Solved → Solved
with_first m r (Ok δ) =
    let y = get_or δ 0 nan in
    let z = get_or δ 1 nan in
    Ok (((get_or r 0 nan ⊖ entry m 0 1 ⊗ y ⊖ entry m 0 2 ⊗ z) ⊘ entry m 0 0) ∷ y ∷ z ∷ [])
with_first m r (Err e) = Err e

-- The pivot's row stands first. "a zero pivot is 23". The two lower rows are left without their first column, a system of two unknowns.
unfoldable pub eliminated3 : List (List Float) → List Float → Solved
eliminated3 m r =
    cond (eq (entry m 0 0) f0) (Err (record {}))
    (with_first m r (solve2 (lower_row m 1 ∷ lower_row m 2 ∷ []) (lower_right m r 1 ∷ lower_right m r 2 ∷ [])))

-- the pivot's row and the first have changed places, right side too
unfoldable pub solve3 : List (List Float) → List Float → Solved
solve3 m r = let i = pivot_row m in eliminated3 (swap m 0 i) (swap r 0 i)
