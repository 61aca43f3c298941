-- The norm of a list that has a first entry, and of one that has none. Assumes nothing.
use mathlib.Core.Path.{◌≡◌, ◌∙◌, ap}
use Prim.Native.Nat.{ℕ, ◌+◌}
use native.Mathlib.Omega.{arith}
use mathlib.Core.List.{List, [], ◌∷◌}
use lib.ListN.{length}
use lib.Ieee.{Float}
use Rattle.std.specs.List.{fold}
use Rattle.float.specs.Ops.{◌⊕◌, ◌⊗◌, f0}
use Rattle.float.specs.Root.{root}
use Rattle.linear.specs.Linear.{norm_of}

pub norm_none : (v : List Float) (r : Float) → length v ≡ 0 → r ≡ root f0 → r ≡ norm_of v
unfolding norm_of
norm_none [] r h e = e
norm_none (x ∷ xs) r h e = absurd (omega arith)

pub norm_some : (v rest : List Float) (x s r : Float) → v ≡ x ∷ rest → s ≡ fold (λ sum y. sum ⊕ y ⊗ y) (x ⊗ x) rest → r ≡ root s → r ≡ norm_of v
unfolding norm_of
norm_some v rest x s r h e k = k ∙ rw (h, e)
