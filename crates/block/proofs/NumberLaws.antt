-- What a job reads of a block, part by part. Assumes nothing.
use mathlib.Core.Path.{◌≡◌, refl}
use Prim.Native.Nat.{ℕ, ◌+◌, ◌-◌, ◌*◌, ◌/◌, ◌≤◌}
use native.Mathlib.Omega.{arith}
use mathlib.Core.Bool.{Bool, true, false, cond}
use mathlib.Core.List.{List}
use lib.Dec.{ltb}
use lib.Ieee.{nan}
use borrow.Author.Tests.{ltb-true}
use Rattle.float.specs.Ops.{f0}
use Rattle.buf.specs.Bytes.{f64_at}
use Rattle.block.specs.Pairs.{offset_of, coefficients, interactions, fractions, conditions}
use Rattle.block.specs.Numbers.{list_at, filed_in, fraction_count, first_of, as_read, numbers_of, floats_at, conditions_of}
use Rattle.block.proofs.Lists.{get_d_tabulate, tabulate_same}
use Rattle.block.proofs.PairLaws.{fractions_most}

-- where a test holds, the same; else one value
pub cond_same : {A : Type 0} (b : Bool) (x y d : A) → (b ≡ true → x ≡ y) → cond b x d ≡ cond b y d
cond_same true x y d h = h refl
cond_same false x y d h = refl

-- of the floats that stand in a part, the first
pub first_floats : (count m : ℕ) (s : List ℕ) (at : ℕ) → count ≤ m → first_of count (list_at m s at) ≡ floats_at count s at
unfolding first_of list_at floats_at
first_floats count m s at h =
    tabulate_same 28 _ _ (λ i _. cond_same (ltb i count) _ _ f0 (λ q. get_d_tabulate m (λ i. f64_at s (at + 8 * i)) i nan (omega (arith, ltb-true i count q))))

pub numbers_rows : (kind n : ℕ) (s : List ℕ)
    → numbers_of kind n s ≡ record {
      coefficients = floats_at (3 * n) s (offset_of s coefficients);
      interactions = floats_at (n * (n - 1) / 2) s (offset_of s interactions);
      fractions = floats_at (fraction_count kind n) s (offset_of s fractions);
      conditions = conditions_of kind s (offset_of s conditions);
    }
unfolding numbers_of as_read filed_in conditions_of
numbers_rows kind n s =
    rw (
      first_floats (3 * n) (3 * n) s (offset_of s coefficients) (omega arith),
      first_floats (n * (n - 1) / 2) (n * (n - 1) / 2) s (offset_of s interactions) (omega arith),
      first_floats (fraction_count kind n) n s (offset_of s fractions) (fractions_most kind n),
    )
