-- A mole number of one moves by its own mark. Assumes nothing.
use mathlib.Core.Path.{◌≡◌, refl, sym, ap, ◌∙◌}
use Prim.Native.Nat.{ℕ}
use native.Mathlib.Omega.{arith}
use mathlib.Core.Bool.{Bool, true}
use mathlib.Core.List.{List}
use lib.ListN.{take}
use lib.Seq.{get_or-take}
use lib.Dec.{T, eqb}
use lib.Ieee.{Float, nan, binary64, fits, of_bits, to_bits, add, mul, sub, div, round}
use borrow.Author.Tests.{eqb-true}
use Rattle.float.specs.Ops.{f0, f1}
use Rattle.float.specs.Above.{above}
use Rattle.float.specs.Root.{root, root_of as floatRootOf, sticky, isqrt, isqrt_in}
use Rattle.float.proofs.RoundTrip.{value_back}
use Rattle.jet.specs.Positions.{positions, first_order, not_above, among, pairs_of, between}
use Rattle.jet.specs.Coefficients.{upto, Upto, build, number_of, marked_of, sum_at, sum_of, total, less, product_at, product_of, root_at, root_of}
use Rattle.jet.specs.Ops.{◌⊠◌}
use Rattle.jet.proofs.Build.{take_build}
use Rattle.jet.proofs.Prefix.{is}
use Rattle.jet.proofs.Depends.{upto_ext, product_first, sum_first}
use Rattle.evaluations.specs.Critical.{moved}

-- the first twelve coefficients need no more to be worked out
first_twelve : (f : List Float → ℕ → Float) → Upto 12 (build f positions) (build f 12)
unfolding upto first_order
first_twelve f = twelve (build f positions) ∙ is 12 (take_build f positions 12 (omega arith))
  where
    twelve : (a : List Float) → Upto 12 a (take 12 a)
    twelve a = upto_ext 12 a (take 12 a) (λ m h e. sym (get_or-take 12 a m nan h))

root_one : root f1 ≡ f1
unfolding root floatRootOf above sticky isqrt isqrt_in round of_bits
root_one = refl

root_jet : Upto 12 (root_of (number_of f1)) (number_of f1)
unfolding upto first_order root_of root_at number_of less between among not_above build sub mul div round of_bits
root_jet = first_twelve (root_at (number_of f1)) ∙ rw root_one

one_one : Upto 12 (number_of f1 ⊠ number_of f1) (number_of f1)
unfolding upto first_order number_of product_of product_at total pairs_of among not_above build add mul round of_bits
one_one = first_twelve (product_at (number_of f1) (number_of f1)) ∙ refl

one_mark : Upto 12 (number_of f1 ⊠ marked_of 1 f0) (marked_of 1 f0)
unfolding upto first_order marked_of number_of product_of product_at total pairs_of among not_above build add mul round of_bits
one_mark = first_twelve (product_at (number_of f1) (marked_of 1 f0)) ∙ refl

one_times : Upto 12 (number_of f1 ⊠ number_of f1 ⊠ marked_of 1 f0) (marked_of 1 f0)
one_times = product_first 12 (number_of f1 ⊠ number_of f1) (number_of f1) one_one (marked_of 1 f0) (marked_of 1 f0) refl ∙ one_mark

one_sum : Upto 12 (sum_of (number_of f1) (marked_of 1 f0)) (marked_of 1 f1)
unfolding upto first_order sum_of marked_of number_of build add round of_bits
one_sum = first_twelve (sum_at (number_of f1) (marked_of 1 f0)) ∙ refl

one_moved : Upto 12 (moved (number_of f1) (number_of f1)) (marked_of 1 f1)
unfolding moved
one_moved =
    sum_first 12 _ (number_of f1) refl _ (marked_of 1 f0) (product_first 12 _ _ (product_first 12 _ (number_of f1) root_jet _ (number_of f1) refl) _ _ refl ∙ one_times) ∙ one_sum

-- told by the bits
pub is_one_law : (z : Float) (t : Bool) → T (fits binary64 z) → t ≡ eqb (to_bits binary64 z) 0x3ff0_0000_0000_0000 → t ≡ true → z ≡ f1
is_one_law z t f e g = sym (value_back z f) ∙ ap (of_bits binary64) (eqb-true (to_bits binary64 z) 0x3ff0_0000_0000_0000 (sym e ∙ g))

pub moved_by_mark : (z : Float) → z ≡ f1 → Upto 12 (moved (number_of z) (number_of f1)) (marked_of 1 z)
moved_by_mark z one = is 12 (ap (λ (x : Float). moved (number_of x) (number_of f1)) one) ∙ one_moved ∙ is 12 (ap (marked_of 1) (sym one))
