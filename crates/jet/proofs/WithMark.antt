-- A jet with a mark put in: by its element, and of a plain number. Assumes nothing.
use mathlib.Core.Path.{◌≡◌, refl, sym, ◌∙◌}
use Prim.Native.Nat.{ℕ, ◌≤◌, ◌<◌}
use native.Mathlib.Decide.{dec_lt}
use native.Mathlib.Omega.{arith}
use mathlib.Core.Bool.{Bool, true, false, cond}
use mathlib.Core.List.{List}
use lib.ListN.{length, set, length-set}
use lib.Seq.{ext_get_or, set_out, get_or-set_same, get_or-set_other}
use lib.Dec.{eqb}
use borrow.Author.Tests.{eqb-true, eqb-false}
use lib.Ieee.{Float, nan}
use Rattle.float.specs.Ops.{f1}
use Rattle.jet.specs.Positions.{positions}
use Rattle.jet.specs.Coefficients.{at, build, number_of, marked_of, with_mark_at, with_mark_of}
use Rattle.jet.proofs.Build.{length_build, build_at}

module _ (m : ℕ) (a : List Float) (h : length a ≡ positions) where
  pub put_mark : m < positions → set a m f1 ≡ with_mark_of m a
  unfolding with_mark_of
  put_mark k =
      ext_get_or nan (set a m f1) (build (with_mark_at m a) positions) (length-set a m f1 ∙ h ∙ sym (length_build (with_mark_at m a) positions))
      (λ p l.
      let q : p < positions = rw (length-set a m f1, h) at l in
      go p (eqb p m) refl ∙ sym (build_at (with_mark_at m a) positions p q))
    where
      go : (p : ℕ) (x : Bool) → eqb p m ≡ x → at (set a m f1) p ≡ cond (eqb p m) f1 (at a p)
      go p true e = let q = eqb-true p m e in rw (e, q, get_or-set_same a m f1 nan (rw h k))
      go p false e = rw (e, get_or-set_other a m p f1 nan (eqb-false p m e))

  pub no_mark : positions ≤ m → a ≡ with_mark_of m a
  unfolding with_mark_of
  no_mark k =
      ext_get_or nan a (build (with_mark_at m a) positions) (h ∙ sym (length_build (with_mark_at m a) positions))
      (λ p l.
      let q : p < positions = rw h at l in
      go p (eqb p m) refl q ∙ sym (build_at (with_mark_at m a) positions p q))
    where
      go : (p : ℕ) (x : Bool) → eqb p m ≡ x → p < positions → at a p ≡ cond (eqb p m) f1 (at a p)
      go p true e l = absurd (let q = eqb-true p m e in omega arith)
      go p false e l = rw e

-- a plain number with a mark
pub with_mark_number : (m : ℕ) (x : Float) → with_mark_of m (number_of x) ≡ marked_of m x
unfolding marked_of
with_mark_number m x = go (dec_lt m positions)
  where
    long : length (number_of x) ≡ positions
    long = unfold number_of in refl

    go : Dec (m < positions) → with_mark_of m (number_of x) ≡ set (number_of x) m f1
    go (yes h) = sym (put_mark m (number_of x) long h)
    go (no h) = let k : positions ≤ m = omega arith in sym (no_mark m (number_of x) long k) ∙ sym (set_out (number_of x) m f1 (rw long k))

-- a plain number with the mark e0
pub marked_number : (x : Float) → with_mark_of 1 (number_of x) ≡ marked_of 1 x
marked_number x = with_mark_number 1 x
