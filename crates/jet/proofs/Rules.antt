-- Each coefficient rule reads, of the coefficients before its own, only those at positions not above it. Assumes nothing.
use mathlib.Core.Path.{◌≡◌, refl, ap}
use Prim.Native.Nat.{ℕ, zero, suc, ◌-◌}
use native.Mathlib.Omega.{arith}
use mathlib.Core.List.{List}
use lib.Ieee.{Float}
use Rattle.float.specs.Ops.{◌⊖◌, ◌⊗◌, ◌⊘◌}
use Rattle.jet.specs.Positions.{among, before, between, weight_of}
use Rattle.jet.specs.Coefficients.{at, less, quotient_at, root_at, logarithm_at}
use Rattle.jet.proofs.Every.{every_map, fold_cong}
use Rattle.jet.proofs.Among.{In, amongs, least, rest}
use Rattle.jet.proofs.Build.{Local}

-- terms that agree at each position of the list
pub less_cong : (f g : ℕ → Float) (x : Float) (k p m : ℕ) → ((q : ℕ) → In k p m q → f q ≡ g q) → less f x (among k p m) ≡ less g x (among k p m)
unfolding less
less_cong f g x k p m h =
    fold_cong (λ s q. s ⊖ f q) (λ s q. s ⊖ g q) (among k p m) x x refl
    (every_map (In k p m) (λ q. (s : Float) → s ⊖ f q ≡ s ⊖ g q) (λ q i s. ap (λ (y : Float). s ⊖ y) (h q i)) (among k p m) (amongs k p m))

pub quotient_local : (a b : List Float) → Local (quotient_at a b)
unfolding quotient_at before
quotient_local a b m c d h =
    ap (λ (y : Float). y ⊘ at b 0)
    (less_cong (λ p. at c p ⊗ at b (m - p)) (λ p. at d p ⊗ at b (m - p)) (at a m) m 0 m (λ q i. ap (λ (y : Float). y ⊗ at b (m - q)) (h q (omega (arith, i.to)) i.under)))

pub root_local : (a : List Float) → Local (root_at a)
unfolding root_at between
root_local a zero c d h = refl
root_local a (suc k) c d h =
    let first : at c 0 ≡ at d 0 = h 0 (omega arith) (least (suc k)) in
    let terms =
    less_cong (λ p. at c p ⊗ at c (suc k - p)) (λ p. at d p ⊗ at d (suc k - p)) (at a (suc k)) k 1 (suc k)
    (λ q i.
    let x : at c q ≡ at d q = h q (omega (arith, i.to)) i.under in
    let y : at c (suc k - q) ≡ at d (suc k - q) = h (suc k - q) (omega (arith, i.from)) (rest q (suc k) i.under) in
    rw (x, y)) in
    rw (first, terms)

pub logarithm_local : (a : List Float) → Local (logarithm_at a)
unfolding logarithm_at between
logarithm_local a zero c d h = refl
logarithm_local a (suc k) c d h =
    ap (λ (y : Float). y ⊘ (weight_of (suc k) ⊗ at a 0))
    (less_cong (λ p. (weight_of p ⊗ at c p) ⊗ at a (suc k - p)) (λ p. (weight_of p ⊗ at d p) ⊗ at a (suc k - p)) (weight_of (suc k) ⊗ at a (suc k)) k 1 (suc k)
    (λ q i. let x : at c q ≡ at d q = h q (omega (arith, i.to)) i.under in rw x))
