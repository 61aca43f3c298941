-- What holds of `build` for every rule: its length, its coefficients, the step of a loop that fills a jet, and that a coefficient depends on
-- positions not above its own only. Assumes nothing.
use mathlib.Core.Path.{◌≡◌, refl, sym, ap, ◌∙◌}
use mathlib.Core.Logic.{⊎_elim}
use Prim.Native.Nat.{ℕ, zero, suc, ◌+◌, ◌-◌, ◌≤◌, ◌<◌}
use native.Mathlib.Omega.{arith}
use native.Mathlib.Numerals.{add-one}
use native.Mathlib.Nat.{eq-or-lt_of_le, le_of_suc-le-suc, not-suc-le-zero}
use mathlib.Core.Bool.{true}
use mathlib.Core.List.{List, [], ◌∷◌, ◌++◌, append_assoc, append-nil}
use lib.ListN.{length, take, set, replicate, length-append, length-replicate, get_or-append}
use lib.Seq.{take-append-le, take_all, get_or_at, get_or-take, set_at, length-take-le}
use lib.Ieee.{Float, nan}
use Rattle.float.specs.Ops.{f0}
use Rattle.jet.specs.Positions.{positions, not_above}
use Rattle.jet.specs.Coefficients.{at, build, cut}
use Rattle.jet.proofs.Among.{through}

-- a rule for the coefficient m that reads, of those before it, only the ones not above m
abbrev pub Local : (List Float → ℕ → Float) → Type 0
Local f = (m : ℕ) (c d : List Float) → ((p : ℕ) → p < m → not_above p m ≡ true → at c p ≡ at d p) → f c m ≡ f d m

module _ (f : List Float → ℕ → Float) where
  pub length_build : (n : ℕ) → length (build f n) ≡ n
  unfolding build
  length_build zero = refl
  length_build (suc n) = rw (length-append, length_build n) (omega arith)

  pub build_at : (n m : ℕ) → m < n → at (build f n) m ≡ f (build f m) m
  unfolding build
  build_at zero m h = absurd (not-suc-le-zero h)
  build_at (suc n) m h =
      ⊎_elim
      (λ (e : m ≡ n). rw e (get_or_at (build f n) (f (build f n) n) [] nan n (length_build n)))
      (λ (l : m < n). get_or-append (build f n) (f (build f n) n ∷ []) nan m (rw (length_build n) l) ∙ build_at n m l)
      (eq-or-lt_of_le (le_of_suc-le-suc h))

  -- fewer coefficients are the first of more
  pub take_build : (n m : ℕ) → m ≤ n → take m (build f n) ≡ build f m
  unfolding build
  take_build zero m h = let e : m ≡ 0 = omega arith in rw e
  take_build (suc n) m h =
      ⊎_elim
      (λ (e : m ≡ suc n). rw e (take_all (suc n) (build f (suc n)) (rw (length_build (suc n)) (omega arith))))
      (λ (l : m < suc n). take-append-le m (build f n) (f (build f n) n ∷ []) (rw (length_build n) (le_of_suc-le-suc l)) ∙ take_build n m (le_of_suc-le-suc l))
      (eq-or-lt_of_le h)

-- two rules that agree at the positions not above M, where the coefficients before agree, give the same coefficients there
module _ (f g : List Float → ℕ → Float) (M : ℕ) (alike : (m : ℕ) → not_above m M ≡ true → (c d : List Float) → ((p : ℕ) → p < m → not_above p m ≡ true → at c p ≡ at d p) → f c m ≡ g d m) where
  depends_in : (b n m : ℕ) → m < n → m < b → not_above m M ≡ true → at (build f n) m ≡ at (build g n) m
  depends_in zero n m h k e = absurd (not-suc-le-zero k)
  depends_in (suc b) n m h k e =
      build_at f n m h
      ∙ alike m e (build f m) (build g m) (λ (p : ℕ) (l : p < m) (u : not_above p m ≡ true). depends_in b m p l (omega arith) (through p m M u e))
      ∙ sym (build_at g n m h)

  pub depends : (n m : ℕ) → m < n → not_above m M ≡ true → at (build f n) m ≡ at (build g n) m
  depends n m h e = depends_in (suc m) n m h (omega arith) e

-- ---- a loop that fills a jet

pub cut_at : (n m : ℕ) (a : List Float) → m < n → n ≤ length a → at (cut n a) m ≡ at a m
unfolding cut
cut_at n m a h k = get_or-append (take n a) (replicate (positions - n) f0) nan m (rw (length-take-le n a k) h) ∙ get_or-take n a m nan h

pub length_cut : (n : ℕ) (a : List Float) → n ≤ length a → n ≤ positions → length (cut n a) ≡ positions
unfolding cut
length_cut n a h k = simp (length-append, length-replicate) (rw (length-take-le n a h) (omega arith))

pub cut_all : (a : List Float) → length a ≡ positions → cut positions a ≡ a
unfolding cut
cut_all a h = append-nil (take positions a) ∙ take_all positions a (rw h (omega arith))

pub padded : (f : List Float → ℕ → Float) (m : ℕ) → m ≤ positions → cut m (build f positions) ≡ build f m ++ replicate (positions - m) f0
unfolding cut
padded f m h = ap (λ (c : List Float). c ++ replicate (positions - m) f0) (take_build f positions m h)

-- the next coefficient put in its place, where the rule read the jet as filled so far
pub fill : (f : List Float → ℕ → Float) → Local f → (m : ℕ) (v : Float) → m < positions → v ≡ f (cut m (build f positions)) m → set (cut m (build f positions)) m v ≡ cut (m + 1) (build f positions)
unfolding build
fill f local m v h e =
    let r : positions - m ≡ suc (positions - (m + 1)) = omega arith in
    let R = replicate (positions - (m + 1)) f0 in
    let read : v ≡ f (build f m) m = e ∙ local m (cut m (build f positions)) (build f m) (λ (p : ℕ) (l : p < m) (u : not_above p m ≡ true). rw (padded f m (omega arith)) (get_or-append (build f m) (replicate (positions - m) f0) nan p (rw (length_build f m) l))) in
    ap (λ (c : List Float). set c m v) (padded f m (omega arith) ∙ ap (λ (n : ℕ). build f m ++ replicate n f0) r)
    ∙ set_at (build f m) f0 R v m (length_build f m)
    ∙ ap (λ (x : Float). build f m ++ x ∷ R) read
    ∙ sym (append_assoc (build f m) (f (build f m) m ∷ []) R)
    ∙ ap (λ (n : ℕ). build f n ++ R) (sym (add-one m))
    ∙ sym (padded f (m + 1) (omega arith))

-- a loop's start, its turn and its end
pub fill_start : (a : List Float) → replicate positions f0 ≡ cut 0 a
unfolding cut
fill_start a = refl

pub fill_turn : (f : List Float → ℕ → Float) → Local f → (m : ℕ) (v : Float) (c : List Float) → m < positions → c ≡ cut m (build f positions) → v ≡ f c m → set c m v ≡ cut (m + 1) (build f positions)
fill_turn f local m v c h e g = rw e (fill f local m v h (g ∙ ap (λ (d : List Float). f d m) e))

pub fill_end : (f : List Float → ℕ → Float) (m : ℕ) (c : List Float) → m ≡ positions → c ≡ cut m (build f positions) → c ≡ build f positions
fill_end f m c h e = e ∙ ap (λ (n : ℕ). cut n (build f positions)) h ∙ cut_all (build f positions) (length_build f positions)
