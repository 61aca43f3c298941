-- The positions not above another: where they lie, and how their lists split. Assumes nothing.
use mathlib.Core.Path.{◌≡◌, refl, sym, ap, ◌∙◌, subst}
use Prim.Native.Nat.{ℕ, zero, suc, ◌+◌, ◌-◌, ◌*◌, ◌/◌, ◌%◌, ◌≤◌, ◌<◌}
use native.Mathlib.Omega.{arith}
use native.Mathlib.Nat.{add-zero, zero-add, add-suc, suc-add, le_trans, lt_of_le_of_lt}
use mathlib.Core.Bool.{Bool, true, false, cond, ◌&&◌}
use mathlib.Core.List.{List, [], ◌∷◌, ◌++◌}
use lib.Dec.{leb}
use borrow.Author.Tests.{le-leb, leb-true}
use Rattle.jet.specs.Positions.{degree0, degree1, degree2, degree3, not_above, among, pairs_of}
use Rattle.jet.proofs.Every.{Every, none, more, every_map}

-- ---- the order

and-true : (a b : Bool) → (a && b) ≡ true → (a ≡ true) × (b ≡ true)
and-true true b e = (refl, e)
and-true false b e = absurd (let z : ◌≡◌ {A = ℕ} 0 1 = cc in omega arith)

pub record NotAbove (p m : ℕ) : Type 0 where
  pub in0 : degree0 p ≤ degree0 m
  pub in1 : degree1 p ≤ degree1 m
  pub in2 : degree2 p ≤ degree2 m
  pub in3 : degree3 p ≤ degree3 m

pub told : (p m : ℕ) → not_above p m ≡ true → NotAbove p m
unfolding not_above
told p m e =
    let f = and-true (leb (degree0 p) (degree0 m) && leb (degree1 p) (degree1 m) && leb (degree2 p) (degree2 m)) (leb (degree3 p) (degree3 m)) e in
    let h = and-true (leb (degree0 p) (degree0 m) && leb (degree1 p) (degree1 m)) (leb (degree2 p) (degree2 m)) f.0 in
    let g = and-true (leb (degree0 p) (degree0 m)) (leb (degree1 p) (degree1 m)) h.0 in
    record { in0 = leb-true _ _ g.0; in1 = leb-true _ _ g.1; in2 = leb-true _ _ h.1; in3 = leb-true _ _ f.1 }

pub tells : (p m : ℕ) → NotAbove p m → not_above p m ≡ true
unfolding not_above
tells p m n = rw (le-leb (degree0 p) (degree0 m) n.in0, le-leb (degree1 p) (degree1 m) n.in1, le-leb (degree2 p) (degree2 m) n.in2, le-leb (degree3 p) (degree3 m) n.in3)

-- a position by its parts
made0 : (i j k l : ℕ) → i < 4 → degree0 (i + 4 * j + 8 * k + 16 * l) ≡ i
made0 i j k l hi = omega arith

made1 : (i j k l : ℕ) → i < 4 → j < 2 → degree1 (i + 4 * j + 8 * k + 16 * l) ≡ j
made1 i j k l hi hj = let q : (i + 4 * j + 8 * k + 16 * l) / 4 ≡ j + 2 * k + 4 * l = omega arith in rw q (omega arith)

made2 : (i j k l : ℕ) → i < 4 → j < 2 → k < 2 → degree2 (i + 4 * j + 8 * k + 16 * l) ≡ k
made2 i j k l hi hj hk = let q : (i + 4 * j + 8 * k + 16 * l) / 8 ≡ k + 2 * l = omega arith in rw q (omega arith)

made3 : (i j k l : ℕ) → i < 4 → j < 2 → k < 2 → degree3 (i + 4 * j + 8 * k + 16 * l) ≡ l
made3 i j k l hi hj hk = omega arith

pub record Parts (m : ℕ) : Type 0 where
  pub whole : m ≡ degree0 m + 4 * degree1 m + 8 * degree2 m + 16 * degree3 m
  pub below0 : degree0 m < 4
  pub below1 : degree1 m < 2
  pub below2 : degree2 m < 2

pub parts : (m : ℕ) → Parts m
parts m =
    let q1 : m ≡ m % 4 + 4 * (m / 4) = omega arith in
    let q2 : m / 4 ≡ m / 4 % 2 + 2 * (m / 8) = omega arith in
    let q3 : m / 8 ≡ m / 8 % 2 + 2 * (m / 16) = omega arith in
    record { whole = omega (arith, q1, q2, q3); below0 = omega arith; below1 = omega arith; below2 = omega arith }

-- a position made of parts none of which is above m's
pub made : (i j k l m : ℕ) → i ≤ degree0 m → j ≤ degree1 m → k ≤ degree2 m → l ≤ degree3 m → not_above (i + 4 * j + 8 * k + 16 * l) m ≡ true
made i j k l m hi hj hk hl =
    let bi = lt_of_le_of_lt hi (parts m).below0 in
    let bj = lt_of_le_of_lt hj (parts m).below1 in
    let bk = lt_of_le_of_lt hk (parts m).below2 in
    tells (i + 4 * j + 8 * k + 16 * l) m
    (record {
      in0 = subst (λ (d : ℕ). d ≤ degree0 m) (sym (made0 i j k l bi)) hi;
      in1 = subst (λ (d : ℕ). d ≤ degree1 m) (sym (made1 i j k l bi bj)) hj;
      in2 = subst (λ (d : ℕ). d ≤ degree2 m) (sym (made2 i j k l bi bj bk)) hk;
      in3 = subst (λ (d : ℕ). d ≤ degree3 m) (sym (made3 i j k l bi bj bk)) hl;
    })

pub least : (m : ℕ) → not_above 0 m ≡ true
least m = tells 0 m (record { in0 = omega arith; in1 = omega arith; in2 = omega arith; in3 = omega arith })

pub itself : (m : ℕ) → not_above m m ≡ true
itself m = tells m m (record { in0 = omega arith; in1 = omega arith; in2 = omega arith; in3 = omega arith })

pub through : (p q m : ℕ) → not_above p q ≡ true → not_above q m ≡ true → not_above p m ≡ true
through p q m e d =
    let a = told p q e in
    let b = told q m d in
    tells p m (record { in0 = le_trans a.in0 b.in0; in1 = le_trans a.in1 b.in1; in2 = le_trans a.in2 b.in2; in3 = le_trans a.in3 b.in3 })

-- the parts of m and of a position p not above it, as numbers
module _ (p m i j k l i' j' k' l' : ℕ) (M : m ≡ i + 4 * j + 8 * k + 16 * l) (P : p ≡ i' + 4 * j' + 8 * k' + 16 * l') (hi : i' ≤ i) (hj : j' ≤ j) (hk : k' ≤ k) (hl : l' ≤ l) where
  smaller : p ≤ m
  smaller = omega arith

  left : m - p ≡ (i - i') + 4 * (j - j') + 8 * (k - k') + 16 * (l - l')
  left = omega arith

-- a position not above m is no larger
pub no_larger : (p m : ℕ) → not_above p m ≡ true → p ≤ m
no_larger p m e =
    let a = told p m e in
    smaller p m (degree0 m) (degree1 m) (degree2 m) (degree3 m) (degree0 p) (degree1 p) (degree2 p) (degree3 p) (parts m).whole (parts p).whole a.in0 a.in1 a.in2 a.in3

less_le : (a b : ℕ) → a - b ≤ a
less_le a b = omega arith

-- what p leaves of m is not above m either
pub rest : (p m : ℕ) → not_above p m ≡ true → not_above (m - p) m ≡ true
rest p m e =
    let a = told p m e in
    let w = left p m (degree0 m) (degree1 m) (degree2 m) (degree3 m) (degree0 p) (degree1 p) (degree2 p) (degree3 p) (parts m).whole (parts p).whole a.in0 a.in1 a.in2 a.in3 in
    subst (λ (q : ℕ). not_above q m ≡ true) (sym w)
    (made (degree0 m - degree0 p) (degree1 m - degree1 p) (degree2 m - degree2 p) (degree3 m - degree3 p) m (less_le (degree0 m) (degree0 p)) (less_le (degree1 m) (degree1 p)) (less_le (degree2 m) (degree2 p)) (less_le (degree3 m) (degree3 p)))

-- ---- the lists

-- q is one of the k positions from p on, and not above m
pub record In (k p m q : ℕ) : Type 0 where
  pub under : not_above q m ≡ true
  pub from : p ≤ q
  pub to : q < p + k

wider : (k p m q : ℕ) → In k (suc p) m q → In (suc k) p m q
wider k p m q i = record { under = i.under; from = omega arith; to = omega arith }

pub amongs : (k p m : ℕ) → Every (In k p m) (among k p m)
unfolding among
amongs zero p m = none
amongs (suc k) p m = go (not_above p m) refl (every_map (In k (suc p) m) (In (suc k) p m) (wider k p m) (among k (suc p) m) (amongs k (suc p) m))
  where
    go : (b : Bool) → not_above p m ≡ b → Every (In (suc k) p m) (among k (suc p) m) → Every (In (suc k) p m) (cond b (p ∷ among k (suc p) m) (among k (suc p) m))
    go true e r = more (record { under = e; from = omega arith; to = omega arith }) r
    go false e r = r

-- where none of these is not above m, the list is empty
pub nothing : (k p m : ℕ) → ((q : ℕ) → In k p m q → ⊥) → among k p m ≡ []
nothing k p m h = go (among k p m) (amongs k p m)
  where
    go : (l : List ℕ) → Every (In k p m) l → l ≡ []
    go [] none = refl
    go (q ∷ l) (more i e) = absurd (h q i)

cond_append : (b : Bool) (p : ℕ) (l r : List ℕ) → cond b (p ∷ l ++ r) (l ++ r) ≡ cond b (p ∷ l) l ++ r
cond_append true p l r = refl
cond_append false p l r = refl

-- a list of j + k positions is one of j and one of the k after them
pub among_split : (j k p m : ℕ) → among (j + k) p m ≡ among j p m ++ among k (p + j) m
unfolding among
among_split zero k p m = rw (zero-add, add-zero)
among_split (suc j) k p m =
    ap (λ (n : ℕ). among n p m) (suc-add j k)
    ∙ ap (λ (l : List ℕ). cond (not_above p m) (p ∷ l) l) (among_split j k (suc p) m)
    ∙ cond_append (not_above p m) p (among j (suc p) m) (among k (suc p + j) m)
    ∙ ap (λ (q : ℕ). cond (not_above p m) (p ∷ among j (suc p) m) (among j (suc p) m) ++ among k q m) (suc-add p j ∙ sym (add-suc p j))

pub among_first : (k p m : ℕ) → not_above p m ≡ true → among (suc k) p m ≡ p ∷ among k (suc p) m
unfolding among
among_first k p m e = rw e

-- the first of the pairs of m is 0
pub pairs_first : (m : ℕ) → pairs_of m ≡ 0 ∷ among m 1 m
unfolding pairs_of
pairs_first m = among_first m 0 m (least m)
