-- The first position after p that is not above m, by the mark in which p is below m; and what of the lists of positions it leaves. Assumes nothing.
use mathlib.Core.Path.{◌≡◌, refl, sym, ap, ◌∙◌, subst}
use Prim.Native.Nat.{ℕ, suc, ◌+◌, ◌-◌, ◌*◌, ◌/◌, ◌%◌, ◌≤◌, ◌<◌}
use native.Mathlib.Omega.{arith}
use native.Mathlib.Nat.{le_refl, le_trans, mul-le-mul_right, div-add-mod'}
use mathlib.Core.Bool.{Bool, true, false}
use mathlib.Core.List.{List, [], ◌∷◌, ◌++◌}
use lib.Dec.{leb}
use borrow.Author.Tests.{leb-true, leb-false}
use Rattle.jet.specs.Positions.{degree0, degree1, degree2, degree3, not_above, among, between}
use Rattle.jet.proofs.Among.{NotAbove, told, parts, made, no_larger, nothing, among_split, among_first}

-- what the contract of `next` says of its result r
abbrev pub Next : ℕ → ℕ → ℕ → Type 0
Next p m r = (p < r) × (not_above r m ≡ true) × (among (r - suc p) (suc p) m ≡ [])

-- ---- none between p and the next multiple of w

-- a, b are how often w is in p and in q, c and d what is left
apart : (w a b c d p q : ℕ) → a * w + c ≡ p → b * w + d ≡ q → d ≤ c → p < q → q < (a + 1) * w → ⊥
apart w a b c d p q ep eq h k l = go (leb b a) refl
  where
    go : (t : Bool) → leb b a ≡ t → ⊥
    go true e = let f = mul-le-mul_right w (leb-true b a e) in omega arith
    go false e =
        let g : a + 1 ≤ b = omega (arith, leb-false b a e) in
        let f = mul-le-mul_right w g in
        omega arith

-- where w is such that no position not above m leaves more of w than p does
gap : (w p m : ℕ) → ((q : ℕ) → NotAbove q m → q % w ≤ p % w) → among ((p / w + 1) * w - suc p) (suc p) m ≡ []
gap w p m low =
    nothing ((p / w + 1) * w - suc p) (suc p) m
    (λ q i. apart w (p / w) (q / w) (p % w) (q % w) p q (div-add-mod' p w) (div-add-mod' q w) (low q (told q m i.under)) i.from (before ((p / w + 1) * w) p q i.from i.to))
  where
    before : (n p q : ℕ) → suc p ≤ q → q < suc p + (n - suc p) → q < n
    before n p q h k = omega arith

-- ---- the step in each mark

-- parts none of which is above the other's, and the last one of the lesser number
ordered : (i j k i' j' k' : ℕ) → i ≤ i' → j ≤ j' → k ≤ k' → i + 4 * j + 8 * k ≤ i' + 4 * j' + 8 * k'
ordered i j k i' j' k' hi hj hk = omega arith

lower : (p m i j k l i' j' k' l' : ℕ) → p ≡ i + 4 * j + 8 * k + 16 * l → m ≡ i' + 4 * j' + 8 * k' + 16 * l' → i' ≤ i → j' ≤ j → k' ≤ k → p < m → l < l'
lower p m i j k l i' j' k' l' ep em hi hj hk h = omega arith

-- what 8 and 16 leave, by parts
left8 : (q : ℕ) → q % 8 ≡ degree0 q + 4 * degree1 q + 8 * 0
left8 q = omega arith

left16 : (q : ℕ) → q % 16 ≡ degree0 q + 4 * degree1 q + 8 * degree2 q
left16 q = omega arith

-- p by the parts of its halves, from the last mark on
halves : (p : ℕ) → (p / 4 ≡ degree1 p + 2 * (p / 8)) × (p / 8 ≡ degree2 p + 2 * degree3 p)
halves p = (omega arith, omega arith)

module _ (p m : ℕ) (h : p < m) (e : not_above p m ≡ true) where
  abbrev u : NotAbove p m
  u = told p m e

  made_of : (i j k l r : ℕ) → r ≡ i + 4 * j + 8 * k + 16 * l → i ≤ degree0 m → j ≤ degree1 m → k ≤ degree2 m → l ≤ degree3 m → not_above r m ≡ true
  made_of i j k l r w hi hj hk hl = subst (λ (q : ℕ). not_above q m ≡ true) (sym w) (made i j k l m hi hj hk hl)

  pub in_e0 : degree0 p < degree0 m → Next p m (p + 1)
  unfolding among
  in_e0 d0 =
      let z : p + 1 - suc p ≡ 0 = omega arith in
      let w = (parts p).whole in
      (omega arith, made_of (degree0 p + 1) (degree1 p) (degree2 p) (degree3 p) (p + 1) (omega arith) (omega arith) u.in1 u.in2 u.in3, rw z)

  pub in_e1 : degree0 m ≤ degree0 p → degree1 p < degree1 m → Next p m ((p / 4 + 1) * 4)
  in_e1 d0 d1 =
      let g = halves p in (
        omega arith,
        made_of 0 (degree1 p + 1) (degree2 p) (degree3 p) ((p / 4 + 1) * 4) (omega (arith, g.0, g.1)) (omega arith) (omega arith) u.in2 u.in3,
        gap 4 p m (λ q v. le_trans v.in0 d0),
      )

  pub in_e2 : degree0 m ≤ degree0 p → degree1 m ≤ degree1 p → degree2 p < degree2 m → Next p m ((p / 8 + 1) * 8)
  in_e2 d0 d1 d2 =
      let g = halves p in (
        omega arith,
        made_of 0 0 (degree2 p + 1) (degree3 p) ((p / 8 + 1) * 8) (omega (arith, g.1)) (omega arith) (omega arith) (omega arith) u.in3,
        gap 8 p m (λ q v. rw (left8 q, left8 p) (ordered (degree0 q) (degree1 q) 0 (degree0 p) (degree1 p) 0 (le_trans v.in0 d0) (le_trans v.in1 d1) (le_refl 0))),
      )

  pub in_e3 : degree0 m ≤ degree0 p → degree1 m ≤ degree1 p → degree2 m ≤ degree2 p → Next p m ((p / 16 + 1) * 16)
  in_e3 d0 d1 d2 =
      let d3 = lower p m (degree0 p) (degree1 p) (degree2 p) (degree3 p) (degree0 m) (degree1 m) (degree2 m) (degree3 m) (parts p).whole (parts m).whole d0 d1 d2 h in (
        omega arith,
        made_of 0 0 0 (degree3 p + 1) ((p / 16 + 1) * 16) (omega arith) (omega arith) (omega arith) (omega arith) (omega arith),
        gap 16 p m (λ q v. rw (left16 q, left16 p) (ordered (degree0 q) (degree1 q) (degree2 q) (degree0 p) (degree1 p) (degree2 p) (le_trans v.in0 d0) (le_trans v.in1 d1) (le_trans v.in2 d2))),
      )

-- ---- the lists from there on

module _ (p m r : ℕ) (n : Next p m r) where
  skip : (k : ℕ) → among (r - suc p + k) (suc p) m ≡ among k r m
  skip k =
      let at : suc p + (r - suc p) ≡ r = omega (arith, n.0) in
      among_split (r - suc p) k (suc p) m ∙ ap (λ (l : List ℕ). l ++ among k (suc p + (r - suc p)) m) n.2 ∙ ap (λ (q : ℕ). among k q m) at

  -- r is the first of those after p, and those before m begin with it
  pub after : among (m - p) (suc p) m ≡ r ∷ among (m - r) (suc r) m
  after =
      let g = no_larger r m n.1 in
      let s : m - p ≡ r - suc p + suc (m - r) = omega (arith, n.0) in
      ap (λ (k : ℕ). among k (suc p) m) s ∙ skip (suc (m - r)) ∙ among_first (m - r) r m n.1

  pub before : among (m - suc p) (suc p) m ≡ among (m - r) r m
  before =
      let g = no_larger r m n.1 in
      let s : m - suc p ≡ r - suc p + (m - r) = omega (arith, n.0) in
      ap (λ (k : ℕ). among k (suc p) m) s ∙ skip (m - r)

-- those other than 0 and m begin with the first after 0
pub between_from : (k r : ℕ) → Next 0 (suc k) r → between (suc k) ≡ among (suc k - r) r (suc k)
unfolding between
between_from k r n = let z : k ≡ suc k - 1 = omega arith in ap (λ (j : ℕ). among j 1 (suc k)) z ∙ before 0 (suc k) r n
