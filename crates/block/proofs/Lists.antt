-- The laws of `specs/Lists.antt`, as loops that store into a list or test every index cite them. Assumes nothing.
use mathlib.Core.Path.{◌≡◌, refl, sym, ap, ◌∙◌}
use Prim.Native.Nat.{ℕ, zero, suc, ◌+◌, ◌≤◌, ◌<◌}
use native.Mathlib.Omega.{arith}
use native.Mathlib.Nat.{eq-or-lt_of_le, le_of_suc-le-suc}
use native.Mathlib.Numerals.{add-one}
use mathlib.Core.Bool.{Bool, true, false, cond, ◌&&◌, and-true, and-false}
use Rattle.std.specs.List.{list_all, range_with_len}
use mathlib.Core.List.{List}
use mathlib.Core.Logic.{⊎_elim}
use lib.ListN.{length, get_or, set, replicate, length-set, length-replicate, get_or-replicate}
use lib.Dec.{ltb, eqb}
use Rattle.std.proofs.Math.Bool.{and_assoc}
use lib.Seq.{get_or-set_same, get_or-set_other, ext_get_or}
use borrow.Author.Tests.{eqb-true, eqb-false, ltb-true, ltb-false, lt-ltb, le-ltb}
use Rattle.block.specs.Lists.{tabulate, all_below}

-- ---- tests of numbers that are below the same numbers
pub ltb_same : (a b c d : ℕ) → (a < b → c < d) → (c < d → a < b) → ltb a b ≡ ltb c d
ltb_same a b c d f g = go (ltb a b) refl (ltb c d) refl
  where
    go : (t : Bool) → ltb a b ≡ t → (u : Bool) → ltb c d ≡ u → ltb a b ≡ ltb c d
    go true p u q = p ∙ sym (lt-ltb c d (f (ltb-true a b p)))
    go false p true q = let h : a < b = g (ltb-true c d q) in absurd (omega (arith, ltb-false a b p))
    go false p false q = p ∙ sym q

pub ltb_next : (k i : ℕ) → (k ≡ i → ⊥) → ltb k i ≡ ltb k (i + 1)
ltb_next k i ne = ltb_same k i k (i + 1) (λ h. omega arith) (λ h. ⊎_elim (λ (e : k ≡ i). absurd (ne e)) (λ (l : k < i). l) (eq-or-lt_of_le (omega arith)))

-- ---- a list made of its indices
module _ {A : Type 0} where
  pub length_tabulate : (n : ℕ) (f : ℕ → A) → length (tabulate n f) ≡ n
  unfolding tabulate
  length_tabulate zero f = refl
  length_tabulate (suc n) f = ap suc (length_tabulate n (λ i. f (suc i)))

  pub get_d_tabulate : (n : ℕ) (f : ℕ → A) (i : ℕ) (d : A) → i < n → get_or (tabulate n f) i d ≡ f i
  unfolding tabulate
  get_d_tabulate zero f i d h = absurd (omega arith)
  get_d_tabulate (suc n) f zero d h = refl
  get_d_tabulate (suc n) f (suc i) d h = get_d_tabulate n (λ k. f (suc k)) i d (omega arith)

  pub tabulate_same : (n : ℕ) (f g : ℕ → A) → ((i : ℕ) → i < n → f i ≡ g i) → tabulate n f ≡ tabulate n g
  unfolding tabulate
  tabulate_same zero f g h = refl
  tabulate_same (suc n) f g h =
      let e = tabulate_same n (λ i. f (suc i)) (λ i. g (suc i)) (λ i l. h (suc i) (omega arith)) in
      let z = h 0 (omega arith) in
      rw (e, z)

  pub tabulate_ext : (n : ℕ) (f : ℕ → A) (l : List A) (d : A) → length l ≡ n → ((k : ℕ) → k < n → get_or l k d ≡ f k) → l ≡ tabulate n f
  tabulate_ext n f l d e h = ext_get_or d l (tabulate n f) (e ∙ sym (length_tabulate n f)) (λ k g. let b : k < n = omega arith in h k b ∙ sym (get_d_tabulate n f k d b))

  pub tabulate_replicate : (n : ℕ) (f : ℕ → A) (z : A) (l : List A) → l ≡ replicate n z → ((k : ℕ) → k < n → z ≡ f k) → l ≡ tabulate n f
  tabulate_replicate n f z l e h = e ∙ tabulate_ext n f (replicate n z) z (length-replicate n z) (λ k g. get_or-replicate n k z z g ∙ h k g)

  -- a store where the list is of f: of g, if g is the new element there and f elsewhere
  pub tabulate_set : (n : ℕ) (f g : ℕ → A) (i : ℕ) (l : List A) (x : A) → i < n → l ≡ tabulate n f → x ≡ g i → ((k : ℕ) → k < n → (k ≡ i → ⊥) → f k ≡ g k) → set l i x ≡ tabulate n g
  tabulate_set n f g i l x h e q o = tabulate_ext n g (set l i x) x (length-set l i x ∙ size) (λ k b. at k b (eqb k i) refl)
    where
      size : length l ≡ n
      size = ap length e ∙ length_tabulate n f

      at : (k : ℕ) → k < n → (t : Bool) → eqb k i ≡ t → get_or (set l i x) k x ≡ g k
      at k b true p = let z : k ≡ i = eqb-true k i p in rw (z, get_or-set_same l i x x (omega (arith, size)), q)
      at k b false p =
          let ne = eqb-false k i p in
          get_or-set_other l i k x x ne ∙ ap (λ (t : List A). get_or t k x) e ∙ get_d_tabulate n f k x b ∙ o k b ne

  -- what a loop that stores f over z has stored: f at the first i indices
  abbrev pub upto : A → (ℕ → A) → ℕ → ℕ → A
  upto z f i k = cond (ltb k i) (f k) z

  pub upto_none : (n : ℕ) (z : A) (f : ℕ → A) (l : List A) → l ≡ replicate n z → l ≡ tabulate n (upto z f 0)
  upto_none n z f l e = tabulate_replicate n (upto z f 0) z l e (λ k h. let b : 0 ≤ k = omega arith in rw (le-ltb k 0 b))

  pub upto_more : (n : ℕ) (z : A) (f : ℕ → A) (i : ℕ) (l : List A) (x : A) → i < n → x ≡ f i → l ≡ tabulate n (upto z f i) → set l i x ≡ tabulate n (upto z f (i + 1))
  upto_more n z f i l x h q e =
      tabulate_set n (upto z f i) (upto z f (i + 1)) i l x h e (let b : i < i + 1 = omega arith in rw (lt-ltb i (i + 1) b, q))
      (λ k b ne. ap (λ (t : Bool). cond t (f k) z) (ltb_next k i ne))

-- ---- a test of all indices
pub all_more : (test : ℕ → Bool) (i : ℕ) → all_below i test ≡ true → test i ≡ true → all_below (i + 1) test ≡ true
unfolding all_below
all_more test i a h = rw (add-one, a, h)

pub all_done : (test : ℕ → Bool) (n i : ℕ) → n ≤ i → i ≤ n → all_below i test ≡ true → true ≡ all_below n test
all_done test n i h g a = let e : i ≡ n = omega arith in sym (rw e at a)

pub all_fails : (test : ℕ → Bool) (n i : ℕ) → i < n → test i ≡ false → false ≡ all_below n test
unfolding all_below
all_fails test zero i h f = absurd (omega arith)
all_fails test (suc n) i h f =
    ⊎_elim (λ (e : i ≡ n). let q : test n ≡ false = rw e at f in rw (q, and-false)) (λ l. rw (← all_fails test n i l f)) (eq-or-lt_of_le (le_of_suc-le-suc h))

-- indices that pass are left out
pub all_rest : (test : ℕ → Bool) (m n : ℕ) → m ≤ n → ((i : ℕ) → m ≤ i → i < n → test i ≡ true) → all_below m test ≡ all_below n test
unfolding all_below
all_rest test m zero h t = let e : m ≡ 0 = omega arith in rw e
all_rest test m (suc n) h t =
    ⊎_elim (λ (e : m ≡ suc n). rw e) (λ (l : m < suc n). let q = t n (omega arith) (omega arith) in rw (q, and-true, all_rest test m n (omega arith) (λ i a b. t i a (omega arith))))
    (eq-or-lt_of_le h)

pub all_same : (n : ℕ) (f g : ℕ → Bool) → ((i : ℕ) → i < n → f i ≡ g i) → all_below n f ≡ all_below n g
unfolding all_below
all_same zero f g h = refl
all_same (suc n) f g h =
    let e = all_same n f g (λ i l. h i (omega arith)) in
    let z = h n (omega arith) in
    rw (e, z)

-- the first test apart
all_first : (n : ℕ) (test : ℕ → Bool) → test 0 && all_below n (λ i. test (suc i)) ≡ all_below (suc n) test
unfolding all_below
all_first zero test = rw and-true
all_first (suc n) test = sym (and_assoc (test 0) (all_below n (λ i. test (suc i))) (test (suc n))) ∙ ap (λ (b : Bool). b && test (suc n)) (all_first n test)

-- a test of the n numbers from a on, as a chain makes it
all_from : (a n : ℕ) (test : ℕ → Bool) → list_all test (range_with_len a n) ≡ all_below n (λ i. test (a + i))
all_from a zero test = unfold all_below in refl
all_from a (suc n) test =
    let z : a + 0 ≡ a = omega arith in
    let e : (i : ℕ) → a + suc i ≡ a + 1 + i = λ i. omega arith in
    ap (λ (b : Bool). test a && b) (all_from (a + 1) n test) ∙ simp (e, z) at (all_first n (λ i. test (a + i)))

pub all_range : (n : ℕ) (test : ℕ → Bool) → list_all test (range_with_len 0 n) ≡ all_below n test
all_range n test = let z : (i : ℕ) → 0 + i ≡ i = λ i. omega arith in simp z at (all_from 0 n test)
