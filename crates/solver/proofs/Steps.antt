-- A search one evaluation at a time: tests that stand first, steps, and machines that step as the tree does. Assumes nothing.
use mathlib.Core.Path.{◌≡◌, refl, sym, ap, ◌∙◌}
use Prim.Native.Nat.{ℕ, zero, suc, ◌+◌, ◌≤◌}
use native.Mathlib.Omega.{arith}
use mathlib.Core.Bool.{Bool, true, false, cond, ◌&&◌}
use lib.Ieee.{Float}
use Rattle.float.specs.Sign.{finite_of}
use Rattle.solver.specs.declared.types.Refusal.TheVariants.{NotFinite}
use Rattle.solver.specs.Answer.{Answer}
use Rattle.solver.specs.Search.{density_of, Evaluator, Search, done, ask, test, refuse, tested, bind, run, settle, Going, next_of, next, after, fresh, Within}

-- ---- the tests that stand first
pub settle_twice : (ok : Float → Bool) (t : Search) → settle ok (settle ok t) ≡ settle ok t
unfolding settle
settle_twice ok (done a) = refl
settle_twice ok (ask q k) = refl
settle_twice ok (test x k) = settle_twice ok (k (ok x))

pub settle_bind : (ok : Float → Bool) (t : Search) (f : Answer → Search) → settle ok (bind (settle ok t) f) ≡ settle ok (bind t f)
unfolding settle bind
settle_bind ok (done a) f = refl
settle_bind ok (ask q k) f = refl
settle_bind ok (test x k) f = settle_bind ok (k (ok x)) f

pub settle_tested : (ok : Float → Bool) (x : Float) (t : Search) → settle ok (tested x t) ≡ cond (ok x) (settle ok t) (refuse NotFinite)
unfolding settle tested
settle_tested ok x t = go (ok x)
  where
    go : (b : Bool) → settle ok (cond b t (refuse NotFinite)) ≡ cond b (settle ok t) (refuse NotFinite)
    go true = refl
    go false = refl

-- ---- with document 01's test
abbrev pub settled : Search → Search
settled = settle finite_of

-- a test after another, with the same refusal
pub cond_both : (a b : Bool) (s t : Search) → cond a (cond b s t) t ≡ cond (a && b) s t
cond_both true b s t = refl
cond_both false b s t = refl

-- searches that settle alike do so with the same search after them
pub settled_bind : (s t : Search) (f : Answer → Search) → settled s ≡ settled t → settled (bind s f) ≡ settled (bind t f)
settled_bind s t f e = sym (settle_bind finite_of s f) ∙ ap (λ (x : Search). settled (bind x f)) e ∙ settle_bind finite_of t f

-- ---- the end
after_done : (ok : Float → Bool) (ev : Evaluator) (j : ℕ) (a : Answer) (n : ℕ) (ρ : Float)
    → after ok ev j (record { left = done a; evaluations = n; latest = ρ }) ≡ record { left = done a; evaluations = n; latest = ρ }
unfolding after next_of
after_done ok ev zero a n ρ = refl
after_done ok ev (suc j) a n ρ = after_done ok ev j a n ρ

-- a search of span m has after any N of at least m evaluations what its run comes to
pub finishes : (ok : Float → Bool) (ev : Evaluator) {m : ℕ} {t : Search} → Within m t → (N : ℕ) → m ≤ N → (n : ℕ) (d : Float)
    → ((after ok ev N (record { left = settle ok t; evaluations = n; latest = d })).left ≡ done (run ok ev n t).answer)
    × ((after ok ev N (record { left = settle ok t; evaluations = n; latest = d })).evaluations ≡ (run ok ev n t).evaluations)
unfolding after next_of run settle
finishes ok ev (Within.ended {a = a}) N h n d = (ap (λ (g : Going). g.left) (after_done ok ev N a n d), ap (λ (g : Going). g.evaluations) (after_done ok ev N a n d))
finishes ok ev (Within.asks l f) zero h n d = absurd (omega arith)
finishes ok ev (Within.asks {q = q} l f) (suc N) h n d = finishes ok ev (f (ev q)) N (omega arith) (n + 1) _
finishes ok ev (Within.tests {x = x} f) N h n d = finishes ok ev (f (ok x)) N h n d

-- ---- one evaluation
abbrev pub moved : ℕ → Float → Search → Going
moved n ρ t = record { left = t; evaluations = n + 1; latest = ρ }

-- a search that makes an evaluation makes the same one where it is only the first part
pub next_bind : (ok : Float → Bool) (ev : Evaluator) (t : Search) (f : Answer → Search) (n : ℕ) (d : Float) (u : Search) (ρ : Float)
    → next_of ok ev t n d ≡ moved n ρ u → next_of ok ev (bind t f) n d ≡ moved n ρ (settle ok (bind u f))
unfolding next_of bind
next_bind ok ev (done a) f n d u ρ q = let z : n ≡ n + 1 = ap (λ (g : Going). g.evaluations) q in absurd (omega arith)
next_bind ok ev (ask q k) f n d u ρ e =
    ap (moved n (density_of q)) (sym (settle_bind ok (k (ev q)) f))
    ∙ ap (λ (g : Going). moved n g.latest (settle ok (bind g.left f))) e
next_bind ok ev (test x k) f n d u ρ q = next_bind ok ev (k (ok x)) f n d u ρ q

-- ---- machines: anything whose step is one evaluation of the search that it stands for
module _ {S : Type 0} (ok : Float → Bool) (ev : Evaluator) (going : S → Going) (step : S → S) (law : (s : S) → going (step s) ≡ next ok ev (going s)) where
  pub steps : ℕ → S → S
  steps zero s = s
  steps (suc k) s = steps k (step s)

  steps_law : (k : ℕ) (s : S) → going (steps k s) ≡ after ok ev k (going s)
  unfolding steps after
  steps_law zero s = refl
  steps_law (suc k) s = steps_law k (step s) ∙ ap (after ok ev k) (law s)

  -- from a state that begins the search t, of span m: after k steps it stands where the search does, and from m on it has the run's answer and count
  pub record Stepped (t : Search) (m : ℕ) (s : S) : Type 0 where
    pub along : (k : ℕ) → going (steps k s) ≡ after ok ev k (fresh (settle ok t))
    pub answer : (k : ℕ) → m ≤ k → (going (steps k s)).left ≡ done (run ok ev 0 t).answer
    pub evaluations : (k : ℕ) → m ≤ k → (going (steps k s)).evaluations ≡ (run ok ev 0 t).evaluations

  pub stepped : (t : Search) (m : ℕ) (s : S) → going s ≡ fresh (settle ok t) → Within m t → Stepped t m s
  stepped t m s e w = record {
    along = along;
    answer = λ k h. ap (λ (g : Going). g.left) (along k) ∙ (finishes ok ev w k h 0 _).0;
    evaluations = λ k h. ap (λ (g : Going). g.evaluations) (along k) ∙ (finishes ok ev w k h 0 _).1;
  }
    where
      along : (k : ℕ) → going (steps k s) ≡ after ok ev k (fresh (settle ok t))
      along k = steps_law k s ∙ ap (after ok ev k) e
