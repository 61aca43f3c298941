-- The verdicts are those that the tests tell. Assumes nothing.
use mathlib.Core.Path.{◌≡◌, refl}
use Prim.Native.Nat.{ℕ}
use mathlib.Core.Bool.{Bool, true, false, cond, ◌&&◌}
use native.Mathlib.Omega.{arith}
use lib.Dec.{leb, ltb, eqb}
use borrow.Author.Tests.{le-leb, lt-leb, leb-true, leb-false, lt-ltb, le-ltb, ltb-true, ltb-false, eq-eqb, ne_eqb, eqb-true, eqb-false}
use Rattle.schedule.specs.Spans.{count_fits}
use Rattle.schedule.specs.Schedule.{Verdict, accept, check, submit_verdict, turn_verdict, look_verdict, quote_verdict}
use Rattle.schedule.specs.Refusals.{Inside, Outside, below, above, CountWrong, out_of_range, CountRight, SubmitTests, TurnTests, LookTests, QuoteTests, Refusals}
use Rattle.schedule.proofs.Tests.{both, left_true, right_true, count_right}

-- ---- a range as its test

abbrev between : (least most x : ℕ) → Bool
between least most x = leb least x && leb x most

pub inside_true : (least most x : ℕ) → Inside least most x → between least most x ≡ true
inside_true least most x i = both _ _ (le-leb least x i.low) (le-leb x most i.high)

pub true_inside : (least most x : ℕ) → between least most x ≡ true → Inside least most x
true_inside least most x e = record { low = leb-true least x (left_true (leb least x) _ e); high = leb-true x most (right_true (leb least x) _ e) }

outside_false : (least most x : ℕ) → Outside least most x → between least most x ≡ false
outside_false least most x (below h) = rw (lt-leb least x h)
outside_false least most x (above h) = high (leb least x)
  where
    high : (a : Bool) → (a && leb x most) ≡ false
    high true = lt-leb x most h
    high false = refl

false_outside : (least most x : ℕ) → between least most x ≡ false → Outside least most x
false_outside least most x e = go (leb least x) refl e
  where
    go : (a : Bool) → leb least x ≡ a → (a && leb x most) ≡ false → Outside least most x
    go true l h = above (leb-false x most h)
    go false l h = below (leb-false least x l)

-- ---- a count as its test

pub count_true : (kind n : ℕ) → CountRight kind n → count_fits kind n ≡ true
unfolding count_fits
count_true kind n c = go (leb 7 kind) refl
  where
    go : (b : Bool) → leb 7 kind ≡ b → cond b (eqb n 2) (between 1 8 n) ≡ true
    go true k = eq-eqb n 2 (c.of_two (leb-true 7 kind k))
    go false k = inside_true 1 8 n c.in_range

pub count_false : (kind n : ℕ) → CountWrong kind n → count_fits kind n ≡ false
unfolding count_fits
count_false kind n (CountWrong.of_two k m) = rw (le-leb 7 kind k, ne_eqb n 2 m)
count_false kind n (out_of_range o) = go (leb 7 kind)
  where
    not_two : (m : ℕ) → Outside 1 8 m → m ≡ 2 → ⊥
    not_two m (below h) e = omega arith
    not_two m (above h) e = omega arith

    go : (b : Bool) → cond b (eqb n 2) (between 1 8 n) ≡ false
    go true = ne_eqb n 2 (not_two n o)
    go false = outside_false 1 8 n o

false_count : (kind n : ℕ) → count_fits kind n ≡ false → CountWrong kind n
unfolding count_fits
false_count kind n e = go (leb 7 kind) refl e
  where
    go : (b : Bool) → leb 7 kind ≡ b → cond b (eqb n 2) (between 1 8 n) ≡ false → CountWrong kind n
    go true k e = CountWrong.of_two (leb-true 7 kind k) (eqb-false n 2 e)
    go false k e = out_of_range (false_outside 1 8 n e)

-- ---- submit

submit_only : (queue kind n size held : ℕ) (v : Verdict) → SubmitTests queue kind n size held v → submit_verdict queue kind n size held ≡ v
unfolding submit_verdict
submit_only queue kind n size held v (SubmitTests.refused_1 q) = rw (lt-leb queue 3 q)
submit_only queue kind n size held v (SubmitTests.refused_2 q k) = rw (le-leb queue 3 q, outside_false 1 9 kind k)
submit_only queue kind n size held v (SubmitTests.refused_3 q k c) = rw (le-leb queue 3 q, inside_true 1 9 kind k, count_false kind n c)
submit_only queue kind n size held v (SubmitTests.refused_8 q k c s) = rw (le-leb queue 3 q, inside_true 1 9 kind k, count_true kind n c, ne_eqb size 640 s)
submit_only queue kind n size held v (SubmitTests.refused_4 q k c s h) = rw (le-leb queue 3 q, inside_true 1 9 kind k, count_true kind n c, eq-eqb size 640 s, le-ltb held 8 h)
submit_only queue kind n size held v (SubmitTests.passed q k c s h) = rw (le-leb queue 3 q, inside_true 1 9 kind k, count_true kind n c, eq-eqb size 640 s, lt-ltb held 8 h)

submit_holds : (queue kind n size held : ℕ) → SubmitTests queue kind n size held (submit_verdict queue kind n size held)
unfolding submit_verdict
submit_holds queue kind n size held = go (leb queue 3) (between 1 9 kind) (count_fits kind n) (eqb size 640) (ltb held 8) refl refl refl refl refl
  where
    go : (a b c d e : Bool) → leb queue 3 ≡ a → between 1 9 kind ≡ b → count_fits kind n ≡ c → eqb size 640 ≡ d → ltb held 8 ≡ e
        → SubmitTests queue kind n size held (check a 1 (check b 2 (check c 3 (check d 8 (check e 4 accept)))))
    go false b c d e q k m s h = SubmitTests.refused_1 (leb-false queue 3 q)
    go true false c d e q k m s h = SubmitTests.refused_2 (leb-true queue 3 q) (false_outside 1 9 kind k)
    go true true false d e q k m s h = SubmitTests.refused_3 (leb-true queue 3 q) (true_inside 1 9 kind k) (false_count kind n m)
    go true true true false e q k m s h = SubmitTests.refused_8 (leb-true queue 3 q) (true_inside 1 9 kind k) (count_right kind n m) (eqb-false size 640 s)
    go true true true true false q k m s h = SubmitTests.refused_4 (leb-true queue 3 q) (true_inside 1 9 kind k) (count_right kind n m) (eqb-true size 640 s) (ltb-false held 8 h)
    go true true true true true q k m s h = SubmitTests.passed (leb-true queue 3 q) (true_inside 1 9 kind k) (count_right kind n m) (eqb-true size 640 s) (ltb-true held 8 h)

-- ---- turn

turn_only : (size : ℕ) (v : Verdict) → TurnTests size v → turn_verdict size ≡ v
unfolding turn_verdict
turn_only size v (TurnTests.refused_5 h) = rw (lt-leb 64 size h)
turn_only size v (TurnTests.passed h) = rw (le-leb 64 size h)

turn_holds : (size : ℕ) → TurnTests size (turn_verdict size)
unfolding turn_verdict
turn_holds size = go (leb 64 size) refl
  where
    go : (a : Bool) → leb 64 size ≡ a → TurnTests size (check a 5 accept)
    go false e = TurnTests.refused_5 (leb-false 64 size e)
    go true e = TurnTests.passed (leb-true 64 size e)

-- ---- look

look_only : (queue turns : ℕ) (v : Verdict) → LookTests queue turns v → look_verdict queue turns ≡ v
unfolding look_verdict
look_only queue turns v (LookTests.refused_1 q) = rw (lt-leb queue 3 q)
look_only queue turns v (LookTests.refused_7 q h) = rw (le-leb queue 3 q, lt-leb 1 turns (omega arith))
look_only queue turns v (LookTests.passed q h) = rw (le-leb queue 3 q, le-leb 1 turns h)

look_holds : (queue turns : ℕ) → LookTests queue turns (look_verdict queue turns)
unfolding look_verdict
look_holds queue turns = go (leb queue 3) (leb 1 turns) refl refl
  where
    go : (a b : Bool) → leb queue 3 ≡ a → leb 1 turns ≡ b → LookTests queue turns (check a 1 (check b 7 accept))
    go false b q h = LookTests.refused_1 (leb-false queue 3 q)
    go true false q h = let z = leb-false 1 turns h in LookTests.refused_7 (leb-true queue 3 q) (omega arith)
    go true true q h = LookTests.passed (leb-true queue 3 q) (leb-true 1 turns h)

-- ---- quote

quote_only : (queue kind held : ℕ) (v : Verdict) → QuoteTests queue kind held v → quote_verdict queue kind held ≡ v
unfolding quote_verdict
quote_only queue kind held v (QuoteTests.refused_1 q) = rw (lt-leb queue 3 q)
quote_only queue kind held v (QuoteTests.refused_2 q k) = rw (le-leb queue 3 q, outside_false 1 9 kind k)
quote_only queue kind held v (QuoteTests.refused_4 q k h) = rw (le-leb queue 3 q, inside_true 1 9 kind k, le-ltb held 8 h)
quote_only queue kind held v (QuoteTests.passed q k h) = rw (le-leb queue 3 q, inside_true 1 9 kind k, lt-ltb held 8 h)

quote_holds : (queue kind held : ℕ) → QuoteTests queue kind held (quote_verdict queue kind held)
unfolding quote_verdict
quote_holds queue kind held = go (leb queue 3) (between 1 9 kind) (ltb held 8) refl refl refl
  where
    go : (a b c : Bool) → leb queue 3 ≡ a → between 1 9 kind ≡ b → ltb held 8 ≡ c → QuoteTests queue kind held (check a 1 (check b 2 (check c 4 accept)))
    go false b c q k h = QuoteTests.refused_1 (leb-false queue 3 q)
    go true false c q k h = QuoteTests.refused_2 (leb-true queue 3 q) (false_outside 1 9 kind k)
    go true true false q k h = QuoteTests.refused_4 (leb-true queue 3 q) (true_inside 1 9 kind k) (ltb-false held 8 h)
    go true true true q k h = QuoteTests.passed (leb-true queue 3 q) (true_inside 1 9 kind k) (ltb-true held 8 h)

quote_as_submit : (queue kind n held : ℕ) → CountRight kind n → quote_verdict queue kind held ≡ submit_verdict queue kind n 640 held
unfolding quote_verdict submit_verdict
quote_as_submit queue kind n held c = simp (count_true kind n c)

pub refusals : Refusals
refusals =
    record {
      submit = λ queue kind n size held. record { holds = submit_holds queue kind n size held; only = submit_only queue kind n size held };
      turn = λ size. record { holds = turn_holds size; only = turn_only size };
      look = λ queue turns. record { holds = look_holds queue turns; only = look_only queue turns };
      quote = λ queue kind held. record { holds = quote_holds queue kind held; only = quote_only queue kind held };
      quote_as_submit = quote_as_submit;
    }
