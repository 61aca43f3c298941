-- What the code of the calls does, over plain values: the range test, and a quarter that is lent and comes back. Assumes nothing.
use mathlib.Core.Path.{◌≡◌, ap, ◌∙◌}
use Prim.Native.Nat.{ℕ, zero, suc, ◌+◌, ◌-◌, ◌*◌, ◌≤◌, ◌<◌}
use mathlib.Core.Bool.{Bool, true, ◌&&◌}
use mathlib.Core.List.{List}
use native.Mathlib.Omega.{arith}
use lib.ListN.{length, take, drop}
use lib.Dec.{ltb, eqb}
use borrow.Author.Tests.{ltb-true, eqb-true}
use borrow.Rule.Slice.PartMut.{put_mid}
use Rattle.buf.specs.Bytes.{u64_at}
use Rattle.buf.proofs.Laws.{length_part, lent_part, lent_back}
use Rattle.schedule.proofs.Tests.{left_true, right_true}
use Rattle.board_spec.specs.Layout.{board_length, turn_at, accepted_at}
use Rattle.board_spec.specs.Quarter.{quarter_fits, submit_quarter, turn_quarter}
use Rattle.board_spec.specs.Board.{quarter_of, with_quarter, board_fits}

-- ---- a board in range

record AllTrue (x y z w : Bool) : Type 0 where
  first : x ≡ true
  second : y ≡ true
  third : z ≡ true
  fourth : w ≡ true

all_true : (x y z w : Bool) → (x && (y && (z && w))) ≡ true → AllTrue x y z w
all_true x y z w e =
    let f = right_true x (y && (z && w)) e in
    let g = right_true y (z && w) f in
    record { first = left_true x _ e; second = left_true y _ f; third = left_true z w g; fourth = right_true z w g }

module _ (b : List ℕ) (f : board_fits b ≡ true) where
  pub fits_length : length b ≡ board_length
  unfolding board_fits
  fits_length = eqb-true (length b) board_length (left_true _ _ f)

  pub turn_low : u64_at b turn_at < 4
  unfolding board_fits
  turn_low = ltb-true (u64_at b turn_at) 4 (left_true _ _ (right_true (eqb (length b) board_length) _ f))

  all_fit : AllTrue (quarter_fits (quarter_of b 0)) (quarter_fits (quarter_of b 1)) (quarter_fits (quarter_of b 2)) (quarter_fits (quarter_of b 3))
  unfolding board_fits
  all_fit = all_true _ _ _ _ (right_true (ltb (u64_at b turn_at) 4) _ (right_true (eqb (length b) board_length) _ f))

  pub each_fits : (queue : ℕ) → queue < 4 → quarter_fits (quarter_of b queue) ≡ true
  each_fits zero h = all_fit.first
  each_fits (suc zero) h = all_fit.second
  each_fits (suc (suc zero)) h = all_fit.third
  each_fits (suc (suc (suc zero))) h = all_fit.fourth
  each_fits (suc (suc (suc (suc k)))) h = absurd (omega arith)

-- ---- a quarter that is lent, and comes back

abbrev lent : List ℕ → (queue : ℕ) → List ℕ
lent b queue = take (6144 * queue + 6144 - 6144 * queue) (drop (6144 * queue) b)

abbrev back : List ℕ → (queue : ℕ) → List ℕ → List ℕ
back b queue v = put_mid (6144 * queue) (6144 * queue + 6144 - 6144 * queue) b v

whole : (queue : ℕ) → 6144 * queue + 6144 - 6144 * queue ≡ 6144
whole queue = omega arith

pub lent_is : (b : List ℕ) (queue : ℕ) → lent b queue ≡ quarter_of b queue
unfolding quarter_of
lent_is b queue = lent_part b (6144 * queue) (6144 * queue + 6144 - 6144 * queue) 6144 (whole queue)

lent_length : (b : List ℕ) (queue : ℕ) → length b ≡ 24584 → queue ≤ 3 → length (lent b queue) ≡ 6144
unfolding quarter_of
lent_length b queue l h = ap length (lent_is b queue) ∙ length_part b (6144 * queue) 6144 (omega arith)

back_is : (b v : List ℕ) (queue : ℕ) → length b ≡ 24584 → queue ≤ 3 → length v ≡ length (lent b queue) → back b queue v ≡ with_quarter b queue v
unfolding with_quarter
back_is b v queue l h lv = lent_back b v (6144 * queue) (6144 * queue + 6144 - 6144 * queue) 6144 (whole queue) (lv ∙ lent_length b queue l h) (omega arith)

module _ (b v : List ℕ) (queue : ℕ) (l : length b ≡ 24584) (h : queue ≤ 3) (lv : length v ≡ length (lent b queue)) where
  pub submit_back : (kind n : ℕ) (block : List ℕ) (ticket : ℕ) → ticket ≡ u64_at (lent b queue) accepted_at → v ≡ submit_quarter (lent b queue) kind n block
      → (ticket ≡ u64_at (quarter_of b queue) accepted_at) × (back b queue v ≡ with_quarter b queue (submit_quarter (quarter_of b queue) kind n block))
  submit_back kind n block ticket et ev = (
    et ∙ ap (λ (q : List ℕ). u64_at q accepted_at) (lent_is b queue),
    back_is b v queue l h lv ∙ ap (with_quarter b queue) (ev ∙ ap (λ (q : List ℕ). submit_quarter q kind n block) (lent_is b queue)),
  )

  pub turn_back : (buffer buffer' : List ℕ) (answer : ℕ) → answer ≡ (turn_quarter queue (lent b queue) buffer).answer → v ≡ (turn_quarter queue (lent b queue) buffer).quarter
      → buffer' ≡ (turn_quarter queue (lent b queue) buffer).buffer
      → (answer ≡ (turn_quarter queue (quarter_of b queue) buffer).answer) × (back b queue v ≡ with_quarter b queue (turn_quarter queue (quarter_of b queue) buffer).quarter)
      × (buffer' ≡ (turn_quarter queue (quarter_of b queue) buffer).buffer)
  turn_back buffer buffer' answer ea ev eb = (
    ea ∙ ap (λ (q : List ℕ). (turn_quarter queue q buffer).answer) (lent_is b queue),
    back_is b v queue l h lv ∙ ap (with_quarter b queue) (ev ∙ ap (λ (q : List ℕ). (turn_quarter queue q buffer).quarter) (lent_is b queue)),
    eb ∙ ap (λ (q : List ℕ). (turn_quarter queue q buffer).buffer) (lent_is b queue),
  )
