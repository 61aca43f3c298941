-- Every board that passes 6 shows a schedule, reached from zero bytes or not, and shows the schedule after any calls. Assumes nothing.
use mathlib.Core.Path.{◌≡◌, refl, sym, ap, ◌∙◌, subst}
use Prim.Native.Nat.{ℕ, zero, suc, ◌+◌, ◌-◌, ◌%◌, ◌^◌, ◌≤◌, ◌<◌}
use mathlib.Core.Bool.{Bool, true, false, cond}
use mathlib.Core.List.{List, [], ◌∷◌}
use native.Mathlib.Omega.{arith}
use lib.ListN.{length}
use lib.Dec.{leb}
use borrow.Author.Tests.{le-leb, leb-true}
use Rattle.buf.specs.Bytes.{part, u64_at}
use Rattle.buf.proofs.Laws.{length_part, num_at_lt}
use Rattle.schedule.specs.Spans.{kind_fits, span_of}
use Rattle.schedule.specs.Schedule.{Held, Queue, Schedule, turns_of, happens, after_all}
use Rattle.schedule.proofs.Tests.{left_true, right_true, span_within}
use Rattle.schedule.proofs.OnTime.{Open, none_held, and}
use Rattle.schedule.proofs.Quote.{Sound}
use Rattle.schedule.proofs.Tickets.{Numbered, no_numbers, one_more, Ticketed}
use Rattle.board_spec.specs.Layout.{quarter_length, accepted_at, held_at, turns_at, kind_at, count_at, block_at}
use Rattle.board_spec.specs.Quarter.{first_ticket, slot_of, first_kind, slot_fits}
use Rattle.board_spec.specs.Board.{quarter_of, served_in, board_fits}
use Rattle.board_spec.specs.Run.{Bytes, Calls, did, board_after}
use Rattle.board_spec.specs.Rep.{InSlot, Stands, no_more, stands, Waiting, nobody, waits, Begun, none_begun, begun, ShowsQueue, Shows}
use Rattle.board_spec.proofs.Quarters.{slot_low}
use Rattle.board_spec.proofs.Tested.{slots_at, Tested, quarter_tested, board_tested}
use Rattle.board_spec.proofs.AnyQuarter.{turns_below}
use Rattle.board_spec.proofs.Sim.{length_quarter, follows}
use Rattle.board_spec.proofs.Fits.{passes_on}

-- ---- the jobs that a quarter holds

-- the job in the slot of a ticket
abbrev job_at : Bytes → (t turns : ℕ) → Held Bytes
job_at q t turns =
    record {
      kind = u64_at q (kind_at (slot_of t));
      n = u64_at q (count_at (slot_of t));
      block = part q (block_at (slot_of t)) 640;
      ticket = t % 2 ^ 64;
      turns = turns;
    }

waiting : Bytes → (t count : ℕ) → List (Held Bytes)
waiting q t zero = []
waiting q t (suc k) = job_at q t 0 ∷ waiting q (suc t) k

jobs : Bytes → (t turns count : ℕ) → List (Held Bytes)
jobs q t turns zero = []
jobs q t turns (suc k) = job_at q t turns ∷ waiting q (suc t) k

length_waiting : (q : Bytes) (t k : ℕ) → length (waiting q t k) ≡ k
unfolding waiting
length_waiting q t zero = refl
length_waiting q t (suc k) = let i = length_waiting q (suc t) k in omega arith

length_jobs : (q : Bytes) (t turns k : ℕ) → length (jobs q t turns k) ≡ k
unfolding jobs
length_jobs q t turns zero = refl
length_jobs q t turns (suc k) = let i = length_waiting q (suc t) k in omega arith

waits_all : (q : Bytes) (t k : ℕ) → Waiting (waiting q t k)
unfolding waiting
waits_all q t zero = nobody
waits_all q t (suc k) = waits refl (waits_all q (suc t) k)

-- the slots from a ticket on fit
abbrev Slots : Bytes → (t k : ℕ) → Type 0
Slots q t k = (i : ℕ) → i < k → slot_fits q (slot_of (t + i)) ≡ true

first_fits : (q : Bytes) (t k : ℕ) → Slots q t (suc k) → slot_fits q (slot_of t) ≡ true
first_fits q t k f = let z : t + 0 ≡ t = omega arith in rw z at (f 0 (omega arith))

later_fit : (q : Bytes) (t k : ℕ) → Slots q t (suc k) → Slots q (suc t) k
later_fit q t k f i h = let z : t + suc i ≡ suc t + i = omega arith in rw z at (f (suc i) (omega arith))

in_slot : (q : Bytes) → length q ≡ quarter_length → (t turns : ℕ) → slot_fits q (slot_of t) ≡ true → InSlot q (slot_of t) (job_at q t turns)
unfolding slot_fits
in_slot q l t turns f =
    let low : slot_of t < 8 = slot_low t in
    record {
      kind = refl;
      n = refl;
      block = refl;
      request = record {
        fit_kind = left_true (kind_fits (u64_at q (kind_at (slot_of t)))) _ f;
        fit_count = right_true (kind_fits (u64_at q (kind_at (slot_of t)))) _ f;
        block_fits = length_part q (block_at (slot_of t)) 640 (omega arith);
      };
    }

waiting_stand : (q : Bytes) → length q ≡ quarter_length → (t k : ℕ) → Slots q t k → Stands q t (waiting q t k)
unfolding waiting
waiting_stand q l t zero f = no_more
waiting_stand q l t (suc k) f = stands (in_slot q l t 0 (first_fits q t k f)) refl (waiting_stand q l (suc t) k (later_fit q t k f))

jobs_stand : (q : Bytes) → length q ≡ quarter_length → (t turns k : ℕ) → Slots q t k → Stands q t (jobs q t turns k)
unfolding jobs
jobs_stand q l t turns zero f = no_more
jobs_stand q l t turns (suc k) f = stands (in_slot q l t turns (first_fits q t k f)) refl (waiting_stand q l (suc t) k (later_fit q t k f))

jobs_run : (q : Bytes) (t turns k : ℕ) → (1 ≤ k → turns < span_of (u64_at q (kind_at (slot_of t)))) → Begun (jobs q t turns k)
unfolding jobs
jobs_run q t turns zero h = none_begun
jobs_run q t turns (suc k) h = begun (h (omega arith)) (waits_all q (suc t) k)

turns_jobs : (q : Bytes) (t turns k : ℕ) → (k ≡ 0 → turns ≡ 0) → turns ≡ turns_of (jobs q t turns k)
unfolding jobs turns_of
turns_jobs q t turns zero h = h refl
turns_jobs q t turns (suc k) h = refl

-- ---- a quarter in range shows a queue; its count is the stored one or one 2^64 above it, which has as many jobs before it as are held

-- the first ticket, not taken modulo 2^64
abbrev first_of : (a h : ℕ) → ℕ
first_of a h = a + 2 ^ 64 - h

slot_first : (a h i : ℕ) → h ≤ 8 → ((a + (2 ^ 64 - h)) % 2 ^ 64 + i) % 8 ≡ (a + 2 ^ 64 - h + i) % 8
slot_first a h i k = omega arith

slot_first_0 : (a h : ℕ) → h ≤ 8 → (a + (2 ^ 64 - h)) % 2 ^ 64 % 8 ≡ (a + 2 ^ 64 - h) % 8
slot_first_0 a h k = omega arith

count_of : (a : ℕ) → a < 2 ^ 64 → a ≡ (a + 2 ^ 64) % 2 ^ 64
count_of a h = omega arith

abbrev queue_of : Bytes → Queue Bytes
queue_of q = record { count = u64_at q accepted_at + 2 ^ 64; jobs = jobs q (first_of (u64_at q accepted_at) (u64_at q held_at)) (u64_at q turns_at) (u64_at q held_at) }

module _ (q : Bytes) (l : length q ≡ quarter_length) (t : Tested q) where
  slots : Slots q (first_of (u64_at q accepted_at) (u64_at q held_at)) (u64_at q held_at)
  unfolding first_ticket
  slots i k =
      ap (λ (s : ℕ). slot_fits q s) (sym (slot_first (u64_at q accepted_at) (u64_at q held_at) i t.few)) ∙ slots_at q (first_ticket q) (u64_at q held_at) t.slots i k

  kind_first : first_kind q ≡ u64_at q (kind_at (slot_of (first_of (u64_at q accepted_at) (u64_at q held_at))))
  unfolding first_ticket
  kind_first = ap (λ (s : ℕ). u64_at q (kind_at s)) (slot_first_0 (u64_at q accepted_at) (u64_at q held_at) t.few)

  none_had : u64_at q held_at ≡ 0 → u64_at q turns_at ≡ 0
  none_had e = go (u64_at q turns_at) refl
    where
      go : (k : ℕ) → u64_at q turns_at ≡ k → k ≡ 0
      go zero z = refl
      go (suc k) z = let w = (t.running (omega arith)).held in absurd (omega arith)

  queue_shows : ShowsQueue (queue_of q).count (queue_of q).jobs q
  queue_shows =
      let first = first_of (u64_at q accepted_at) (u64_at q held_at) in
      let n = length_jobs q first (u64_at q turns_at) (u64_at q held_at) in
      let f = t.few in
      let z : first ≡ u64_at q accepted_at + 2 ^ 64 - length (jobs q first (u64_at q turns_at) (u64_at q held_at)) = rw n in
      record {
        len = l;
        accepted = count_of (u64_at q accepted_at) (num_at_lt 8 q accepted_at);
        held = sym n;
        few = rw n t.few;
        enough = rw n (omega arith);
        turns = turns_jobs q first (u64_at q turns_at) (u64_at q held_at) none_had;
        slots = subst (λ (s : ℕ). Stands q s (jobs q first (u64_at q turns_at) (u64_at q held_at))) z (jobs_stand q l first (u64_at q turns_at) (u64_at q held_at) slots);
        running = jobs_run q first (u64_at q turns_at) (u64_at q held_at) (λ some. rw kind_first at (turns_below q l t some));
      }

-- ---- a board

abbrev no_queue : Queue Bytes
no_queue = record { count = 0; jobs = [] }

pub schedule_of : Bytes → Schedule Bytes
schedule_of b = record { turn = served_in b; queues = λ q. cond (leb q 3) (queue_of (quarter_of b q)) no_queue }

pub shows_some : (b : Bytes) → board_fits b ≡ true → Shows (schedule_of b) b
unfolding schedule_of
shows_some b f =
    let p = board_tested b f in
    record {
      len = p.length_is;
      turn = refl;
      low = p.turn_inside;
      each = λ q h. rw (le-leb q 3 h) (queue_shows (quarter_of b q) (length_quarter b q p.length_is h) (quarter_tested _ (p.quarters_inside q h)));
    }

-- ---- any calls

pub shows_after : (σ : Schedule Bytes) (b : Bytes) → board_fits b ≡ true → Shows σ b → (cs : Calls) → Shows (after_all length σ cs) (board_after b cs)
unfolding after_all board_after
shows_after σ b f r [] = r
shows_after σ b f r (c ∷ cs) = shows_after (happens length σ c).after (did b c).board (passes_on.one_call b c f) (follows σ b f r c).shows cs

-- ---- what a shown schedule is like

waiting_open : {js : List (Held Bytes)} → Waiting js → Open js
waiting_open nobody = none_held
waiting_open (waits {j} {js} e w) = let s = span_within j.kind in let h : j.turns < span_of j.kind = omega arith in and h (waiting_open w)

running_open : {js : List (Held Bytes)} → Begun js → Open js
running_open none_begun = none_held
running_open (begun h w) = and h (waiting_open w)

pub some_sound : (b : Bytes) → board_fits b ≡ true → Sound (schedule_of b)
unfolding schedule_of
some_sound b f = record { low = (shows_some b f).low; open_jobs = λ q. open_at q (leb q 3) refl }
  where
    open_at : (q : ℕ) (x : Bool) → leb q 3 ≡ x → Open (cond x (queue_of (quarter_of b q)) no_queue).jobs
    open_at q true e = running_open (subst (λ (y : Bool). Begun (cond y (queue_of (quarter_of b q)) no_queue).jobs) e ((shows_some b f).each q (leb-true q 3 e)).running)
    open_at q false e = none_held

stands_numbered : {q : Bytes} {t : ℕ} {js : List (Held Bytes)} → Stands q t js → Numbered t js
stands_numbered no_more = no_numbers
stands_numbered {q} {t} (stands {js = js} i e rest) = let z : suc t ≡ t + 1 = omega arith in one_more e (subst (λ (s : ℕ). Numbered s js) z (stands_numbered rest))

pub shows_ticketed : (σ : Schedule Bytes) (b : Bytes) → Shows σ b → (queue : ℕ) → queue ≤ 3 → Ticketed queue ((σ.queues queue).count - length (σ.queues queue).jobs) σ
shows_ticketed σ b r queue h = let s = r.each queue h in let e = s.enough in record { numbered = stands_numbered s.slots; count = omega arith }
