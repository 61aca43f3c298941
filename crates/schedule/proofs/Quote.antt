-- A quote gives the very number of the accepted turn that hands the job out. Assumes nothing.
use mathlib.Core.Path.{◌≡◌, refl, sym, ap, ◌∙◌}
use Prim.Native.Nat.{ℕ, ◌+◌, ◌-◌, ◌*◌, ◌%◌, ◌^◌, ◌≤◌}
use mathlib.Core.Bool.{Bool, true, false}
use mathlib.Core.List.{List, [], ◌∷◌, ◌++◌}
use mathlib.Core.Option.{Option, some}
use native.Mathlib.Omega.{arith}
use lib.ListN.{length}
use lib.Dec.{leb, eqb}
use borrow.Author.Tests.{leb-true, leb-false, eqb-true, eqb-false, eq-eqb}
use Rattle.schedule.specs.Spans.{span_of}
use Rattle.schedule.specs.Schedule.{Held, Schedule, Call, Submit, Turn, Look, Quote, Event, refused, accepted, served, looked, quoted, Verdict, accept, refuse, quote_verdict, verdict, serves, onward, left, work, away, turns_until, quote_of, put, entered, looked_at, submitted, turn_taken, acts, judged, happens, events, after_all, fresh}
use Rattle.schedule.specs.History.{times, queues_served, as_accepted, all_as_accepted, finished}
use Rattle.schedule.specs.Quoted.{Course, entry, since, reached, event_then, AcceptedTurn, place, held, job, HandsItOut, HandedOut, Exact}
use Rattle.schedule.proofs.Tests.{check_ok, span_within}
use Rattle.schedule.proofs.Rounds.{onward_low}
use Rattle.schedule.proofs.OnTime.{Open, none_held, Claim, turns_on, handed_off, change, change_open, on_time, open_kept}
use Rattle.schedule.proofs.Out.{out_by}

-- ---- how far a queue's turn is away

away_self : (q : ℕ) → away q q ≡ 0
unfolding away
away_self q = go (leb q q) refl
  where
    go : (b : Bool) → leb q q ≡ b → away q q ≡ 0
    go true e = simp e (omega arith)
    go false e = absurd (omega (arith, leb-false q q e))

pub away_low : (t q : ℕ) → t ≤ 3 → q ≤ 3 → away t q ≤ 3
unfolding away
away_low t q h k = go (leb t q) refl
  where
    go : (b : Bool) → leb t q ≡ b → away t q ≤ 3
    go true e = simp e (omega arith)
    go false e = let l = leb-false t q e in simp e (omega arith)

pub away_none : (t q : ℕ) → t ≤ 3 → q ≤ 3 → away t q ≡ 0 → t ≡ q
unfolding away
away_none t q h k z = go (leb t q) refl
  where
    go : (b : Bool) → leb t q ≡ b → t ≡ q
    go true e = let l = leb-true t q e in omega (arith, simp e at z)
    go false e = let l = leb-false t q e in absurd (omega (arith, simp e at z))

-- what a step does to it
away_onward : (t q : ℕ) → t ≤ 3 → q ≤ 3 → (t ≡ q → ⊥) → away t q ≡ away (onward t) q + 1
unfolding away onward
away_onward t q h k n = go (eqb t 3) refl (leb t q) refl (leb (t + 1) q) refl (leb 0 q) refl
  where
    go : (b : Bool) → eqb t 3 ≡ b → (c : Bool) → leb t q ≡ c → (d : Bool) → leb (t + 1) q ≡ d → (f : Bool) → leb 0 q ≡ f → away t q ≡ away (onward t) q + 1
    go true e true l d m f o = let x = eqb-true t 3 e in let y = leb-true t q l in absurd (n (omega arith))
    go true e false l d m true o = let x = eqb-true t 3 e in let y = leb-false t q l in simp (e, l, o) (omega arith)
    go true e false l d m false o = absurd (omega (arith, leb-false 0 q o))
    go false e true l true m f o = let x = leb-true t q l in let y = leb-true (t + 1) q m in simp (e, l, m) (omega arith)
    go false e true l false m f o = let x = leb-true t q l in let y = leb-false (t + 1) q m in absurd (n (omega arith))
    go false e false l true m f o = let x = leb-false t q l in let y = leb-true (t + 1) q m in absurd (omega arith)
    go false e false l false m f o = let w = eqb-false t 3 e in let x = leb-false t q l in let y = leb-false (t + 1) q m in simp (e, l, m) (omega arith)

away_after : (q : ℕ) → q ≤ 3 → away (onward q) q ≡ 3
unfolding away onward
away_after q k = go (eqb q 3) refl (leb (q + 1) q) refl (leb 0 q) refl
  where
    go : (b : Bool) → eqb q 3 ≡ b → (c : Bool) → leb (q + 1) q ≡ c → (d : Bool) → leb 0 q ≡ d → away (onward q) q ≡ 3
    go true e c l true m = let x = eqb-true q 3 e in simp (e, m) (omega arith)
    go true e c l false m = absurd (omega (arith, leb-false 0 q m))
    go false e true l d m = absurd (omega (arith, leb-true (q + 1) q l))
    go false e false l d m = let x = eqb-false q 3 e in simp (e, l) (omega arith)

-- ---- the accepted turns of a run and those of one queue

module _ {D : Type 0} where
  -- one call, from the kept turn t to u: no turn, or a turn that serves t
  pub data Pace (t : ℕ) : Event D → ℕ → Type 0 where
    rests : {e : Event D} → ((es : List (Event D)) → queues_served (e ∷ es) ≡ queues_served es) → ((s : ℕ) (o : Option (Held D)) → e ≡ served s o → ⊥) → Pace t e t
    takes : (o : Option (Held D)) → Pace t (served t o) (onward t)

  no_turn : (e : Event D) → ((s : ℕ) (o : Option (Held D)) → e ≡ served s o → ⊥) → (es : List (Event D)) → queues_served (e ∷ es) ≡ queues_served es
  unfolding queues_served
  no_turn (refused number) n es = refl
  no_turn (accepted ticket) n es = refl
  no_turn (served s o) n es = absurd (n s o refl)
  no_turn (looked j) n es = refl
  no_turn (quoted turns) n es = refl

  resting : (t : ℕ) (e : Event D) → ((s : ℕ) (o : Option (Held D)) → e ≡ served s o → ⊥) → Pace t e t
  resting t e n = rests (no_turn e n) n

  look_rests : (t : ℕ) (js : List (Held D)) → Pace t (looked_at js) t
  unfolding looked_at
  look_rests t [] = resting t (refused 7) (λ s o e. let z : ◌≡◌ {A = ℕ} 0 1 = cc in omega arith)
  look_rests t (j ∷ js) = resting t (looked j) (λ s o e. let z : ◌≡◌ {A = ℕ} 0 1 = cc in omega arith)

  acts_pace : (σ : Schedule D) (c : Call D) → Pace σ.turn (acts σ c).event (acts σ c).after.turn
  unfolding acts submitted turn_taken serves
  acts_pace σ (Submit queue kind n block) = resting σ.turn _ (λ s o e. let z : ◌≡◌ {A = ℕ} 0 1 = cc in omega arith)
  acts_pace σ (Turn buffer) = takes _
  acts_pace σ (Look queue) = look_rests σ.turn (σ.queues queue).jobs
  acts_pace σ (Quote queue kind) = resting σ.turn _ (λ s o e. let z : ◌≡◌ {A = ℕ} 0 1 = cc in omega arith)

  judged_pace : (σ : Schedule D) (c : Call D) (v : Verdict) → Pace σ.turn (judged σ c v).event (judged σ c v).after.turn
  unfolding judged
  judged_pace σ c accept = acts_pace σ c
  judged_pace σ c (refuse number) = resting σ.turn (refused number) (λ s o e. let z : ◌≡◌ {A = ℕ} 0 1 = cc in omega arith)

  pub call_pace : (size : D → ℕ) (σ : Schedule D) (c : Call D) → Pace σ.turn (happens size σ c).event (happens size σ c).after.turn
  unfolding happens
  call_pace size σ c = judged_pace σ c (verdict size σ c)

  -- the turns taken in events
  abbrev pub turns_in : List (Event D) → ℕ
  turns_in es = length (queues_served es)

  pace_low : {t u : ℕ} {e : Event D} → Pace t e u → t ≤ 3 → u ≤ 3
  pace_low (rests f n) h = h
  pace_low {t} (takes o) h = onward_low t h

  -- what is claimed of a run from the kept turn t to the kept turn u
  abbrev Paced : (t : ℕ) → List (Event D) → (u q : ℕ) → Type 0
  Paced t es u q = turns_in es + away u q ≡ away t q + 4 * turns_on q es

  turn_paced : (t q : ℕ) → t ≤ 3 → q ≤ 3 → (o : Option (Held D)) (es : List (Event D)) (u : ℕ) → Paced (onward t) es u q → Paced t (served t o ∷ es) u q
  unfolding queues_served times
  turn_paced t q h k o es u p = go (eqb t q) refl
    where
      go : (b : Bool) → eqb t q ≡ b → Paced t (served t o ∷ es) u q
      go true e =
          let z : t ≡ q = eqb-true t q e in
          let a : away t q ≡ 0 = rw z (away_self q) in
          let d : away (onward t) q ≡ 3 = rw z (away_after q k) in
          simp e (omega arith)
      go false e =
          let a = away_onward t q h k (eqb-false t q e) in
          simp e (omega arith)

  call_paced : {t v : ℕ} {e : Event D} → Pace t e v → (q : ℕ) → t ≤ 3 → q ≤ 3 → (es : List (Event D)) (u : ℕ) → Paced v es u q → Paced t (e ∷ es) u q
  call_paced (rests f n) q h k es u p = rw (f es) p
  call_paced {t} (takes o) q h k es u p = turn_paced t q h k o es u p

  pub paced : (size : D → ℕ) (σ : Schedule D) (cs : List (Call D)) (q : ℕ) → σ.turn ≤ 3 → q ≤ 3 → Paced σ.turn (events size σ cs) (after_all size σ cs).turn q
  unfolding events after_all queues_served times
  paced size σ [] q h k = omega arith
  paced size σ (c ∷ cs) q h k =
      let p = call_pace size σ c in
      call_paced p q h k (events size (happens size σ c).after cs) _ (paced size (happens size σ c).after cs q (pace_low p h) k)

  pub turn_low : (size : D → ℕ) (σ : Schedule D) (cs : List (Call D)) → σ.turn ≤ 3 → (after_all size σ cs).turn ≤ 3
  unfolding after_all
  turn_low size σ [] h = h
  turn_low size σ (c ∷ cs) h = turn_low size (happens size σ c).after cs (pace_low (call_pace size σ c) h)

  no_turn_then : (e : Event D) → AcceptedTurn e → ((s : ℕ) (o : Option (Held D)) → e ≡ served s o → ⊥) → ⊥
  no_turn_then (refused number) a n = a
  no_turn_then (accepted ticket) a n = a
  no_turn_then (served s o) a n = n s o refl
  no_turn_then (looked j) a n = a
  no_turn_then (quoted turns) a n = a

  -- a turn serves the queue of the kept turn
  turn_is : {t u : ℕ} {e : Event D} → Pace t e u → (s : ℕ) (o : Option (Held D)) → e ≡ served s o → s ≡ t
  turn_is (rests f n) s o x = absurd (n s o x)
  turn_is (takes p) s o x = cc

-- ---- what holds of every schedule that a run reaches

pub record Sound {D : Type 0} (σ : Schedule D) : Type 0 where
  pub low : σ.turn ≤ 3
  pub open_jobs : (q : ℕ) → Open (σ.queues q).jobs

pub fresh_sound : {D : Type 0} → Sound {D = D} fresh
unfolding fresh
fresh_sound = record { low = omega arith; open_jobs = λ q. none_held }

pub sound_kept : {D : Type 0} (size : D → ℕ) (σ : Schedule D) (cs : List (Call D)) → Sound σ → Sound (after_all size σ cs)
sound_kept size σ cs s = record { low = turn_low size σ cs s.low; open_jobs = λ q. open_kept size q σ cs (s.open_jobs q) }

pub sound_call : {D : Type 0} (size : D → ℕ) (σ : Schedule D) (c : Call D) → Sound σ → Sound (happens size σ c).after
sound_call size σ c s = record { low = pace_low (call_pace size σ c) s.low; open_jobs = λ q. change_open (change size q σ c) (s.open_jobs q) }

-- ---- what an answered quote and an accepted submit say

module _ {D : Type 0} (size : D → ℕ) (σ : Schedule D) where
  pub record Answer (queue kind number : ℕ) : Type 0 where
    pub low : queue ≤ 3
    pub exactly : number ≡ quote_of σ queue kind

  quote_answer : (queue kind number : ℕ) → (happens size σ (Quote queue kind)).event ≡ quoted number → Answer queue kind number
  unfolding happens verdict judged acts quote_verdict
  quote_answer queue kind number e = go (quote_verdict queue kind (length (σ.queues queue).jobs)) refl e
    where
      go : (v : Verdict) → quote_verdict queue kind (length (σ.queues queue).jobs) ≡ v → (judged σ (Quote queue kind) v).event ≡ quoted number → Answer queue kind number
      go accept z x = record { low = leb-true queue 3 (check_ok (leb queue 3) 1 _ z); exactly = cc }
      go (refuse number) z x = let y : ◌≡◌ {A = ℕ} 0 1 = cc in absurd (omega arith)

  pub record Entered (queue kind n : ℕ) (block : D) (ticket : ℕ) : Type 0 where
    pub after : (happens size σ (Submit queue kind n block)).after ≡ (submitted σ queue kind n block).after
    pub ticket_is : ticket ≡ (σ.queues queue).count % 2 ^ 64

  pub submit_enters : (queue kind n : ℕ) (block : D) (ticket : ℕ) → (happens size σ (Submit queue kind n block)).event ≡ accepted ticket → Entered queue kind n block ticket
  unfolding happens judged acts submitted
  submit_enters queue kind n block ticket e = go (verdict size σ (Submit queue kind n block)) refl e
    where
      go : (v : Verdict) → verdict size σ (Submit queue kind n block) ≡ v → (judged σ (Submit queue kind n block) v).event ≡ accepted ticket → Entered queue kind n block ticket
      go accept z x = record { after = simp z; ticket_is = cc }
      go (refuse number) z x = let y : ◌≡◌ {A = ℕ} 0 1 = cc in absurd (omega arith)

  submitted_jobs : (queue kind n : ℕ) (block : D)
      → ((submitted σ queue kind n block).after.queues queue).jobs ≡ (σ.queues queue).jobs ++ (record { kind = kind; n = n; block = block; ticket = (σ.queues queue).count % 2 ^ 64; turns = 0 } ∷ [])
  unfolding submitted put entered
  submitted_jobs queue kind n block = simp (eq-eqb queue queue refl)

  pub entered_jobs : (queue kind n : ℕ) (block : D) (ticket : ℕ) → Entered queue kind n block ticket
      → ((happens size σ (Submit queue kind n block)).after.queues queue).jobs ≡ (σ.queues queue).jobs ++ (record { kind = kind; n = n; block = block; ticket = ticket; turns = 0 } ∷ [])
  entered_jobs queue kind n block ticket e = rw (e.after, e.ticket_is) (submitted_jobs queue kind n block)

  submitted_turn : (queue kind n : ℕ) (block : D) → (submitted σ queue kind n block).after.turn ≡ σ.turn
  unfolding submitted
  submitted_turn queue kind n block = refl

-- ---- the quote is exact

left_all : {D : Type 0} (j : Held D) → j.turns ≡ 0 → left j ≡ span_of j.kind
unfolding left
left_all j e = omega arith

module _ {D : Type 0} (size : D → ℕ) (σ : Schedule D) (sound : Sound σ) (x : Course size σ) where
  -- the job as it was accepted
  abbrev new : Held D
  new = record { kind = x.kind; n = x.n; block = x.block; ticket = x.ticket; turns = 0 }

  entering : Entered size σ x.queue x.kind x.n x.block x.ticket
  entering = submit_enters size σ x.queue x.kind x.n x.block x.ticket x.taken

  new_jobs : ((entry x).queues x.queue).jobs ≡ held x ++ (new ∷ [])
  new_jobs = entered_jobs size σ x.queue x.kind x.n x.block x.ticket entering

  same_turn : (entry x).turn ≡ σ.turn
  same_turn = ap (λ (ρ : Schedule D). ρ.turn) entering.after ∙ submitted_turn size σ x.queue x.kind x.n x.block

  sound_entry : Sound (entry x)
  sound_entry = sound_call size σ (Submit x.queue x.kind x.n x.block) sound

  -- what OnTime claims of a call that serves the queue
  claimed : (call : Call D) (o : Option (Held D)) → event_then x call ≡ served x.queue o → Claim (turns_on x.queue (since x)) (handed_off x.queue (since x)) o (held x) new
  claimed call o e = on_time size x.queue (entry x) x.between call (held x) new [] (sound_entry.open_jobs x.queue) new_jobs o e

  -- the count of turns
  pub record Count : Type 0 where
    pub low : x.queue ≤ 3
    pub kept : (reached x).turn ≤ 3
    pub distance : away (reached x).turn x.queue ≤ 3
    pub turns : turns_in (since x) + away (reached x).turn x.queue ≡ away σ.turn x.queue + 4 * turns_on x.queue (since x)
    pub number : x.number ≡ away σ.turn x.queue + 4 * (work (held x) + left new - 1) + 1
    pub needs : 30 ≤ left new

  count : Count
  unfolding quote_of turns_until
  count =
      let a = quote_answer size σ x.queue x.kind x.number x.answered in
      let k = turn_low size (entry x) x.between sound_entry.low in
      let l : left new ≡ span_of x.kind = left_all new refl in
      record {
        low = a.low;
        kept = k;
        distance = away_low _ _ k a.low;
        turns = rw same_turn at (paced size (entry x) x.between x.queue sound_entry.low a.low);
        number = rw l a.exactly;
        needs = rw l (span_within x.kind).low;
      }

  last_job : finished new ≡ job x
  unfolding finished
  last_job = refl

  -- at the turn of that number the kept turn is the queue's, and the job needs one turn more
  kept_then : place x ≡ x.number → (reached x).turn ≡ x.queue
  kept_then p = let c = count in away_none (reached x).turn x.queue c.kept c.low (omega arith)

  due_then : place x ≡ x.number → turns_on x.queue (since x) + 1 ≡ work (held x) + left new
  due_then p = let c = count in omega arith

  turn_then_lem : {e : Event D} {u : ℕ} → Pace (reached x).turn e u → AcceptedTurn e → (reached x).turn ≡ x.queue → (o : Option (Held D)) × (e ≡ served x.queue o)
  turn_then_lem {e} (rests f n) a z = absurd (no_turn_then e a n)
  turn_then_lem (takes o) a z = (o, ap (λ (v : ℕ). served v o) z)

  then_it : (call : Call D) → AcceptedTurn (event_then x call) → place x ≡ x.number → event_then x call ≡ served x.queue (some (job x))
  then_it call a p =
      let t = turn_then_lem (call_pace size (reached x) call) a (kept_then p) in
      t.1 ∙ ap (λ (o : Option (Held D)). served x.queue o) ((claimed call t.0 t.1).due (due_then p) ∙ ap (λ (k : Held D). some k) last_job)

  no_other : (call : Call D) → HandsItOut x call → place x ≡ x.number
  no_other call h =
      let c = count in
      let d = (claimed call (some h.out) h.event).only h.out refl h.behind in
      let z : x.queue ≡ (reached x).turn = turn_is (call_pace size (reached x) call) x.queue (some h.out) h.event in
      let y : away (reached x).turn x.queue ≡ 0 = ap (λ (v : ℕ). away v x.queue) (sym z) ∙ away_self x.queue in
      omega arith

  the_job : (call : Call D) (h : HandsItOut x call) → h.out ≡ job x
  the_job call h =
      let c = claimed call (some h.out) h.event in
      let z = c.due (c.only h.out refl h.behind) ∙ ap (λ (k : Held D). some k) last_job in
      same_some h.out (job x) z
    where
      same_some : (j k : Held D) → some j ≡ some k → j ≡ k
      same_some j k e = cc

  by_then : x.number ≤ turns_in (since x) → HandedOut x
  by_then n =
      let c = count in
      let o = out_by size x.queue (entry x) x.between (held x) new [] (sound_entry.open_jobs x.queue) new_jobs (omega arith) in
      record { more = o.more; handed = o.handed ∙ ap (λ (k : Held D). all_as_accepted (held x) ++ (k ∷ o.more)) new_job }
    where
      new_job : as_accepted new ≡ as_accepted (job x)
      new_job = unfold as_accepted in refl

  pub quoted_exact : Exact x
  quoted_exact = record { then_it = then_it; no_other = no_other; the_job = the_job; by_then = by_then }

-- wherever a run has come to
pub quoted_exact_in_run : {D : Type 0} (size : D → ℕ) (run : List (Call D)) (x : Course size (after_all size fresh run)) → Exact x
quoted_exact_in_run size run x = quoted_exact size (after_all size fresh run) (sound_kept size fresh run fresh_sound) x

-- a quote changes nothing
pub quote_same : {D : Type 0} (size : D → ℕ) (σ : Schedule D) (queue kind : ℕ) → (happens size σ (Quote queue kind)).after ≡ σ
unfolding happens
quote_same size σ queue kind = go (verdict size σ (Quote queue kind))
  where
    go : (v : Verdict) → (judged σ (Quote queue kind) v).after ≡ σ
    go accept = unfold judged acts in refl
    go (refuse number) = unfold judged in refl
