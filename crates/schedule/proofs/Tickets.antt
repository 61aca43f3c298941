-- A record's ticket tells its job: the jobs handed out of a queue have successive tickets, modulo 2^64, from the first one's that the queue holds. Assumes nothing.
use mathlib.Core.Path.{◌≡◌, refl, sym, ap, ◌∙◌, subst}
use Prim.Native.Nat.{ℕ, ◌+◌, ◌%◌, ◌^◌, ◌≤◌, ◌<◌}
use mathlib.Core.Bool.{Bool, true, false}
use mathlib.Core.List.{List, [], ◌∷◌, ◌++◌, append_assoc}
use mathlib.Core.Option.{Option, none, some}
use native.Mathlib.Omega.{arith}
use lib.ListN.{length, length-append}
use lib.Dec.{leb, ltb, eqb}
use borrow.Author.Tests.{ltb-true, eqb-true, eq-eqb}
use Rattle.schedule.specs.Schedule.{Held, Queue, Schedule, Call, Submit, Turn, Look, Quote, Event, refused, accepted, served, looked, quoted, Verdict, accept, refuse, submit_verdict, verdict, serves, put, entered, with_jobs, submitted, turn_taken, acts, judged, happens, events, after_all}
use Rattle.schedule.specs.History.{queues_served, as_accepted, all_as_accepted, if_queue, accepted_by, accepted_in, handed_out, handed_by, handed_in}
use Rattle.schedule.specs.Quoted.{Course, since, event_then, place, held, HandsItOut}
use Rattle.schedule.specs.Spans.{kind_fits, count_fits}
use Rattle.schedule.proofs.Tests.{check_ok, check_next}
use Rattle.schedule.proofs.Order.{ne_sym, held_in, order}
use Rattle.schedule.proofs.Quote.{submit_enters}

module _ {D : Type 0} where
  -- jobs with the tickets n, n + 1, ..
  pub data Numbered : ℕ → List (Held D) → Type 0 where
    no_numbers : {n : ℕ} → Numbered n []
    one_more : {n : ℕ} {j : Held D} {js : List (Held D)} → j.ticket ≡ n % 2 ^ 64 → Numbered (n + 1) js → Numbered n (j ∷ js)

  -- what a call brings to a queue whose count it changes from n to m
  data Comes (n : ℕ) : List (Held D) → ℕ → Type 0 where
    none_comes : Comes n [] n
    one_comes : (j : Held D) → j.ticket ≡ n % 2 ^ 64 → Comes n (j ∷ []) (n + 1)

  submit_comes : (q queue kind n : ℕ) (block : D) (g : ℕ → Queue D) (b : Bool) → eqb queue q ≡ b
      → Comes (g q).count (accepted_by q (Submit queue kind n block) (accepted ((g queue).count % 2 ^ 64))) (put g queue (entered kind n block (g queue)) q).count
  unfolding accepted_by if_queue put entered
  submit_comes q queue kind n block g true e = let z : queue ≡ q = eqb-true queue q e in rw z (simp (eq-eqb q q refl) (one_comes _ refl))
  submit_comes q queue kind n block g false e = let d = ne_sym q queue e in simp (e, d) none_comes

  turn_count : (q s : ℕ) (g : ℕ → Queue D) (js : List (Held D)) (b : Bool) → eqb q s ≡ b → (put g s (with_jobs (g s) js) q).count ≡ (g q).count
  unfolding put with_jobs
  turn_count q s g js true e = let z : q ≡ s = eqb-true q s e in rw z (simp (eq-eqb s s refl))
  turn_count q s g js false e = simp e

  same_comes : {n m : ℕ} → m ≡ n → Comes n [] m
  same_comes {n} e = subst (λ (v : ℕ). Comes n [] v) (sym e) none_comes

  acts_comes : (q : ℕ) (σ : Schedule D) (c : Call D) → Comes (σ.queues q).count (accepted_by q c (acts σ c).event) ((acts σ c).after.queues q).count
  unfolding acts submitted turn_taken
  acts_comes q σ (Submit queue kind n block) = submit_comes q queue kind n block σ.queues (eqb queue q) refl
  acts_comes q σ (Turn buffer) = unfold accepted_by in same_comes (turn_count q (serves σ) σ.queues _ (eqb q (serves σ)) refl)
  acts_comes q σ (Look queue) = unfold accepted_by in none_comes
  acts_comes q σ (Quote queue kind) = unfold accepted_by in none_comes

  refused_comes : (q number n : ℕ) (c : Call D) → Comes n (accepted_by q c (refused number)) n
  unfolding accepted_by
  refused_comes q number n (Submit queue kind m block) = none_comes
  refused_comes q number n (Turn buffer) = none_comes
  refused_comes q number n (Look queue) = none_comes
  refused_comes q number n (Quote queue kind) = none_comes

  judged_comes : (q : ℕ) (σ : Schedule D) (c : Call D) (v : Verdict) → Comes (σ.queues q).count (accepted_by q c (judged σ c v).event) ((judged σ c v).after.queues q).count
  unfolding judged
  judged_comes q σ c accept = acts_comes q σ c
  judged_comes q σ c (refuse number) = refused_comes q number _ c

  call_comes : (size : D → ℕ) (q : ℕ) (σ : Schedule D) (c : Call D) → Comes (σ.queues q).count (accepted_by q c (happens size σ c).event) ((happens size σ c).after.queues q).count
  unfolding happens
  call_comes size q σ c = judged_comes q σ c (verdict size σ c)

  -- the jobs accepted are numbered from the count
  then_numbered : {n m : ℕ} {came : List (Held D)} → Comes n came m → (js : List (Held D)) → Numbered m js → Numbered n (came ++ js)
  then_numbered none_comes js r = r
  then_numbered (one_comes j e) js r = one_more e r

  accepted_numbered : (size : D → ℕ) (q : ℕ) (σ : Schedule D) (cs : List (Call D)) → Numbered (σ.queues q).count (accepted_in size q σ cs)
  unfolding accepted_in
  accepted_numbered size q σ [] = no_numbers
  accepted_numbered size q σ (c ∷ cs) = then_numbered (call_comes size q σ c) _ (accepted_numbered size q (happens size σ c).after cs)

  number_at : (n : ℕ) (xs : List (Held D)) (j : Held D) (ys : List (Held D)) → Numbered n (xs ++ j ∷ ys) → j.ticket ≡ (n + length xs) % 2 ^ 64
  number_at n [] j ys (one_more e r) = let z : n + 0 ≡ n = omega arith in e ∙ ap (λ (v : ℕ). v % 2 ^ 64) (sym z)
  number_at n (x ∷ xs) j ys (one_more e r) =
      let i = number_at (n + 1) xs j ys r in
      let z : n + 1 + length xs ≡ n + length (x ∷ xs) = omega arith in
      i ∙ ap (λ (v : ℕ). v % 2 ^ 64) z

  -- jobs one after the other
  numbered_more : {n : ℕ} {js : List (Held D)} → Numbered n js → (m : ℕ) → m ≡ n + length js → (ks : List (Held D)) → Numbered m ks → Numbered n (js ++ ks)
  numbered_more {n} no_numbers m e ks r = let z : m ≡ n = omega arith in subst (λ (v : ℕ). Numbered v ks) z r
  numbered_more (one_more t js) m e ks r = one_more t (numbered_more js m (omega arith) ks r)

  numbered_accepted : {n : ℕ} {js : List (Held D)} → Numbered n js → Numbered n (all_as_accepted js)
  unfolding all_as_accepted as_accepted
  numbered_accepted no_numbers = no_numbers
  numbered_accepted (one_more t js) = one_more t (numbered_accepted js)

  same_length : (js : List (Held D)) → length (all_as_accepted js) ≡ length js
  unfolding all_as_accepted
  same_length [] = refl
  same_length (j ∷ js) = let i = same_length js in omega arith

  -- the jobs of a queue are numbered from `first` on, and its count goes on from there
  pub record Ticketed (q first : ℕ) (σ : Schedule D) : Type 0 where
    pub numbered : Numbered first (σ.queues q).jobs
    pub count : (σ.queues q).count ≡ first + length (σ.queues q).jobs

  all_numbered : (size : D → ℕ) (q first : ℕ) (σ : Schedule D) → Ticketed q first σ → (cs : List (Call D)) → Numbered first (held_in q σ ++ accepted_in size q σ cs)
  all_numbered size q first σ t cs =
      let l = same_length (σ.queues q).jobs in
      numbered_more (numbered_accepted t.numbered) (σ.queues q).count (t.count ∙ ap (λ (n : ℕ). first + n) (sym l)) _ (accepted_numbered size q σ cs)

  -- ---- a run and one call more

  handed_more : (size : D → ℕ) (q : ℕ) (σ : Schedule D) (cs ds : List (Call D)) → handed_in q (events size σ (cs ++ ds)) ≡ handed_in q (events size σ cs) ++ handed_in q (events size (after_all size σ cs) ds)
  unfolding events handed_in after_all
  handed_more size q σ [] ds = refl
  handed_more size q σ (c ∷ cs) ds =
      ap (λ (l : List (Held D)). handed_by q (happens size σ c).event ++ l) (handed_more size q (happens size σ c).after cs ds) ∙ sym (append_assoc (handed_by q (happens size σ c).event) _ _)

  handed_last : (size : D → ℕ) (q : ℕ) (σ : Schedule D) (call : Call D) (k : Held D) → (happens size σ call).event ≡ served q (some k) → handed_in q (events size σ (call ∷ [])) ≡ as_accepted k ∷ []
  unfolding events handed_in
  handed_last size q σ call k e = rw e (unfold handed_by handed_out if_queue in simp (eq-eqb q q refl))

  same_ticket : (k : Held D) → (as_accepted k).ticket ≡ k.ticket
  unfolding as_accepted
  same_ticket k = refl

  -- the ticket of the record that a turn writes
  pub ticket_is : (size : D → ℕ) (q first : ℕ) (σ : Schedule D) → Ticketed q first σ → (run : List (Call D)) (call : Call D) (k : Held D)
      → (happens size (after_all size σ run) call).event ≡ served q (some k) → k.ticket ≡ (first + length (handed_in q (events size σ run))) % 2 ^ 64
  ticket_is size q first σ t run call k e =
      let before = handed_in q (events size σ run) in
      let after = held_in q (after_all size σ (run ++ call ∷ [])) in
      let m : handed_in q (events size σ (run ++ call ∷ [])) ≡ before ++ (as_accepted k ∷ []) =
      handed_more size q σ run (call ∷ []) ∙ ap (λ (v : List (Held D)). before ++ v) (handed_last size q (after_all size σ run) call k e) in
      let all : held_in q σ ++ accepted_in size q σ (run ++ call ∷ []) ≡ before ++ (as_accepted k ∷ after) =
      order size q σ (run ++ call ∷ []) ∙ ap (λ (v : List (Held D)). v ++ after) m ∙ append_assoc before (as_accepted k ∷ []) after in
      sym (same_ticket k) ∙ number_at first before (as_accepted k) after (subst (λ (v : List (Held D)). Numbered first v) all (all_numbered size q first σ t (run ++ call ∷ [])))

  -- a queue hands out at most a job with each accepted turn
  one_handed : (q s : ℕ) (o : Option (Held D)) → length (handed_out q s o) ≤ 1
  unfolding handed_out if_queue
  one_handed q s none = omega arith
  one_handed q s (some j) = go (eqb s q) refl
    where
      go : (b : Bool) → eqb s q ≡ b → length (if_queue s q (as_accepted j)) ≤ 1
      go true e = simp e (omega arith)
      go false e = simp e (omega arith)

  pub handed_few : (q : ℕ) (es : List (Event D)) → length (handed_in q es) ≤ length (queues_served es)
  unfolding handed_in handed_by queues_served
  handed_few q [] = omega arith
  handed_few q (refused number ∷ es) = handed_few q es
  handed_few q (accepted ticket ∷ es) = handed_few q es
  handed_few q (served s o ∷ es) = let i = handed_few q es in let h = one_handed q s o in simp length-append (omega arith)
  handed_few q (looked j ∷ es) = handed_few q es
  handed_few q (quoted turns ∷ es) = handed_few q es

  submit_hands_none : (size : D → ℕ) (q : ℕ) (σ : Schedule D) (c : Call D) (ticket : ℕ) (cs : List (Call D)) → (happens size σ c).event ≡ accepted ticket
      → handed_in q (events size σ (c ∷ cs)) ≡ handed_in q (events size (happens size σ c).after cs)
  unfolding events handed_in
  submit_hands_none size q σ c ticket cs e = rw e (unfold handed_by in refl)

  -- an accepted submit finds fewer than eight jobs
  few_held : (size : D → ℕ) (σ : Schedule D) (queue kind n : ℕ) (block : D) (v : Verdict) (ticket : ℕ) → verdict size σ (Submit queue kind n block) ≡ v → (judged σ (Submit queue kind n block) v).event ≡ accepted ticket
      → length (σ.queues queue).jobs < 8
  unfolding verdict submit_verdict judged
  few_held size σ queue kind n block accept ticket z e =
      ltb-true (length (σ.queues queue).jobs) 8
      (check_ok (ltb (length (σ.queues queue).jobs) 8) 4 accept
      (check_next (eqb (size block) 640) 8 _ (check_next (count_fits kind n) 3 _ (check_next (kind_fits kind) 2 _ (check_next (leb queue 3) 1 _ z)))))
  few_held size σ queue kind n block (refuse number) ticket z e = let y : ◌≡◌ {A = ℕ} 0 1 = cc in absurd (omega arith)

  accepted_few : (size : D → ℕ) (σ : Schedule D) (queue kind n : ℕ) (block : D) (ticket : ℕ) → (happens size σ (Submit queue kind n block)).event ≡ accepted ticket → length (σ.queues queue).jobs < 8
  unfolding happens
  accepted_few size σ queue kind n block ticket e = few_held size σ queue kind n block (verdict size σ (Submit queue kind n block)) ticket refl e

-- equal remainders of numbers that are not far apart
near_same : (h a b : ℕ) → a < 2 ^ 64 → b < 2 ^ 64 → (h + a) % 2 ^ 64 ≡ (h + b) % 2 ^ 64 → a ≡ b
near_same h a b k l e = omega arith

module _ {D : Type 0} (size : D → ℕ) (σ : Schedule D) (x : Course size σ) (first : ℕ) (t : Ticketed x.queue first σ) where
  pub its_ticket : x.ticket ≡ (first + length (held x)) % 2 ^ 64
  its_ticket = (submit_enters size σ x.queue x.kind x.n x.block x.ticket x.taken).ticket_is ∙ ap (λ (n : ℕ). n % 2 ^ 64) t.count

  pub later_ticket : (call : Call D) (k : Held D) → event_then x call ≡ served x.queue (some k) → k.ticket ≡ (first + length (handed_in x.queue (since x))) % 2 ^ 64
  unfolding after_all
  later_ticket call k e =
      let c = Submit x.queue x.kind x.n x.block in
      ticket_is size x.queue first σ t (c ∷ x.between) call k e
      ∙ ap (λ (l : List (Held D)). (first + length l) % 2 ^ 64) (submit_hands_none size x.queue σ c x.ticket x.between x.taken)

  -- a turn that hands out of the queue a job with the ticket of the submit, before 2^64 accepted turns have gone by since, hands this job out
  pub by_ticket : (call : Call D) (k : Held D) → event_then x call ≡ served x.queue (some k) → k.ticket ≡ x.ticket → place x ≤ 2 ^ 64 → HandsItOut x call
  by_ticket call k e same few =
      let f = accepted_few size σ x.queue x.kind x.n x.block x.ticket x.taken in
      let h = handed_few x.queue (since x) in
      let b = near_same first (length (handed_in x.queue (since x))) (length (held x)) (omega arith) (omega arith) (sym (later_ticket call k e) ∙ same ∙ its_ticket) in
      record { out = k; event = e; behind = b }
