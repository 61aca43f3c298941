-- What a quote promises at a schedule, whatever calls come after it. Statements only; `quoted_exact` in proofs/Quote.antt proves it of every schedule with a turn of
-- 0 to 3 and turns left to each job held: a run reaches no other, and a board that passes 6 shows no other.
use Rattle.std.specs.Prelude.{◌≡◌, ℕ, ◌+◌, ◌≤◌, List, ◌∷◌, ◌++◌, length}
use Rattle.std.proofs.Math.Option.{some}
use Rattle.schedule.specs.Spans.{span_of}
use Rattle.schedule.specs.Schedule.{Held, Schedule, Call, Submit, Quote, Event, refused, accepted, served, looked, quoted, happens, events, after_all}
use Rattle.schedule.specs.History.{as_accepted, all_as_accepted, queues_served, handed_in}

-- ---- a quote, the submit it speaks of, and any calls after that

pub record Course {D : Type 0} (size : D → ℕ) (σ : Schedule D) : Type 0 where
  pub queue : ℕ
  pub kind : ℕ
  -- the number that a quote gives at σ
  pub number : ℕ
  pub answered : (happens size σ (Quote queue kind)).event ≡ quoted number
  -- a job of that kind is accepted at σ
  pub n : ℕ
  pub block : D
  pub ticket : ℕ
  pub taken : (happens size σ (Submit queue kind n block)).event ≡ accepted ticket
  -- any calls after it
  pub between : List (Call D)

module _ {D : Type 0} {size : D → ℕ} {σ : Schedule D} where
  -- the schedule after the submit, what happened since, and the schedule then
  abbrev pub entry : Course size σ → Schedule D
  entry x = (happens size σ (Submit x.queue x.kind x.n x.block)).after

  abbrev pub since : Course size σ → List (Event D)
  since x = events size (entry x) x.between

  abbrev pub reached : Course size σ → Schedule D
  reached x = after_all size (entry x) x.between

  -- what one more call does
  abbrev pub event_then : Course size σ → Call D → Event D
  event_then x call = (happens size (reached x) call).event

  -- which accepted turn that call is, counted from the submit, if it is one
  abbrev pub place : Course size σ → ℕ
  place x = length (queues_served (since x)) + 1

  -- the jobs held when the job came
  abbrev pub held : Course size σ → List (Held D)
  held x = (σ.queues x.queue).jobs

  -- the job, with all its turns had
  abbrev pub job : Course size σ → Held D
  job x = record { kind = x.kind; n = x.n; block = x.block; ticket = x.ticket; turns = span_of x.kind }

-- an accepted turn
abbrev pub AcceptedTurn : {D : Type 0} → Event D → Type 0
AcceptedTurn (refused number) = ⊥
AcceptedTurn (accepted ticket) = ⊥
AcceptedTurn (served queue o) = Unit {0}
AcceptedTurn (looked j) = ⊥
AcceptedTurn (quoted turns) = ⊥

-- the call hands the job out: it serves its queue, hands out a job, and as many have been handed out of that queue since as were held when it came
pub record HandsItOut {D : Type 0} {size : D → ℕ} {σ : Schedule D} (x : Course size σ) (call : Call D) : Type 0 where
  pub out : Held D
  pub event : event_then x call ≡ served x.queue (some out)
  pub behind : length (handed_in x.queue (since x)) ≡ length (held x)

-- the job has been handed out, after those held when it came
pub record HandedOut {D : Type 0} {size : D → ℕ} {σ : Schedule D} (x : Course size σ) : Type 0 where
  pub more : List (Held D)
  pub handed : handed_in x.queue (since x) ≡ all_as_accepted (held x) ++ (as_accepted (job x) ∷ more)

-- "It must be exactly the number a submit and then turns would show"
pub record Exact {D : Type 0} {size : D → ℕ} {σ : Schedule D} (x : Course size σ) : Type 0 where
  -- the accepted turn of that number hands the job out,
  pub then_it : (call : Call D) → AcceptedTurn (event_then x call) → place x ≡ x.number → event_then x call ≡ served x.queue (some (job x))
  -- and no other does, so none before it
  pub no_other : (call : Call D) → HandsItOut x call → place x ≡ x.number
  -- what such a call hands out is this very job, ticket and block
  pub the_job : (call : Call D) (h : HandsItOut x call) → h.out ≡ job x
  -- once so many accepted turns have been, the job has been handed out
  pub by_then : x.number ≤ length (queues_served (since x)) → HandedOut x
