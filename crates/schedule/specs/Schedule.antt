-- Document 01's schedule of a run, "worked from the calls' arguments alone". Blocks and buffers are of any type D with a size:
-- D is a list of bytes for the run itself, and a number, the size alone, for what the public fields tell. Definitions only.
use Rattle.std.specs.Prelude.{ℕ, ◌+◌, ◌-◌, ◌*◌, ◌%◌, ◌^◌, Bool, cond, List, [], ◌∷◌, ◌++◌, length, leb, ltb, eqb}
use Rattle.std.proofs.Math.Option.{Option, none, some}
use Rattle.schedule.specs.Spans.{kind_fits, count_fits, span_of}

-- "the jobs held: kind, N, block, ticket, turns had"
pub record Held (D : Type 0) : Type 0 where
  pub kind : ℕ
  pub n : ℕ
  pub block : D
  pub ticket : ℕ
  pub turns : ℕ

-- "the count of accepted jobs and, in order, the jobs held"
pub record Queue (D : Type 0) : Type 0 where
  pub count : ℕ
  pub jobs : List (Held D)

-- "It keeps the turn, at first 0, and per queue .."
pub record Schedule (D : Type 0) : Type 0 where
  pub turn : ℕ
  pub queues : ℕ → Queue D

unfoldable pub fresh : {D : Type 0} → Schedule D
fresh = record { turn = 0; queues = λ q. record { count = 0; jobs = [] } }

pub data Call (D : Type 0) : Type 0 where
  Submit : (queue kind n : ℕ) (block : D) → Call D
  Turn : (buffer : D) → Call D
  Look : (queue : ℕ) → Call D
  Quote : (queue kind : ℕ) → Call D

-- what a call does
pub data Event (D : Type 0) : Type 0 where
  -- refused by this number
  refused : ℕ → Event D
  -- a job is accepted under this ticket
  accepted : (ticket : ℕ) → Event D
  -- a turn serves this queue, and the job is handed out, if any
  served : (queue : ℕ) → Option (Held D) → Event D
  -- a look at this job
  looked : Held D → Event D
  -- a quote gives this number of accepted turns
  quoted : (turns : ℕ) → Event D

-- ---- how a call is refused

pub data Verdict : Type 0 where
  accept : Verdict
  refuse : ℕ → Verdict

-- a test that refuses by this number
abbrev pub check : Bool → ℕ → Verdict → Verdict
check ok number next = cond ok next (refuse number)

-- "Submit tests 6, 1, 2, 3, 8, 4", where 6 never comes; "4 comes where the queue holds eight jobs"
unfoldable pub submit_verdict : (queue kind n size held : ℕ) → Verdict
submit_verdict queue kind n size held =
    check (leb queue 3) 1
    (check (kind_fits kind) 2 (check (count_fits kind n) 3 (check (eqb size 640) 8 (check (ltb held 8) 4 accept))))

-- "5 record buffer under 64 bytes"
unfoldable pub turn_verdict : (size : ℕ) → Verdict
turn_verdict size = check (leb 64 size) 5 accept

-- "7 unless its first has had a turn"
unfoldable pub look_verdict : (queue turns : ℕ) → Verdict
look_verdict queue turns = check (leb queue 3) 1 (check (leb 1 turns) 7 accept)

-- of a quote: "Faults 6, 1, 2 and 4 are answered as by submit", so in submit's order
unfoldable pub quote_verdict : (queue kind held : ℕ) → Verdict
quote_verdict queue kind held = check (leb queue 3) 1 (check (kind_fits kind) 2 (check (ltb held 8) 4 accept))

-- the turns had by the first job, 0 where there is none
unfoldable pub turns_of : {D : Type 0} → List (Held D) → ℕ
turns_of [] = 0
turns_of (j ∷ js) = j.turns

unfoldable pub verdict : {D : Type 0} → (D → ℕ) → Schedule D → Call D → Verdict
verdict size σ (Submit queue kind n block) = submit_verdict queue kind n (size block) (length (σ.queues queue).jobs)
verdict size σ (Turn buffer) = turn_verdict (size buffer)
verdict size σ (Look queue) = look_verdict queue (turns_of (σ.queues queue).jobs)
verdict size σ (Quote queue kind) = quote_verdict queue kind (length (σ.queues queue).jobs)

-- ---- which queue a turn serves

-- "An accepted turn serves the queue that the kept turn names"
unfoldable pub serves : {D : Type 0} → Schedule D → ℕ
serves σ = σ.turn

-- "and steps that on, 3 to 0"
unfoldable pub onward : ℕ → ℕ
onward queue = cond (eqb queue 3) 0 (queue + 1)

-- ---- when a job would come out

-- the turns that a job needs to its last one
unfoldable pub left : {D : Type 0} → Held D → ℕ
left j = span_of j.kind - j.turns

-- the turns that jobs need one after the other
unfoldable pub work : {D : Type 0} → List (Held D) → ℕ
work [] = 0
work (j ∷ js) = left j + work js

-- the accepted turns before the next one that serves the queue, with the turn kept
unfoldable pub away : (turn queue : ℕ) → ℕ
away turn queue = cond (leb turn queue) (queue - turn) (queue + 4 - turn)

-- "the number of accepted turns until a job submitted now would be handed out, that turn counted": the queue has to be served `turns` times for the jobs that
-- it holds and `span_of kind` times for this one; its first turn is the next but `away`, and every fourth after that is its own
unfoldable pub turns_until : (turn queue turns kind : ℕ) → ℕ
turns_until turn queue turns kind = away turn queue + 4 * (turns + span_of kind - 1) + 1

unfoldable pub quote_of : {D : Type 0} → Schedule D → (queue kind : ℕ) → ℕ
quote_of σ queue kind = turns_until σ.turn queue (work (σ.queues queue).jobs) kind

-- ---- what the jobs of a served queue undergo

pub record Undergone (D : Type 0) : Type 0 where
  pub jobs : List (Held D)
  pub out : Option (Held D)

-- "has had one turn more"
unfoldable pub turned : {D : Type 0} → Held D → Held D
turned j = record { kind = j.kind; n = j.n; block = j.block; ticket = j.ticket; turns = j.turns + 1 }

-- "the served queue's first job, if any, has had one turn more, and leaves, handed out, when its turns make its kind's span"
unfoldable pub undergo : {D : Type 0} → List (Held D) → Undergone D
undergo [] = record { jobs = []; out = none }
undergo (j ∷ js) =
    cond (eqb (j.turns + 1) (span_of j.kind)) (record { jobs = js; out = some (turned j) }) (record { jobs = turned j ∷ js; out = none })

-- ---- a call, and a run of calls

-- f with x at i
unfoldable pub put : {A : Type 0} → (ℕ → A) → ℕ → A → ℕ → A
put f i x j = cond (eqb j i) x (f j)

-- a job with no turns had, its ticket the count modulo 2^64
unfoldable pub entered : {D : Type 0} → (kind n : ℕ) → D → Queue D → Queue D
entered kind n block u =
    record {
      count = u.count + 1;
      jobs = u.jobs ++ (record { kind = kind; n = n; block = block; ticket = u.count % 2 ^ 64; turns = 0 } ∷ []);
    }

unfoldable pub with_jobs : {D : Type 0} → Queue D → List (Held D) → Queue D
with_jobs u js = record { count = u.count; jobs = js }

pub record Happened (D : Type 0) : Type 0 where
  pub event : Event D
  pub after : Schedule D

-- a look at the first job; no job is no running job, 7
unfoldable pub looked_at : {D : Type 0} → List (Held D) → Event D
looked_at [] = refused 7
looked_at (j ∷ js) = looked j

unfoldable pub submitted : {D : Type 0} → Schedule D → (queue kind n : ℕ) → D → Happened D
submitted σ queue kind n block =
    record {
      event = accepted ((σ.queues queue).count % 2 ^ 64);
      after = record { turn = σ.turn; queues = put σ.queues queue (entered kind n block (σ.queues queue)) };
    }

unfoldable pub turn_taken : {D : Type 0} → Schedule D → Happened D
turn_taken σ =
    record {
      event = served (serves σ) (undergo (σ.queues (serves σ)).jobs).out;
      after =
          record {
            turn = onward (serves σ);
            queues = put σ.queues (serves σ) (with_jobs (σ.queues (serves σ)) (undergo (σ.queues (serves σ)).jobs).jobs);
          };
    }

unfoldable pub acts : {D : Type 0} → Schedule D → Call D → Happened D
acts σ (Submit queue kind n block) = submitted σ queue kind n block
acts σ (Turn buffer) = turn_taken σ
acts σ (Look queue) = record { event = looked_at (σ.queues queue).jobs; after = σ }
acts σ (Quote queue kind) = record { event = quoted (quote_of σ queue kind); after = σ }

-- "Refused calls and looks change nothing." Neither does a quote.
unfoldable pub judged : {D : Type 0} → Schedule D → Call D → Verdict → Happened D
judged σ c accept = acts σ c
judged σ c (refuse number) = record { event = refused number; after = σ }

unfoldable pub happens : {D : Type 0} → (D → ℕ) → Schedule D → Call D → Happened D
happens size σ c = judged σ c (verdict size σ c)

-- what each call of a run does, from a schedule on
unfoldable pub events : {D : Type 0} → (D → ℕ) → Schedule D → List (Call D) → List (Event D)
events size σ [] = []
events size σ (c ∷ cs) = (happens size σ c).event ∷ events size (happens size σ c).after cs

-- the schedule after a run
unfoldable pub after_all : {D : Type 0} → (D → ℕ) → Schedule D → List (Call D) → Schedule D
after_all size σ [] = σ
after_all size σ (c ∷ cs) = after_all size (happens size σ c).after cs

-- ---- the same calls with other blocks and buffers

unfoldable pub map_held : {D E : Type 0} → (D → E) → Held D → Held E
map_held f j = record { kind = j.kind; n = j.n; block = f j.block; ticket = j.ticket; turns = j.turns }

unfoldable pub map_call : {D E : Type 0} → (D → E) → Call D → Call E
map_call f (Submit queue kind n block) = Submit queue kind n (f block)
map_call f (Turn buffer) = Turn (f buffer)
map_call f (Look queue) = Look queue
map_call f (Quote queue kind) = Quote queue kind

unfoldable pub map_out : {D E : Type 0} → (D → E) → Option (Held D) → Option (Held E)
map_out f none = none
map_out f (some j) = some (map_held f j)

unfoldable pub map_event : {D E : Type 0} → (D → E) → Event D → Event E
map_event f (refused number) = refused number
map_event f (accepted ticket) = accepted ticket
map_event f (served queue o) = served queue (map_out f o)
map_event f (looked j) = looked (map_held f j)
map_event f (quoted turns) = quoted turns
