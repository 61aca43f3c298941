-- A job made step by step to its span: its states one after another, and the answer written. Assumes nothing.
use Rattle.std.proofs.Common.{◌≡◌, ℕ, suc, ◌+◌, List, length, refl, ap, ◌∙◌, arith}
use Rattle.buf.specs.Bytes.{splice}
use Rattle.reader.specs.declared.types.Job.{Job}
use Rattle.reader.specs.View.{view}
use Rattle.records.specs.declared.types.Outcome.{Outcome}
use Rattle.std.specs.Prelude.{Ok}
use Rattle.records.specs.Record.{sealed_bytes, sealed_at}
use Rattle.records.specs.Answered.{fits, did_by, answered}
use Rattle.records.proofs.RecordLaws.{fit}
use Rattle.schedule.specs.Spans.{span_of}
use Rattle.solver_state.specs.declared.types.State.{State}
use Rattle.stepping.specs.Stepping.{step_of}
use Rattle.stepping.specs.States.{state_after, outcome_at}
use Rattle.stepping.proofs.Laws.{stepping}

pub after_one_more : (job : Job) (k : ℕ) (s s' : State) → s ≡ state_after job k → s' ≡ step_of job s → s' ≡ state_after job (k + 1)
after_one_more job k s s' e f = let q : k + 1 ≡ suc k = omega arith in rw q (unfold state_after in (f ∙ ap (step_of job) e))

pub answer_stepped : (kind n : ℕ) (block w w' : List ℕ) (job : Job) (m : ℕ) (s : State) (o : Outcome) {u : Unit {0}} → Ok u ≡ fits kind n (length block) (length w)
    → job ≡ view kind n block → m ≡ span_of kind → s ≡ state_after job m → o ≡ outcome_at s → w' ≡ splice w sealed_at (sealed_bytes o)
    → (Ok tt ≡ (answered kind n block w).answer) × (w' ≡ (answered kind n block w).bytes)
unfolding answered did_by
answer_stepped kind n block w w' job m s o ef ej em es eo ew =
    let b = fit _ _ _ _ ef in
    let f = stepping.finished kind n block (record { fit_kind = b.fit_kind; fit_count = b.fit_count; block_fits = b.block_fits }) in
    let e : o ≡ outcome_at (state_after (view kind n block) (span_of kind)) = eo ∙ ap outcome_at (es ∙ ap (λ (j : Job). state_after j m) ej ∙ ap (state_after (view kind n block)) em) in
    rw (← ef) (refl, ew ∙ ap (splice w sealed_at) (ap sealed_bytes e ∙ f))
