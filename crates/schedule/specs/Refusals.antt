-- Document 01's "Who causes which refusal" after 6, with what document 02 amends: which number comes when, in the order of the tests, as inequalities of plain
-- numbers that share nothing with the definitions of the verdicts. Statements only; `refusals` in proofs/Refusals.antt proves them.
use Rattle.std.specs.Prelude.{◌≡◌, ℕ, ◌≤◌, ◌<◌}
use Rattle.schedule.specs.Schedule.{Verdict, accept, refuse, submit_verdict, turn_verdict, look_verdict, quote_verdict}

-- P holds of x, and of nothing else
pub record Exactly {A : Type 0} (x : A) (P : A → Type 0) : Type 0 where
  pub holds : P x
  pub only : (a : A) → P a → x ≡ a

pub record Inside (least most x : ℕ) : Type 0 where
  pub low : least ≤ x
  pub high : x ≤ most

pub data Outside (least most x : ℕ) : Type 0 where
  below : x < least → Outside least most x
  above : most < x → Outside least most x

-- "N not 1 to 8", or "kind 7 with N other than 2", and 8 and 9 likewise, "unless N is 2"
pub data CountWrong (kind n : ℕ) : Type 0 where
  out_of_range : Outside 1 8 n → CountWrong kind n
  of_two : 7 ≤ kind → (n ≡ 2 → ⊥) → CountWrong kind n

pub record CountRight (kind n : ℕ) : Type 0 where
  pub in_range : Inside 1 8 n
  pub of_two : 7 ≤ kind → n ≡ 2

-- "Submit tests 6, 1, 2, 3, 8, 4"
pub data SubmitTests (queue kind n size held : ℕ) : Verdict → Type 0 where
  -- "1 queue above 3"
  refused_1 : 3 < queue → SubmitTests queue kind n size held (refuse 1)
  -- "2 kind not 1 to 6"; "2 passes kind 7"; "2 passes 8 and 9"
  refused_2 : queue ≤ 3 → Outside 1 9 kind → SubmitTests queue kind n size held (refuse 2)
  -- "3 N not 1 to 8"; "3 is also given for kind 7 with N other than 2"; for 8 and 9 "3 is given .. unless N is 2"
  refused_3 : queue ≤ 3 → Inside 1 9 kind → CountWrong kind n → SubmitTests queue kind n size held (refuse 3)
  -- "8 block not 640 bytes"
  refused_8 : queue ≤ 3 → Inside 1 9 kind → CountRight kind n → (size ≡ 640 → ⊥) → SubmitTests queue kind n size held (refuse 8)
  -- "4 eight jobs held"
  refused_4 : queue ≤ 3 → Inside 1 9 kind → CountRight kind n → size ≡ 640 → 8 ≤ held → SubmitTests queue kind n size held (refuse 4)
  -- a submit is accepted where none of these comes
  passed : queue ≤ 3 → Inside 1 9 kind → CountRight kind n → size ≡ 640 → held < 8 → SubmitTests queue kind n size held accept

-- "turn 6, 5"
pub data TurnTests (size : ℕ) : Verdict → Type 0 where
  -- "5 record buffer under 64 bytes"
  refused_5 : size < 64 → TurnTests size (refuse 5)
  passed : 64 ≤ size → TurnTests size accept

-- "look 6, 1, 7"
pub data LookTests (queue turns : ℕ) : Verdict → Type 0 where
  -- "1 queue above 3"
  refused_1 : 3 < queue → LookTests queue turns (refuse 1)
  -- "7 no running job": "7 unless its first has had a turn"
  refused_7 : queue ≤ 3 → turns ≡ 0 → LookTests queue turns (refuse 7)
  passed : queue ≤ 3 → 1 ≤ turns → LookTests queue turns accept

-- of a quote "Faults 6, 1, 2 and 4 are answered as by submit"
pub data QuoteTests (queue kind held : ℕ) : Verdict → Type 0 where
  -- "1 queue above 3"
  refused_1 : 3 < queue → QuoteTests queue kind held (refuse 1)
  -- "2 kind not 1 to 6"; "2 passes kind 7"; "2 passes 8 and 9"
  refused_2 : queue ≤ 3 → Outside 1 9 kind → QuoteTests queue kind held (refuse 2)
  -- "4 eight jobs held"
  refused_4 : queue ≤ 3 → Inside 1 9 kind → 8 ≤ held → QuoteTests queue kind held (refuse 4)
  passed : queue ≤ 3 → Inside 1 9 kind → held < 8 → QuoteTests queue kind held accept

pub record Refusals : Type 0 where
  pub submit : (queue kind n size held : ℕ) → Exactly (submit_verdict queue kind n size held) (SubmitTests queue kind n size held)
  pub turn : (size : ℕ) → Exactly (turn_verdict size) (TurnTests size)
  pub look : (queue turns : ℕ) → Exactly (look_verdict queue turns) (LookTests queue turns)
  pub quote : (queue kind held : ℕ) → Exactly (quote_verdict queue kind held) (QuoteTests queue kind held)
  -- as by submit: a quote is refused by the number by which every submit with that queue and kind, and an N and a block that fit, is refused
  pub quote_as_submit : (queue kind n held : ℕ) → CountRight kind n → quote_verdict queue kind held ≡ submit_verdict queue kind n 640 held
