-- The near cases hold: each is computed from the definitions. Assumes nothing.
use mathlib.Core.Path.{◌≡◌, refl, ap, ◌∙◌}
use Prim.Native.Nat.{ℕ, zero, suc}
use mathlib.Core.List.{List, [], ◌∷◌, ◌++◌, map, map-append}
use lib.ListN.{length}
use lib.Ieee.{of_bits, of_int, neg, size, round, add, sub, mul, div, le}
use Rattle.float.specs.Above.{above}
use Rattle.float.specs.Root.{isqrt_in, isqrt, sticky, root_of as floatRootOf, root}
use Rattle.float.specs.Ln.{odd_recip, horner, series, reduced_ln, ln_at, ln_units, ln_of}
use Rattle.jet.specs.Positions.{not_above, among, pairs_of, before, between, weight_of}
use Rattle.jet.specs.Coefficients.{build, number_of, marked_of, less, quotient_at, quotient_of, recip_of, root_at, root_of, logarithm_at, logarithm_of}
use Rattle.float.specs.Sign.{abs_of}
use Rattle.eos.specs.Indices.{fold_from, total}
use Rattle.block.specs.Numbers.{reads_fractions}
use Rattle.block.specs.Checks.{fraction_sum, near_one, sum_fits}
use Rattle.schedule.specs.Spans.{count_fits, span_of}
use Rattle.schedule.specs.Schedule.{Call, Submit, Quote, submit_verdict, quote_verdict, verdict, left, work, away, turns_until, quote_of, put, entered, submitted, acts, judged, happens, events, fresh, map_call}
use Rattle.board_spec.specs.Run.{Bytes, Calls, Public, fields_of, ticketed, refusal, public_event}
use Rattle.board_spec.proofs.Runs.{public_told}
use Rattle.near_cases.specs.NearCases.{FloatCases, JetCases, SumCases, submits, answers, BoardCases, TwoCases, NearCases}

float_cases : FloatCases
unfolding root floatRootOf sticky isqrt isqrt_in ln_of ln_units ln_at reduced_ln series horner odd_recip above of_bits of_int neg size round add sub mul div le
float_cases = record {
  parts_of_L = refl;
  ln_of_1 = refl;
  ln_of_2 = refl;
  ln_of_half = refl;
  root_of_4 = refl;
  root_of_smallest = refl;
  root_of_minus_0 = refl;
}

jet_cases : JetCases
unfolding root floatRootOf sticky isqrt isqrt_in ln_of ln_units ln_at reduced_ln series horner odd_recip above of_bits of_int neg size round add sub mul div le not_above among pairs_of before between weight_of build number_of marked_of less quotient_at quotient_of recip_of root_at root_of logarithm_at logarithm_of
jet_cases = record {
  recip_of_1_plus_e0 = refl;
  root_of_1_plus_e0 = refl;
  ln_of_1_plus_e0 = refl;
}

sum_cases : SumCases
unfolding of_bits neg size round add sub le abs_of fold_from total reads_fractions fraction_sum near_one sum_fits
sum_cases = record {
  above = refl;
  above_next = refl;
  below = refl;
  below_next = refl;
  zeros = refl;
  overflow = refl;
  from_the_first = refl;
  the_other_way = refl;
  hundredfold = refl;
  not_read = refl;
}

-- so many submits with a block of 640 bytes, by their public fields
sized : (times kind n : ℕ) → List (Call ℕ)
sized zero kind n = []
sized (suc k) kind n = Submit 0 kind n 640 ∷ sized k kind n

fields : (times kind n : ℕ) (block : Bytes) → length block ≡ 640 → fields_of (submits times kind n block) ≡ sized times kind n
unfolding fields_of submits sized map_call
fields zero kind n block e = refl
fields (suc k) kind n block e = ap (λ (m : ℕ). Submit 0 kind n m ∷ fields_of (submits k kind n block)) e ∙ ap (λ (cs : List (Call ℕ)). Submit 0 kind n 640 ∷ cs) (fields k kind n block e)

-- a fresh board's answers come from the public fields, which are those of a block of 640 bytes
told : (times kind n : ℕ) (block : Bytes) → length block ≡ 640 → answers (submits times kind n block) ≡ map public_event (events (λ m. m) fresh (sized times kind n))
told times kind n block e = public_told (submits times kind n block) ∙ ap (λ (fs : List (Call ℕ)). map public_event (events (λ m. m) fresh fs)) (fields times kind n block e)

-- and where more calls follow
told_then : (times kind n : ℕ) (block : Bytes) (more : Calls) → length block ≡ 640
    → answers (submits times kind n block ++ more) ≡ map public_event (events (λ m. m) fresh (sized times kind n ++ fields_of more))
unfolding fields_of
told_then times kind n block more e =
    public_told (submits times kind n block ++ more)
    ∙ ap (λ (fs : List (Call ℕ)). map public_event (events (λ m. m) fresh fs)) (map-append (map_call length) (submits times kind n block) more ∙ ap (λ (fs : List (Call ℕ)). fs ++ fields_of more) (fields times kind n block e))

board_cases : BoardCases
unfolding events fresh happens judged verdict submit_verdict quote_verdict count_fits span_of left work away turns_until quote_of acts submitted put entered public_event sized fields_of map_call
board_cases = record {
  eighth_accepted = λ block e. told 8 1 1 block e;
  ninth_4 = λ block e. told 9 1 1 block e;
  n_8_accepted = λ block e. told 1 1 8 block e;
  n_9_refused_3 = λ block e. told 1 1 9 block e;
  quote_of_none = public_told (Quote 2 3 ∷ []);
  quote_behind_seven = λ block e. told_then 7 1 1 block (Quote 0 3 ∷ []) e;
  quote_behind_eight_4 = λ block e. told_then 8 1 1 block (Quote 0 3 ∷ []) e;
}

-- what the schedule answers to one submit of this kind and N
abbrev first : (kind n : ℕ) → List Public
first kind n = map public_event (events (λ m. m) fresh (sized 1 kind n))

two_cases : (kind : ℕ) → first kind 2 ≡ ticketed 0 ∷ [] → first kind 1 ≡ refusal 3 ∷ [] → first kind 3 ≡ refusal 3 ∷ [] → first kind 8 ≡ refusal 3 ∷ [] → TwoCases kind
two_cases kind e₂ e₁ e₃ e₈ = record {
  n_2_accepted = λ block e. told 1 kind 2 block e ∙ e₂;
  n_1_refused_3 = λ block e. told 1 kind 1 block e ∙ e₁;
  n_3_refused_3 = λ block e. told 1 kind 3 block e ∙ e₃;
  n_8_refused_3 = λ block e. told 1 kind 8 block e ∙ e₈;
}

pub near_cases : NearCases
unfolding events fresh happens judged verdict submit_verdict count_fits acts submitted put entered public_event sized
near_cases = record {
  floats = float_cases;
  jets = jet_cases;
  sums = sum_cases;
  board = board_cases;
  seven = two_cases 7 refl refl refl refl;
  eight = two_cases 8 refl refl refl refl;
  nine = two_cases 9 refl refl refl refl;
  kind_10_refused_2 = λ block e. told 1 10 2 block e;
}
