-- Document 01's near cases that are marked M, and those of document 02's sum of fractions, kinds 7 to 9 and quotes, as one list: a record for each layer, and
-- `NearCases` of all. They speak of the definitions.
use Rattle.std.specs.Prelude.{ℕ, zero, suc, ◌-◌, ◌≡◌, true, false, List, [], ◌∷◌, ◌++◌, map, length, replicate, ℤ, pos, negsuc, Float}
use Rattle.std.specs.Float.{inf, fin, binary64}
use Rattle.std.specs.Float.Ieee.{neg, of_bits}
use Rattle.float.specs.Ops.{◌⊕◌, f0, f1, f2}
use Rattle.float.specs.Root.{root}
use Rattle.float.specs.Ln.{ln2_high, ln2_low, ln_of}
use Rattle.schedule.specs.Schedule.{Submit, Quote}
use Rattle.board_spec.specs.Run.{Bytes, Calls, Public, refusal, ticketed, quoting, zero_board, replies, public_of}
use Rattle.block.specs.Checks.{near_one, sum_fits}
use Rattle.jet.specs.Positions.{positions}
use Rattle.jet.specs.Coefficients.{marked_of, recip_of, root_of, logarithm_of}

-- 2^e, where `negsuc k` is −(k + 1)
abbrev pub two_to : ℤ → Float
two_to e = fin false 1 e

-- "L having bits 3FE62E42FEFA39EF"
abbrev pub ln2 : Float
ln2 = of_bits binary64 0x3fe6_2e42_fefa_39ef

-- "ln 1 = +0; ln 2 has L's bits; ln 0.5 is −L." L's two parts add up to it. "root of 4 is 2; of 2^−1074 is 2^−537; of −0 is −0."
pub record FloatCases : Type 0 where
  pub parts_of_L : ln2_high ⊕ ln2_low ≡ ln2
  pub ln_of_1 : ln_of f1 ≡ f0
  pub ln_of_2 : ln_of f2 ≡ ln2
  pub ln_of_half : ln_of (two_to (negsuc 0)) ≡ neg ln2
  pub root_of_4 : root (two_to (pos 2)) ≡ f2
  pub root_of_smallest : root (two_to (negsuc 1073)) ≡ two_to (negsuc 536)
  pub root_of_minus_0 : root (neg f0) ≡ neg f0

-- 1 + e0, and the jet whose coefficients of 1, e0, e0² and e0³ are these and whose others are +0
abbrev pub one_plus_e0 : List Float
one_plus_e0 = marked_of 1 f1

abbrev pub in_e0 : Float → Float → Float → Float → List Float
in_e0 a b c d = a ∷ b ∷ c ∷ d ∷ replicate (positions - 4) f0

-- "1/(1+e0): 1, −1, 1, −1. Root of 1+e0: 1, 0.5, −0.125, 0.0625. Its logarithm: 0, 1, −0.5, then bits 3FD5555555555555."
-- Each is said of the whole jet.
pub record JetCases : Type 0 where
  pub recip_of_1_plus_e0 : recip_of one_plus_e0 ≡ in_e0 f1 (neg f1) f1 (neg f1)
  pub root_of_1_plus_e0 : root_of one_plus_e0 ≡ in_e0 f1 (two_to (negsuc 0)) (neg (two_to (negsuc 2))) (two_to (negsuc 3))
  pub ln_of_1_plus_e0 : logarithm_of one_plus_e0 ≡ in_e0 f0 f1 (neg (two_to (negsuc 0))) (of_bits binary64 0x3FD5555555555555)

-- the greatest and the least float within 1e-9 of 1
abbrev pub last_above : Float
last_above = of_bits binary64 0x3FF0_0000_0044_B82F

abbrev pub last_below : Float
last_below = of_bits binary64 0x3FEF_FFFF_FF76_8FA1

-- 3·2^−55: one is lost in a sum of 1 or a little more, two together are not
abbrev pub speck : Float
speck = fin false 3 (negsuc 54)

abbrev pub percentages : List Float
percentages = of_bits binary64 0x4049_0000_0000_0000 ∷ of_bits binary64 0x4049_0000_0000_0000 ∷ []

-- "their sum in ascending order of index must .. differ from 1 by at most 1e-9", "where a kind reads fractions"
pub record SumCases : Type 0 where
  pub above : near_one last_above ≡ true
  pub above_next : near_one (of_bits binary64 0x3FF0_0000_0044_B830) ≡ false
  pub below : near_one last_below ≡ true
  pub below_next : near_one (of_bits binary64 0x3FEF_FFFF_FF76_8FA0) ≡ false
  pub zeros : near_one f0 ≡ false
  pub overflow : near_one (inf false) ≡ false
  pub from_the_first : sum_fits 1 3 (last_above ∷ speck ∷ speck ∷ []) ≡ true
  pub the_other_way : sum_fits 1 3 (speck ∷ speck ∷ last_above ∷ []) ≡ false
  pub hundredfold : sum_fits 4 2 percentages ≡ false
  pub not_read : sum_fits 5 2 percentages ≡ true

-- so many submits of the same job to queue 0
unfoldable pub submits : (times kind n : ℕ) → Bytes → Calls
submits zero kind n block = []
submits (suc k) kind n block = Submit 0 kind n block ∷ submits k kind n block

-- what a fresh board answers to a run
abbrev pub answers : Calls → List Public
answers run = map public_of (replies zero_board run)

-- "eighth job accepted, ninth 4." "N of 8 accepted, 9 refused 3." Whatever the block holds.
pub record BoardCases : Type 0 where
  pub eighth_accepted : (block : Bytes) → length block ≡ 640
      → answers (submits 8 1 1 block) ≡ ticketed 0 ∷ ticketed 1 ∷ ticketed 2 ∷ ticketed 3 ∷ ticketed 4 ∷ ticketed 5 ∷ ticketed 6 ∷ ticketed 7 ∷ []
  pub ninth_4 : (block : Bytes) → length block ≡ 640
      → answers (submits 9 1 1 block) ≡ ticketed 0 ∷ ticketed 1 ∷ ticketed 2 ∷ ticketed 3 ∷ ticketed 4 ∷ ticketed 5 ∷ ticketed 6 ∷ ticketed 7 ∷ refusal 4 ∷ []
  pub n_8_accepted : (block : Bytes) → length block ≡ 640 → answers (submits 1 1 8 block) ≡ ticketed 0 ∷ []
  pub n_9_refused_3 : (block : Bytes) → length block ≡ 640 → answers (submits 1 1 9 block) ≡ refusal 3 ∷ []
  -- a quote of a fresh board: queue 2 is served third, and then every fourth turn, thirty times in all
  pub quote_of_none : answers (Quote 2 3 ∷ []) ≡ quoting 119 ∷ []
  -- behind seven jobs of kind 1, and refused where there are eight
  pub quote_behind_seven : (block : Bytes) → length block ≡ 640
      → answers (submits 7 1 1 block ++ (Quote 0 3 ∷ [])) ≡ ticketed 0 ∷ ticketed 1 ∷ ticketed 2 ∷ ticketed 3 ∷ ticketed 4 ∷ ticketed 5 ∷ ticketed 6 ∷ quoting 86945 ∷ []
  pub quote_behind_eight_4 : (block : Bytes) → length block ≡ 640
      → answers (submits 8 1 1 block ++ (Quote 0 3 ∷ [])) ≡ (ticketed 0 ∷ ticketed 1 ∷ ticketed 2 ∷ ticketed 3 ∷ ticketed 4 ∷ ticketed 5 ∷ ticketed 6 ∷ ticketed 7 ∷ []) ++ (refusal 4 ∷ [])

-- "2 passes kind 7; 3 is also given for kind 7 with N other than 2"; "2 passes 8 and 9; 3 is given for them unless N is 2". Whatever the block holds.
pub record TwoCases (kind : ℕ) : Type 0 where
  pub n_2_accepted : (block : Bytes) → length block ≡ 640 → answers (submits 1 kind 2 block) ≡ ticketed 0 ∷ []
  pub n_1_refused_3 : (block : Bytes) → length block ≡ 640 → answers (submits 1 kind 1 block) ≡ refusal 3 ∷ []
  pub n_3_refused_3 : (block : Bytes) → length block ≡ 640 → answers (submits 1 kind 3 block) ≡ refusal 3 ∷ []
  pub n_8_refused_3 : (block : Bytes) → length block ≡ 640 → answers (submits 1 kind 8 block) ≡ refusal 3 ∷ []

-- A layer above adds its record here.
pub record NearCases : Type 0 where
  pub floats : FloatCases
  pub jets : JetCases
  pub sums : SumCases
  pub board : BoardCases
  pub seven : TwoCases 7
  pub eight : TwoCases 8
  pub nine : TwoCases 9
  pub kind_10_refused_2 : (block : Bytes) → length block ≡ 640 → answers (submits 1 10 2 block) ≡ refusal 2 ∷ []
