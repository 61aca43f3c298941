-- Where each number of a board stands. Every number is a little-endian u64, every float eight bytes of any pattern. Definitions only.
use Rattle.std.specs.Prelude.{ℕ, ◌+◌, ◌*◌}

-- "four quarters of 6,144, .. then the turn, u64, 0 to 3"
abbrev pub board_length : ℕ
board_length = 24584

abbrev pub quarter_length : ℕ
quarter_length = 6144

-- 0 to 3
abbrev pub turn_at : ℕ
turn_at = 24576

-- ---- in a quarter

-- any number: the jobs accepted, modulo 2^64
abbrev pub accepted_at : ℕ
accepted_at = 0

-- 0 to 8: the jobs held
abbrev pub held_at : ℕ
held_at = 8

-- 0 where no job is held, else below the span of the first job's kind: the turns had by the first job
abbrev pub turns_at : ℕ
turns_at = 16

-- from here to 112 the running search, tested only where the first job has had a turn: six counters of ranges that `stepping` tells of its kind,
abbrev pub counters_at : ℕ
counters_at = 24

-- three floats,
abbrev pub values_at : ℕ
values_at = 72

-- any number: the evaluations made, modulo 2^64,
abbrev pub evaluations_at : ℕ
evaluations_at = 96

-- and the density of the latest one
abbrev pub latest_at : ℕ
latest_at = 104

-- ---- in the eight slots; a job stands in the slot of its ticket modulo 8, so that no block is ever moved and no further number says where it is

-- 1 to 9 where a job is held
abbrev pub kind_at : (slot : ℕ) → ℕ
kind_at slot = 128 + 16 * slot

-- 1 to 8 where a job is held, 2 in kinds 7 to 9
abbrev pub count_at : (slot : ℕ) → ℕ
count_at slot = 136 + 16 * slot

-- 640 bytes, any
abbrev pub block_at : (slot : ℕ) → ℕ
block_at slot = 1024 + 640 * slot
