-- Document 01's numbers of what a request is refused by before its search. Definitions only.
use Rattle.std.specs.Prelude.{ℕ}
use Rattle.reader.specs.declared.types.Refusal.{Refusal}
use Rattle.reader.specs.declared.types.Refusal.TheVariants.{Kind, Count, BlockLength, Pairs, Components, Interactions, Fractions, FractionSum, Conditions, Choice}

-- "2 kind ..; 3 N ..; .. 8 block not 640 bytes"; "11 pairs", 12 components, 13 interactions, 14 fractions, 17 their sum, 15 conditions, "16 choice, or the run's maximum density"
unfoldable pub number_of : Refusal → ℕ
number_of Kind = 2
number_of Count = 3
number_of BlockLength = 8
number_of Pairs = 11
number_of Components = 12
number_of Interactions = 13
number_of Fractions = 14
number_of FractionSum = 17
number_of Conditions = 15
number_of Choice = 16
