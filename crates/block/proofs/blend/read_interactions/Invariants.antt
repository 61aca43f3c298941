-- `block::blend::read_interactions`.
use mathlib.Core.Path.{◌≡◌}
use Prim.Native.Nat.{ℕ, ◌+◌, ◌-◌, ◌*◌, ◌/◌}
use mathlib.Core.Bool.{true}
use mathlib.Core.List.{List}
use lib.Ieee.{Float}
use Rattle.block.specs.Lists.{tabulate, all_below}
use Rattle.block.specs.Numbers.{floats_at}
use Rattle.block.specs.Blend.{rows_before, place}
use Rattle.block.proofs.InteractionLaws.{entry, known, interaction_test}
use Rattle.block.proofs.blend.read_interactions.Given as goal

abbrev pub row_of : ℕ → List ℕ → ℕ → List Float
row_of n block at = floats_at (n * (n - 1) / 2) block at

-- the interactions up to this place are tested, and the matrix has them up to this position
abbrev pub invariant-loop-j : goal.invariant-loop-j
invariant-loop-j l =
    let row = row_of l.n l.block l.at in
    record {
      at_place : l.place ≡ place l.n l.i l.j;
      fit : all_below l.place (interaction_test row) ≡ true;
      filled : l.k_ij ≡ tabulate 64 (entry l.n (known l.n row (8 * l.i + l.j)));
    }

abbrev pub invariant-loop-i : goal.invariant-loop-i
invariant-loop-i l =
    let row = row_of l.n l.block l.at in
    record {
      at_place : l.place ≡ rows_before l.n l.i;
      fit : all_below l.place (interaction_test row) ≡ true;
      filled : l.k_ij ≡ tabulate 64 (entry l.n (known l.n row (8 * l.i)));
    }
