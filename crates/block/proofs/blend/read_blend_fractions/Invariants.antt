-- `block::blend::read_blend_fractions`.
use mathlib.Core.Path.{◌≡◌}
use Prim.Native.Nat.{◌≤◌}
use mathlib.Core.Bool.{true}
use Rattle.float.specs.Ops.{f0}
use Rattle.block.specs.Lists.{tabulate, all_below}
use Rattle.block.specs.Numbers.{floats_at}
use Rattle.block.specs.Blend.{at as at_row}
use Rattle.block.proofs.Lists.{upto}
use Rattle.block.proofs.ReadLaws.{fraction_test}
use Rattle.block.proofs.blend.read_blend_fractions.Given as goal

abbrev pub invariant-loop-i : goal.invariant-loop-i
invariant-loop-i l =
    let row = floats_at l.count l.block l.at in
    record {
      in_row : l.count ≤ l.n;
      fit : all_below l.i (fraction_test row) ≡ true;
      filled : l.blend ≡ record l.fn.blend { x = tabulate 8 (upto f0 (at_row row) l.i) };
    }
