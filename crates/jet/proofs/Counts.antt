-- How many pairs of positions p, m there are with p not above m in any mark, as the documents count them. Assumes nothing.
use mathlib.Core.Path.{◌≡◌, refl}
use Prim.Native.Nat.{ℕ, zero, suc, ◌+◌}
use lib.ListN.{length}
use Rattle.jet.specs.Positions.{positions, not_above, among, pairs_of}

-- those of the first n positions m
unfoldable pub pairs_below : ℕ → ℕ
pairs_below zero = 0
pairs_below (suc m) = pairs_below m + length (pairs_of m)

-- document 01's 90 without e3, document 02's 270
pub pairs_90 : pairs_below 16 ≡ 90
unfolding pairs_below pairs_of among not_above
pairs_90 = refl

pub pairs_270 : pairs_below positions ≡ 270
unfolding pairs_below pairs_of among not_above
pairs_270 = refl
