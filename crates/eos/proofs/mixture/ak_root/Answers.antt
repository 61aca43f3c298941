-- `eos::mixture::ak_root`.
use mathlib.Core.Path.{sym, ap, ◌∙◌}
use native.Mathlib.Omega.{arith}
use Rattle.float.specs.Root.{root as root_of}
use Rattle.jet.proofs.Prefix.{product_head}
use Rattle.eos.proofs.Pair.{ak_root_law}
use Rattle.eos.proofs.mixture.ak_root.Goals as goal

pub sqrt_from-requires : goal.sqrt_from-requires
sqrt_from-requires c =
    c.requires ∙ ap root_of (sym (product_head 4 c.args.ai.c c.args.aj.c _ (omega arith) c.mul.ensures))

pub returns : goal.returns
returns c = ak_root_law 4 _ _ _ _ c.mul.ensures c.sqrt_from.ensures
