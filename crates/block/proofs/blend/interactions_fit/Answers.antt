-- `block::blend::interactions_fit`.
use mathlib.Core.Path.{refl, ap, ◌∙◌}
use Prim.Native.Nat.{◌+◌, ◌-◌, ◌*◌, ◌/◌}
use native.Mathlib.Omega.{arith}
use Rattle.std.proofs.Common.{rules, tests}
use Rattle.std.proofs.lemmas.Iterator.{YieldsList-from_range}
use Rattle.std.proofs.lemmas.Iterator.Search.{all_from_yields_List}
use Rattle.float.specs.Sign.{finite_of}
use Rattle.buf.specs.Bytes.{f64_at}
use Rattle.block.specs.Checks.{interactions_fit}
use Rattle.block.proofs.Lists.{all_range, all_same}
use Rattle.block.proofs.InteractionLaws.{interaction_at_lem}
use Rattle.block.proofs.blend.interactions_fit.Goals as goal

pub returns : goal.returns
unfolding interactions_fit
returns c =
    let A = c.args in
    let count = A.n * (A.n - 1) / 2 in
    all_from_yields_List (λ k. finite_of (f64_at A.block.now (A.at + 8 * k))) _ _ c.all.result c.all.ensures.ran (YieldsList-from_range 0 count count refl (omega arith)) (λ x b q k. search (rules, tests))
    ∙ all_range count _
    ∙ all_same count _ _ (λ k h. ap finite_of (interaction_at_lem A.n A.block.now A.at k (omega arith) h))
