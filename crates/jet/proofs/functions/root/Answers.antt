use mathlib.Core.Path.{◌≡◌, sym, ap, ◌∙◌}
use native.Mathlib.Omega.{arith}
use Rattle.jet.specs.Coefficients.{at, root_at, root_of}
use Rattle.jet.proofs.Among.{least}
use Rattle.jet.proofs.Build.{fill_start, fill_turn}
use Rattle.jet.proofs.Rows.{root_row, first_filled, filled}
use Rattle.float.specs.Root.{root}
use Rattle.jet.proofs.Rules.{root_local}
use mathlib.Core.List.{List}
use lib.Ieee.{Float}
use borrow.Author.Rules.{rules}
use Rattle.jet.proofs.functions.root.Goals as goal

pub returns-then-end-eq0 : goal.returns-then-end-eq0
unfolding root_of
returns-then-end-eq0 c = filled (root_at c.args.x.now) c.args.end 0 _ (omega arith) (fill_start _)

pub loop-m-init : goal.loop-m-init
unfolding root_at
loop-m-init c =
    let x = c.args.x.now in
    fill_turn (root_at x) (root_local x) 0 c.sqrt.result _ (omega arith) (fill_start _) c.sqrt.ensures

pub next-requires : goal.next-requires
next-requires c = (search rules, search rules, least _)

pub minus-requires : goal.minus-requires
minus-requires c = (search rules, c.next.ensures.1)

pub loop-m-preserved : goal.loop-m-preserved
unfolding root_at
loop-m-preserved c =
    let x = c.args.x.now in
    let first : at c.loop-m.r 0 ≡ root (at x 0) = ap (λ (r : List Float). at r 0) c.loop-m.invariant ∙ first_filled (root_at x) c.loop-m.m (omega arith) (omega arith) in
    fill_turn (root_at x) (root_local x) c.loop-m.m _ c.loop-m.r (omega arith) c.loop-m.invariant (root_row x c.loop-m.r c.loop-m.m _ _ _ (omega arith) c.next.ensures c.minus.ensures (c.sqrt.ensures ∙ sym first))

pub returns : goal.returns
unfolding root_of
returns c =
    filled (root_at c.args.x.now) c.args.end c.loop-m.m _ (omega arith) c.loop-m.invariant
