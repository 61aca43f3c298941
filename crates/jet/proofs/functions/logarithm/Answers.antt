use mathlib.Core.Path.{◌≡◌, refl, ap, ◌∙◌}
use native.Mathlib.Omega.{arith}
use lib.ListN.{length, length-set}
use Rattle.jet.specs.Positions.{positions}
use Rattle.jet.specs.Coefficients.{logarithm_at, logarithm_of}
use Rattle.jet.proofs.Among.{least}
use Rattle.jet.proofs.Build.{fill_start, fill_turn}
use Rattle.jet.proofs.Rules.{logarithm_local}
use Rattle.jet.proofs.Rows.{logarithm_row, weighted_turn, length_filled, filled}
use borrow.Author.Rules.{rules}
use Rattle.jet.proofs.functions.logarithm.Goals as goal

pub returns-then-end-eq0 : goal.returns-then-end-eq0
unfolding logarithm_of
returns-then-end-eq0 c = filled (logarithm_at c.args.x.now) c.args.end 0 _ (omega arith) (fill_start _)

pub loop-m-init : goal.loop-m-init
unfolding logarithm_at
loop-m-init c =
    let x = c.args.x.now in
    record {
      filled = fill_turn (logarithm_at x) (logarithm_local x) 0 c.ln.result _ (omega arith) (fill_start _) c.ln.ensures;
      sized = refl;
      weighted = λ p h k. absurd (omega arith);
    }

pub next-requires : goal.next-requires
next-requires c = (search rules, search rules, least _)

pub minus-requires : goal.minus-requires
minus-requires c = (search rules, c.next.ensures.1)

pub loop-m-preserved : goal.loop-m-preserved
unfolding logarithm_at
loop-m-preserved c =
    let l = c.loop-m in
    let i = l.invariant in
    let x = c.args.x.now in
    let weight = c.weight-w.ensures in
    let long : length l.l ≡ positions = ap length i.filled ∙ length_filled (logarithm_at x) l.m (omega arith) in
    record {
      filled = fill_turn (logarithm_at x) (logarithm_local x) l.m _ l.l (omega arith) i.filled (logarithm_row x l.l l.wl l.m _ _ _ (omega arith) c.next.ensures i.weighted weight c.minus.ensures);
      sized = length-set l.wl l.m _ ∙ i.sized;
      weighted = weighted_turn l.l l.wl l.m _ _ (omega arith) (omega arith) weight i.weighted;
    }

pub returns : goal.returns
unfolding logarithm_of
returns c =
    filled (logarithm_at c.args.x.now) c.args.end c.loop-m.m _ (omega arith) c.loop-m.invariant.filled
