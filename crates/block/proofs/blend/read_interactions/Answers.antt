use mathlib.Core.Path.{◌≡◌, refl, sym, ap, ◌∙◌}
use Prim.Native.Nat.{◌-◌, ◌*◌, ◌/◌, ◌<◌}
use native.Mathlib.Omega.{arith}
use Rattle.float.specs.Sign.{finite_of}
use Rattle.block.specs.Lists.{all_below}
use Rattle.block.specs.Blend.{at as at_row, rows_before}
use Rattle.block.specs.Checks.{interactions_fit}
use Rattle.block.proofs.Lists.{all_more, all_done, all_fails}
use Rattle.block.proofs.ReadLaws.{stopped}
use Rattle.block.proofs.Sizes.{rows_all, place_below}
use Rattle.block.proofs.InteractionLaws.{matrix_none, row_begins, row_ends, matrix_more, matrix_all, interaction_test, place_first, place_next, place_last, interaction_read}
use Rattle.block.proofs.blend.read_interactions.Invariants.{row_of}
use Rattle.block.proofs.blend.read_interactions.Goals as goal

pub loop-i-init : goal.loop-i-init
unfolding all_below rows_before
loop-i-init c = let A = c.args in record { at_place = refl; fit = refl; filled = matrix_none A.n (row_of A.n A.block.now A.at) _ c.requires.3 }

pub loop-j-init : goal.loop-j-init
loop-j-init c =
    let A = c.args in
    let L = c.loop-i in
    record { at_place = place_first A.n L.i L.place L.invariant.at_place; fit = L.invariant.fit; filled = row_begins A.n (row_of A.n A.block.now A.at) _ L.i (omega arith) L.invariant.filled }

pub returns-in_default : goal.returns-in_default
unfolding interactions_fit
returns-in_default c =
    let A = c.args in
    let L = c.loop-j in
    let i = c.loop-i.i in
    let h : L.j < A.n = c.loop-j-test.true in
    let r = interaction_read A.n A.block.now A.at i L.j L.place (omega arith) (omega arith) h L.invariant.at_place in
    stopped
    (all_fails (interaction_test (row_of A.n A.block.now A.at)) _ L.place (omega (arith, place_below A.n i L.j (omega arith) h))
    (ap finite_of (sym r) ∙ rw c.in_default.is at c.finite_at.ensures))

pub loop-j-preserved : goal.loop-j-preserved
loop-j-preserved c =
    let A = c.args in
    let L = c.loop-j in
    let i = c.loop-i.i in
    let row = row_of A.n A.block.now A.at in
    let h : L.j < A.n = c.loop-j-test.true in
    let r = interaction_read A.n A.block.now A.at i L.j L.place (omega arith) (omega arith) h L.invariant.at_place in
    record {
      at_place = place_next A.n i L.j L.place (omega arith) L.invariant.at_place;
      fit = all_more (interaction_test row) L.place L.invariant.fit (ap finite_of (sym r) ∙ c.in-Some.ensures.0);
      filled = matrix_more A.n row L.k_ij i L.j _ (omega arith) h (omega arith) (c.in-Some.ensures.1 ∙ r ∙ ap (at_row row) L.invariant.at_place) L.invariant.filled;
    }

pub loop-i-preserved : goal.loop-i-preserved
loop-i-preserved c =
    let A = c.args in
    let L = c.loop-j in
    let i = c.loop-i.i in
    let h = c.loop-j-test.false in
    record {
      at_place = place_last A.n i L.j L.place (omega arith) h (omega arith) L.invariant.at_place;
      fit = L.invariant.fit;
      filled = row_ends A.n (row_of A.n A.block.now A.at) _ i L.j (omega arith) h (omega arith) L.invariant.filled;
    }

pub returns : goal.returns
unfolding interactions_fit
returns c =
    let A = c.args in
    let L = c.loop-i in
    let row = row_of A.n A.block.now A.at in
    let e : L.i ≡ A.n = omega arith in
    let p : L.place ≡ A.n * (A.n - 1) / 2 = L.invariant.at_place ∙ ap (rows_before A.n) e ∙ rows_all A.n in
    (all_done (interaction_test row) _ L.place (omega arith) (omega arith) L.invariant.fit, λ _. matrix_all A.n row _ L.i (omega arith) (omega arith) L.invariant.filled)
