-- `reader::requests::checked`.
use mathlib.Core.Path.{refl, ap}
use native.Mathlib.Omega.{arith}
use borrow.Author.Tests.{not-false, not-true}
use Rattle.eos.specs.declared.types.Blend.{Blend}
use Rattle.block.specs.Blend.{empty_blend}
use Rattle.block.proofs.PairLaws.{within}
use Rattle.reader.proofs.BlendLaws.{numbered, no_interactions, no_fractions, unread, blend_read, conditions_read, coefficients_fit, interactions_fit_lem, fractions_fit_lem, sum_fit, refused_12, refused_13, refused_14, refused_17, passed_17}
use Rattle.reader.proofs.requests.checked.Goals as goal

pub read_blend_components-requires : goal.read_blend_components-requires
unfolding empty_blend
read_blend_components-requires c =
    let w = within c.args.n c.args.block.now c.requires.3 in
    let z = c.requires.4 in
    (c.requires.1, omega (arith, w.coefficients_end, c.offset.ensures), ap (λ (b : Blend). b.tc) z, ap (λ (b : Blend). b.a) z, ap (λ (b : Blend). b.b) z, ap (λ (b : Blend). b.kappa) z)

pub returns-then-not-read_blend_components : goal.returns-then-not-read_blend_components
returns-then-not-read_blend_components c = refused_12 _ _ _ _ _ (coefficients_fit _ _ _ c.offset.ensures c.read_blend_components.ensures.fits (not-true _ c.if-not-read_blend_components.true-raw)) refl

pub read_blend_interactions-requires : goal.read_blend_interactions-requires
read_blend_interactions-requires c =
    let w = within c.args.n c.args.block.now c.requires.3 in
    let p = not-false _ c.if-not-read_blend_components.false-raw in
    (c.requires.0, c.requires.1, omega (arith, w.interactions_end, c.offset-2.ensures), no_interactions c.args.kind c.args.n c.args.block.now _ (numbered c.args.n c.requires.4) (c.read_blend_components.ensures.read p))

pub returns-then-not-read_blend_interactions : goal.returns-then-not-read_blend_interactions
returns-then-not-read_blend_interactions c =
    refused_13 _ _ _ _ _ (coefficients_fit _ _ _ c.offset.ensures c.read_blend_components.ensures.fits (not-false _ c.if-not-read_blend_components.false-raw))
    (interactions_fit_lem _ _ _ c.offset-2.ensures c.read_blend_interactions.ensures.fits (not-true _ c.if-not-read_blend_interactions.true-raw)) refl

pub read_blend_fractions-requires : goal.read_blend_fractions-requires
read_blend_fractions-requires c =
    let w = within c.args.n c.args.block.now c.requires.3 in
    let p = not-false _ c.if-not-read_blend_components.false-raw in
    let q = not-false _ c.if-not-read_blend_interactions.false-raw in
    (c.requires.1, omega (arith, w.fractions_end, c.offset-3.ensures), no_fractions c.args.kind c.args.n c.args.block.now _ (numbered c.args.n c.requires.4) (c.read_blend_components.ensures.read p) _ (c.read_blend_interactions.ensures.read q))

pub returns-then-not-read_blend_fractions : goal.returns-then-not-read_blend_fractions
returns-then-not-read_blend_fractions c =
    refused_14 _ _ _ _ _ (coefficients_fit _ _ _ c.offset.ensures c.read_blend_components.ensures.fits (not-false _ c.if-not-read_blend_components.false-raw))
    (interactions_fit_lem _ _ _ c.offset-2.ensures c.read_blend_interactions.ensures.fits (not-false _ c.if-not-read_blend_interactions.false-raw))
    (fractions_fit_lem _ _ _ c.offset-3.ensures c.read_blend_fractions.ensures.fits (not-true _ c.if-not-read_blend_fractions.true-raw)) refl

pub returns-then-not-sum_fits : goal.returns-then-not-sum_fits
returns-then-not-sum_fits c =
    let pre = c.requires in
    let r = not-false _ c.if-not-read_blend_fractions.false-raw in
    refused_17 _ _ _ _ _ (coefficients_fit _ _ _ c.offset.ensures c.read_blend_components.ensures.fits (not-false _ c.if-not-read_blend_components.false-raw))
    (interactions_fit_lem _ _ _ c.offset-2.ensures c.read_blend_interactions.ensures.fits (not-false _ c.if-not-read_blend_interactions.false-raw))
    (fractions_fit_lem _ _ _ c.offset-3.ensures c.read_blend_fractions.ensures.fits r)
    (sum_fit _ _ _ pre.0 pre.1 c.offset-3.ensures (ap (λ (b : Blend). b.x) (c.read_blend_fractions.ensures.read r)) c.sum_fits.ensures (not-true _ c.if-not-sum_fits.true-raw)) refl

pub conditions-c-requires : goal.conditions-c-requires
conditions-c-requires c =
    let w = within c.args.n c.args.block.now c.requires.3 in
    omega (arith, w.conditions_end, c.offset-4.ensures)

pub under_conditions-requires : goal.under_conditions-requires
under_conditions-requires c =
    let p = not-false _ c.if-not-read_blend_components.false-raw in
    let q = not-false _ c.if-not-read_blend_interactions.false-raw in
    let r = not-false _ c.if-not-read_blend_fractions.false-raw in
    (c.requires.1, unread c.args.kind c.args.n c.args.block.now _ (numbered c.args.n c.requires.4) (c.read_blend_components.ensures.read p) _ (c.read_blend_interactions.ensures.read q) _ (c.read_blend_fractions.ensures.read r))

pub returns : goal.returns
returns c =
    let pre = c.requires in
    let p = not-false _ c.if-not-read_blend_components.false-raw in
    let q = not-false _ c.if-not-read_blend_interactions.false-raw in
    let r = not-false _ c.if-not-read_blend_fractions.false-raw in
    let e₁ = c.offset.ensures in
    let e₂ = c.offset-2.ensures in
    let e₃ = c.offset-3.ensures in
    passed_17 _ _ _ _ _ _ _ (coefficients_fit _ _ _ e₁ c.read_blend_components.ensures.fits p)
    (interactions_fit_lem _ _ _ e₂ c.read_blend_interactions.ensures.fits q)
    (fractions_fit_lem _ _ _ e₃ c.read_blend_fractions.ensures.fits r)
    (sum_fit _ _ _ pre.0 pre.1 e₃ (ap (λ (b : Blend). b.x) (c.read_blend_fractions.ensures.read r)) c.sum_fits.ensures (not-false _ c.if-not-sum_fits.false-raw))
    (conditions_read _ _ _ c.offset-4.ensures c.conditions-c.ensures)
    (blend_read c.args.kind c.args.n c.args.block.now _ (numbered c.args.n c.requires.4) (c.read_blend_components.ensures.read p) _ (c.read_blend_interactions.ensures.read q) _ (c.read_blend_fractions.ensures.read r) _ e₁ e₂ e₃)
    c.under_conditions.ensures
