-- `reader::requests::under_conditions`.
use mathlib.Core.Path.{refl, sym, ◌∙◌}
use borrow.Author.Tests.{not-false, not-true}
use Rattle.reader.proofs.BlendLaws.{refused_15, refused_16, passed_16, whole_searched, alone_searched, choice_below}
use Rattle.reader.proofs.requests.under_conditions.Goals as goal

pub returns-then-not-conditions_fit : goal.returns-then-not-conditions_fit
returns-then-not-conditions_fit c = refused_15 _ _ _ _ _ _ (sym c.conditions_fit.ensures ∙ not-true _ c.if-not-conditions_fit.true-raw) refl

pub returns-then-not-choice_fits : goal.returns-then-not-choice_fits
returns-then-not-choice_fits c = refused_16 _ _ _ _ _ _ (sym c.conditions_fit.ensures ∙ not-false _ c.if-not-conditions_fit.false-raw) (sym c.choice_fits.ensures ∙ not-true _ c.if-not-choice_fits.true-raw) refl

pub returns-then-reads_fractions : goal.returns-then-reads_fractions
returns-then-reads_fractions c =
    let t = sym c.reads_fractions.ensures ∙ c.if-reads_fractions.true in
    passed_16 _ _ _ _ _ _ _ (sym c.conditions_fit.ensures ∙ not-false _ c.if-not-conditions_fit.false-raw) (sym c.choice_fits.ensures ∙ not-false _ c.if-not-choice_fits.false-raw) c.task.ensures
    (whole_searched _ _ _ t) c.ready.ensures

pub keep_component_alone-requires : goal.keep_component_alone-requires
keep_component_alone-requires c = choice_below _ _ _ c.requires.0 (sym c.choice_fits.ensures ∙ not-false _ c.if-not-choice_fits.false-raw)

pub returns : goal.returns
returns c =
    let t = sym c.reads_fractions.ensures ∙ c.if-reads_fractions.false in
    passed_16 _ _ _ _ _ _ _ (sym c.conditions_fit.ensures ∙ not-false _ c.if-not-conditions_fit.false-raw) (sym c.choice_fits.ensures ∙ not-false _ c.if-not-choice_fits.false-raw) c.task-2.ensures
    (alone_searched _ _ _ _ t (c.requires.1 t) c.keep_component_alone.ensures) c.ready-2.ensures
