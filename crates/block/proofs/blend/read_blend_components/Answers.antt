use mathlib.Core.Path.{◌≡◌, refl, ap, ◌∙◌}
use Prim.Native.Nat.{ℕ, ◌+◌, ◌*◌, ◌≤◌, ◌<◌}
use native.Mathlib.Omega.{arith}
use mathlib.Core.List.{List}
use lib.ListN.{set, replicate}
use lib.Ieee.{Float}
use Rattle.float.specs.Ops.{f0}
use Rattle.eos.specs.declared.types.Component.{Component}
use Rattle.eos.specs.declared.types.Blend.{Blend}
use Rattle.block.specs.Lists.{all_below}
use Rattle.block.specs.Numbers.{floats_at}
use Rattle.block.specs.Blend.{of_row, with_components}
use Rattle.block.specs.Checks.{components_fit}
use Rattle.block.proofs.Lists.{upto_none, upto_more, all_more, all_done, all_fails}
use Rattle.block.proofs.ReadLaws.{component_test, component_numbers, component_tested, component_made, component_stored}
use Rattle.block.proofs.blend.read_blend_components.Invariants.{with_first}
use Rattle.block.proofs.blend.read_blend_components.Goals as goal

first_none : (row : List Float) (b : Blend) → b.tc ≡ replicate 8 f0 → b.a ≡ replicate 8 f0 → b.b ≡ replicate 8 f0 → b.kappa ≡ replicate 8 f0 → b ≡ with_first row 0 b
first_none row b p q r s =
    rw (
      ← upto_none 8 f0 (λ k. (of_row row k).tc) b.tc p,
      ← upto_none 8 f0 (λ k. (of_row row k).a) b.a q,
      ← upto_none 8 f0 (λ k. (of_row row k).b) b.b r,
      ← upto_none 8 f0 (λ k. (of_row row k).kappa) b.kappa s,
    )

first_more : (row : List Float) (i : ℕ) (b old : Blend) (c : Component) → i < 8 → c ≡ of_row row i → b ≡ with_first row i old
    → record b { tc = set b.tc i c.tc; a = set b.a i c.a; b = set b.b i c.b; kappa = set b.kappa i c.kappa } ≡ with_first row (i + 1) old
first_more row i b old c h m e =
    rw (
      e,
      upto_more 8 f0 (λ k. (of_row row k).tc) i _ c.tc h (ap (λ (c : Component). c.tc) m) refl,
      upto_more 8 f0 (λ k. (of_row row k).a) i _ c.a h (ap (λ (c : Component). c.a) m) refl,
      upto_more 8 f0 (λ k. (of_row row k).b) i _ c.b h (ap (λ (c : Component). c.b) m) refl,
      upto_more 8 f0 (λ k. (of_row row k).kappa) i _ c.kappa h (ap (λ (c : Component). c.kappa) m) refl,
    )

first_all : (n i : ℕ) (row : List Float) (b old : Blend) → n ≤ i → i ≤ n → b ≡ with_first row i old → b ≡ with_components n row old
first_all n i row b old h g e =
    e
    ∙ rw (
      component_stored n row (λ c. c.tc) i _ refl h g refl,
      component_stored n row (λ c. c.a) i _ refl h g refl,
      component_stored n row (λ c. c.b) i _ refl h g refl,
      component_stored n row (λ c. c.kappa) i _ refl h g refl,
    )

pub loop-i-init : goal.loop-i-init
unfolding all_below
loop-i-init c =
    let P = c.requires in
    record { fit = refl; filled = first_none _ _ P.2 P.3 P.4 P.5 }

pub returns-in_default-clause-fits : goal.returns-in_default-clause-fits
unfolding components_fit
returns-in_default-clause-fits c =
    let A = c.args in
    let i = c.loop-i.i in
    let row = floats_at (3 * A.n) A.block.now A.at in
    let e = component_numbers A.n A.block.now A.at i c.loop-i-test.true c.requires.0 in
    all_fails (component_test row) A.n i c.loop-i-test.true (component_tested row i _ _ _ _ e (rw c.in_default.is at c.component.ensures))

pub loop-i-preserved : goal.loop-i-preserved
loop-i-preserved c =
    let A = c.args in
    let L = c.loop-i in
    let row = floats_at (3 * A.n) A.block.now A.at in
    let e = component_numbers A.n A.block.now A.at L.i c.loop-i-test.true c.requires.0 in
    record {
      fit = all_more (component_test row) L.i L.invariant.fit (component_tested row L.i _ _ _ _ e c.in-Some.ensures.0);
      filled = first_more row L.i L.blend A.blend.now _ (omega arith) (component_made row L.i _ _ _ _ e c.in-Some.ensures.1) L.invariant.filled;
    }

pub returns-clause-fits : goal.returns-clause-fits
unfolding components_fit
returns-clause-fits c =
    let A = c.args in
    all_done (component_test (floats_at (3 * A.n) A.block.now A.at)) A.n c.loop-i.i c.loop-i-test.false c.loop-i.auto.i-end c.loop-i.invariant.fit

pub returns-clause-read : goal.returns-clause-read
returns-clause-read c = λ _. first_all _ _ _ _ c.args.blend.now c.loop-i-test.false c.loop-i.auto.i-end c.loop-i.invariant.filled

-- what is read goes into its four rows alone, where a component does not fit too
rows_kept : (row : List Float) (i : ℕ) (b old : Blend) → b ≡ with_first row i old → b ≡ record old { tc = b.tc; a = b.a; b = b.b; kappa = b.kappa }
rows_kept row i b old e = rw e

pub returns-in_default-clause-kept : goal.returns-in_default-clause-kept
returns-in_default-clause-kept c = rows_kept _ _ _ c.args.blend.now c.loop-i.invariant.filled

pub returns-clause-kept : goal.returns-clause-kept
returns-clause-kept c = rows_kept _ _ _ c.args.blend.now c.loop-i.invariant.filled
