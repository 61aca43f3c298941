-- `float::logarithm::of_bits`.
use mathlib.Core.Path.{◌≡◌, sym, ap, ◌∙◌}
use mathlib.Core.Bool.{Bool, true, false, cond}
use Prim.Native.Nat.{ℕ, ◌+◌, ◌*◌, ◌^◌}
use native.Mathlib.Omega.{arith}
use lib.Ieee.{Float, inf, binary64, minus, le, mul, of_bits, round}
use Rattle.float.specs.Parted.{Parted}
use Rattle.float.specs.Ln.{reduced_ln, ln_at, ln_units, ln_of}
use Rattle.float.proofs.Patterns.{positive_no_nan}
use Rattle.float.proofs.Above.{above_units}
use Rattle.float.proofs.PartLaws.{units_pos, place_is, fraction_is}
use Rattle.float.proofs.logarithm.of_bits.Goals as goal

-- by the test's outcome t
ln_is : (b m j : ℕ) → Parted b m j → (t : Bool) → le (of_bits binary64 0x3ff6_a09e_667f_3bcd) (of_bits binary64 (1022 * 2 ^ 52 + m)) ≡ t
    → ln_of (of_bits binary64 b)
    ≡ cond t (reduced_ln (mul binary64 (of_bits binary64 (1022 * 2 ^ 52 + m)) (of_bits binary64 0x3fe0_0000_0000_0000)) (minus (j + 1) 1074)) (reduced_ln (of_bits binary64 (1022 * 2 ^ 52 + m)) (minus j 1074))
unfolding ln_of ln_units ln_at
ln_is b m j p t e =
    above_units (λ s e. inf true) ln_units (of_bits binary64 b) p.n (units_pos b m j p) p.value
    ∙ ap (λ (i : ℕ). ln_at (round binary64 false p.n (2 ^ i)) i) (place_is b m j p)
    ∙ ap (λ (v : Float). ln_at v j) (fraction_is b m j p)
    ∙ ap (λ (t : Bool). cond t (reduced_ln (mul binary64 (of_bits binary64 (1022 * 2 ^ 52 + m)) (of_bits binary64 0x3fe0_0000_0000_0000)) (minus (j + 1) 1074)) (reduced_ln (of_bits binary64 (1022 * 2 ^ 52 + m)) (minus j 1074))) e

pub float_from_bits-t : goal.float_from_bits-t
float_from_bits-t c = positive_no_nan (1022 * 2 ^ 52 + c.split-p.result.m) (omega arith)

pub returns-then-t : goal.returns-then-t
returns-then-t c = c.reduced.ensures ∙ sym (ln_is c.args.b c.split-p.result.m c.split-p.result.j c.split-p.ensures true c.if-t.true)

pub returns-else-t : goal.returns-else-t
returns-else-t c = c.reduced-else-t.ensures ∙ sym (ln_is c.args.b c.split-p.result.m c.split-p.result.j c.split-p.ensures false c.if-t.false)
