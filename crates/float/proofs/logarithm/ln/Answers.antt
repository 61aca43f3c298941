-- `float::logarithm::ln`.
use mathlib.Core.Path.{sym, ap, ◌∙◌}
use native.Mathlib.Omega.{arith}
use borrow.Author.Rules.{rules}
use mathlib.Core.Bool.{true}
use lib.Ieee.{inf, binary64}
use lib.Ieee.Bits.{of_bits-to_bits}
use Rattle.float.specs.Ln.{ln_units, ln_of}
use Rattle.float.proofs.Casts.{held}
use Rattle.float.proofs.SignLaws.{nan_only, zero_is}
use Rattle.float.proofs.Above.{nan_is, not_zero, above_nan, above_zero, above_negative, above_infinite}
use Rattle.float.proofs.LnLaws.{minus_infinity}
use Rattle.float.proofs.logarithm.ln.Goals as goal

pub returns-then-is_nan : goal.returns-then-is_nan
unfolding ln_of
returns-then-is_nan c = above_nan (λ s e. inf true) ln_units c.args.x (nan_only c.args.x (sym c.if-is_nan.ensures.value))

pub returns-then-x : goal.returns-then-x
unfolding ln_of
returns-then-x c = nan_is ∙ sym (above_negative (λ s e. inf true) ln_units c.args.x c.if-x.true)

pub returns-then-x-2 : goal.returns-then-x-2
unfolding ln_of
returns-then-x-2 c =
    let z = zero_is c.args.x c.if-x-2.true in
    minus_infinity ∙ sym (ap ln_of z.2 ∙ above_zero (λ s e. inf true) ln_units z.0 z.1)

pub of_bits-requires : goal.of_bits-requires
of_bits-requires c = let n = not_zero c.args.x (held c.args.x (search rules)) c.if-x-2.false in (omega arith, c.if-b-lt-INFINITY_BITS.true)

pub returns-then-b-lt-INFINITY_BITS : goal.returns-then-b-lt-INFINITY_BITS
returns-then-b-lt-INFINITY_BITS c = c.of_bits.ensures ∙ ap ln_of (of_bits-to_bits binary64 c.args.x (held c.args.x (search rules)))

pub returns : goal.returns
unfolding ln_of
returns c = sym (above_infinite (λ c e. inf true) ln_units c.args.x (held c.args.x (search rules)) c.if-x.false c.if-x-2.false c.if-b-lt-INFINITY_BITS.false)
