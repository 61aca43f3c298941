-- `eos::helmholtz::mix`.
use native.Mathlib.Omega.{arith}
use Rattle.jet.specs.Coefficients.{Upto, number_of}
use Rattle.eos.specs.Cubic.{nth}
use Rattle.eos.proofs.Energy.{only_first, mixes_cong}
use Rattle.jet.proofs.Prefix.{is}
use Rattle.eos.proofs.helmholtz.mix.Goals as goal

pub returns-then-n-eq1 : goal.returns-then-n-eq1
returns-then-n-eq1 c =
    let a = c.args in
    rw c.if-n-eq1.true (mixes_cong 4 1 (omega arith) a.blend a.t.c a.v.c (λ i. c.number.result.c) (λ i. number_of (nth a.blend.x i)) c.alone.result (only_first (λ i. Upto 4 c.number.result.c (number_of (nth a.blend.x i))) (is 4 c.number.ensures)) c.alone.ensures)

pub returns : goal.returns
returns c = c.many.ensures
