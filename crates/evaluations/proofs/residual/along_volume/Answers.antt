-- `evaluations::residual::along_volume`.
use mathlib.Core.Path.{refl}
use Rattle.jet.specs.Coefficients.{number_of}
use Rattle.eos.specs.Cubic.{nth}
use Rattle.evaluations.proofs.Evaluations.{along_law}
use Rattle.evaluations.proofs.residual.along_volume.Goals as goal

pub returns : goal.returns
returns c =
    let a = c.args in
    let n = c.components-n in
    along_law a.blend a.t a.v n.result c.number.result.c c.marked.result.c (λ i. number_of (nth a.blend.x i)) c.helmholtz.result.c n.ensures.1 n.ensures.0 c.number.ensures c.marked.ensures (λ i l. refl) c.helmholtz.ensures
