-- `evaluations::residual::chemical_potential`.
use Rattle.evaluations.proofs.Evaluations.{potential_law}
use Rattle.evaluations.proofs.residual.chemical_potential.Goals as goal

pub returns : goal.returns
returns c =
    let a = c.args in
    potential_law a.blend a.temperature a.density c.along_volume.result.c c.along_volume.ensures _ c.ln.ensures
