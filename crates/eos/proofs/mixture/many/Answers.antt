-- `eos::mixture::many`.
use Rattle.jet.specs.Coefficients.{number_of}
use Rattle.eos.specs.Jets.{jet_at}
use Rattle.eos.specs.Cubic.{nth}
use Rattle.eos.proofs.Energy.{many_law}
use Rattle.eos.proofs.mixture.many.Goals as goal

pub returns : goal.returns
returns c =
    let a = c.args in
    many_law 4 a.n c.requires.0 a.blend a.t.c a.v.c (λ i. number_of (nth a.blend.x i)) (jet_at c.densities-rho.result) (jet_at c.over-x.result) (jet_at c.aks-ak.result) c.sum-density.result.c c.ak_mix.result.c c.b_mix.result.c c.densities-rho.ensures c.sum-density.ensures c.over-x.ensures c.aks-ak.ensures c.ak_mix.ensures c.b_mix.ensures
