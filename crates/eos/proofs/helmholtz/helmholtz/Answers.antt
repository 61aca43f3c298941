-- `eos::helmholtz::helmholtz`.
use Rattle.eos.proofs.helmholtz.helmholtz.Goals as goal

pub returns : goal.returns
returns c =
    c.energy.ensures c.args.blend c.args.n c.requires.0 _ c.mix.ensures
