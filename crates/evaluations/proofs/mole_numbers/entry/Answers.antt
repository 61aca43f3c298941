-- `evaluations::mole_numbers::entry`.
use Rattle.evaluations.proofs.CriticalLaws.{entry_law}
use Rattle.evaluations.proofs.mole_numbers.entry.Goals as goal

pub returns : goal.returns
returns g c =
    entry_law _ _ _ _ c.args.one _ _ _ _ c.mul-z_mix.ensures c.mul.ensures c.number.ensures c.add.ensures
