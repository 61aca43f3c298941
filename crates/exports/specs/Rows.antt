-- What the evaluations yield, as one row each. Definitions only.
use Rattle.std.specs.Prelude.{List, [], ◌∷◌, Float}
use Rattle.evaluations.specs.declared.types.Pressure.{Pressure}
use Rattle.evaluations.specs.declared.types.Criticality.{Criticality}
use Rattle.evaluations.specs.declared.types.PressureCriticality.{PressureCriticality}
use Rattle.evaluations.specs.declared.types.Stability.{Stability}

abbrev pub pressure_row : Pressure → List Float
pressure_row y = y.p ∷ y.dp_drho ∷ y.d2p_drho2 ∷ []

abbrev pub criticality_row : Criticality → List Float
criticality_row y = y.l ∷ y.c2 ∷ y.dl_d0 ∷ y.dl_d1 ∷ y.dc2_d0 ∷ y.dc2_d1 ∷ []

-- the conditions, then the derivatives of each
abbrev pub pressure_criticality_row : PressureCriticality → List Float
pressure_criticality_row y =
    y.l.value ∷ y.c2.value ∷ y.p.value ∷ y.l.d0 ∷ y.l.d1 ∷ y.l.d2 ∷ y.c2.d0 ∷ y.c2.d1 ∷ y.c2.d2 ∷ y.p.d0 ∷ y.p.d1 ∷ y.p.d2 ∷ []

abbrev pub stability_row : Stability → List Float
stability_row y = y.f ∷ y.df ∷ []
