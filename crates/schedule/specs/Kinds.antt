-- The kinds and their numbers. Definitions only.
use Rattle.std.specs.Prelude.{◌≡◌, ℕ, false, Result, MatchResult}
use Rattle.schedule.specs.declared.kinds.Kind.{Kind}
use Rattle.schedule.specs.declared.kinds.Kind.TheVariants.{Density, StableDensity, PressureSpinodal, SpinodalBranch, CriticalPoint, StabilitySpinodals, BlendCriticalPoint, CriticalPointAtTemperature, CriticalPointAtPressure}
use Rattle.schedule.specs.declared.kinds.UnknownKind.{UnknownKind}
use Rattle.schedule.specs.Spans.{kind_fits}

-- the number that stands for a kind
abbrev pub number_of : Kind → ℕ
number_of Density = 1
number_of StableDensity = 2
number_of PressureSpinodal = 3
number_of SpinodalBranch = 4
number_of CriticalPoint = 5
number_of StabilitySpinodals = 6
number_of BlendCriticalPoint = 7
number_of CriticalPointAtTemperature = 8
number_of CriticalPointAtPressure = 9

-- the result is the kind with this number, or an error with a number that no kind has
abbrev pub Decodes : ℕ → Result Kind UnknownKind → Type 0
Decodes number r = MatchResult r (λ kind. number_of kind ≡ number) (λ e. (e.0 ≡ number) × (kind_fits number ≡ false))
