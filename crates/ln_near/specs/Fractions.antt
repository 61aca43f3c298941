-- Fractions of whole numbers, and numbers of either sign as a difference of two of them. Definitions only.
use Rattle.std.specs.Prelude.{ℕ, ◌+◌, ◌*◌, ◌≤◌, ◌<◌, true, false, Float}
use Rattle.std.specs.Float.{nan, inf, fin}
use Rattle.std.specs.Float.Ieee.{up, down}

-- ---- num / den, never below zero
pub record Frac : Type 0 where
  pub num : ℕ
  pub den : ℕ

infixl 60 ◌+ᶠ◌
abbrev pub ◌+ᶠ◌ : Frac → Frac → Frac
f +ᶠ g = record { num = f.num * g.den + g.num * f.den; den = f.den * g.den }

abbrev pub times : ℕ → Frac → Frac
times k f = record { num = k * f.num; den = f.den }

abbrev pub none : Frac
none = record { num = 0; den = 1 }

infix 50 ◌≤ᶠ◌
abbrev pub ◌≤ᶠ◌ : Frac → Frac → Type 0
f ≤ᶠ g = f.num * g.den ≤ g.num * f.den

-- ---- plus − minus
pub record Number : Type 0 where
  pub plus : Frac
  pub minus : Frac

-- No denominator is 0. Only of such numbers do the two orders below mean what they say.
abbrev pub Proper : Number → Type 0
Proper u = (0 < u.plus.den) × (0 < u.minus.den)

-- u is at most v. Each minus is brought over to the other side.
abbrev pub AtMost : Number → Number → Type 0
AtMost u v = u.plus +ᶠ v.minus ≤ᶠ v.plus +ᶠ u.minus

-- u + e
abbrev pub raised : Number → Frac → Number
raised u e = record { plus = u.plus +ᶠ e; minus = u.minus }

-- u and v are no further apart than e
abbrev pub Within : Frac → Number → Number → Type 0
Within e u v = AtMost u (raised v e) × AtMost v (raised u e)

-- the number that a finite float is; 0 for the others
unfoldable pub value_of : Float → Number
value_of nan = record { plus = none; minus = none }
value_of (inf s) = record { plus = none; minus = none }
value_of (fin false m e) = record { plus = record { num = m * up e; den = down e }; minus = none }
value_of (fin true m e) = record { plus = none; minus = record { num = m * up e; den = down e } }
