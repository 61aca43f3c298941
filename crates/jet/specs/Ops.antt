-- The operations of jets as operators, for definitions that read like the Rust's formulas. Definitions only.
use Rattle.std.specs.Prelude.{List, Float}
use Rattle.jet.specs.Coefficients.{sum_of, difference_of, product_of, quotient_of}

abbrev pub ◌⊞◌ : List Float → List Float → List Float
◌⊞◌ = sum_of

abbrev pub ◌⊟◌ : List Float → List Float → List Float
◌⊟◌ = difference_of

abbrev pub ◌⊠◌ : List Float → List Float → List Float
◌⊠◌ = product_of

abbrev pub ◌⧄◌ : List Float → List Float → List Float
◌⧄◌ = quotient_of

infixl 60 ◌⊞◌
infixl 60 ◌⊟◌
infixl 70 ◌⊠◌
infixl 70 ◌⧄◌
