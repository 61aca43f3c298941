-- What `stepped` answers, as a step's definition on the place. Assumes nothing.
use mathlib.Core.Path.{◌≡◌, sym, ◌∙◌}
use lib.Ieee.{Float}
use Rattle.std.specs.declared.ops.ControlFlow.{ControlFlow}
use Rattle.std.specs.declared.ops.ControlFlow.TheVariants.{Break, Continue}
use Rattle.std.specs.ControlFlow.{MatchControlFlow}
use Rattle.solver.specs.declared.types.Numbers.{Numbers}
use Rattle.solver_state.specs.declared.types.State.{State}
use Rattle.solver_state.specs.State.{stepped_to}

-- a step f that leaves an end alone, and of a spot makes what the closure's result says
pub tied : {E S : Type 0} (f : ControlFlow E S → State) (place : ControlFlow E S) (s r : State) (post : S → Numbers × Float → Type 0)
    → ((a : E) → f (Break a) ≡ s)
    → ((x : S) (y : Numbers × Float) → post x y → stepped_to y.0 y.1 s ≡ f (Continue x))
    → MatchControlFlow place (λ x. (y : Numbers × Float) × post x y × (r ≡ stepped_to y.0 y.1 s)) (λ _. r ≡ s)
    → r ≡ f place
tied f (Break a) s r post ended goes m = m ∙ sym (ended a)
tied f (Continue x) s r post ended goes m = m.2 ∙ goes x m.0 m.1
