-- What a job reads of a request, or the refusal, with its checks in their order. Definitions only.
use Rattle.std.specs.Prelude.{ℕ, Bool, cond, ◌&&◌, List, length, leb, eqb, Float, Ok, Err}
use Rattle.schedule.specs.Spans.{kind_fits, count_fits}
use Rattle.eos.specs.declared.types.Blend.{Blend}
use Rattle.eos.specs.Cubic.{max_density, pure_of}
use Rattle.solver.specs.declared.types.DensityInitialization.{DensityInitialization}
use Rattle.solver.specs.declared.types.DensityInitialization.TheVariants as Initial
use Rattle.solver_density.specs.declared.types.Branch.{Branch}
use Rattle.std.specs.declared.option.Option.{Option}
use Rattle.std.specs.declared.option.Option.TheVariants.{None, Some}
use Rattle.block.specs.declared.types.Conditions.{Conditions}
use Rattle.block.specs.declared.types.Numbers.{Numbers}
use Rattle.reader.specs.declared.types.Task.{Task}
use Rattle.reader.specs.declared.types.Task.TheVariants.{DensityIteration, DensityIterationStable, PressureSpinodal, PressureSpinodalBranch, CriticalPoint, Spinodal, CriticalPointBinaryT, CriticalPointBinaryP}
use Rattle.reader.specs.declared.types.Refusal.{Refusal}
use Rattle.reader.specs.declared.types.Job.{Job}
use Rattle.block.specs.Pairs.{pairs_fit}
use Rattle.block.specs.Numbers.{reads_fractions, numbers_of}
use Rattle.block.specs.Blend.{blend_of, empty_blend}
use Rattle.block.specs.Checks.{positive, plus_zero, components_fit, interactions_fit, fractions_fit, sum_fits, conditions_fit, choice_fits}

-- "0 vapour, 1 liquid, 2 start"
unfoldable pub initial_of : (choice : ℕ) → Float → DensityInitialization
initial_of choice start = cond (eqb choice 0) Initial.Vapor (cond (eqb choice 1) Initial.Liquid (Initial.InitialDensity start))

-- "0 or 1 likewise"
unfoldable pub branch_of : (choice : ℕ) → Branch
branch_of choice = cond (eqb choice 0) Branch.Vapor Branch.Liquid

-- "Kind 5 reads +0 in temperature or start as none"; kinds 7 to 9 too, but for kind 8's temperature, which is no +0
unfoldable pub given_of : Float → Option Float
given_of x = cond (plus_zero x) None (Some x)

-- "Kinds and spans"; kinds 5 and 7 search a critical point, kind 5 of one component and kind 7 of the blend; "Kind 8 follows `critical_point_binary_t`, kind 9
-- `critical_point_binary_p`"
unfoldable pub task_of : (kind : ℕ) → Conditions → Task
task_of kind c =
    cond (eqb kind 1) (DensityIteration c.temperature c.pressure (initial_of c.choice c.start))
    (cond (eqb kind 2) (DensityIterationStable c.temperature c.pressure)
    (cond (eqb kind 3) (PressureSpinodal c.temperature c.start)
    (cond (eqb kind 4) (PressureSpinodalBranch c.temperature (branch_of c.choice))
    (cond (eqb kind 6) (Spinodal c.temperature)
    (cond (eqb kind 8) (CriticalPointBinaryT c.temperature (given_of c.start))
    (cond (eqb kind 9) (CriticalPointBinaryP c.pressure (given_of c.temperature) (given_of c.start))
    (CriticalPoint (given_of c.temperature) (given_of c.start))))))))

-- the whole blend, or in kinds 5 and 6 the chosen component alone
unfoldable pub searched : (kind choice : ℕ) → Blend → Blend
searched kind choice blend = cond (reads_fractions kind) blend (pure_of blend choice)

unfoldable pub refused : Refusal → Job
refused refusal = record { task = Err refusal; blend = empty_blend }

-- a check and what it is refused by
abbrev pub check : Bool → Refusal → Job → Job
check ok refusal next = cond ok next (refused refusal)

-- the numbers of the data's refusals
unfoldable pub of_data : ℕ → Bool
of_data number = leb 11 number && leb number 17

-- the blend that the run searches
abbrev pub run_blend : (kind n : ℕ) → Numbers → Blend
run_blend kind n d = searched kind d.conditions.choice (blend_of n d)

-- the job that passes every check
abbrev pub ready_job : (kind n : ℕ) → Numbers → Job
ready_job kind n d = record { task = Ok (task_of kind d.conditions); blend = run_blend kind n d }

-- "16 choice, or the run's maximum density not finite and positive"
unfoldable pub run_fits : (kind n : ℕ) → Conditions → Blend → Bool
run_fits kind n c whole = choice_fits kind n c.choice && positive (max_density (searched kind c.choice whole))

-- 15 and 16, of the conditions and of what is searched of the whole blend under them
unfoldable pub last_checks : (kind n : ℕ) → Conditions → Blend → Job
last_checks kind n c whole = check (conditions_fit kind c) Refusal.Conditions (check (run_fits kind n c whole) Refusal.Choice (record { task = Ok (task_of kind c); blend = searched kind c.choice whole }))

-- "The supplier's data, sealed, in this order", after 11; 17 is "tested directly after 14"
unfoldable pub checked : (kind n : ℕ) → Numbers → Job
checked kind n d =
    check (components_fit n d.coefficients) Refusal.Components
    (check (interactions_fit n d.interactions) Refusal.Interactions
    (check (fractions_fit n d.fractions) Refusal.Fractions
    (check (sum_fits kind n d.fractions) Refusal.FractionSum (last_checks kind n d.conditions (blend_of n d)))))

-- 2, 3 and 8 in submit's order; then the data, of which 11 comes before the numbers. The reader of a block and the writer of one go by it
abbrev pub requested : (kind n size : ℕ) (pairs : Bool) → Numbers → Job
requested kind n size pairs d =
    check (kind_fits kind) Refusal.Kind
    (check (count_fits kind n) Refusal.Count
    (check (eqb size 640) Refusal.BlockLength
    (check pairs Refusal.Pairs
    (checked kind n d))))

-- the job of a block
unfoldable pub view : (kind n : ℕ) → List ℕ → Job
view kind n s = requested kind n (length s) (pairs_fit n s) (numbers_of kind n s)
