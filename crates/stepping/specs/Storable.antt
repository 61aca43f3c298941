-- The states whose numbers eight bytes hold, each as itself. Definitions only.
use Rattle.std.specs.Prelude.{◌^◌, ◌<◌, T}
use Rattle.std.specs.Float.{binary64}
use Rattle.std.specs.Float.Ieee.{fits}
use Rattle.solver.specs.declared.types.Counters.{Counters}
use Rattle.solver.specs.declared.types.Values.{Values}
use Rattle.solver_state.specs.declared.types.State.{State}

pub record CountersStorable (c : Counters) : Type 0 where
  pub stage : c.stage < 2 ^ 64
  pub tag : c.tag < 2 ^ 64
  pub status : c.status < 2 ^ 64
  pub left : c.left < 2 ^ 64
  pub way : c.way < 2 ^ 64
  pub rounds : c.rounds < 2 ^ 64

pub record ValuesStorable (v : Values) : Type 0 where
  pub first : T (fits binary64 v.first)
  pub second : T (fits binary64 v.second)
  pub third : T (fits binary64 v.third)

pub record FloatsStorable (s : State) : Type 0 where
  pub values : ValuesStorable s.numbers.values
  pub latest : T (fits binary64 s.latest)

pub record Storable (s : State) : Type 0 where
  pub counters : CountersStorable s.numbers.counters
  pub evaluations : s.evaluations < 2 ^ 64
  pub floats : FloatsStorable s
