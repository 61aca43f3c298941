-- `float::sign::min`.
use Rattle.float.specs.Sign.{min_of}
use Rattle.float.proofs.sign.min.Goals as goal

pub returns-then-is_nan : goal.returns-then-is_nan
unfolding min_of
returns-then-is_nan c = rw (← c.if-is_nan.ensures.value)

pub returns-then-y-x : goal.returns-then-y-x
unfolding min_of
returns-then-y-x c = rw (← c.if-is_nan.ensures.value, c.if-y-x.true)

pub returns-else-y-x : goal.returns-else-y-x
unfolding min_of
returns-else-y-x c = rw (← c.if-is_nan.ensures.value, c.if-y-x.false)
