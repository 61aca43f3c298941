-- `float::sign::max`.
use Rattle.float.specs.Sign.{max_of}
use Rattle.float.proofs.sign.max.Goals as goal

pub returns-then-is_nan : goal.returns-then-is_nan
unfolding max_of
returns-then-is_nan c = rw (← c.if-is_nan.ensures.value)

pub returns-then-x-y : goal.returns-then-x-y
unfolding max_of
returns-then-x-y c = rw (← c.if-is_nan.ensures.value, c.if-x-y.true)

pub returns-else-x-y : goal.returns-else-x-y
unfolding max_of
returns-else-x-y c = rw (← c.if-is_nan.ensures.value, c.if-x-y.false)
