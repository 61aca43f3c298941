-- `jet::arith::with_mark`.
use Rattle.jet.proofs.WithMark.{put_mark, no_mark}
use borrow.Author.Rules.{rules}
use Rattle.jet.proofs.arith.with_mark.Goals as goal

pub returns-then-m-lt-POSITION_COUNT : goal.returns-then-m-lt-POSITION_COUNT
returns-then-m-lt-POSITION_COUNT c = put_mark _ _ (search rules) c.if-m-lt-POSITION_COUNT.true

pub returns-else-m-lt-POSITION_COUNT : goal.returns-else-m-lt-POSITION_COUNT
returns-else-m-lt-POSITION_COUNT c = no_mark _ _ (search rules) c.if-m-lt-POSITION_COUNT.false
