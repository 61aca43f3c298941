-- `reader::requests::view`.
use mathlib.Core.Path.{sym, ◌∙◌}
use Rattle.reader.proofs.ViewLaws.{view_refused, not_refused_left}
use Rattle.reader.proofs.requests.view.Goals as goal

pub returns-in-Err : goal.returns-in-Err
returns-in-Err c = c.refused.ensures ∙ view_refused _ _ _ _ (sym c.in-Err.is ∙ c.read-task.ensures.0)

pub returns : goal.returns
returns c =
    let r = c.read-task.ensures in
    rw (r.0, r.1 (not_refused_left _ c.in_default.not-Err))
