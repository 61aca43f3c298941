-- `gateway::pr_answer`.
use mathlib.Core.Path.{◌∙◌, ap}
use Rattle.records.specs.Answered.{number_of}
use Rattle.gateway.proofs.pr_answer.Goals as goal

pub returns : goal.returns
returns c =
    (c.number.ensures ∙ ap number_of c.answer-answered.ensures.0, c.answer-answered.ensures.1)
