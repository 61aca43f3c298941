-- `writer::packing::fill`.
use Rattle.writer.specs.Packed.{filed_by}
use Rattle.writer.proofs.PutLaws.{filled_put, coefficients_room, interactions_room, fractions_room}
use borrow.Author.Rules.{rules}
use Rattle.writer.proofs.packing.fill.Goals as goal

pub put_floats-requires : goal.put_floats-requires
put_floats-requires c =
    let p = c.requires in
    let A = c.args in
    let h = coefficients_room A.n (filed_by A.coefficients.now A.interactions.now A.fractions.now A.c) p.1 p.3 in
    search rules

pub put_floats-requires-2 : goal.put_floats-requires-2
put_floats-requires-2 c =
    let p = c.requires in
    let A = c.args in
    let h = interactions_room A.n (filed_by A.coefficients.now A.interactions.now A.fractions.now A.c) p.1 p.3 in
    let e = c.interactions_from.ensures.0 in
    search rules

pub put_floats-requires-3 : goal.put_floats-requires-3
put_floats-requires-3 c =
    let p = c.requires in
    let A = c.args in
    let h = fractions_room A.n (filed_by A.coefficients.now A.interactions.now A.fractions.now A.c) p.1 p.3 in
    let e = c.fractions_from.ensures.0 in
    search rules

pub returns : goal.returns
returns c = (
  filled_put _ _ _ _ _ _ _ _ _ _ _ c.requires.3 c.interactions_from.ensures.0 c.fractions_from.ensures.0 c.conditions_from.ensures.0 c.put_pairs.ensures c.put_floats.ensures.0 c.put_floats-2.ensures.0 c.put_floats-3.ensures.0 c.put_conditions.ensures.0,
  record { coefficients = c.put_floats.ensures.1; interactions = c.put_floats-2.ensures.1; fractions = c.put_floats-3.ensures.1; conditions = c.put_conditions.ensures.1 },
)
