-- `jet_gradient::ln`.
use Rattle.jet.proofs.Prefix.{is, fewer, ln_along}
use Rattle.jet_gradient.proofs.Marks.{e1, e2, e3, logarithm_along, logarithm_from, two_marks, three_marks}
use Rattle.jet_gradient.proofs.ln.Goals as goal

pub returns-then-this-gt20 : goal.returns-then-this-gt20
returns-then-this-gt20 g c = is g.row.W c.ln.ensures

pub returns-then-this-le4 : goal.returns-then-this-le4
returns-then-this-le4 g c =
    fewer g.row.W 4 _ _ c.if-this-le4.true (ln_along _ _ c.ln_4-low.ensures)

pub returns-then-this-le12 : goal.returns-then-this-le12
returns-then-this-le12 g c =
    let a = c.args.a.c in
    let l = logarithm_along a _ _ c.ln_4-low.ensures c.at-l.ensures in
    fewer g.row.W 12 _ _ c.if-this-le12.true (two_marks _ _ _ _ _ _ l (logarithm_from a e1 _ _ l c.logarithm_from-u.ensures) (logarithm_from a e2 _ _ l c.logarithm_from-v.ensures) c.joined.ensures)

pub returns : goal.returns
returns g c =
    let a = c.args.a.c in
    let l = logarithm_along a _ _ c.ln_4-low.ensures c.at-l.ensures in
    fewer g.row.W 20 _ _ c.if-this-gt20.false (three_marks _ _ _ _ _ _ l (logarithm_from a e1 _ _ l c.logarithm_from-u.ensures) (logarithm_from a e2 _ _ l c.logarithm_from-v.ensures) c.joined-2.ensures (logarithm_from a e3 _ _ l c.logarithm_from.ensures))
