-- `jet_gradient::sqrt_from`.
use Rattle.jet.proofs.Prefix.{is, fewer, sqrt_along}
use Rattle.jet_gradient.proofs.Marks.{e1, e2, e3, root_along, root_from, two_marks, three_marks}
use Rattle.jet_gradient.proofs.sqrt_from.Goals as goal

pub returns-then-this-gt20 : goal.returns-then-this-gt20
returns-then-this-gt20 g c = is g.row.W c.sqrt.ensures

pub returns-then-this-le4 : goal.returns-then-this-le4
returns-then-this-le4 g c =
    fewer g.row.W 4 _ _ c.if-this-le4.true (sqrt_along _ _ c.sqrt_4_from-low.ensures)

pub returns-then-this-le12 : goal.returns-then-this-le12
returns-then-this-le12 g c =
    let a = c.args.a.c in
    let l = root_along a _ _ c.sqrt_4_from-low.ensures c.at-r.ensures in
    fewer g.row.W 12 _ _ c.if-this-le12.true (two_marks _ _ _ _ _ _ l (root_from a e1 _ _ l c.root_from-u.ensures) (root_from a e2 _ _ l c.root_from-v.ensures) c.joined.ensures)

pub returns : goal.returns
returns g c =
    let a = c.args.a.c in
    let l = root_along a _ _ c.sqrt_4_from-low.ensures c.at-r.ensures in
    fewer g.row.W 20 _ _ c.if-this-gt20.false (three_marks _ _ _ _ _ _ l (root_from a e1 _ _ l c.root_from-u.ensures) (root_from a e2 _ _ l c.root_from-v.ensures) c.joined-2.ensures (root_from a e3 _ _ l c.root_from.ensures))
