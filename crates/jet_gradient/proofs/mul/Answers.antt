-- `jet_gradient::mul`.
use Rattle.jet.proofs.Prefix.{is, fewer, mul_along}
use Rattle.jet_gradient.proofs.Marks.{e1, e2, e3, product_along, product_from, two_marks, three_marks}
use Rattle.jet_gradient.proofs.mul.Goals as goal

pub returns-then-this-gt20 : goal.returns-then-this-gt20
returns-then-this-gt20 g c = is g.row.W c.mul.ensures

pub returns-then-this-le4 : goal.returns-then-this-le4
returns-then-this-le4 g c =
    fewer g.row.W 4 _ _ c.if-this-le4.true (mul_along _ _ _ c.mul_4-low.ensures)

pub returns-then-this-le12 : goal.returns-then-this-le12
returns-then-this-le12 g c =
    let a = c.args.a.c in
    let b = c.args.b.c in
    let l = product_along a b _ _ c.mul_4-low.ensures c.at-l.ensures in
    fewer g.row.W 12 _ _ c.if-this-le12.true (two_marks _ _ _ _ _ _ l (product_from a b e1 _ c.product_from-u.ensures) (product_from a b e2 _ c.product_from-v.ensures) c.joined.ensures)

pub returns : goal.returns
returns g c =
    let a = c.args.a.c in
    let b = c.args.b.c in
    let l = product_along a b _ _ c.mul_4-low.ensures c.at-l.ensures in
    fewer g.row.W 20 _ _ c.if-this-gt20.false (three_marks _ _ _ _ _ _ l (product_from a b e1 _ c.product_from-u.ensures) (product_from a b e2 _ c.product_from-v.ensures) c.joined-2.ensures (product_from a b e3 _ c.product_from.ensures))
