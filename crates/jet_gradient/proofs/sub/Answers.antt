-- `jet_gradient::sub`.
use native.Mathlib.Omega.{arith}
use Rattle.jet_gradient.proofs.Marks.{difference_from, no_mark, two_marks, three_marks}
use Rattle.jet.proofs.Prefix.{is, fewer}
use Rattle.jet_gradient.proofs.sub.Goals as goal

pub returns-then-this-gt20 : goal.returns-then-this-gt20
returns-then-this-gt20 g c = is g.row.W c.sub.ensures

pub returns-then-this-le4 : goal.returns-then-this-le4
returns-then-this-le4 g c =
    let a = c.args.a.c in
    let b = c.args.b.c in
    fewer g.row.W 4 _ _ c.if-this-le4.true (no_mark _ _ _ _ _ _ (difference_from a b 0 (omega arith) _ c.difference_from-l.ensures) c.joined.ensures)

pub returns-then-this-le12 : goal.returns-then-this-le12
returns-then-this-le12 g c =
    let a = c.args.a.c in
    let b = c.args.b.c in
    fewer g.row.W 12 _ _ c.if-this-le12.true (two_marks _ _ _ _ _ _ (difference_from a b 0 (omega arith) _ c.difference_from-l.ensures) (difference_from a b 4 (omega arith) _ c.difference_from-u.ensures) (difference_from a b 8 (omega arith) _ c.difference_from-v.ensures) c.joined-then-this-le12.ensures)

pub returns : goal.returns
returns g c =
    let a = c.args.a.c in
    let b = c.args.b.c in
    fewer g.row.W 20 _ _ c.if-this-gt20.false (three_marks _ _ _ _ _ _ (difference_from a b 0 (omega arith) _ c.difference_from-l.ensures) (difference_from a b 4 (omega arith) _ c.difference_from-u.ensures) (difference_from a b 8 (omega arith) _ c.difference_from-v.ensures) c.joined-2.ensures (difference_from a b 16 (omega arith) _ c.difference_from.ensures))
