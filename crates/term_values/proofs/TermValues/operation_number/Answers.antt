-- Each arm knows the view.
use mathlib.Core.Logic.{inl, inr}
use Rattle.term_values.specs.Values.{operation_number}
use Rattle.term_values.proofs.TermValues.operation_number.Goals as goal

pub returns-in-Variable : goal.returns-in-Variable
unfolding operation_number
returns-in-Variable c = elim c.in-Variable.is [ inl (s, n, e) ↦ rw e | inr o ↦ elim o [ inl e ↦ rw e | inr o ↦ elim o [ inl e ↦ rw e | inr (h, x, f, v, e) ↦ rw e ] ] ]

pub returns-in-Rea : goal.returns-in-Rea
unfolding operation_number
returns-in-Rea c = rw (c.in-Rea.is, ← c.number.ensures, ← c.number-in-Rea.ensures) c.read.ensures

pub returns-in-All : goal.returns-in-All
unfolding operation_number
returns-in-All c = rw c.in-All.is

pub returns-in-Cup : goal.returns-in-Cup
unfolding operation_number
returns-in-Cup c = rw c.in-Cup.is (cc (c.union.ensures, c.number-in-Cup.ensures, c.number-in-Cup-2.ensures))

pub returns-in-Cap : goal.returns-in-Cap
unfolding operation_number
returns-in-Cap c = rw c.in-Cap.is (cc (c.intersection.ensures, c.number-in-Cap.ensures, c.number-in-Cap-2.ensures))

pub returns-in-Dif : goal.returns-in-Dif
unfolding operation_number
returns-in-Dif c = rw c.in-Dif.is (cc (c.difference.ensures, c.number-in-Dif.ensures, c.number-in-Dif-2.ensures))

pub returns-in-Sin : goal.returns-in-Sin
unfolding operation_number
returns-in-Sin c = rw c.in-Sin.is (cc (c.single.ensures, c.number-in-Sin.ensures))

pub returns-in-Img : goal.returns-in-Img
unfolding operation_number
returns-in-Img c = rw (c.in-Img.is, ← c.number-in-Img.ensures, ← c.number-in-Img-2.ensures) c.image.ensures

pub returns-in-Typ : goal.returns-in-Typ
unfolding operation_number
returns-in-Typ c = rw c.in-Typ.is (rw (← c.number-in-Typ.ensures) c.from.ensures)

pub returns-in-Dty : goal.returns-in-Dty
unfolding operation_number
returns-in-Dty c = rw c.in-Dty.is (rw (← c.number-in-Dty.ensures) c.from-in-Dty.ensures)
