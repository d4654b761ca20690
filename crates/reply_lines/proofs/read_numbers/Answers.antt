use mathlib.Core.Path.{refl}
use lib.ListN.{length-set}
use Rattle.reply_lines.proofs.Numbers.{numbers_start, numbers_end, number_bad, number_more}
use Rattle.reply_lines.proofs.Numbers.{number_ahead}
use Rattle.reply_lines.proofs.read_numbers.Goals as goal

pub loop-i-init : goal.loop-i-init
loop-i-init c = (numbers_start _ _ _, refl, λ h. c.requires)

pub returns-in_err-values : goal.returns-in_err-values
returns-in_err-values c =
    let l = c.loop-i in
    rw c.from_residual.ensures
    (number_bad _ _ l.i l.next l.values l.invariant.0 c.loop-i-test.true
    (rw c.end_of.ensures at c.in_err-values.ensures))

pub loop-i-preserved : goal.loop-i-preserved
loop-i-preserved c =
    let l = c.loop-i in
    let s = rw c.end_of.ensures at c.in_ok-values.ensures in (
      number_more _ _ l.i l.next l.values l.invariant.0 c.loop-i-test.true _ s l.invariant.1,
      simp length-set l.invariant.1,
      number_ahead _ _ l.i l.next l.values l.invariant.0 c.loop-i-test.true _ s,
    )

pub returns : goal.returns
returns c =
    let l = c.loop-i in
    numbers_end _ _ l.i l.next l.values l.invariant.0 c.loop-i-test.false l.invariant.1
