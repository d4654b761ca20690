use Rattle.std.proofs.Common.{◌∙◌, get_or, arith}
use Rattle.mentions.specs.Mentions.{bit_at}
use Rattle.heap_tables.proofs.TableLaws.{having_start, having_set, having_skip, having_end}
use Rattle.heap_tables.proofs.tables.having.Goals as goal
use Rattle.heap_tables.proofs.tables.having.Goals.{then-has, else-has}

pub returns : goal.returns
returns c = having_end _ _ _ _ _ c.loop-x.invariant c.loop-x-test.false

pub loop-x-init : goal.loop-x-init
loop-x-init c = having_start _ _ _

pub loop-x-preserved : goal.loop-x-preserved
loop-x-preserved c =
    let a = c.args in
    let H = c.loop-x.invariant in
    let e = c.has.ensures ∙ λ i. bit_at (get_or a.under.now (c.from.ensures i) 0) (c.from-in-loop-x.ensures i) in
    elim c.if-has.branch [
      | then-has w ↦ rw w.out-is (having_set _ _ _ _ _ H (omega (arith, c.loop-x-test.true)) _ e w.if-has.true)
      | else-has w ↦ rw w.out-is (having_skip _ _ _ _ _ H (omega (arith, c.loop-x-test.true)) _ e w.if-has.false)
    ]
