use Rattle.std.proofs.Common.{rules}
use Rattle.heap_tables.proofs.OrderLaws.{low_positive, keeps_none, keeps_equal, keeps_within}
use Rattle.heap_tables.proofs.order.keeps_order.Goals as goal

pub returns-then-not-has : goal.returns-then-not-has
returns-then-not-has c = search (rules, keeps_none)

pub returns-then-has : goal.returns-then-has
returns-then-has c =
    let a = c.args in
    keeps_equal a.under.now a.classes a.b a.c _ _ c.has.ensures c.if-not-has.false c.has-2.ensures c.if-has.true

pub overflow_sub-low : goal.overflow_sub-low
overflow_sub-low c = search (rules, low_positive)

pub returns : goal.returns
returns c = search (rules, keeps_within)
