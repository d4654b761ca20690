use Rattle.std.proofs.Common.{rules, ◌≡◌, ℕ, true, false, refl, arith}
use Rattle.std.proofs.lemmas.Iterator.{cases_from_all, YieldsList-from_range}
use Rattle.heap_tables.specs.Order.{keeps_order}
use Rattle.heap_tables.proofs.OrderLaws.{in_range, from_tests}
use Rattle.heap_tables.proofs.order.keeps_order_from.Goals as goal

pub returns : goal.returns
returns c =
    let a = c.args in
    from_tests a.under.now a.classes a.b _ (in_range a.classes (keeps_order a.under.now a.classes a.b) _
    (cases_from_all _ _ c.all.result
    (λ (k : ℕ). keeps_order a.under.now a.classes a.b k ≡ true) (λ (k : ℕ). keeps_order a.under.now a.classes a.b k ≡ false)
    c.all.ensures.ran (YieldsList-from_range 0 a.classes a.classes refl (omega arith)) (λ x q k. (search rules, search rules)) (λ x q k. search rules)))
