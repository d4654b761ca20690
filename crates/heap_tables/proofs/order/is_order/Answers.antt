use Rattle.std.proofs.Common.{rules, ◌≡◌, ℕ, true, false, refl, arith}
use Rattle.std.proofs.lemmas.Iterator.{cases_from_all, YieldsList-from_range}
use Rattle.heap_tables.specs.Order.{keeps_order_from}
use Rattle.heap_tables.proofs.OrderLaws.{in_range, order_tests}
use Rattle.heap_tables.proofs.order.is_order.Goals as goal

pub returns : goal.returns
returns c =
    let u = c.args.tables.now.under in
    let n = c.args.classes in
    order_tests u n _ (in_range n (keeps_order_from u n) _
    (cases_from_all _ _ c.all.result (λ (k : ℕ). keeps_order_from u n k ≡ true) (λ (k : ℕ). keeps_order_from u n k ≡ false)
    c.all.ensures.ran (YieldsList-from_range 0 n n refl (omega arith)) (λ x q k. (search rules, search rules)) (λ x q k. search rules)))
