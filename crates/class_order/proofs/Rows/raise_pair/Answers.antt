use Rattle.std.proofs.Common.{sym, ◌∙◌}
use Rattle.class_order.proofs.RowLaws.{raised_composed}
use Rattle.class_order.proofs.Rows.raise_pair.Goals as goal

pub returns-then-is_under : goal.returns-then-is_under
returns-then-is_under c =
    raised_composed _ _ _ _ _ c.raise.ensures c.first.ensures.small c.second.ensures.small
    (sym c.is_under.ensures ∙ c.if-is_under.true)
