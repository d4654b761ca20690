-- w is an `rfv`, another variable, another term, or no term.
use Rattle.std.proofs.Common.{◌≡◌, true, false, refl, sym, ◌∙◌, arith}
use borrow.Author.Tests.{lt-leb}
use Rattle.tableau.specs.Terms.{at}
use Rattle.tableau.proofs.TableGrowth.{at_beyond}
use Rattle.packing.proofs.Tags.{sort_is}
use Rattle.packing.proofs.ViewLaws.{view_variable}
use Rattle.freshness.proofs.is_rfv.Goals as goal

pub returns-in-Variable-clause-value : goal.returns-in-Variable-clause-value
returns-in-Variable-clause-value c table E e =
    let y : c.eq.result ≡ true = cc in
    sym (view_variable (at table c.args.w.0) _ _ (sym c.in-Variable.is
    ∙ sym (c.view.ensures table E).is) ∙ sym (sort_is _ c.eq.ensures refl) ∙ y)

pub returns-in_default-clause-value : goal.returns-in_default-clause-value
returns-in_default-clause-value c table E e =
    let y : c.eq.result ≡ false = cc in
    sym (view_variable (at table c.args.w.0) _ _ (sym c.in-Variable.is
    ∙ sym (c.view.ensures table E).is) ∙ sym (sort_is _ c.eq.ensures refl) ∙ y)

pub returns-else-w-n-clause-value : goal.returns-else-w-n-clause-value
returns-else-w-n-clause-value c table E e = rw (at_beyond table c.args.w.0 (omega arith))
    (lt-leb _ _ c.if-w-n.false)
