-- Each arm knows the relation; the left side fails, or the right decides.
use Rattle.std.proofs.Common.{◌∙◌, ap₂}
use Rattle.tableau.specs.declared.Sort.{Sort}
use Rattle.tableau.specs.Terms.{at, sort_of, same_sort}
use Rattle.packing.proofs.Tags.{same_sorts, sort_is}
use Rattle.terms.proofs.LineLaws.{first_decides, second_decides, member_sorts, class_sorts, one_sort_of_both}
use Rattle.terms.proofs.sides.have_sorts.Goals as goal

pub returns-then-eq : goal.returns-then-eq
returns-then-eq c table E =
    second_decides (sort_is Sort.Reference c.eq.ensures (c.sort_of-left.ensures table E))
    c.if-eq.true
    (sort_is Sort.Region c.eq-then-eq.ensures (c.sort_of-right.ensures table E))
    ∙ member_sorts table c.args.literal c.in-In.is

pub returns-else-eq : goal.returns-else-eq
returns-else-eq c table E =
    first_decides (same_sort Sort.Region (sort_of (at table c.args.literal.right.0)))
    (sort_is Sort.Reference c.eq.ensures (c.sort_of-left.ensures table E)) c.if-eq.false
    ∙ member_sorts table c.args.literal c.in-In.is

pub returns-in-Eq : goal.returns-in-Eq
returns-in-Eq c table E =
    c.eq-in-Eq.ensures ∙ same_sorts _ _ ∙ ap₂ same_sort (c.sort_of-left.ensures table E)
    (c.sort_of-right.ensures table E)
    ∙ one_sort_of_both table c.args.literal c.in-Eq.is

pub returns-then-eq-2 : goal.returns-then-eq-2
returns-then-eq-2 c table E =
    second_decides (sort_is Sort.Class c.eq-in-Le.ensures (c.sort_of-left.ensures table E))
    c.if-eq-2.true
    (sort_is Sort.Class c.eq-then-eq-2.ensures (c.sort_of-right.ensures table E))
    ∙ class_sorts table c.args.literal c.in-Le.is

pub returns-else-eq-2 : goal.returns-else-eq-2
returns-else-eq-2 c table E =
    first_decides (same_sort Sort.Class (sort_of (at table c.args.literal.right.0)))
    (sort_is Sort.Class c.eq-in-Le.ensures (c.sort_of-left.ensures table E)) c.if-eq-2.false
    ∙ class_sorts table c.args.literal c.in-Le.is
