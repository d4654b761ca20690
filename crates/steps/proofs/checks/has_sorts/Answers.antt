-- `cut` and `ler` ask for sorts, and no other rule does.
use mathlib.Core.Path.{◌≡◌, refl, sym, ◌∙◌}
use mathlib.Core.Bool.{Bool, true, false, ◌&&◌}
use Rattle.tableau.specs.Fields.{rule_fields}
use Rattle.tableau.specs.Words.{rule_names}
use Rattle.tableau.proofs.Places.{rules}
use Rattle.steps.proofs.CheckLaws.{others_unsorted}
use Rattle.steps.proofs.checks.has_sorts.Goals as goal

and-true : (b : Bool) → b ≡ (b && true)
and-true true = refl
and-true false = refl

-- cut
pub returns-then-has_sort : goal.returns-then-has_sort
unfolding rule_fields
returns-then-has_sort c =
    λ table E.
    rw c.in-Cut.is (rw (sym (c.has_sort.ensures table E) ∙ c.if-has_sort.true)
    (c.has_sort-then-has_sort.ensures table E))

pub returns-else-has_sort : goal.returns-else-has_sort
unfolding rule_fields
returns-else-has_sort c =
    λ table E.
    rw c.in-Cut.is (rw (sym (c.has_sort.ensures table E) ∙ c.if-has_sort.false) c.if-has_sort.false)

-- ler
pub returns-in-Ler : goal.returns-in-Ler
unfolding rule_fields
returns-in-Ler c = λ table E. rw c.in-Ler.is (c.has_sort-in-Ler.ensures table E ∙ and-true _)

pub returns-in_default : goal.returns-in_default
unfolding rules rule_names
returns-in_default c = λ table E.
    sym (others_unsorted table c.args.rule _ _ (c.in_default.not-Cut, (c.in_default.not-Ler, tt)))
