-- Only the t of `rep` is a side, and only that of `cla` a clause number: a test over the table of
-- rules.
use mathlib.Core.List.{[], ◌∷◌}
use mathlib.Core.Path.{refl}
use lib.Dec.{eqb}
use borrow.Author.Tests.{eqb-true}
use Rattle.tableau.specs.declared.Rule.{Rule}
use Rattle.tableau.specs.Fields.{rule_fields}
use Rattle.tableau.specs.Words.{rule_names}
use Rattle.tableau.proofs.Places.{rules, other_rule}
use Rattle.syntax.specs.Syntax.{kind_of}
use Rattle.parsing.proofs.third_of.Goals as goal

pub returns-in-Rep : goal.returns-in-Rep
unfolding rule_fields
returns-in-Rep c = rw c.in-Rep.is (refl, refl)

pub returns-in-Cla : goal.returns-in-Cla
unfolding rule_fields
returns-in-Cla c = rw c.in-Cla.is (refl, refl)

pub returns-in_default : goal.returns-in_default
unfolding rules rule_names rule_fields
returns-in_default c = (
  eqb-true _ 0
      (other_rule (λ y. eqb (kind_of (rule_fields y).t) 0)
      (Rule.Rep ∷ Rule.Cla ∷ []) refl c.args.rule
      (c.in_default.not-Rep, (c.in_default.not-Cla, tt))),
  refl,
)
