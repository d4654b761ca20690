-- Check 9 speaks of t and w; a rule whose t is no term asks for no sort.
use mathlib.Core.Path.{sym, ◌∙◌}
use Prim.Native.Nat.{◌≤◌}
use native.Mathlib.Omega.{arith}
use Rattle.tableau.specs.Fields.{rule_fields}
use Rattle.syntax.specs.Syntax.{kind_of, step_fields}
use Rattle.steps.proofs.CheckLaws.{no_term_lem, nine, step_given, third_small, fourth_small}
use Rattle.steps.proofs.CheckLaws.{unsorted_unless_term}
use Rattle.steps.proofs.checks.sorts_fit.Goals as goal

pub returns-in_default : goal.returns-in_default
unfolding rule_fields
returns-in_default c =
    λ table E.
    let x = c.args.step.rule in
    let l : 1 ≤ kind_of (rule_fields x).t =
    omega (arith, c.requires.well_taken.third, no_term_lem c.args.step.t c.in_default.not-Term) in
    sym (nine table x (step_fields c.args.step) ∙ unsorted_unless_term table x _ _ l)

-- t and w are small, used or not
pub has_sorts-requires-clause-small : goal.has_sorts-requires-clause-small
has_sorts-requires-clause-small c =
    let x = c.args.step.rule in
    let p = c.requires.entries in
    let W = c.requires.well_taken in
    let g = step_given p.0 p.1.few c.args.step W p.2 in (
      third_small (rule_fields x).t _ (rw c.in-Term.is at W.third) (rw c.in-Term.is at g.third),
      fourth_small (rule_fields x).w _ g.fourth,
    )
