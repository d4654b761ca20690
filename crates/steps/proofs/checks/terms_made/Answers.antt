-- Check 8 speaks of t, where it is a term, and of w.
use mathlib.Core.Path.{◌≡◌, sym, subst, ◌∙◌}
use mathlib.Core.Bool.{◌&&◌, ◌||◌}
use lib.Bits.{bit_and}
use lib.Dec.{eqb}
use lib.ListN.{length}
use Rattle.tableau.specs.Basics.{every}
use Rattle.tableau.specs.Fields.{rule_fields, rule_uses}
use Rattle.tableau.specs.Terms.{Table}
use Rattle.tableau.specs.Reply.{is_term, term_or_name}
use Rattle.syntax.specs.Syntax.{step_fields, ThirdFits}
use Rattle.steps.proofs.CheckLaws.{eight, third_made, fourth_made, unset_t, unset_w}
use Rattle.steps.proofs.checks.terms_made.Goals as goal
use Rattle.steps.proofs.checks.terms_made.Goals.{After-if_used}

-- t is a term: both are asked for where the mask says so
asked : (k : goal.After-if_used) (table : Table) → length table ≡ k.args.n
    → every (term_or_name table) (rule_uses k.args.step.rule) (step_fields k.args.step)
    ≡ (k.if_used.result && (eqb (bit_and k.args.step.used.0 8) 0 || is_term table k.args.step.w.0))
asked k table e =
    let s = k.args.step in
    let x = s.rule in
    let h =
    third_made table (rule_fields x).t k.in-Term.t
    (subst (ThirdFits (rule_fields x).t) k.in-Term.is k.requires.third) in
    let t = rw (k.is_term-2.ensures table e) at k.if_used.ensures in
    eight table x (step_fields s)
    ∙ rw (
      k.in-Term.is,
      h,
      fourth_made table (rule_fields x).w,
      ← unset_t s k.requires,
      ← unset_w s k.requires,
      t,
    )

-- t is made, and w decides
pub returns-then-if_used : goal.returns-then-if_used
returns-then-if_used c table e =
    let w = rw (c.is_term.ensures table e) at c.if_used-w_made.ensures in
    sym (asked (goal.at.returns-then-if_used c).After-if_used table e
    ∙ rw c.if-if_used.true (sym w))

-- t is not made
pub returns-else-if_used : goal.returns-else-if_used
returns-else-if_used c table e =
    sym (asked (goal.at.returns-else-if_used c).After-if_used table e ∙ rw c.if-if_used.false)
