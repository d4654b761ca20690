-- Each return knows the checks that held and the one that failed.
use mathlib.Core.Path.{sym, ◌∙◌}
use Rattle.tableau.specs.Reply.{step_line}
use Rattle.steps.proofs.inferring.infer.Goals as goal

pub returns-then-not-terms_made-clause-result_value :
    goal.returns-then-not-terms_made-clause-result_value
unfolding step_line
returns-then-not-terms_made-clause-result_value c table C H q s l F =
    rw (
      c.requires.branch.1.unused_zero,
      sym (c.terms_made.ensures table q)
          ∙ c.if-not-terms_made.true,
    )

pub returns-then-not-sorts_fit-clause-result_value :
    goal.returns-then-not-sorts_fit-clause-result_value
unfolding step_line
returns-then-not-sorts_fit-clause-result_value c table C H q s l F =
    rw (
      c.requires.branch.1.unused_zero,
      sym (c.terms_made.ensures table q) ∙ c.if-not-terms_made.false,
      sym (c.sorts_fit.ensures table H.entries) ∙ c.if-not-sorts_fit.true,
    )

pub returns-clause-result_value : goal.returns-clause-result_value
unfolding step_line
returns-clause-result_value c table C H q s l F =
    rw (
      c.requires.branch.1.unused_zero,
      sym (c.terms_made.ensures table q) ∙ c.if-not-terms_made.false,
      sym (c.sorts_fit.ensures table H.entries) ∙ c.if-not-sorts_fit.false,
    ) (c.added.ensures.result_value table C H s l F)
