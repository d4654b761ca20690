-- The left side fails, or the right decides.
use mathlib.Core.Path.{◌∙◌}
use Rattle.tableau.specs.Reply.{is_term}
use Rattle.syntax.specs.Syntax.{sides_in}
use Rattle.terms.proofs.LineLaws.{first_decides, second_decides, both_terms}
use Rattle.terms.proofs.sides.are_made.Goals as goal

pub returns-then-is_term : goal.returns-then-is_term
returns-then-is_term c =
    λ table e.
    let l = c.args.literal in
    second_decides (c.is_term.ensures table e) c.if-is_term.true (c.is_term-then-is_term.ensures table e)
    ∙ both_terms table l.relation (sides_in l)

pub returns-else-is_term : goal.returns-else-is_term
returns-else-is_term c =
    λ table e.
    let l = c.args.literal in
    first_decides (is_term table l.right.0) (c.is_term.ensures table e) c.if-is_term.false
    ∙ both_terms table l.relation (sides_in l)
