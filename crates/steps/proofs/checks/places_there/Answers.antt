-- Check 11 speaks of p and q, where the rule uses them, and of no clause.
use mathlib.Core.Path.{sym, ◌∙◌}
use Rattle.steps.proofs.CheckLaws.{eleven_by}
use Rattle.steps.proofs.checks.places_there.Goals as goal

-- p is there, and q decides
pub returns-then-if_used : goal.returns-then-if_used
returns-then-if_used c = λ C B e.
    let p = rw (c.has_place.ensures B e) at c.if_used.ensures in
    let q = rw (c.has_place-then-if_used.ensures B e) at c.if_used-then-if_used.ensures in
    sym (eleven_by c.args.step c.requires.0 C B c.requires.1 p q ∙ rw c.if-if_used.true)
