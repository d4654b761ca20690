-- The literal of the line, check 21, and the clauses with it.
use mathlib.Core.Path.{◌≡◌, sym, ◌∙◌}
use mathlib.Core.Bool.{true}
use native.Mathlib.Omega.{arith}
use Rattle.std.proofs.lemmas.Result.{err_from_is_err_and}
use Rattle.tableau.specs.Terms.{Clauses}
use Rattle.tableau.specs.Reply.{takes_disjunct}
use Rattle.clauses.specs.Held.{ClausesHeld}
use Rattle.freshness.proofs.PrefixLaws.{prefix_less}
use Rattle.line_checks.proofs.ClauseLines.{disjunct_refused, disjunct_misplaced, disjunct_joined}
use Rattle.line_checks.proofs.clause_line.check.Goals as goal
use Rattle.line_checks.proofs.clause_line.check.Goals.{Else-not-takes}

-- checks 4, 6, 8 and 9
pub returns-in_err-code : goal.returns-in_err-code
returns-in_err-code c table C E n R H P =
    let p = c.requires.letter in
    let q = err_from_is_err_and c.from_residual.result c.from_residual.ensures.1 in
    rw (q.1, q.2)
    (disjunct_refused table C _ _ _ c.args.f c.requires.ready.0 p.0 p.1 _ _ _
    (c.in_err-code.ensures.value table E n))

-- check 21
pub returns-then-not-takes : goal.returns-then-not-takes
returns-then-not-takes c table C E n R H P =
    let p = c.requires.letter in
    disjunct_misplaced table C _ _ _ c.args.f c.requires.ready.0 p.0 p.1 _ _ _ E.few
    (c.in_ok-code.ensures.value table E n) (sym (c.takes.ensures C H) ∙ c.if-not-takes.true)

passes : (c : goal.Else-not-takes) (C : Clauses)
    → (let s = c.args in ClausesHeld C s.clauses.now s.progress.clauses)
    → takes_disjunct C c.args.f.c ≡ true
passes c C H = sym (c.takes.ensures C H) ∙ c.if-not-takes.false

pub join-requires-clause-clauses_held : goal.join-requires-clause-clauses_held
join-requires-clause-clauses_held c =
    let H = c.requires.ready.1 in
    (H.0, H.1, passes (goal.at.join-requires-clause-clauses_held c).Else-not-takes H.0 H.1)

pub returns : goal.returns
returns c table C E n R H P =
    let p = c.requires.letter in
    let t = passes (goal.at.returns c).Else-not-takes C H in
    rw (c.after_disjunct.ensures, c.unchanged.ensures)
    (disjunct_joined table C _ _ _ c.args.f c.requires.ready.0 p.0 p.1 _ _ _ E.few
    (c.in_ok-code.ensures.value table E n) t H.last (c.join.ensures C H t)
    (c.note_clause.ensures table C _ c.args.f.c R n (prefix_less (omega arith) P)))
