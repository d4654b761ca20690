-- Each return knows the check that failed; the last, that none of its own did.
use mathlib.Core.Path.{◌≡◌, sym, ap, ◌∙◌}
use Rattle.std.specs.Prelude.{Some}
use Rattle.std.proofs.lemmas.Result.{err_from_is_err_and}
use Rattle.tableau.specs.Words.{relations}
use Rattle.words.specs.Words.{lookup_packed}
use Rattle.terms.specs.Lines.{assumption_of}
use Rattle.line_checks.proofs.LiteralLines.{read_unused, read_taken}
use Rattle.line_checks.proofs.literal_line.read.Goals as goal
use Rattle.line_checks.proofs.literal_line.read.Goals.{In_ok-relation}

known : (c : goal.In_ok-relation) → lookup_packed relations c.args.f.word
    ≡ Some c.in_ok-relation.relation
known c = sym c.relation_of.ensures ∙ c.in_ok-relation.ensures.ok_part

-- check 6
pub returns-in_err-literal-clause-value : goal.returns-in_err-literal-clause-value
returns-in_err-literal-clause-value c table E q =
    let a = c.args in
    let p = err_from_is_err_and c.from_residual-in_err-literal.result c.from_residual-in_err-literal.ensures.1 in
    let u = c.in_err-literal.ensures in
    rw (p.1, p.2, u.1)
    (sym (ap assumption_of (read_unused table a.letter a.f _ (known (goal.at.returns-in_err-literal-clause-value c).In_ok-relation) u.0)))

-- checks 8 and 9
pub returns-clause-value : goal.returns-clause-value
returns-clause-value c table E q =
    let a = c.args in
    let t = c.in_ok-literal.ensures in
    c.assume_literal.ensures.value table E q
    ∙ ap assumption_of
    (read_taken table a.letter a.f _
    (known (goal.at.returns-clause-value c).In_ok-relation) t.0 _ t.1)
