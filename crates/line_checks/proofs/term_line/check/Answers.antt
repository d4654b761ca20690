-- Each return knows what the line was taken for, and the check that failed.
use mathlib.Core.Path.{◌≡◌, sym, ◌∙◌}
use Rattle.std.specs.Prelude.{Some}
use Rattle.std.proofs.lemmas.Result.{err_from_is_err_and}
use Rattle.tableau.specs.Words.{words}
use Rattle.words.specs.Words.{lookup_packed, word_row, WordFits}
use Rattle.words.proofs.TableLaws.{known_word, no_row}
use Rattle.line_checks.proofs.Results.{none_or}
use Rattle.line_checks.proofs.TermLines.{term_unknown, term_unused, term_made, term_refused}
use Rattle.line_checks.proofs.term_line.check.Goals as goal
use Rattle.line_checks.proofs.term_line.check.Goals.{In_ok-row}

-- the word is known
known : (c : goal.In_ok-row) → (lookup_packed words c.args.f.word ≡ Some c.in_ok-row.row.word)
    × WordFits c.in_ok-row.row
known c = known_word _ _ (sym c.in_ok-row.ensures.ok_part ∙ c.word_of.ensures)

-- check 4
pub returns-in_err-row : goal.returns-in_err-row
returns-in_err-row c table C h =
    let p = c.requires.letter in
    let q = err_from_is_err_and c.from_residual.result c.from_residual.ensures.1 in
    let k = c.in_err-row.ensures in
    rw (q.1, q.2, none_or k.value k.ok_part)
    (term_unknown table C _ _ _ c.args.f c.requires.ready.0 p.0 p.1 _
    (no_row word_row _ (sym k.ok_part ∙ c.word_of.ensures)))

-- check 6
pub returns-in_err-term : goal.returns-in_err-term
returns-in_err-term c table C h =
    let p = c.requires.letter in
    let q = err_from_is_err_and c.from_residual-in_err-term.result c.from_residual-in_err-term.ensures.1 in
    let u = c.in_err-term.ensures in
    rw (q.1, q.2, u.1)
    (term_unused table C _ _ _ c.args.f c.requires.ready.0 p.0 p.1 _
    (known (goal.at.returns-in_err-term c).In_ok-row).0 _ u.0)

-- checks 7 to 10
pub returns-in_err-make_term : goal.returns-in_err-make_term
returns-in_err-make_term c table C h =
    let p = c.requires.letter in
    let q = err_from_is_err_and c.from_residual-in_err-make_term.result c.from_residual-in_err-make_term.ensures.1 in
    let t = c.in_ok-term.ensures in
    rw (q.1, q.2)
    (term_refused table C _ _ _ c.args.f c.requires.ready.0 p.0 p.1 _
    (known (goal.at.returns-in_err-make_term c).In_ok-row).0 _ t.1 t.2 _
    (c.in_err-make_term.ensures table h))

pub returns : goal.returns
returns c table C h =
    let p = c.requires.letter in
    let t = c.in_ok-term.ensures in
    rw (c.after_term.ensures, c.unchanged.ensures)
    (term_made table C _ _ _ c.args.f c.requires.ready.0 p.0 p.1 _
    (known (goal.at.returns c).In_ok-row).0 _ t.1 t.2 (c.in_ok-make_term.ensures table h))
