-- Checks 15 and 16 of one literal for each alternative.
use Rattle.std.proofs.lemmas.Result.{err_from_is_err_and}
use Rattle.growth.proofs.Laws.{clause_refused, clause_passed}
use Rattle.growth.proofs.split_clause.Goals as goal

pub returns-in_err-require_room : goal.returns-in_err-require_room
returns-in_err-require_room c =
    let p = err_from_is_err_and c.from_residual.result c.from_residual.ensures.1 in
    rw (p.1, p.2)
    (clause_refused _ _ _ c.requires.tree _ c.requires.span.0 c.in_err-require_room.ensures)

pub returns : goal.returns
returns c =
    rw c.split.ensures
    (clause_passed _ _ _ c.requires.tree _ c.requires.span.0 c.requires.literals c.requires.span.1 c.in_ok-require_room.ensures _ c.one-first.ensures)
