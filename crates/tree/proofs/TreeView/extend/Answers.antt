-- Nothing begins to wait.
use mathlib.Core.Path.{refl}
use mathlib.Core.List.{[]}
use native.Mathlib.Omega.{arith}
use Rattle.std.proofs.lemmas.Result.{err_from_is_err_and}
use Rattle.tree.proofs.Waiting.{begins_none}
use Rattle.tree.proofs.Changes.{codes_count, split_refused, split_passed}
use Rattle.tree.proofs.TreeView.extend.Goals as goal

pub returns-in_err-require_room : goal.returns-in_err-require_room
returns-in_err-require_room c words =
    let p = err_from_is_err_and c.from_residual.result c.from_residual.ensures.1 in
    let e = codes_count c.args.a c.requires.literals.count in
    rw (p.1, p.2)
    (split_refused words _ _ c.requires.tree _ [] _ _
    (omega arith) refl c.in_err-require_room.ensures)

pub returns : goal.returns
returns c words =
    let e = codes_count c.args.a c.requires.literals.count in
    rw c.split.ensures
    (split_passed words _ _ c.requires.tree _ [] _ _
    (omega arith) refl c.in_ok-require_room.ensures _ _ c.requires.literals refl
    (λ h. begins_none words _))
