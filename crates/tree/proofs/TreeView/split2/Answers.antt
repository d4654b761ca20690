-- The second alternative begins to wait.
use mathlib.Core.Path.{refl}
use mathlib.Core.List.{[], ◌∷◌}
use native.Mathlib.Omega.{arith}
use Rattle.std.proofs.lemmas.Result.{err_from_is_err_and}
use Rattle.tree.specs.State.{codes_of}
use Rattle.tree.proofs.Waiting.{begins_one}
use Rattle.tree.proofs.Changes.{codes_count, split_refused, split_passed}
use Rattle.tree.proofs.TreeView.split2.Goals as goal

pub returns-in_err-require_room : goal.returns-in_err-require_room
returns-in_err-require_room c words =
    let p = err_from_is_err_and c.from_residual.result c.from_residual.ensures.1 in
    let a = c.args in
    let e = codes_count a.first c.requires.literals.0.count in
    let d = codes_count a.second (omega arith) in
    rw (p.1, p.2)
    (split_refused words _ _ c.requires.tree _ (codes_of a.second ∷ []) _ _
    (omega arith) refl c.in_err-require_room.ensures)

pub returns : goal.returns
returns c words =
    let a = c.args in
    let e = codes_count a.first c.requires.literals.0.count in
    let d = codes_count a.second (omega arith) in
    rw (c.split.ensures, c.pack.ensures)
    (split_passed words _ _ c.requires.tree _ (codes_of a.second ∷ []) _ _
    (omega arith) refl c.in_ok-require_room.ensures _ _ c.requires.literals.0 refl
    (λ h. begins_one _ a.second c.requires.literals.1 (omega arith) words))
