-- The literal stands behind the others, and is the last of its clause.
use native.Mathlib.Omega.{arith}
use Rattle.clauses.proofs.Laws.{next_few, joined}
use Rattle.clauses.proofs.join.Goals as goal

pub bounds-clauses-k : goal.bounds-clauses-k
bounds-clauses-k c =
    let H = c.requires.clauses_held in
    omega (arith, next_few H.1 c.args.k.0 c.args.code c.requires.code_lt_code_limit H.2)

pub returns : goal.returns
returns c C H t = rw (c.end_of-lines.ensures, H.lines) (joined H _ _ c.requires.code_lt_code_limit t)
