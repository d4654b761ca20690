-- The invariant: the words before i are joined, and no row below is changed.
use Rattle.syntax.specs.Syntax.{arguments_in}
use Rattle.mentions.specs.Mentions.{joined_bit, Filled}
use Rattle.mentions.proofs.join.Given as goal

abbrev pub invariant-loop-i : goal.invariant-loop-i
invariant-loop-i l = Filled l.initial.rows l.rows l.term.0
    (joined_bit l.initial.rows (arguments_in l.k)) l.i
