use native.Mathlib.Omega.{arith}
use borrow.Author.Rules.{rules}
use Rattle.lines.proofs.FileSteps.{ahead_here}
use Rattle.lines.proofs.Bytes.{word_starts, word_read}
use Rattle.lines.proofs.read_word.Goals as goal

pub loop-next-init : goal.loop-next-init
loop-next-init c = (word_starts _ _, record { few = omega arith; small = omega arith }, c.requires)

pub bounds-file-i : goal.bounds-file-i
bounds-file-i c = search (rules, ahead_here)

pub overflow_add-i : goal.overflow_add-i
overflow_add-i c = search (rules, ahead_here)

pub loop-next-smaller : goal.loop-next-smaller
loop-next-smaller c = search (rules, ahead_here)

pub loop-next-preserved : goal.loop-next-preserved
loop-next-preserved c = search word_read

pub returns-in-End : goal.returns-in-End
returns-in-End c = search word_read

pub returns-in-Bad : goal.returns-in-Bad
returns-in-Bad c = search word_read
