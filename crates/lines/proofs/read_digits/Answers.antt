use borrow.Author.Rules.{rules}
use Rattle.lines.proofs.FileSteps.{ahead_here}
use Rattle.lines.proofs.Bytes.{digits_start, digits-read}
use Rattle.lines.proofs.read_digits.Goals as goal

pub loop-next-init : goal.loop-next-init
loop-next-init c = (digits_start _ _ _ _ _, c.requires.1, c.requires.2)

pub bounds-file-i : goal.bounds-file-i
bounds-file-i c = search (rules, ahead_here)

pub overflow_add-i : goal.overflow_add-i
overflow_add-i c = search (rules, ahead_here)

pub overflow_sub-left : goal.overflow_sub-left
overflow_sub-left c = search digits-read

pub loop-next-smaller : goal.loop-next-smaller
loop-next-smaller c = search (rules, ahead_here)

pub loop-next-preserved : goal.loop-next-preserved
loop-next-preserved c = search digits-read

pub returns-in-End : goal.returns-in-End
returns-in-End c = search digits-read

pub returns-in-Bad : goal.returns-in-Bad
returns-in-Bad c = search digits-read
