-- `reply_line` meets its contract: the line of the file's reply, and demand 3.
use mathlib.Core.Path.{◌∙◌, ap, subst}
use Rattle.tableau.specs.Claims.{BeginsWithYes}
use Rattle.tableau.specs.Reply.{reply_line}
use Rattle.checker.proofs.Whole.{replied, line_no_heap}
use Rattle.checker.proofs.reply_line.Goals as goal

pub returns : goal.returns
returns c =
    let r = replied _ _ c.check.ensures c.reply_of.ensures in
    let t = c.line.ensures ∙ ap reply_line r in
    record { result_value = t; no_heap = λ h. line_no_heap _ (subst BeginsWithYes t h) }
