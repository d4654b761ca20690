-- The numbers are put behind the answer.
use mathlib.Core.Path.{◌≡◌, ◌∙◌}
use Rattle.tableau.specs.Basics.{bytes}
use Rattle.tableau.specs.Reply.{reply_line, yes_or_no}
use Rattle.reply.proofs.Reply.line.Goals as goal
use Rattle.reply.proofs.Reply.line.Goals.{then-self, else-self}

pub returns : goal.returns
unfolding reply_line yes_or_no bytes
returns c =
    let answer : c.if-self.text ≡ yes_or_no c.args.self.is_yes =
    elim c.if-self.branch [
      | then-self w ↦ rw (w.text-is, w.put.ensures, c.new-text.ensures, w.if-self.true)
      | else-self w ↦ rw (w.text-is, w.put-else-self.ensures, c.new-text.ensures, w.if-self.false)
    ] in
    c.put_fields.ensures ∙ rw (answer, c.numbers.ensures)
