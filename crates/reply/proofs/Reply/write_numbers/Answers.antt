-- The numbers fill the buffer.
use mathlib.Core.Path.{◌∙◌, ap}
use Rattle.tableau.specs.Reply.{number_bytes, reply_bytes}
use Rattle.reply.proofs.Reply.write_numbers.Goals as goal

pub returns : goal.returns
unfolding reply_bytes
returns c = c.put_numbers.ensures ∙ ap number_bytes c.numbers.ensures
