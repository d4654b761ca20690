-- The word, the numbers, the answer; the first that is not there ends the line.
use Rattle.lines.proofs.Bytes.{behind_word}
use Rattle.reply_lines.proofs.Shapes.{no_word, no_numbers, no_answer, answered}
use Rattle.reply_lines.proofs.read_reply.Goals as goal

pub returns-in_err-word : goal.returns-in_err-word
returns-in_err-word c = rw c.from_residual.ensures (no_word _ _ c.in_err-word.ensures)

pub read_numbers-requires : goal.read_numbers-requires
read_numbers-requires c = behind_word _ _ _ c.in_ok-word.ensures

pub returns-in_err-values : goal.returns-in_err-values
returns-in_err-values c =
    rw c.from_residual-in_err-values.ensures
    (no_numbers _ _ _ c.in_ok-word.ensures c.in_err-values.ensures)

pub returns-in_err-is_yes : goal.returns-in_err-is_yes
returns-in_err-is_yes c =
    rw c.from_residual-in_err-is_yes.ensures
    (no_answer _ _ _ c.in_ok-word.ensures _ c.in_ok-values.ensures c.in_err-is_yes.ensures)

pub returns : goal.returns
returns c =
    answered _ _ _ c.in_ok-word.ensures _ c.in_ok-values.ensures _ _ c.in_ok-is_yes.ensures
    c.reply_from.ensures
