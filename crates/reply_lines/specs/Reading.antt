-- What reading a reply line gives: the specification's own shape of a line, and the position after
-- its LF.
use Rattle.std.specs.Prelude.{List, [], ◌≡◌, ℕ, ◌-◌, length, drop, Option, None, Some, option_map}
use Rattle.tableau.specs.Basics.{then}
use Rattle.tableau.specs.File.{LF, split}
use Rattle.tableau.specs.Reply.{Reply}
use Rattle.lines.specs.Lines.{first_line}
use Rattle.lines.specs.ByteSteps.{Form, before_number, FieldsAt, steps_at}
use Rattle.reply.specs.declared.Reply as declared
use Rattle.reply.specs.Verdict.{reply_record}
use Rattle.statistics.specs.ReplyLines.{reply_digits, reply_shape}

abbrev pub number_count : ℕ
number_count = 7

-- `no`, seven commas with a number of one digit each, LF
abbrev pub least_reply : ℕ
least_reply = 17

-- a reply line, behind its word
abbrev pub reply_form : Form
reply_form = record { count = number_count; digits = reply_digits }

-- the numbers of a line are read, behind a word that is read
abbrev pub numbers_after : ℕ → List ℕ → ℕ → Option FieldsAt
numbers_after w file at =
    steps_at reply_form
    (before_number (number_count - 1) (record { letter = 0; word = w; numbers = [] })) file at

-- Numbers are read, and the position behind them: whatever word they stand behind, the line has it
-- and these numbers, and ends before the position; or there is no line.
unfoldable pub NumbersHere : List ℕ → ℕ → Option (List ℕ × ℕ) → Type 0
NumbersHere file at None = (w : ℕ) → numbers_after w file at ≡ None
NumbersHere file at (Some r) = (length r.0 ≡ number_count)
    × ((w : ℕ) → numbers_after w file at
    ≡ Some (record { fields = record { letter = 0; word = w; numbers = r.0 }; next = r.1 }))

-- a reply, and the position after its LF
pub record ReplyAt : Type 0 where
  pub reply : Reply
  pub next : ℕ

abbrev pub shaped_at : ℕ → List ℕ → Option ReplyAt
shaped_at next' l = then (reply_shape l) λ r. Some (record { reply = r; next = next' })

-- the reply line that begins at a position of the night
unfoldable pub reply_at : List ℕ → ℕ → Option ReplyAt
reply_at night at = first_line None shaped_at at (split LF (drop at night))

abbrev pub read_as : Option (declared.Reply × ℕ) → Option ReplyAt
read_as = option_map (λ r. record { reply = reply_record r.0; next = r.1 })
