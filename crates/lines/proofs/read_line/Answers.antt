-- Each field that is read leaves the others; the first that is not read ends the line.
use borrow.Author.Rules.{rules}
use Rattle.lines.proofs.Bytes.{fields-ahead, fields_read}
use Rattle.lines.proofs.read_line.Goals as goal

pub returns-in_err-letter : goal.returns-in_err-letter
returns-in_err-letter c =
    rw c.from_residual.ensures (search (fields_read, c.in_err-letter.ensures) depth 9)

pub read_word-requires : goal.read_word-requires
read_word-requires c = search (rules, fields-ahead, c.in_ok-letter.ensures)

pub returns-in_err-word : goal.returns-in_err-word
returns-in_err-word c =
    rw c.from_residual-in_err-word.ensures
    (search (fields_read, c.in_ok-letter.ensures, c.in_err-word.ensures) depth 9)

pub read_number-requires : goal.read_number-requires
read_number-requires c = search (rules, fields-ahead, c.in_ok-word.ensures)

pub returns-in_err-a : goal.returns-in_err-a
returns-in_err-a c =
    rw c.from_residual-in_err-a.ensures
    (search (
      fields_read,
      c.in_ok-letter.ensures,
      c.in_ok-word.ensures,
      c.in_err-a.ensures,
    ) depth 9)

pub read_number-requires-2 : goal.read_number-requires-2
read_number-requires-2 c = search (rules, fields-ahead, c.in_ok-a.ensures)

pub returns-in_err-b : goal.returns-in_err-b
returns-in_err-b c =
    rw c.from_residual-in_err-b.ensures
    (search (
      fields_read,
      c.in_ok-letter.ensures,
      c.in_ok-word.ensures,
      c.in_ok-a.ensures,
      c.in_err-b.ensures,
    ) depth 9)

pub read_number-requires-3 : goal.read_number-requires-3
read_number-requires-3 c = search (rules, fields-ahead, c.in_ok-b.ensures)

pub returns-in_err-c : goal.returns-in_err-c
returns-in_err-c c =
    rw c.from_residual-in_err-c.ensures
    (search (
      fields_read,
      c.in_ok-letter.ensures,
      c.in_ok-word.ensures,
      c.in_ok-a.ensures,
      c.in_ok-b.ensures,
      c.in_err-c.ensures,
    ) depth 9)

pub read_number-requires-4 : goal.read_number-requires-4
read_number-requires-4 c = search (rules, fields-ahead, c.in_ok-c.ensures)

pub returns-in_err-d : goal.returns-in_err-d
returns-in_err-d c =
    rw c.from_residual-in_err-d.ensures
    (search (
      fields_read,
      c.in_ok-letter.ensures,
      c.in_ok-word.ensures,
      c.in_ok-a.ensures,
      c.in_ok-b.ensures,
      c.in_ok-c.ensures,
      c.in_err-d.ensures,
    ) depth 9)

pub returns : goal.returns
returns c =
    search (
      fields_read,
      c.in_ok-letter.ensures,
      c.in_ok-word.ensures,
      c.in_ok-a.ensures,
      c.in_ok-b.ensures,
      c.in_ok-c.ensures,
      c.in_ok-d.ensures,
    ) depth 9
