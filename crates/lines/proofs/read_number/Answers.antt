-- A first digit, or none.
use Rattle.lines.proofs.Bytes.{number_read}
use Rattle.lines.proofs.read_number.Goals as goal

pub returns-in_err-value : goal.returns-in_err-value
returns-in_err-value c = rw c.from_residual.ensures (search (number_read, c.in_err-value.ensures))

pub read_digits-requires : goal.read_digits-requires
read_digits-requires c = search (number_read, c.in_ok-value.ensures)

pub returns : goal.returns
returns c = search (number_read, c.in_ok-value.ensures)
