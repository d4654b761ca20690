use native.Mathlib.Omega.{arith}
use Rattle.term_values.proofs.CopyLaws.{row_copied}
use Rattle.term_values.proofs.operations.write_row.Goals as goal

pub returns : goal.returns
returns c =
    let copy = c.copy_within.ensures in
    row_copied _ _ _ _ _ (omega arith) (omega arith) (omega arith) c.told-rows copy.len copy.by_index.0 copy.by_index.1 _ _ (omega arith)
