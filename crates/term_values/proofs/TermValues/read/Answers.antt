use mathlib.Core.Path.{sym, ◌∙◌, ap}
use Prim.Native.Nat.{ℕ}
use lib.ListN.{get_or}
use Rattle.term_values.specs.Values.{row_of}
use Rattle.term_values.proofs.RowLaws.{row_entry}
use Rattle.term_values.proofs.TermValues.read.Goals as goal

pub returns : goal.returns
returns c =
    let a = c.args in
    c.from.ensures ∙ sym (row_entry a.self.now.rows a.heap.0 c.place.result c.place.ensures.1)
    ∙ ap (λ (n : ℕ). get_or (row_of a.self.now.rows a.heap.0) n 0) c.place.ensures.0
