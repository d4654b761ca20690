use Rattle.std.proofs.Common.{rules, get_or, ℕ}
use Rattle.heap_tables.specs.Tables.{Having}
use Rattle.heap_tables.proofs.TableLaws.{rows_made}
use Rattle.heap_tables.proofs.tables.read_having.Goals as goal

pub returns : goal.returns
returns c =
    let a = c.args in
    record { rows = rows_made (λ (f : ℕ). Having a.typ.now a.under.now (get_or a.dty.now f 0)) _ (λ k y q h. (search rules, search rules)) _ 16 c.from_fn.ensures.items }
