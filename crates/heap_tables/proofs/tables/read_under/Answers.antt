use Rattle.std.proofs.Common.{rules}
use Rattle.heap_tables.specs.Tables.{Above}
use Rattle.heap_tables.proofs.TableLaws.{rows_made}
use Rattle.heap_tables.proofs.tables.read_under.Goals as goal

pub returns : goal.returns
returns c = record { rows = rows_made (Above c.args.facts.now) _ (λ k y q h. (search rules, search rules)) _ 16 c.from_fn.ensures.items }
