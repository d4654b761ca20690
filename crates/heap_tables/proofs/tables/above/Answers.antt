use Rattle.std.proofs.Common.{arith, rules}
use Rattle.heap_tables.proofs.TableLaws.{scannable, above_row}
use Rattle.heap_tables.proofs.tables.above.Goals as goal

pub members-requires : goal.members-requires
members-requires c = scannable _ _ _ 8 64 (omega arith) c.word_key.ensures (omega arith) (omega arith)

pub returns : goal.returns
returns c = search (rules, above_row)
