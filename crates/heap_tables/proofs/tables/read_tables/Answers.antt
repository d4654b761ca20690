use Rattle.std.proofs.Common.{refl, arith}
use Rattle.evaluation.specs.declared.FactWord.{FactWord}
use Rattle.heap_tables.proofs.TableLaws.{scannable, members_at, classes_read}
use Rattle.heap_tables.proofs.tables.read_tables.Goals as goal

pub members-all-requires : goal.members-all-requires
members-all-requires c = scannable FactWord.Alc 0 _ 14 64 (omega arith) c.word_key.ensures (omega arith) (omega arith)

pub scatter-requires : goal.scatter-requires
scatter-requires c = scannable FactWord.Typ 0 _ 14 64 (omega arith) c.word_key-2.ensures (omega arith) (omega arith)

pub scatter-requires-2 : goal.scatter-requires-2
scatter-requires-2 c = scannable FactWord.Dty 0 _ 14 16 (omega arith) c.word_key-3.ensures (omega arith) (omega arith)

pub returns : goal.returns
returns c =
    record {
      all = members_at _ _ _ 14 _ c.word_key.ensures c.members-all.ensures;
      typ = classes_read _ FactWord.Typ _ 64 _ _ c.word_key-2.ensures refl c.scatter.ensures;
      dty = classes_read _ FactWord.Dty _ 16 _ _ c.word_key-3.ensures refl c.scatter-2.ensures;
      under = c.read_under-under.ensures;
      having = c.read_having-having.ensures;
    }
