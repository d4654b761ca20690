use native.Mathlib.Omega.{arith}
use Rattle.evaluation.specs.declared.FactWord.{FactWord}
use Rattle.heap_tables.proofs.TableLaws.{scannable}
use Rattle.variables.proofs.number_of.Goals as goal

pub members-requires : goal.members-requires
members-requires c = scannable FactWord.Rgv c.args.name.0 _ 8 64 c.requires c.word_key.ensures (omega arith) (omega arith)
