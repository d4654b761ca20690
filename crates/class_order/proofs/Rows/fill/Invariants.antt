-- The rows hold the class terms, and nothing but paths.
use Rattle.std.proofs.Common.{map}
use Rattle.packing.specs.Packing.{unpack_literal}
use Rattle.class_order.specs.Words.{room}
use Rattle.class_order.proofs.FillLaws.{Told}
use Rattle.class_order.proofs.Rows.fill.Given as goal

abbrev pub invariant-loop : goal.invariant-loop
invariant-loop l = Told l.blocks l.self l.terms l.n (map unpack_literal l.branch)

abbrev pub decreases-loop : goal.decreases-loop
decreases-loop l = room 16384 l.self.words
