use Rattle.packing.specs.Packing.{unpack_literal}
use Rattle.packing.proofs.PackingLaws.{literal_of_view}
use Rattle.term_values.proofs.LiteralLaws.{assumption_sides, test_true}
use Rattle.term_values.proofs.TermValues.is_true.Goals as goal

pub test-requires-clause-sides : goal.test-requires-clause-sides
test-requires-clause-sides c = let p = c.requires in assumption_sides p.0 _ p.1 _ p.2 _ c.view.ensures

pub returns : goal.returns
returns c =
    let a = c.args in
    let l = unpack_literal a.code in
    λ H ρ table E I S. rw (← test_true H ρ table a.tables.now a.self.now.numbers a.self.now.rows S l I, ← literal_of_view l, ← c.view.ensures) (c.test.ensures table E)
