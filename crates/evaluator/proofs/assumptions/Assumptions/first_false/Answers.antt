use Rattle.std.proofs.Common.{rules, true, false}
use Rattle.std.proofs.lemmas.Iterator.{IsFirst-from_position, YieldsList-from_slice}
use Rattle.std.proofs.lemmas.Iterator.Adapters.{serves_from_places}
use Rattle.tableau.specs.Terms.{Table}
use Rattle.table.specs.Held.{Entries}
use Rattle.packing.specs.Packing.{unpack_literal}
use Rattle.term_values.specs.Literals.{IsAssumption}
use Rattle.evaluator.proofs.AssumptionLaws.{assumption_at, Tested, first_is}
use Rattle.evaluator.proofs.assumptions.Assumptions.first_false.Goals as goal

pub position-requires-clause-callable : goal.position-requires-clause-callable
position-requires-clause-callable c =
    let p = c.requires in
    serves_from_places (YieldsList-from_slice c.args.self.branch.now c.iter.ensures.rest) (λ x q r. search rules)
    (λ x k l e. let h : (table : Table) × Entries table c.args.self.terms.now × IsAssumption table (unpack_literal x.now) = (p.0, p.1, rw e (assumption_at p.0 c.args.self.branch.now p.2 k x.now l)) in search rules)

pub returns : goal.returns
returns c =
    let a = c.args in
    let tested = Tested a.self.terms.now a.values.now a.tables.now in
    first_is a.self.terms.now a.values.now a.tables.now a.self.branch.now _
    (IsFirst-from_position _ _ c.position.result (tested false) (tested true) c.position.ensures.ran (YieldsList-from_slice a.self.branch.now c.iter.ensures.rest) (λ x q k. λ H ρ table E I W. search rules) (λ x q k. (search rules, λ H ρ table E I W. search rules)))
