use Rattle.std.proofs.Common.{rules, true, false, ◌∙◌}
use Rattle.std.proofs.lemmas.Iterator.{cases_from_any, YieldsList-from_slice}
use Rattle.std.proofs.lemmas.Iterator.Adapters.{serves_from_places}
use Rattle.tableau.specs.Terms.{Table}
use Rattle.clauses.specs.Held.{codes_at}
use Rattle.table.specs.Held.{Entries}
use Rattle.packing.specs.Packing.{unpack_literal}
use Rattle.term_values.specs.Literals.{IsAssumption}
use Rattle.evaluator.proofs.AssumptionLaws.{assumption_at, Tested, any_is}
use Rattle.evaluator.proofs.assumptions.Assumptions.any_true.Goals as goal

pub any-requires-clause-callable : goal.any-requires-clause-callable
any-requires-clause-callable c =
    let p = c.requires.entries in
    let codes = codes_at c.args.self.clauses.now c.args.span.from c.args.span.count in
    serves_from_places (YieldsList-from_slice codes (c.iter.ensures.rest ∙ c.codes.ensures)) (λ x q r. search rules)
    (λ x k l e. let h : (table : Table) × Entries table c.args.self.terms.now × IsAssumption table (unpack_literal x.now) = (p.0, p.1, rw e (assumption_at p.0 codes p.2 k x.now l)) in search rules)

pub returns : goal.returns
returns c =
    let a = c.args in
    let codes = codes_at a.self.clauses.now a.span.from a.span.count in
    let tested = Tested a.self.terms.now a.values.now a.tables.now in
    any_is a.self.terms.now a.values.now a.tables.now codes _
    (cases_from_any _ _ c.any.result (tested true) (tested false) c.any.ensures.ran (YieldsList-from_slice codes (c.iter.ensures.rest ∙ c.codes.ensures))
    (λ x q k. λ H ρ table E I W. search rules) (λ x q k. (search rules, λ H ρ table E I W. search rules)))
