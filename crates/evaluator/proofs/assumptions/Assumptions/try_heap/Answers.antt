-- Check 20; else the first false literal; else the first clause with no true one.
use mathlib.Core.Path.{sym, ◌∙◌, ap}
use Prim.Native.Nat.{ℕ, ◌≤◌}
use native.Mathlib.Omega.{arith}
use lib.ListN.{length, length-map}
use Rattle.tableau.specs.Reply.{State}
use Rattle.evaluator.specs.declared.assumptions.Assumptions.{Assumptions}
use Rattle.evaluator.specs.Trial.{StateHeld}
use Rattle.packing.specs.Packing.{unpack_literal}
use Rattle.tableau.specs.Basics.{Four}
use Rattle.evaluation.specs.Evaluation.{no_refusal}
use Rattle.heap_tables.proofs.HeapLaws.{sizes_high}
use Rattle.evaluator.proofs.TrialLaws.{on_heap_lem, order_is, false_line_lem, false_clause_line}
use Rattle.evaluator.proofs.assumptions.Assumptions.try_heap.Goals as goal

pub is_order-requires : goal.is_order-requires
is_order-requires c = let g = c.requires.facts_held in omega (arith, (sizes_high g.2).2, ap (λ (k : Four ℕ). k.c) g.3)

pub returns-then-not-is_order : goal.returns-then-not-is_order
returns-then-not-is_order c σ g S F p z = c.refused.ensures ∙ sym (on_heap_lem σ g (order_is F p z c.read_tables-tables.ensures c.is_order.ensures c.if-not-is_order.true))

-- the line numbers are small
module _ {σ : State} {a : Assumptions} (S : StateHeld σ a) where
  lines_few : (a.count ≤ 600) × (length a.branch.now ≤ 1000)
  lines_few = (omega (arith, S.count, S.entries.few), S.room)

pub overflow_add-self : goal.overflow_add-self
overflow_add-self c = let l = lines_few c.requires.state_held.1 in omega (arith, l.0, l.1, c.in-Some.ensures.few, length-map c.args.self.branch.now unpack_literal)

pub overflow_add-self-in-Some : goal.overflow_add-self-in-Some
overflow_add-self-in-Some c = let l = lines_few c.requires.state_held.1 in omega (arith, l.0, l.1, c.in-Some.ensures.few, length-map c.args.self.branch.now unpack_literal)

pub overflow_add-self-in-Some-first_false_clause-2 : goal.overflow_add-self-in-Some-first_false_clause-2
overflow_add-self-in-Some-first_false_clause-2 c =
    let S = c.requires.state_held.1 in
    let l = lines_few S in
    omega (arith, l.0, l.1, (c.in-Some-first_false_clause.ensures _ S.clauses).few)

-- a literal is false
pub returns-in-Some : goal.returns-in-Some
returns-in-Some c σ g S F p z =
    let ordered = order_is F p z c.read_tables-tables.ensures c.is_order.ensures c.if-not-is_order.false in
    c.no_refusal.ensures ∙ ap no_refusal (false_line_lem F p z c.read_tables-tables.ensures S ordered c.term_values.ensures c.in-Some.ensures)
    ∙ sym (on_heap_lem σ g ordered)

-- none is: the clauses
pub returns-in-Some-first_false_clause : goal.returns-in-Some-first_false_clause
returns-in-Some-first_false_clause c σ g S F p z =
    let ordered = order_is F p z c.read_tables-tables.ensures c.is_order.ensures c.if-not-is_order.false in
    c.no_refusal-in-Some-first_false_clause.ensures
    ∙ ap no_refusal (false_clause_line F p z c.read_tables-tables.ensures S ordered c.term_values.ensures c.in_default.ensures (c.in-Some-first_false_clause.ensures _ S.clauses))
    ∙ sym (on_heap_lem σ g ordered)

pub returns-in-None : goal.returns-in-None
returns-in-None c σ g S F p z =
    let ordered = order_is F p z c.read_tables-tables.ensures c.is_order.ensures c.if-not-is_order.false in
    c.no_refusal-in-None.ensures ∙ ap no_refusal (false_clause_line F p z c.read_tables-tables.ensures S ordered c.term_values.ensures c.in_default.ensures (c.in-None.ensures _ S.clauses))
    ∙ sym (on_heap_lem σ g ordered)
