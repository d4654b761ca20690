-- The first clause with no true literal, looked for from the front.
use mathlib.Core.Path.{◌≡◌, sym, ◌∙◌, ap, subst}
use mathlib.Core.Bool.{Bool, true, false, cond}
use mathlib.Core.List.{List, [], ◌∷◌, map}
use Rattle.std.specs.Prelude.{None, Some}
use Rattle.term_values.specs.declared.TermValues.{TermValues}
use Prim.Native.Nat.{ℕ, ◌+◌, ◌<◌, ◌≤◌}
use native.Mathlib.Omega.{arith}
use lib.Dec.{eqb}
use Rattle.tableau.specs.Terms.{ClauseNo, Table, Clauses, disjuncts, clause_of, last_clause, at}
use Rattle.tableau.specs.Meaning.{FiniteHeap, Values}
use Rattle.evaluation.specs.Evaluation.{is_true, any_passes, first_false_clause}
use Rattle.packing.specs.Packing.{unpack_literal}
use Rattle.clauses.specs.declared.Span.{Span}
use Rattle.clauses.specs.Held.{codes_at, SpanOf}
use Rattle.table.specs.Held.{Entries}
use Rattle.regions.specs.declared.HeapTables.{HeapTables}
use Rattle.term_values.specs.Literals.{Evaluable}
use Rattle.evaluator.specs.Assumptions.{AllAssumptions, AnyIs, FirstFalseClause}
use Rattle.evaluator.proofs.Searches.{NotBefore, at_start_lem, at_end_lem, found, passed_by}

-- A CLAUSE'S LITERALS passed their checks where all did
pub clause_checked : (table : Table) (C : Clauses) (k : ClauseNo) → AllAssumptions table (disjuncts C) → AllAssumptions table (clause_of C k)
unfolding AllAssumptions clause_of
clause_checked table [] k a = tt
clause_checked table (d ∷ C) k a = go (eqb d.clause k) (clause_checked table C k a.1)
  where
    go : (b : Bool) → AllAssumptions table (clause_of C k) → AllAssumptions table (cond b (d.is ∷ clause_of C k) (clause_of C k))
    go true r = (a.0, r)
    go false r = r

-- EVERY CLAUSE BEFORE k HAS A TRUE LITERAL: the first that has none is one from k on
pub record MetBefore (C : Clauses) (terms : List ℕ) (values : TermValues) (tables : HeapTables) (k : ClauseNo) : Type 0 where
  pub goes_on : (H : FiniteHeap) (ρ : Values H) (table : Table) → Entries table terms → AllAssumptions table (disjuncts C) → Evaluable H ρ table tables values.numbers values.rows
      → (i : ℕ) → NotBefore (first_false_clause (is_true ρ (at table)) i C) 1 (last_clause C) k

module _ {C : Clauses} {terms : List ℕ} {values : TermValues} {tables : HeapTables} where
  pub none_before_lem : MetBefore C terms values tables 1
  none_before_lem = record { goes_on = λ H ρ table E A W i. at_start_lem (first_false_clause (is_true ρ (at table)) i C) 1 (last_clause C) }

  module _ {k : ClauseNo} (M : MetBefore C terms values tables k) where
    pub all_met : last_clause C < k → FirstFalseClause C terms values tables None
    unfolding first_false_clause
    all_met h = record { few = tt; is = λ H ρ table E A W i. sym (at_end_lem (first_false_clause (is_true ρ (at table)) i C) 1 (last_clause C) (omega arith) (M.goes_on H ρ table E A W i)) }

    module _ (h : k ≤ last_clause C) {words : List ℕ} {s : Span} (S : SpanOf C words k s) {b : Bool}
        (t : AnyIs (map unpack_literal (codes_at words s.from s.count)) terms values tables b) where
      left : k < 1 + last_clause C
      left = omega arith

      clause_tested : (H : FiniteHeap) (ρ : Values H) (table : Table) → Entries table terms → AllAssumptions table (disjuncts C) → Evaluable H ρ table tables values.numbers values.rows → {c : Bool} → b ≡ c
          → any_passes (is_true ρ (at table)) (clause_of C k) ≡ c
      clause_tested H ρ table E A W e =
          ap (any_passes (is_true ρ (at table))) (sym S.literals)
          ∙ sym (t.is H ρ table E (subst (AllAssumptions table) (sym S.literals) (clause_checked table C k A)) W) ∙ e

      pub false_clause_here : b ≡ false → FirstFalseClause C terms values tables (Some (s.from + s.count))
      unfolding first_false_clause
      false_clause_here e = record {
        few = S.inside;
        is = λ H ρ table E A W i. sym (found (first_false_clause (is_true ρ (at table)) i C) 1 (last_clause C) left (M.goes_on H ρ table E A W i) (λ m. rw (clause_tested H ρ table E A W e, S.end)));
      }

      pub met_here : b ≡ true → MetBefore C terms values tables (k + 1)
      unfolding first_false_clause
      met_here e = record {
        goes_on = λ H ρ table E A W i. passed_by (first_false_clause (is_true ρ (at table)) i C) 1 (last_clause C) left (M.goes_on H ρ table E A W i) (λ m. rw (clause_tested H ρ table E A W e));
      }
