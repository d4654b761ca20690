-- The reply of a heap that was read: check 20, then the first false literal.
use mathlib.Core.Path.{◌≡◌, refl, sym, ◌∙◌, ap, subst}
use mathlib.Core.Bool.{Bool, true, false, Bool-set, true≢false}
use mathlib.Core.List.{List, [], ◌∷◌}
use Rattle.std.specs.Prelude.{Option, None, Some}
use Prim.Native.Nat.{ℕ, suc, ◌+◌, ◌<◌, ◌≤◌}
use native.Mathlib.Numerals.{add-one}
use native.Mathlib.Omega.{arith}
use lib.Dec.{leb}
use lib.ListN.{length, length-map}
use Rattle.packing.specs.Packing.{unpack_literal}
use borrow.Author.Tests.{le-leb, lt-leb}
use Rattle.tableau.specs.declared.Reason.{Reason}
use Rattle.tableau.specs.Basics.{Four}
use Rattle.tableau.specs.File.{LF, split, max_digits, max_bytes}
use Rattle.tableau.specs.Terms.{Literal, at}
use Rattle.tableau.specs.Tree.{passed}
use Rattle.tableau.specs.Reply.{State, RunEnd, stopped, ended}
use Rattle.evaluation.specs.Facts.{Facts, sizes, is_nil, run_fact}
use Rattle.evaluation.specs.Heaps.{is_order, heap_of, values_of}
use Rattle.evaluation.specs.Evaluation.{is_true, first_false, assumptions_of, refusal, no_refusal, false_line, on_heap, after_facts, read_heap}
use Rattle.tableau.proofs.Checks.{lines_passed}
use Rattle.evaluation.proofs.Passable.{Passable}
use Rattle.evaluation.proofs.FilesRead.{FactPassed, fact_passed}
use Rattle.evaluation.proofs.HeapSaid.{run_passable}
use Rattle.running.specs.Running.{run_from}
use Rattle.facts.specs.declared.Sizes.{Sizes}
use Rattle.facts.specs.declared.StoredFact.{StoredFact}
use Rattle.facts.specs.declared.reading.FactsRead.{FactsRead}
use Rattle.facts.specs.Keys.{sizes_of, FactsHeld}
use Rattle.facts.specs.Reading.{Finished}
use Rattle.regions.specs.declared.HeapTables.{HeapTables}
use Rattle.heap_tables.specs.Tables.{TablesRead}
use Rattle.heap_tables.specs.Order.{is_order_below}
use Rattle.heap_tables.proofs.HeapLaws.{order_held, heap_held}
use Rattle.term_values.specs.declared.TermValues.{TermValues}
use Rattle.term_values.specs.Shown.{ShownBelow}
use Rattle.term_values.specs.Literals.{Evaluable}
use Rattle.evaluator.specs.declared.assumptions.Assumptions.{Assumptions}
use Rattle.evaluator.specs.Assumptions.{literals_of, literal_at, clause_at, FirstFalse, FirstFalseClause}
use Rattle.evaluator.specs.Values.{TermsShown}
use Rattle.evaluator.specs.Trial.{StateHeld}

-- THE TWO CASES of check 20
pub on_heap_lem : (σ : State) (g : Facts) {b : Bool} (e : is_order g ≡ b) → on_heap σ g (is_order g) refl ≡ on_heap σ g b e
on_heap_lem σ g {b} e = same (is_order g) refl b e
  where
    same : (a : Bool) (d : is_order g ≡ a) (b : Bool) (e : is_order g ≡ b) → on_heap σ g a d ≡ on_heap σ g b e
    same true d true e = ap (λ (o : is_order g ≡ true). no_refusal (false_line σ g o)) (Bool-set (is_order g) true d e)
    same false d false e = refl
    same true d false e = absurd (true≢false (sym d ∙ e))
    same false d true e = absurd (true≢false (sym e ∙ d))

module _ {g : Facts} {held : List StoredFact} (F : FactsHeld g held) (p : Passable g) {s : Sizes} (z : sizes g ≡ sizes_of s) {tables : HeapTables} (R : TablesRead held tables) where
  pub order_is : {b t : Bool} → t ≡ is_order_below tables.under s.classes → t ≡ b → is_order g ≡ b
  order_is q e = sym (order_held held F tables R p) ∙ ap (λ (k : Four ℕ). is_order_below tables.under k.c) z ∙ sym q ∙ e

  module _ {σ : State} {a : Assumptions} (S : StateHeld σ a) (ordered : is_order g ≡ true) {values : TermValues} (T : TermsShown a.terms.now held tables values (a.count + 1)) where
    -- the arrays show the heap and the values
    evaluable : Evaluable (heap_of g ordered) (values_of g ordered) σ.table tables values.numbers values.rows
    evaluable =
        let G = heap_held held F tables R p ordered in
        let shown = T.shown g ordered σ.table F p G S.entries S.well_formed in
        record {
          well_formed = S.well_formed;
          heap = G;
          shown = subst (ShownBelow (heap_of g ordered) (values_of g ordered) σ.table values.numbers values.rows) (add-one a.count ∙ ap suc S.count) shown;
        }

    abbrev test : Literal → Bool
    test = is_true (values_of g ordered) (at σ.table)

    -- the line of the first false literal, and the last of the first clause with no true one
    first_line : {place : Option ℕ} → FirstFalse (literals_of a.branch.now) a.terms.now values tables place
        → literal_at (length σ.table) place ≡ first_false (is_true (values_of g ordered) (at σ.table)) (length σ.table) (assumptions_of σ.status)
    first_line L = L.is (heap_of g ordered) (values_of g ordered) σ.table S.entries S.checked evaluable (length σ.table) ∙ ap (first_false test (length σ.table)) (sym S.literals)

    pub false_line_lem : {n : ℕ} → FirstFalse (literals_of a.branch.now) a.terms.now values tables (Some n) → a.count + n + 1 ≡ false_line σ g ordered
    unfolding false_line
    false_line_lem {n} L = rw (← first_line L) (omega (arith, S.count))

    pub false_clause_line : FirstFalse (literals_of a.branch.now) a.terms.now values tables None → {end : Option ℕ} → FirstFalseClause σ.clauses a.terms.now values tables end
        → clause_at (a.count + length a.branch.now) end ≡ false_line σ g ordered
    unfolding false_line
    false_clause_line L {end} U =
        let e : a.count + length a.branch.now ≡ length σ.table + length (assumptions_of σ.status) = omega (arith, S.count, ap length S.literals, length-map a.branch.now unpack_literal) in
        rw (← first_line L, ← e) (U.is (heap_of g ordered) (values_of g ordered) σ.table S.entries S.disjuncts' evaluable (a.count + length a.branch.now))

-- THE HEAP FILE: too long, with a line refused, without a line, or tried
module _ (σ : State) (heap : List ℕ) where
  pub heap_too_long : max_bytes < length heap → read_heap max_digits σ (leb (length heap) max_bytes) heap ≡ refusal Reason.TooLong 2 0
  heap_too_long h = rw (lt-leb (length heap) max_bytes h)

  module _ (h : length heap ≤ max_bytes) where
    heap_runs : {e : RunEnd Facts} → run_from run_fact heap 0 0 (passed []) ≡ e → read_heap max_digits σ (leb (length heap) max_bytes) heap ≡ after_facts σ e
    heap_runs q = rw (le-leb (length heap) max_bytes h) (ap (after_facts σ) q)

    pub heap_stops : (r : Reason) (i : ℕ) → run_from run_fact heap 0 0 (passed []) ≡ stopped r i → read_heap max_digits σ (leb (length heap) max_bytes) heap ≡ refusal r 2 i
    heap_stops r i q = heap_runs q

    module _ {held : List StoredFact} {e : FactsRead} (F : Finished heap held e) where
      pub heap_empty : e.count ≡ 0 → read_heap max_digits σ (leb (length heap) max_bytes) heap ≡ refusal Reason.LetterOrder 2 1
      heap_empty z = heap_runs F.runs ∙ none F.facts (sym F.count ∙ z)
        where
          none : (g : Facts) → length g ≡ 0 → after_facts σ (ended g e.count) ≡ refusal Reason.LetterOrder 2 1
          none [] z = refl
          none (x ∷ xs) z = absurd (omega (arith, z))

      some : (e.count ≡ 0 → ⊥) → is_nil F.facts ≡ false
      some z = go F.facts F.count
        where
          go : (g : Facts) → e.count ≡ length g → is_nil g ≡ false
          go [] q = absurd (z q)
          go (x ∷ xs) q = refl

      pub heap_passable : (e.count ≡ 0 → ⊥) → Passable F.facts
      heap_passable z = run_passable (lines_passed FactPassed run_fact fact_passed (split LF heap) 0 [] F.runs) (λ q. absurd (true≢false q)) (some z)

      pub heap_tried : (e.count ≡ 0 → ⊥) → read_heap max_digits σ (leb (length heap) max_bytes) heap ≡ on_heap σ F.facts (is_order F.facts) refl
      heap_tried z = heap_runs F.runs ∙ tried F.facts (some z)
        where
          tried : (g : Facts) → is_nil g ≡ false → after_facts σ (ended g e.count) ≡ on_heap σ g (is_order g) refl
          tried [] q = absurd (true≢false q)
          tried (x ∷ xs) q = refl
