-- A literal of an A line that passed: its sides, and that its test is its truth.
use mathlib.Core.Path.{◌≡◌, sym, ◌∙◌, ap, subst}
use mathlib.Core.Bool.{true, not, ◌&&◌}
use mathlib.Core.List.{List}
use Prim.Native.Nat.{ℕ, ◌<◌, ◌≤◌}
use native.Mathlib.Nat.{mod-eq_of_lt}
use native.Mathlib.Omega.{arith}
use lib.Dec.{leb}
use lib.ListN.{length, get_or}
use borrow.Author.Tests.{leb-true}
use Rattle.tableau.specs.declared.Sort.{Sort}
use Rattle.tableau.specs.declared.Relation.{Relation}
use Rattle.tableau.specs.Basics.{Four, every}
use Rattle.tableau.specs.Fields.{sides}
use Rattle.tableau.specs.Terms.{TermNo, Table, Literal, literal, at, sort_of, same_sort, one_sort, max_terms}
use Rattle.tableau.specs.Meaning.{FiniteHeap, Value, Values, value, as_ref, as_class, is_in, is_le, kind}
use Rattle.tableau.specs.Reply.{is_term, term_or_name, of_sort}
use Rattle.tableau.proofs.Bools.{both_true, every_true}
use Rattle.tableau.proofs.Checks.{LiteralPassed, literal_passed}
use Rattle.tableau.proofs.Match.{same_sort_lem, kind_value}
use Rattle.evaluation.specs.Evaluation.{is_eq, is_true}
use Rattle.packing.specs.declared.LiteralView.{LiteralView}
use Rattle.packing.specs.Packing.{number, literal_view_as, literal_view_of, left_of, right_of}
use Rattle.table.specs.Held.{Entries}
use Rattle.mentions.specs.Mentions.{bit_at}
use Rattle.regions.specs.declared.HeapTables.{HeapTables}
use Rattle.regions.specs.Shown.{Shows, same_shown}
use Rattle.regions.proofs.LiteralLaws.{shown_as, in_shown, eq_shown, le_shown}
use Rattle.term_values.specs.Values.{number_at, row_of}
use Rattle.term_values.specs.Shown.{ShownBelow}
use Rattle.term_values.specs.Literals.{member_test, equal_test, under_test, literal_test, IsAssumption, Evaluable}

-- THE SIDES of a view that an arm knows, and of a literal that passed
abbrev pub Sides : LiteralView → Type 0
Sides p = (left_of p ≤ max_terms) × (right_of p ≤ max_terms)

sides_of : {p q : LiteralView} → p ≡ q → Sides p → Sides q
sides_of e s = subst Sides e s

view_sides : (R : Relation) (m n : TermNo) → m ≤ max_terms → n ≤ max_terms → Sides (literal_view_as R (number m) (number n))
unfolding literal_view_as
view_sides Relation.In m n l k = (l, k)
view_sides Relation.Ni m n l k = (l, k)
view_sides Relation.Eq m n l k = (l, k)
view_sides Relation.Ne m n l k = (l, k)
view_sides Relation.Le m n l k = (l, k)
view_sides Relation.Nl m n l k = (l, k)

module _ (table : Table) where
  two_terms : (R : Relation) (k : Four ℕ) → every (term_or_name table) (sides R) k ≡ true → (is_term table k.a ≡ true) × (is_term table k.b ≡ true)
  unfolding sides
  two_terms Relation.In k e = let h = every_true (term_or_name table) (sides Relation.In) k e in (h.0, h.1)
  two_terms Relation.Ni k e = let h = every_true (term_or_name table) (sides Relation.Ni) k e in (h.0, h.1)
  two_terms Relation.Eq k e = let h = every_true (term_or_name table) (sides Relation.Eq) k e in (h.0, h.1)
  two_terms Relation.Ne k e = let h = every_true (term_or_name table) (sides Relation.Ne) k e in (h.0, h.1)
  two_terms Relation.Le k e = let h = every_true (term_or_name table) (sides Relation.Le) k e in (h.0, h.1)
  two_terms Relation.Nl k e = let h = every_true (term_or_name table) (sides Relation.Nl) k e in (h.0, h.1)

  within : (n : TermNo) → is_term table n ≡ true → n ≤ length table
  within n e = leb-true n (length table) (both_true (leb 1 n) (leb n (length table)) e).1

  two_within : (l : Literal) (R : Relation) (k : Four ℕ) → LiteralPassed table (sides R) R k l → (k.a ≤ length table) × (k.b ≤ length table)
  two_within l R k P = let t = two_terms R k P.terms in (within k.a t.0, within k.b t.1)

  pub assumption_sides : (terms : List ℕ) → Entries table terms → (l : Literal) → IsAssumption table l → (p : LiteralView) → p ≡ literal_view_of l → Sides p
  assumption_sides terms E l I p e =
      let P = literal_passed table (sides I.0) I.0 I.1 I.2 in
      let w = two_within l I.0 I.1 P in
      sides_of (sym (e ∙ ap literal_view_of P.is)) (view_sides I.0 I.1.a I.1.b (omega (arith, w.0, E.few)) (omega (arith, w.1, E.few)))

-- THE TEST IS THE TRUTH
module _ (H : FiniteHeap) (ρ : Values H) (table : Table) (A : HeapTables) (numbers rows : List ℕ) (E : Evaluable H ρ table A numbers rows) where
  abbrev val : TermNo → Value H
  val = value ρ (at table)

  side : (n : TermNo) → n ≤ length table → Shows H (val n) (number_at numbers n) (row_of rows n)
  unfolding ShownBelow
  side n l = E.shown n (omega arith)

  sort : (n : TermNo) (s : Sort) → same_sort s (sort_of (at table n)) ≡ true → kind (val n) ≡ s
  sort n s e = kind_value (at table) E.well_formed H ρ n ∙ sym (same_sort_lem s (sort_of (at table n)) e)

  module _ (m n : TermNo) (l : m ≤ length table) (r : n ≤ length table) where
    member_true : same_sort Sort.Reference (sort_of (at table m)) ≡ true → same_sort Sort.Region (sort_of (at table n)) ≡ true
        → member_test A table numbers rows m n ≡ is_in (val m) (val n)
    member_true p q =
        let e = shown_as H Sort.Reference (val m) (number_at numbers m) (row_of rows m) (sort m Sort.Reference p) (side m l) in
        ap (bit_at (number_at numbers n)) (mod-eq_of_lt (let k : number_at numbers m < 64 = omega (arith, (as_ref (val m)).1, E.heap.references) in k))
        ∙ sym (in_shown H A E.heap (number_at numbers m) (number_at numbers n) (row_of rows m) (row_of rows n) (val m) (val n)
        (sort m Sort.Reference p) (sort n Sort.Region q) (side m l) (side n r))

    equal_true : same_sort (sort_of (at table m)) (sort_of (at table n)) ≡ true → equal_test A table numbers rows m n ≡ is_eq (val m) (val n)
    equal_true q =
        let k = kind_value (at table) E.well_formed H ρ in
        ap (λ (s : Sort). same_shown s (number_at numbers m) (number_at numbers n) (row_of rows m) (row_of rows n)) (sym (k m))
        ∙ sym (eq_shown H A E.heap (number_at numbers m) (number_at numbers n) (row_of rows m) (row_of rows n) (val m) (val n)
        (k m ∙ same_sort_lem _ _ q ∙ sym (k n)) (side m l) (side n r))

    under_true : same_sort Sort.Class (sort_of (at table m)) ≡ true → same_sort Sort.Class (sort_of (at table n)) ≡ true
        → under_test A table numbers rows m n ≡ is_le (val m) (val n)
    under_true p q =
        let e = shown_as H Sort.Class (val m) (number_at numbers m) (row_of rows m) (sort m Sort.Class p) (side m l) in
        let f = shown_as H Sort.Class (val n) (number_at numbers n) (row_of rows n) (sort n Sort.Class q) (side n r) in
        (λ i. bit_at (get_or A.under (mod-eq_of_lt (let k : number_at numbers m < 16 = omega (arith, (as_class (val m)).1, E.heap.classes) in k) i) 0)
        (mod-eq_of_lt (let k : number_at numbers n < 64 = omega (arith, (as_class (val n)).1, E.heap.classes) in k) i))
        ∙ sym (le_shown H A E.heap (number_at numbers m) (number_at numbers n) (row_of rows m) (row_of rows n) (val m) (val n)
        (sort m Sort.Class p) (sort n Sort.Class q) (side m l) (side n r))

  by_relation : (R : Relation) (k : Four ℕ) → k.a ≤ length table → k.b ≤ length table
      → (every (of_sort table) (sides R) k && one_sort R (sort_of (at table k.a)) (sort_of (at table k.b))) ≡ true
      → literal_test A table numbers rows (literal R k.a k.b) ≡ is_true ρ (at table) (literal R k.a k.b)
  unfolding literal_test sides one_sort
  by_relation Relation.In k l r e = let h = every_true (of_sort table) (sides Relation.In) k (both_true _ _ e).0 in member_true k.a k.b l r h.0 h.1
  by_relation Relation.Ni k l r e = let h = every_true (of_sort table) (sides Relation.Ni) k (both_true _ _ e).0 in ap not (member_true k.a k.b l r h.0 h.1)
  by_relation Relation.Eq k l r e = equal_true k.a k.b l r e
  by_relation Relation.Ne k l r e = ap not (equal_true k.a k.b l r e)
  by_relation Relation.Le k l r e = let h = every_true (of_sort table) (sides Relation.Le) k (both_true _ _ e).0 in under_true k.a k.b l r h.0 h.1
  by_relation Relation.Nl k l r e = let h = every_true (of_sort table) (sides Relation.Nl) k (both_true _ _ e).0 in ap not (under_true k.a k.b l r h.0 h.1)

  pub test_true : (l : Literal) → IsAssumption table l → literal_test A table numbers rows l ≡ is_true ρ (at table) l
  test_true l I =
      let P = literal_passed table (sides I.0) I.0 I.1 I.2 in
      let w = two_within table l I.0 I.1 P in
      subst (λ (x : Literal). literal_test A table numbers rows x ≡ is_true ρ (at table) x) (sym P.is) (by_relation I.0 I.1 w.0 w.1 P.sorts)
