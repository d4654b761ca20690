-- A variable that is read is shown: its number and its row are those of its value.
use mathlib.Core.Path.{◌≡◌, refl, sym, ◌∙◌, ap, subst}
use mathlib.Core.Bool.{true}
use mathlib.Core.List.{List}
use mathlib.Core.Logic.{◌⊎◌, inl, inr}
use Rattle.std.specs.Prelude.{Option, None, Some}
use Prim.Native.Nat.{ℕ, suc, ◌+◌, ◌*◌, ◌/◌, ◌%◌, ◌<◌, ◌≤◌}
use native.Mathlib.Omega.{arith}
use lib.Dec.{eqb}
use lib.ListN.{length, get_or}
use lib.Seq.{get_or-set_same, get_or-set_other}
use borrow.Author.Tests.{eqb-true, ltb-true}
use Rattle.tableau.specs.declared.Sort.{Sort}
use Rattle.tableau.specs.Basics.{Four, four}
use Rattle.tableau.specs.Terms.{Name, TermNo, Table, variable, at, max_terms}
use Rattle.tableau.specs.Meaning.{FiniteHeap, Value, Values, value_of}
use Rattle.tableau.proofs.Bools.{every_true}
use Rattle.tableau.proofs.Match.{value_variable}
use Rattle.tableau.proofs.WellFormed.{WellFormed}
use Rattle.evaluation.specs.declared.FactWord.{FactWord}
use Rattle.evaluation.specs.Facts.{fact_index, fact_fields, Facts, sizes, subject_of, find, said, fields_or0, given, in_range}
use Rattle.evaluation.specs.Heaps.{is_order, heap_of, values_of, AsSaid}
use Rattle.evaluation.proofs.Passable.{Passable}
use Rattle.evaluation.proofs.HeapSaid.{found, said_by, as_said}
use Rattle.facts.specs.declared.StoredFact.{StoredFact}
use Rattle.facts.specs.Keys.{pack_key, key_of, has_key, value_at, FactsHeld}
use Rattle.facts.specs.Keys.{value_of as line_value}
use Rattle.regions.specs.Masks.{IsMask, IsRow, row_length}
use Rattle.regions.specs.Shown.{Shows}
use Rattle.heap_tables.specs.Scans.{IsMembers}
use Rattle.heap_tables.proofs.TableLaws.{key_8, key_4}
use Rattle.heap_tables.proofs.HeapLaws.{sizes_high, said_mask, held_said, held_value}
use Rattle.term_values.specs.Values.{number_at, row_of, rows_length}
use Rattle.term_values.specs.Shown.{ShownBelow}
use Rattle.term_values.proofs.RowLaws.{row_length_lem, row_entry}
use Rattle.term_values.proofs.OperationLaws.{shown_more}
use Rattle.variables.specs.Variables.{NumberRead, IsHeapRow, RowRead, VariableRead}
use Rattle.variables.proofs.VariableLaws.{row_size}

module _ {facts : Facts} (p : Passable facts) where
  -- what is said is in its ranges
  member_low : (n : Name) (x : ℕ) → said facts FactWord.Rgv (four n x 0 0) ≡ true → x < (sizes facts).a
  unfolding fact_fields subject_of
  member_low n x h =
      let k = said_by p FactWord.Rgv (four n x 0 0) h in
      let e = eqb-true x k.0.b (every_true eqb (subject_of FactWord.Rgv (four n x 0 0)) (subject_of FactWord.Rgv k.0) k.1.subject).1 in
      let l = ltb-true k.0.b (sizes facts).a (every_true (in_range (sizes facts)) (fact_fields FactWord.Rgv) k.0 k.1.ranges).1 in
      omega (arith, e, l)

  outside_none : (n : Name) (x f : ℕ) → ((sizes facts).a ≤ x) ⊎ ((sizes facts).b ≤ f) → (given facts FactWord.Arv (four n x f 0)).d ≡ 0
  unfolding fact_fields subject_of
  outside_none n x f o = go (find facts FactWord.Arv (four n x f 0)) refl o
    where
      go : (m : Option (Four ℕ)) → find facts FactWord.Arv (four n x f 0) ≡ m → ((sizes facts).a ≤ x) ⊎ ((sizes facts).b ≤ f) → (fields_or0 m).d ≡ 0
      go None e o = refl
      go (Some k) e o =
          let w = found p FactWord.Arv (four n x f 0) k e in
          let s = every_true eqb (subject_of FactWord.Arv (four n x f 0)) (subject_of FactWord.Arv k) w.subject in
          let r = every_true (in_range (sizes facts)) (fact_fields FactWord.Arv) k w.ranges in
          let a = ltb-true k.b (sizes facts).a r.1 in
          let b = ltb-true k.c (sizes facts).b r.2 in
          let i = eqb-true x k.b s.1 in
          let j = eqb-true f k.c s.2 in
          absurd (elim o [ inl l ↦ omega (arith, l, a, i) | inr l ↦ omega (arith, l, b, j) ])

module _ {facts : Facts} (held : List StoredFact) (F : FactsHeld facts held) (p : Passable facts) (ordered : is_order facts ≡ true) where
  abbrev H : FiniteHeap
  H = heap_of facts ordered

  abbrev ρ : Values (heap_of facts ordered)
  ρ = values_of facts ordered

  S : AsSaid facts (heap_of facts ordered) (values_of facts ordered)
  S = as_said p ordered

  region_shown : (n : Name) (r : ℕ) → IsMembers held (pack_key (fact_index FactWord.Rgv) n 0 0) 8 r → IsMask H (ρ.rgv n) r
  unfolding key_of subject_of fact_fields
  region_shown n r M = said_mask p ordered (ρ.rgv n) r (λ x. said facts FactWord.Rgv (four n x 0 0)) M.small
      (λ x l. M.bits x l ∙ ap (has_key held) (key_8 (fact_index FactWord.Rgv) n x)
      ∙ held_said held F FactWord.Rgv n x 0 (record { b = l; c = omega arith; d = refl }))
      (member_low p n) (S.rgv n)

  module _ (n : Name) (old new : List ℕ) (t : TermNo) (few : t ≤ max_terms) (size : length new ≡ rows_length) (R : IsHeapRow held n old new t) where
    cell : (x f : ℕ) → x < 64 → f < 16 → get_or (row_of new t) (x * 16 + f) 0 ≡ (given facts FactWord.Arv (four n x f 0)).d
    unfolding key_of subject_of fact_fields line_value
    cell x f l k =
        row_entry new t (x * 16 + f) (omega arith) ∙ R.entries (x * 16 + f) (omega arith)
        ∙ ap (value_at held) (key_4 (fact_index FactWord.Arv) n x f)
        ∙ held_value held F FactWord.Arv n x f (record { b = l; c = k; d = refl }) ∙ omega arith

    row_shown : IsRow H (ρ.arv n) (row_of new t)
    row_shown = record {
      size = row_length_lem new t few size;
      entries = λ x f. cell x.0 f.0 (omega (arith, x.1, S.references, (sizes_high p).0)) (omega (arith, f.1, S.fields, (sizes_high p).1)) ∙ sym (S.arv n x f);
      outside = λ i l o.
          ap (λ (j : ℕ). get_or (row_of new t) j 0) (let e : i ≡ i / 16 * 16 + i % 16 = omega arith in e) ∙ cell (i / 16) (i % 16) (omega arith) (omega arith)
          ∙ outside_none p n (i / 16) (i % 16) (past i o);
    }
      where
        past : (i : ℕ) → (H.references ≤ i / 16) ⊎ (H.fields ≤ i % 16) → ((sizes facts).a ≤ i / 16) ⊎ ((sizes facts).b ≤ i % 16)
        past i (inl l) = inl (omega (arith, S.references))
        past i (inr l) = inr (omega (arith, S.fields))

  -- THE VALUE of a variable
  value_shown : (s : Sort) (n : Name) (k : ℕ) (old new : List ℕ) (t : TermNo) → t ≤ max_terms → length new ≡ rows_length → NumberRead held s n k
      → RowRead held s n old new t → Shows H (value_of ρ s n) k (row_of new t)
  unfolding value_of key_of subject_of fact_fields line_value
  value_shown Sort.Reference n k old new t few size N R =
      N ∙ held_value held F FactWord.Rfv n 0 0 (record { b = omega arith; c = omega arith; d = refl }) ∙ (omega arith) ∙ sym (S.rfv n)
  value_shown Sort.Region n k old new t few size N R = region_shown n k N
  value_shown Sort.Heap n k old new t few size N R = row_shown n old new t few size R
  value_shown Sort.Field n k old new t few size N R =
      N ∙ held_value held F FactWord.Fnv n 0 0 (record { b = omega arith; c = omega arith; d = refl }) ∙ (omega arith) ∙ sym (S.fnv n)
  value_shown Sort.Class n k old new t few size N R =
      N ∙ held_value held F FactWord.Clv n 0 0 (record { b = omega arith; c = omega arith; d = refl }) ∙ (omega arith) ∙ sym (S.clv n)

  rows_before : (s : Sort) (n : Name) (old new : List ℕ) (t : TermNo) → RowRead held s n old new t → (j : ℕ) → j < t * row_length → get_or new j 0 ≡ get_or old j 0
  rows_before Sort.Reference n old new t R j l = ap (λ (r : List ℕ). get_or r j 0) R
  rows_before Sort.Region n old new t R j l = ap (λ (r : List ℕ). get_or r j 0) R
  rows_before Sort.Heap n old new t R j l = R.others j (inl l)
  rows_before Sort.Field n old new t R j l = ap (λ (r : List ℕ). get_or r j 0) R
  rows_before Sort.Class n old new t R j l = ap (λ (r : List ℕ). get_or r j 0) R

  module _ (s : Sort) (n : Name) (numbers rows numbers' rows' : List ℕ) (t : TermNo) (few : t ≤ max_terms)
      (D : VariableRead held s n numbers rows numbers' rows' t) where
    pub variable_shown : Shows (heap_of facts ordered) (value_of (values_of facts ordered) s n) (number_at numbers' t) (row_of rows' t)
    variable_shown =
        subst (λ (k : ℕ). Shows (heap_of facts ordered) (value_of (values_of facts ordered) s n) k (row_of rows' t))
        (sym (ap (λ (l : List ℕ). get_or l t 0) D.number ∙ get_or-set_same numbers t D.value 0 (omega (arith, D.wide))))
        (value_shown s n D.value rows rows' t few (row_size held s n rows rows' t D.row ∙ D.long) D.read D.row)

    -- a further term of the table
    pub variable_more : (table : Table) → WellFormed (at table) → at table t ≡ variable s n → ShownBelow (heap_of facts ordered) (values_of facts ordered) table numbers rows t
        → ShownBelow (heap_of facts ordered) (values_of facts ordered) table numbers' rows' (suc t)
    variable_more table wf e before =
        shown_more table wf H ρ numbers rows numbers' rows' t before
        (λ i l. ap (λ (k : List ℕ). get_or k i 0) D.number ∙ get_or-set_other numbers t i D.value 0 (λ z. omega arith))
        (rows_before s n rows rows' t D.row) D.long (row_size held s n rows rows' t D.row ∙ D.long) few
        (subst (λ (v : Value H). Shows H v (number_at numbers' t) (row_of rows' t)) (sym (value_variable (at table) wf H ρ t s n e)) variable_shown)
