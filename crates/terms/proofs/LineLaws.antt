-- A T line and an A line, from what each of their checks comes to.
use mathlib.Core.Path.{◌≡◌, refl, sym, ◌∙◌, ap, subst}
use mathlib.Core.Bool.{Bool, true, false, ◌&&◌, not, and-true, true≢false, false≢true}
use mathlib.Core.Logic.{◌⊎◌, ⊎_elim}
use mathlib.Core.List.{[], ◌∷◌, ◌++◌}
use Rattle.std.specs.Prelude.{Option, None, Some, IsSome, IsNone}
use Prim.Native.Nat.{ℕ, ◌≤◌}
use native.Mathlib.Omega.{arith}
use lib.Dec.{leb, ltb}
use lib.ListN.{length}
use borrow.Author.Tests.{leb-true}
use Rattle.tableau.specs.declared.Sort.{Sort}
use Rattle.tableau.specs.declared.Relation.{Relation}
use Rattle.tableau.specs.declared.TermNumber.{TermNumber}
use Rattle.tableau.specs.declared.Reason.{Reason}
use Rattle.tableau.specs.Basics.{is_some, Four, four, every}
use Rattle.tableau.specs.Fields.{unused, of, word_fields, sides}
use Rattle.tableau.specs.Terms.{TermNo, Table, written, max_terms, same_sort, one_sort, at, sort_of}
use Rattle.tableau.specs.Terms as specification
use Rattle.tableau.specs.Tree.{Checked, passed, ◌>>◌, require}
use Rattle.tableau.specs.Reply.{zero_if_unused, is_term, term_or_name, of_sort, is_new, term_line, literal_line}
use Rattle.tableau.proofs.Bools.{both_true}
use Rattle.syntax.specs.declared.Term.{Term}
use Rattle.syntax.specs.declared.Literal.{Literal}
use Rattle.syntax.specs.Syntax.{word_in, fields_in, term_in, literal_in, sides_in}
use Rattle.packing.specs.Packing.{PackableLiteral}
use Rattle.table.specs.Held.{found_of}
use Rattle.terms.specs.Lines.{sides_sorted}

-- A T LINE
pub written_term : (term : Term) → written (word_in term) (fields_in term) ≡ term_in term
written_term (Term.Variable s n) = refl
written_term (Term.Apply o k) = refl

abbrev pub term_checks : Bool → Bool → Bool → Bool → Bool → Table → Checked Table
term_checks six seven eight nine ten table = do
  require six Reason.UnusedField
  require seven Reason.TooManyTerms
  require eight Reason.NoSuchTerm
  require nine Reason.WrongSort
  require ten Reason.TermRepeated
  passed table

pub term_line_lem : (table : Table) (term : Term) {six seven eight nine ten : Bool}
    → every zero_if_unused (word_fields (word_in term)) (fields_in term) ≡ six
    → ltb (length table) max_terms ≡ seven
    → every (term_or_name table) (word_fields (word_in term)) (fields_in term) ≡ eight
    → every (of_sort table) (word_fields (word_in term)) (fields_in term) ≡ nine
    → is_new table (term_in term) ≡ ten
    → term_line table (word_in term) (fields_in term) ≡ term_checks six seven eight nine ten (table ++ (term_in term ∷ []))
unfolding term_line
term_line_lem table term e₆ e₇ e₈ e₉ e₁₀ = λ i.
    term_checks (e₆ i) (e₇ i) (e₈ i) (e₉ i) ((ap (is_new table) (written_term term) ∙ e₁₀) i) (table ++ (written_term term i ∷ []))

-- what a search for the term says of check 10
pub found_old : (o : Option TermNo) {r : Option TermNumber} → r ≡ found_of o → IsSome r
    → not (is_some o) ≡ false
found_old None e h = absurd (false≢true (subst IsSome e h))
found_old (Some t) e h = refl

pub found_new : (o : Option TermNo) {r : Option TermNumber} → r ≡ found_of o → IsNone r → o ≡ None
found_new None e h = refl
found_new (Some t) e h = absurd (true≢false (subst IsNone e h))

-- AN A LINE: a literal leaves fields 5 and 6 to be 0, and both its sides are terms
abbrev pub literal_checks : Bool → Bool → specification.Literal → Checked specification.Literal
literal_checks eight nine l = do
  require eight Reason.NoSuchTerm
  require nine Reason.WrongSort
  passed l

unused_zero_lem : (R : Relation) (l : Literal) → every zero_if_unused (sides R) (sides_in l) ≡ true
unfolding sides
unused_zero_lem Relation.In l = refl
unused_zero_lem Relation.Ni l = refl
unused_zero_lem Relation.Eq l = refl
unused_zero_lem Relation.Ne l = refl
unused_zero_lem Relation.Le l = refl
unused_zero_lem Relation.Nl l = refl

pub literal_line_lem : (table : Table) (l : Literal) {eight nine : Bool}
    → every (term_or_name table) (sides l.relation) (sides_in l) ≡ eight
    → sides_sorted table l.relation (sides_in l) ≡ nine
    → literal_line table (sides l.relation) l.relation (sides_in l) ≡ literal_checks eight nine (literal_in l)
unfolding literal_line
literal_line_lem table l e₈ e₉ = λ i.
    require (unused_zero_lem l.relation l i) Reason.UnusedField >> literal_checks (e₈ i) (e₉ i) (literal_in l)

-- two tests, the second run only if the first holds
pub first_decides : {x r : Bool} (y : Bool) → r ≡ x → r ≡ false → r ≡ (x && y)
first_decides y e n = n ∙ λ i. (sym n ∙ e) i && y

pub second_decides : {x y r₁ r : Bool} → r₁ ≡ x → r₁ ≡ true → r ≡ y → r ≡ (x && y)
second_decides e₁ t e = λ i. (sym t ∙ e₁) i && e i

two_tests : (x y : Bool) → (x && y) ≡ (x && (y && true))
two_tests x y = ap (λ (b : Bool). x && b) (sym (and-true y))

pub both_terms : (table : Table) (R : Relation) (k : Four ℕ)
    → (is_term table k.a && is_term table k.b) ≡ every (term_or_name table) (sides R) k
unfolding sides
both_terms table Relation.In k = two_tests (is_term table k.a) (is_term table k.b)
both_terms table Relation.Ni k = two_tests (is_term table k.a) (is_term table k.b)
both_terms table Relation.Eq k = two_tests (is_term table k.a) (is_term table k.b)
both_terms table Relation.Ne k = two_tests (is_term table k.a) (is_term table k.b)
both_terms table Relation.Le k = two_tests (is_term table k.a) (is_term table k.b)
both_terms table Relation.Nl k = two_tests (is_term table k.a) (is_term table k.b)

-- check 9: the sorts of both sides, by the relation
module _ (table : Table) (l : Literal) where
  abbrev left_sort : Sort
  left_sort = sort_of (at table l.left.0)

  abbrev right_sort : Sort
  right_sort = sort_of (at table l.right.0)

  abbrev sorted : Relation → Bool
  sorted R = sides_sorted table R (sides_in l)

  -- each has its own
  both_sorted : (s s' : Sort) → (same_sort s left_sort && same_sort s' right_sort)
      ≡ (every (of_sort table) (four (of s) (of s') unused unused) (sides_in l) && true)
  both_sorted s s' = two_tests (same_sort s left_sort) (same_sort s' right_sort) ∙ sym (and-true _)

  pub member_sorts : (l.relation ≡ Relation.In) ⊎ (l.relation ≡ Relation.Ni)
      → (same_sort Sort.Reference left_sort && same_sort Sort.Region right_sort) ≡ sorted l.relation
  unfolding sides one_sort
  member_sorts = ⊎_elim (λ e. both_sorted Sort.Reference Sort.Region ∙ sym (ap sorted e))
      (λ e. both_sorted Sort.Reference Sort.Region ∙ sym (ap sorted e))

  pub class_sorts : (l.relation ≡ Relation.Le) ⊎ (l.relation ≡ Relation.Nl)
      → (same_sort Sort.Class left_sort && same_sort Sort.Class right_sort) ≡ sorted l.relation
  unfolding sides one_sort
  class_sorts = ⊎_elim (λ e. both_sorted Sort.Class Sort.Class ∙ sym (ap sorted e))
      (λ e. both_sorted Sort.Class Sort.Class ∙ sym (ap sorted e))

  -- both have one
  pub one_sort_of_both : (l.relation ≡ Relation.Eq) ⊎ (l.relation ≡ Relation.Ne)
      → same_sort left_sort right_sort ≡ sorted l.relation
  unfolding sides one_sort
  one_sort_of_both = ⊎_elim (λ e. sym (ap sorted e)) (λ e. sym (ap sorted e))

-- so the sides of a literal that passed check 8 can be packed
pub sides_packable : (table : Table) (l : Literal) → length table ≤ max_terms
    → every (term_or_name table) (sides l.relation) (sides_in l) ≡ true → PackableLiteral (literal_in l)
sides_packable table l few h =
    let b = both_true (is_term table l.left.0) _ (both_terms table l.relation (sides_in l) ∙ h) in
    let m : l.left.0 ≤ length table = leb-true _ _ (both_true (leb 1 l.left.0) _ b.0).1 in
    let n : l.right.0 ≤ length table = leb-true _ _ (both_true (leb 1 l.right.0) _ b.1).1 in
    (omega arith, omega arith)
