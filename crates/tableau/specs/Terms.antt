-- 'T lines', 'A lines' and C lines: terms and their table, literals, clauses.
use Rattle.std.specs.Prelude.{Bool, true, false, ◌&&◌, ◌||◌, cond, List, [], ◌∷◌, map, ℕ, zero, suc, eqb, leb, length, Option, None, Some}
use Rattle.tableau.specs.declared.Sort.{Sort}
use Rattle.tableau.specs.declared.Operator.{Operator}
use Rattle.tableau.specs.declared.Word.{Word}
use Rattle.tableau.specs.declared.Relation.{Relation}
use Rattle.tableau.specs.Basics.{is_some, Four, four, every}
use Rattle.tableau.specs.Fields.{arguments, if_argument}

-- "Places, term numbers and names are three separate kinds of count throughout", and clause numbers a fourth.
abbrev pub Place : Type 0
Place = ℕ

abbrev pub TermNo : Type 0
TermNo = ℕ

abbrev pub Name : Type 0
Name = ℕ

abbrev pub ClauseNo : Type 0
ClauseNo = ℕ

-- the sort of an operator's terms
unfoldable pub result : Operator → Sort
result Operator.Nul = Sort.Reference
result Operator.Rea = Sort.Reference
result Operator.Emp = Sort.Region
result Operator.All = Sort.Region
result Operator.Cup = Sort.Region
result Operator.Cap = Sort.Region
result Operator.Dif = Sort.Region
result Operator.Sin = Sort.Region
result Operator.Img = Sort.Region
result Operator.Wri = Sort.Heap
result Operator.Typ = Sort.Class
result Operator.Dty = Sort.Class

-- A term: "a variable is an `rfv`, `rgv`, `arv`, `fnv` or `clv` with its name"; else an operator with fields 3 to 6, numbers of terms.
pub data Term : Type 0 where
  variable : Sort → Name → Term
  apply : Operator → Four TermNo → Term

abbrev pub sort_of : Term → Sort
unfolding result
sort_of (variable s n) = s
sort_of (apply o k) = result o

-- the term that a T line writes
abbrev pub written : Word → Four ℕ → Term
written (Word.Variable s) n = variable s n.a
written (Word.Operation o) n = apply o n

-- Tests of equality, by the places of the variants.
unfoldable pub sort_index : Sort → ℕ
sort_index Sort.Reference = 0
sort_index Sort.Region = 1
sort_index Sort.Heap = 2
sort_index Sort.Field = 3
sort_index Sort.Class = 4

unfoldable pub operator_index : Operator → ℕ
operator_index Operator.Nul = 0
operator_index Operator.Rea = 1
operator_index Operator.Emp = 2
operator_index Operator.All = 3
operator_index Operator.Cup = 4
operator_index Operator.Cap = 5
operator_index Operator.Dif = 6
operator_index Operator.Sin = 7
operator_index Operator.Img = 8
operator_index Operator.Wri = 9
operator_index Operator.Typ = 10
operator_index Operator.Dty = 11

unfoldable pub relation_index : Relation → ℕ
relation_index Relation.In = 0
relation_index Relation.Ni = 1
relation_index Relation.Eq = 2
relation_index Relation.Ne = 3
relation_index Relation.Le = 4
relation_index Relation.Nl = 5

abbrev pub same_sort : Sort → Sort → Bool
same_sort s s' = eqb (sort_index s) (sort_index s')

abbrev pub same_operator : Operator → Operator → Bool
same_operator o o' = eqb (operator_index o) (operator_index o')

abbrev pub same_relation : Relation → Relation → Bool
same_relation R R' = eqb (relation_index R) (relation_index R')

abbrev pub same_term : Term → Term → Bool
same_term (variable s n) (variable s' n') = same_sort s s' && eqb n n'
same_term (variable s n) (apply o k) = false
same_term (apply o k) (variable s n) = false
same_term (apply o k) (apply o' k') = same_operator o o' && every eqb k k'

-- THE TERM TABLE: "terms numbered from 1, at most 600".
abbrev pub Table : Type 0
Table = List Term

abbrev pub max_terms : ℕ
max_terms = 600

-- term n; a number that no term has is read as `nul`, and never asked
abbrev pub no_term : Term
no_term = apply Operator.Nul (four 0 0 0 0)

abbrev pub at : Table → TermNo → Term
at [] n = no_term
at (e ∷ es) zero = no_term
at (e ∷ es) (suc zero) = e
at (e ∷ es) (suc (suc n)) = at es (suc n)

-- "No term is written twice, so equal terms have equal numbers": the number of a term, if it stands in the table
unfoldable pub number_from : ℕ → Table → Term → Option TermNo
number_from i [] e = None
number_from i (x ∷ xs) e = cond (same_term e x) (Some i) (number_from (suc i) xs e)

abbrev pub number_of : Table → Term → Option TermNo
number_of = number_from 1

-- A fold over a table: what a variable gives, and what an operator gives from what its arguments gave (z for an unused field).
-- "Arguments are earlier terms", so term t needs depth t.
module _ {A : Type 0} (on_variable : TermNo → Sort → Name → A) (on_apply : TermNo → Operator → Four A → A) (z : A) (table : TermNo → Term) where
  unfoldable pub layer : TermNo → Term → (TermNo → A) → A
  layer t (variable s n) below = on_variable t s n
  layer t (apply o k) below = on_apply t o (four
      (if_argument (arguments o).a (below k.a) z) (if_argument (arguments o).b (below k.b) z)
      (if_argument (arguments o).c (below k.c) z) (if_argument (arguments o).d (below k.d) z))

  unfoldable pub to_depth : ℕ → TermNo → A
  to_depth zero t = z
  to_depth (suc k) t = layer t (table t) (to_depth k)

  unfoldable pub fold : TermNo → A
  fold t = to_depth (suc t) t

-- does the term w stand in the term t, as the whole or inside?
unfoldable pub mentions : (TermNo → Term) → TermNo → TermNo → Bool
mentions table w = fold (λ t s n. eqb t w) (λ t o m. eqb t w || (m.a || (m.b || (m.c || m.d)))) false table

-- LITERALS: "a word and two terms".
pub data Literal : Type 0 where
  literal : Relation → TermNo → TermNo → Literal

unfoldable pub one_sort : Relation → Sort → Sort → Bool
one_sort Relation.In s s' = true
one_sort Relation.Ni s s' = true
one_sort Relation.Eq s s' = same_sort s s'
one_sort Relation.Ne s s' = same_sort s s'
one_sort Relation.Le s s' = true
one_sort Relation.Nl s s' = true

-- does the literal mention w?
abbrev pub mentioned_in : (TermNo → Term) → TermNo → Literal → Bool
mentioned_in table w (literal R m n) = mentions table w m || mentions table w n

-- "the first branch place that mentions w", if there is one; the literals' places count from i
unfoldable pub place_from : Place → (TermNo → Term) → TermNo → List Literal → Option Place
place_from i table w [] = None
place_from i table w (l ∷ ls) = cond (mentioned_in table w l) (Some i) (place_from (suc i) table w ls)

abbrev pub first_place : (TermNo → Term) → TermNo → List Literal → Option Place
first_place = place_from 1

-- does any of the literals mention w?
abbrev pub mentioned : (TermNo → Term) → TermNo → List Literal → Bool
mentioned table w ls = is_some (first_place table w ls)

-- CLAUSES: the literals of the C lines, in their order, each with the number of its clause.
pub record Disjunct : Type 0 where
  pub clause : ClauseNo
  pub is : Literal

abbrev pub Clauses : Type 0
Clauses = List Disjunct

abbrev pub disjuncts : Clauses → List Literal
disjuncts C = map (λ d. d.is) C

-- clause k: the literals with its number
unfoldable pub clause_of : Clauses → ClauseNo → List Literal
clause_of [] k = []
clause_of (d ∷ C) k = cond (eqb d.clause k) (d.is ∷ clause_of C k) (clause_of C k)

-- the number of the last clause, 0 where there is none
unfoldable pub last_clause : Clauses → ClauseNo
last_clause [] = 0
last_clause (d ∷ []) = d.clause
last_clause (d ∷ e ∷ C) = last_clause (e ∷ C)

-- how many C lines there are up to the last of clause k
unfoldable pub lines_to : Clauses → ClauseNo → ℕ
lines_to [] k = 0
lines_to (d ∷ C) k = cond (leb 1 (length (clause_of C k))) (suc (lines_to C k)) (cond (eqb d.clause k) 1 0)
