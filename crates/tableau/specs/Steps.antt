-- What a rule concludes on a branch: its needs (check 12), whether it asks for a fresh w, and what is fresh (check 13), the literals it adds (check 14).
use Rattle.std.specs.Prelude.{Bool, true, false, ◌&&◌, ◌||◌, cond, List, [], ◌∷◌, map, ℕ, eqb, Option, None, Some}
use Rattle.tableau.specs.declared.Freshness.{Freshness}
use Rattle.tableau.specs.declared.Sort.{Sort}
use Rattle.tableau.specs.declared.Operator.{Operator}
use Rattle.tableau.specs.declared.Relation.{Relation}
use Rattle.tableau.specs.Basics.{then, guard, Four, four, every}
use Rattle.tableau.specs.Fields.{arguments, if_argument}
use Rattle.tableau.specs.Terms.{Place, TermNo, Table, Term, variable, apply, Literal, literal, at, number_of, sort_of, same_sort, same_operator, same_relation, first_place, mentioned, Clauses, disjuncts}
use Rattle.tableau.specs.Rules.{Pattern, letter, operator, –, LiteralPattern, pattern, Need, p∶, q∶, is, is_region, Row, Kind, rows, congruence, replacement, disjunction, background, letter_t, letter_w}

-- An instance of a row: the term that each of its letters stands for.
abbrev pub Letters : Type 0
Letters = ℕ → Option TermNo

abbrev pub unbound : Letters
unbound = λ x. None

abbrev pub bind : Letters → ℕ → TermNo → Letters
bind σ x n = λ z. cond (eqb z x) (Some n) (σ z)

-- a letter stands for the first term that it meets, and fits no other
abbrev pub fits_letter : Option TermNo → ℕ → TermNo → Letters → Option Letters
fits_letter None x n σ = Some (bind σ x n)
fits_letter (Some m) x n σ = guard (eqb m n) (Some σ)

-- the arguments of a term of the given operator
abbrev pub arguments_of : Operator → Term → Option (Four TermNo)
arguments_of o (variable s n) = None
arguments_of o (apply o' k) = guard (same_operator o o') (Some k)

-- Does the term n fit the pattern, and what do the letters stand for then?
module _ (table : TermNo → Term) where
  unfoldable pub fits : Pattern → TermNo → Letters → Option Letters
  fits (letter x) n σ = fits_letter (σ x) x n σ
  fits (operator o k l m j) n σ =
      then (arguments_of o (table n)) λ i.
      then (if_argument (arguments o).a (fits k i.a σ) (Some σ)) λ σ₁.
      then (if_argument (arguments o).b (fits l i.b σ₁) (Some σ₁)) λ σ₂.
      then (if_argument (arguments o).c (fits m i.c σ₂) (Some σ₂)) λ σ₃.
      if_argument (arguments o).d (fits j i.d σ₃) (Some σ₃)
  fits – n σ = None

  unfoldable pub fits_literal : LiteralPattern → Literal → Letters → Option Letters
  fits_literal (pattern R k l) (literal R' m n) σ = guard (same_relation R R') (then (fits k m σ) λ σ₁. fits l n σ₁)

  -- the term of a pattern that is a letter
  abbrev pub term_of : Pattern → Letters → Option TermNo
  term_of (letter x) σ = σ x
  term_of (operator o k l m j) σ = None
  term_of – σ = None

  -- Are the needs met, where P and Q are the literals at places p and q?
  unfoldable pub met : List Need → Option Literal → Option Literal → Letters → Option Letters
  met [] P Q σ = Some σ
  met (p∶ l ∷ ns) P Q σ = then P λ L. then (fits_literal l L σ) λ σ₁. met ns P Q σ₁
  met (q∶ l ∷ ns) P Q σ = then Q λ L. then (fits_literal l L σ) λ σ₁. met ns P Q σ₁
  met (is x other k ∷ ns) P Q σ = then (σ x) λ n. then (fits k n σ) λ σ₁. met ns P Q σ₁
  met (is_region k ∷ ns) P Q σ = then (term_of k σ) λ n. guard (same_sort Sort.Region (sort_of (table n))) (met ns P Q σ)

-- "Every term in an added literal must stand in the table, in all alternatives."
module _ (table : Table) where
  -- the number of the term that a pattern stands for
  unfoldable pub made : Pattern → Letters → Option TermNo
  made (letter x) σ = σ x
  made (operator o k l m j) σ =
      then (if_argument (arguments o).a (made k σ) (Some 0)) λ a.
      then (if_argument (arguments o).b (made l σ) (Some 0)) λ b.
      then (if_argument (arguments o).c (made m σ) (Some 0)) λ c.
      then (if_argument (arguments o).d (made j σ) (Some 0)) λ d.
      number_of table (apply o (four a b c d))
  made – σ = None

  unfoldable pub made_literals : List LiteralPattern → Letters → Option (List Literal)
  made_literals [] σ = Some []
  made_literals (pattern R k l ∷ ls) σ = then (made k σ) λ m. then (made l σ) λ n. then (made_literals ls σ) λ ms. Some (literal R m n ∷ ms)

  unfoldable pub made_alternatives : List (List LiteralPattern) → Letters → Option (List (List Literal))
  made_alternatives [] σ = Some []
  made_alternatives (l ∷ ls) σ = then (made_literals l σ) λ k. then (made_alternatives ls σ) λ ks. Some (k ∷ ks)

-- "'Fresh' means an `rfv` term that occurs in no literal now on the branch, not even inside a larger term"; it "must also be absent from every
-- clause, split or not". Where w is not fresh, the first place on the branch that mentions it goes with the answer, "0 .. for a w that isn't an `rfv`, and for a w found
-- only in a clause".
abbrev pub is_rfv : Term → Bool
is_rfv (variable s n) = same_sort Sort.Reference s
is_rfv (apply o k) = false

abbrev pub not_fresh : Place → Freshness
not_fresh p = Freshness.NotFresh (record { 0 = p })

-- from whether w is an `rfv`, the first place on the branch that mentions it, and whether a clause does
abbrev pub fresh_if : Bool → Option Place → Bool → Freshness
fresh_if false p in_clause = not_fresh 0
fresh_if true (Some p) in_clause = not_fresh p
fresh_if true None true = not_fresh 0
fresh_if true None false = Freshness.Fresh

unfoldable pub freshness : Table → Clauses → List Literal → TermNo → Freshness
freshness table C branch w = fresh_if (is_rfv (at table w)) (first_place (at table) w branch) (mentioned (at table) w (disjuncts C))

-- What a rule whose needs are met concludes: whether w has to be fresh, and the alternatives, if the table has all their terms.
pub record Conclusion : Type 0 where
  pub fresh : Bool
  pub adds : Option (List (List Literal))

-- one literal, of terms that stand in the table
abbrev pub adds_one : Literal → Conclusion
adds_one l = record { fresh = false; adds = Some ((l ∷ []) ∷ []) }

-- `sub`: "a eq b; t, w have one word, whose arguments are terms and not a name, and has at least one; at each argument they agree, or
-- t has a and w has b"
abbrev pub agree : TermNo → TermNo → TermNo → TermNo → Bool
agree a b m n = eqb m n || (eqb m a && eqb n b)

unfoldable pub takes_terms : Operator → Bool
takes_terms o = if_argument (arguments o).a true false

abbrev pub congruent : TermNo → TermNo → Term → Term → Bool
congruent a b (variable s n) e = false
congruent a b (apply o k) (variable s n) = false
congruent a b (apply o k) (apply o' k') = takes_terms o && (same_operator o o' && every (agree a b) k k')

unfoldable pub conclude_sub : Table → Literal → TermNo → TermNo → Option Conclusion
conclude_sub table (literal R a b) t w =
    guard (same_relation Relation.Eq R && congruent a b (at table t) (at table w)) (Some (adds_one (literal Relation.Eq t w)))

-- `rep`: "any literal; a eq b; side t (1 left, 2 right) is a", and adds "p's literal with b on that side"
unfoldable pub conclude_rep : Literal → Literal → ℕ → Option Conclusion
conclude_rep (literal R m n) (literal E a b) t =
    guard (same_relation Relation.Eq E)
    (cond (eqb t 1 && eqb m a) (Some (adds_one (literal R b n)))
    (cond (eqb t 2 && eqb n a) (Some (adds_one (literal R m b)))
    None))

-- `cla`: "splits into its literals in order", one to an alternative
abbrev pub splits_into : List Literal → Conclusion
splits_into D = record { fresh = false; adds = Some (map (λ l. l ∷ []) D) }

-- a closing
abbrev pub closing : Conclusion
closing = record { fresh = false; adds = Some [] }

-- The letters t and w as the line gives them; a row that asks for a fresh w uses no t.
abbrev pub given : Bool → TermNo → TermNo → Letters
given true t w = bind unbound letter_w w
given false t w = bind (bind unbound letter_w w) letter_t t

module _ (table : Table) (P Q : Option Literal) (t w : ℕ) where
  abbrev pub or_else : Option Letters → Row → Option Conclusion → Option Conclusion
  or_else None R c = c
  or_else (Some σ) R c = Some (record { fresh = R.fresh; adds = made_alternatives table R.adds σ })

  -- the first row whose needs are met
  unfoldable pub conclude_rows : List Row → Option Conclusion
  conclude_rows [] = None
  conclude_rows (R ∷ Rs) = or_else (met (at table) R.needs P Q (given R.fresh t w)) R (conclude_rows Rs)

  -- D are the literals of clause t, E says whether the branch's equalities and order contradict it; none: what the rule needs isn't so
  unfoldable pub conclude : List Literal → Bool → Kind → Option Conclusion
  conclude D E (rows Rs) = conclude_rows Rs
  conclude D E congruence = then P λ L. conclude_sub table L t w
  conclude D E replacement = then P λ L. then Q λ M. conclude_rep L M t
  conclude D E disjunction = Some (splits_into D)
  conclude D E background = guard E (Some closing)
