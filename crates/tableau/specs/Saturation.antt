-- `bck`, computed. Nobody need believe this file: `contradicted` is true exactly where `Contradicted` of Background.antt holds (`ExactlyContradicted`, proofs/SaturationExact.antt).
use Rattle.std.specs.Prelude.{Bool, true, false, ◌&&◌, ◌||◌, List, [], ◌∷◌, ◌++◌, ℕ, zero, suc, max, eqb, length, Option, None, Some}
use Rattle.tableau.specs.declared.Sort.{Sort}
use Rattle.tableau.specs.declared.Relation.{Relation}
use Rattle.tableau.specs.Basics.{every}
use Rattle.tableau.specs.Terms.{TermNo, Table, Term, variable, apply, Literal, literal, at, sort_of, same_sort, same_operator, same_relation}
use Rattle.tableau.specs.Steps.{takes_terms}

-- is it among these literals?
unfoldable pub has : List Literal → Relation → TermNo → TermNo → Bool
has [] R a b = false
has (literal R' a' b' ∷ ls) R a b = (same_relation R R' && (eqb a a' && eqb b b')) || has ls R a b

-- does the test hold of a number below n?
unfoldable pub some_below : ℕ → (ℕ → Bool) → Bool
some_below zero f = false
some_below (suc n) f = f n || some_below n f

-- no term has this number or a larger one, in the table or on the branch
unfoldable pub bound : List Literal → ℕ → ℕ
bound [] n = suc n
bound (literal R a b ∷ ls) n = max (suc a) (max (suc b) (bound ls n))

module _ (table : Table) (branch : List Literal) (known : List Literal) where
  abbrev pub equal : TermNo → TermNo → Bool
  equal a b = eqb a b || has known Relation.Eq a b

  abbrev pub below : TermNo → TermNo → Bool
  below a b = has known Relation.Le a b

  abbrev pub alike : Term → Term → Bool
  alike (variable s n) e = false
  alike (apply o k) (variable s n) = false
  alike (apply o k) (apply o' l) = takes_terms o && (same_operator o o' && every equal k l)

  abbrev pub between : (ℕ → Bool) → Bool
  between f = some_below (bound branch (length table)) f

  -- in one step: the branch's, sym, trn, sub, lea; the branch's, ler, let, equals for equals
  unfoldable pub one_step : Literal → Bool
  one_step (literal Relation.Eq a b) =
      has branch Relation.Eq a b || (equal b a || (between (λ c. equal a c && equal c b) || (alike (at table a) (at table b) || (below a b && below b a))))
  one_step (literal Relation.Le a b) =
      has branch Relation.Le a b || ((eqb a b && same_sort Sort.Class (sort_of (at table a))) || (between (λ c. below a c && below c b)
      || (between (λ c. equal c a && below c b) || between (λ c. equal c b && below a c))))
  one_step (literal Relation.In a b) = false
  one_step (literal Relation.Ni a b) = false
  one_step (literal Relation.Ne a b) = false
  one_step (literal Relation.Nl a b) = false

  -- the first of the literals that follows, and the others
  abbrev pub behind : Literal → Option (Literal × List Literal) → Option (Literal × List Literal)
  behind l None = None
  behind l (Some x) = Some (x.0, l ∷ x.1)

  abbrev pub pick : Bool → Literal → List Literal → Option (Literal × List Literal) → Option (Literal × List Literal)
  pick true l ls m = Some (l, ls)
  pick false l ls m = behind l m

  unfoldable pub next : List Literal → Option (Literal × List Literal)
  next [] = None
  next (l ∷ ls) = pick (one_step l) l ls (next ls)

-- every eq and le literal of numbers below n
unfoldable pub with_right : ℕ → ℕ → List Literal
with_right a zero = []
with_right a (suc b) = literal Relation.Eq a b ∷ literal Relation.Le a b ∷ with_right a b

unfoldable pub all_below : ℕ → ℕ → List Literal
all_below zero n = []
all_below (suc a) n = with_right a n ++ all_below a n

module _ (table : Table) (branch : List Literal) where
  -- from no literal on, as long as some eq or le literal follows in one step from those found, it is added to them: at most `fuel` more, out of `todo`
  unfoldable pub saturate : ℕ → List Literal → List Literal → List Literal
  saturate zero known todo = known
  saturate (suc fuel) known todo = elim (next table branch known todo) [ None ↦ known | Some x ↦ saturate fuel (x.0 ∷ known) x.1 ]

  abbrev pub universe : List Literal
  universe = all_below (bound branch (length table)) (bound branch (length table))

  unfoldable pub closure : List Literal
  closure = saturate (length universe) [] universe

  abbrev pub denies : List Literal → Literal → Bool
  denies known (literal Relation.Ne a b) = equal table branch known a b
  denies known (literal Relation.Nl a b) = below table branch known a b
  denies known (literal Relation.In a b) = false
  denies known (literal Relation.Ni a b) = false
  denies known (literal Relation.Eq a b) = false
  denies known (literal Relation.Le a b) = false

  unfoldable pub any_denies : List Literal → List Literal → Bool
  any_denies known [] = false
  any_denies known (l ∷ ls) = denies known l || any_denies known ls

  -- WHETHER `bck` CLOSES
  unfoldable pub contradicted : Bool
  contradicted = any_denies closure branch
