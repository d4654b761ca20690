-- Document 02, 'Let the checker close on equalities by itself': `bck`. The equalities and the order of classes that follow from a branch, and when it closes.
use Rattle.std.specs.Prelude.{◌≡◌, true, List, ℕ, Some, slice_get}
use Rattle.tableau.specs.declared.Sort.{Sort}
use Rattle.tableau.specs.declared.Operator.{Operator}
use Rattle.tableau.specs.declared.Relation.{Relation}
use Rattle.tableau.specs.Basics.{Four}
use Rattle.tableau.specs.Terms.{TermNo, Table, apply, Literal, literal, at, sort_of}
use Rattle.tableau.specs.Steps.{takes_terms}

-- the literal stands on the branch
abbrev pub On : List Literal → Literal → Type 0
On branch l = (i : ℕ) × (slice_get branch i ≡ Some l)

-- THE TWO RELATIONS, `Follows table branch Relation.Eq` and `Follows table branch Relation.Le`: "the smallest pair of relations over the terms in the table that holds the branch's eq
-- and le literals and is closed under `ref`, `sym` on eq, `trn`, `sub` with several differing arguments at once, `ler`, `let`, `lea`, and putting equals for equals in le". A line for each; what no
-- line makes is in neither. Numbers that name no term are let in: no literal has one, and each is equal to itself alone.
pub data Follows (table : Table) (branch : List Literal) : Relation → TermNo → TermNo → Type 0 where
  eq_literal : {a b : TermNo} → On branch (literal Relation.Eq a b) → Follows table branch Relation.Eq a b
  le_literal : {a b : TermNo} → On branch (literal Relation.Le a b) → Follows table branch Relation.Le a b
  ref : {t : TermNo} → Follows table branch Relation.Eq t t
  sym : {a b : TermNo} → Follows table branch Relation.Eq a b → Follows table branch Relation.Eq b a
  trn : {a b c : TermNo} → Follows table branch Relation.Eq a b → Follows table branch Relation.Eq b c → Follows table branch Relation.Eq a c
  -- t and w "have one word, whose arguments are terms and not a name, and has at least one", k and l being these arguments; a field that the word does not use is 0 in both
  sub : {t w : TermNo} {o : Operator} {k l : Four TermNo} → at table t ≡ apply o k → at table w ≡ apply o l → takes_terms o ≡ true
      → Follows table branch Relation.Eq k.a l.a → Follows table branch Relation.Eq k.b l.b
      → Follows table branch Relation.Eq k.c l.c → Follows table branch Relation.Eq k.d l.d
      → Follows table branch Relation.Eq t w
  ler : {t : TermNo} → sort_of (at table t) ≡ Sort.Class → Follows table branch Relation.Le t t
  let' : {a b c : TermNo} → Follows table branch Relation.Le a b → Follows table branch Relation.Le b c → Follows table branch Relation.Le a c
  lea : {a b : TermNo} → Follows table branch Relation.Le a b → Follows table branch Relation.Le b a → Follows table branch Relation.Eq a b
  -- equals for equals, on the left and on the right
  left : {a b c : TermNo} → Follows table branch Relation.Eq a b → Follows table branch Relation.Le a c → Follows table branch Relation.Le b c
  right : {a b c : TermNo} → Follows table branch Relation.Eq b c → Follows table branch Relation.Le a b → Follows table branch Relation.Le a c

-- WHEN `bck` CLOSES: "exactly when some ne literal on the branch has its two sides in the eq relation, or some nl literal its two, left then right, in the le relation"
pub data Contradicted (table : Table) (branch : List Literal) : Type 0 where
  by_ne : {a b : TermNo} → On branch (literal Relation.Ne a b) → Follows table branch Relation.Eq a b → Contradicted table branch
  by_nl : {a b : TermNo} → On branch (literal Relation.Nl a b) → Follows table branch Relation.Le a b → Contradicted table branch
