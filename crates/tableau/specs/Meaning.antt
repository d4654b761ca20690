-- 'Meaning': finite heaps, the values of terms, and when a literal is true, or one of every clause. Nothing here knows of rules or replies.
use Rattle.std.specs.Prelude.{◌≡◌, refl, Bool, true, false, not, cond, List, [], ◌∷◌, ◌⊎◌, ℕ, zero, suc, ◌<◌, eqb, length}
use Rattle.std.proofs.lemmas.Bool.{false≢true}
use Rattle.std.proofs.Common.{lt-suc_self, le_trans}
use Rattle.std.proofs.Math.Nat.{le-suc}
use Rattle.tableau.specs.declared.Sort.{Sort}
use Rattle.tableau.specs.declared.Operator.{Operator}
use Rattle.tableau.specs.declared.Relation.{Relation}
use Rattle.tableau.specs.Basics.{Four}
use Rattle.tableau.specs.Terms.{Name, TermNo, ClauseNo, Term, Literal, literal, fold, Clauses, clause_of}

infixl 35 ◌and◌
infixl 30 ◌or◌
-- both; at least one (not unfolded of themselves, so that a proof can read off the two sides)
unfoldable pub ◌and◌ : Bool → Bool → Bool
true and b = b
false and b = false

unfoldable pub ◌or◌ : Bool → Bool → Bool
true or b = true
false or b = b

-- The elements of a finite set of size n: the numbers below n.
abbrev pub Below : ℕ → Type 0
Below n = (i : ℕ) × (i < n)

abbrev pub same : {n : ℕ} → Below n → Below n → Bool
same x y = eqb x.0 y.0

abbrev pub widen : {n : ℕ} → Below n → Below (suc n)
widen {n} x = (x.0, le_trans x.1 (le-suc n))

-- does the test hold of one of them?
unfoldable pub any : (n : ℕ) → (Below n → Bool) → Bool
any zero f = false
any (suc n) f = f (n, lt-suc_self n) or any n (λ x. f (widen x))

-- "A finite heap has a finite set of references with `nul` in it, non-empty finite sets of fields and classes, and a partial order
-- `le` on classes. `all` is a set of references without `nul`[.] `typ` and `dty` are total."
pub record FiniteHeap : Type 0 where
  pub references : ℕ
  pub fields : ℕ
  pub classes : ℕ
  pub nul : Below references
  pub a_field : Below fields
  pub a_class : Below classes
  pub le : Below classes → Below classes → Bool
  pub le_refl : (c : Below classes) → le c c ≡ true
  pub le_trans : (b c d : Below classes) → le b c ≡ true → le c d ≡ true → le b d ≡ true
  pub le_anti : (b c : Below classes) → le b c ≡ true → le c b ≡ true → b ≡ c
  pub all : Below references → Bool
  pub all_nul : all nul ≡ false
  -- nothing need be allocated
  pub typ : Below references → Below classes
  pub dty : Below fields → Below classes

module _ (H : FiniteHeap) where
  abbrev pub Ref : Type 0
  Ref = Below H.references

  abbrev pub Field : Type 0
  Field = Below H.fields

  abbrev pub Class : Type 0
  Class = Below H.classes

  -- "Regions are subsets of `all`."
  pub record Region : Type 0 where
    pub has : Ref → Bool
    pub inside : (x : Ref) → has x ≡ true → H.all x ≡ true

  -- "A heap value gives a reference for every reference and field; two are equal when they agree everywhere."
  abbrev pub Store : Type 0
  Store = Ref → Field → Ref

  -- The value of a term, of one of the five sorts.
  pub data Value : Type 0 where
    reference : Ref → Value
    region : Region → Value
    heap : Store → Value
    field : Field → Value
    class : Class → Value

pub and_left : (a b : Bool) → a and b ≡ true → a ≡ true
unfolding ◌and◌
and_left true b e = refl
and_left false b e = absurd (false≢true e)

-- the part of a set that is in `all`
abbrev pub within : (H : FiniteHeap) → (Ref H → Bool) → Region H
within H f = record { has = λ x. H.all x and f x; inside = λ x e. and_left (H.all x) (f x) e }

-- the sort of a value
abbrev pub kind : {H : FiniteHeap} → Value H → Sort
kind (reference x) = Sort.Reference
kind (region r) = Sort.Region
kind (heap h) = Sort.Heap
kind (field f) = Sort.Field
kind (class c) = Sort.Class

-- A value as one of a given sort. Of a value of another sort it is never asked, and the answer is `nul`, the empty region, the
-- heap value that gives `nul` everywhere, or some field or class.
module _ {H : FiniteHeap} where
  abbrev pub is_ref : Value H → Bool
  is_ref (reference x) = true
  is_ref (region r) = false
  is_ref (heap h) = false
  is_ref (field f) = false
  is_ref (class c) = false

  abbrev pub is_class : Value H → Bool
  is_class (reference x) = false
  is_class (region r) = false
  is_class (heap h) = false
  is_class (field f) = false
  is_class (class c) = true

  abbrev pub as_ref : Value H → Ref H
  as_ref (reference x) = x
  as_ref (region r) = H.nul
  as_ref (heap h) = H.nul
  as_ref (field f) = H.nul
  as_ref (class c) = H.nul

  abbrev pub as_region : Value H → Region H
  as_region (reference x) = within H (λ y. false)
  as_region (region r) = r
  as_region (heap h) = within H (λ y. false)
  as_region (field f) = within H (λ y. false)
  as_region (class c) = within H (λ y. false)

  abbrev pub as_store : Value H → Store H
  as_store (reference x) = λ y g. H.nul
  as_store (region r) = λ y g. H.nul
  as_store (heap h) = h
  as_store (field f) = λ y g. H.nul
  as_store (class c) = λ y g. H.nul

  abbrev pub as_field : Value H → Field H
  as_field (reference x) = H.a_field
  as_field (region r) = H.a_field
  as_field (heap h) = H.a_field
  as_field (field f) = f
  as_field (class c) = H.a_field

  abbrev pub as_class : Value H → Class H
  as_class (reference x) = H.a_class
  as_class (region r) = H.a_class
  as_class (heap h) = H.a_class
  as_class (field f) = H.a_class
  as_class (class c) = c

-- "`wri` changes one entry."
abbrev pub write : (H : FiniteHeap) → Store H → Ref H → Field H → Ref H → Store H
write H h u f v y g = cond (same u y and same f g) v (h y g)

-- the references that h gives for the field f of members a of r with "`typ`(a) `le` `dty`(f)"
abbrev pub image : (H : FiniteHeap) → Store H → Region H → Field H → Ref H → Bool
image H h r f x = any H.references (λ a. r.has a and H.le (H.typ a) (H.dty f) and same (h a f) x)

-- The meaning of the operators. "`sin`(u) holds u if u is in `all`, else nothing. `img`(h,r,f) holds those `rea`(h,a,f) that are in
-- `all`, for a in r with `typ`(a) `le` `dty`(f). The other symbols have their usual meaning."
unfoldable pub operation : (H : FiniteHeap) → Operator → Four (Value H) → Value H
operation H Operator.Nul v = reference H.nul
operation H Operator.Rea v = reference (as_store v.a (as_ref v.b) (as_field v.c))
operation H Operator.Emp v = region (within H (λ x. false))
operation H Operator.All v = region (within H (λ x. true))
operation H Operator.Cup v = region (within H (λ x. (as_region v.a).has x or (as_region v.b).has x))
operation H Operator.Cap v = region (within H (λ x. (as_region v.a).has x and (as_region v.b).has x))
operation H Operator.Dif v = region (within H (λ x. (as_region v.a).has x and not ((as_region v.b).has x)))
operation H Operator.Sin v = region (within H (λ x. same x (as_ref v.a)))
operation H Operator.Img v = region (within H (image H (as_store v.a) (as_region v.b) (as_field v.c)))
operation H Operator.Wri v = heap (write H (as_store v.a) (as_ref v.b) (as_field v.c) (as_ref v.d))
operation H Operator.Typ v = class (H.typ (as_ref v.a))
operation H Operator.Dty v = class (H.dty (as_field v.a))

-- Values of the variables: "any value of its sort, the same wherever it stands; that of an `rfv` need not be allocated".
pub record Values (H : FiniteHeap) : Type 0 where
  pub rfv : Name → Ref H
  pub rgv : Name → Region H
  pub arv : Name → Store H
  pub fnv : Name → Field H
  pub clv : Name → Class H

unfoldable pub value_of : {H : FiniteHeap} → Values H → Sort → Name → Value H
value_of ρ Sort.Reference n = reference (ρ.rfv n)
value_of ρ Sort.Region n = region (ρ.rgv n)
value_of ρ Sort.Heap n = heap (ρ.arv n)
value_of ρ Sort.Field n = field (ρ.fnv n)
value_of ρ Sort.Class n = class (ρ.clv n)

-- "A finite heap and a value for each variable give every term one value"
abbrev pub value : {H : FiniteHeap} → Values H → (TermNo → Term) → TermNo → Value H
value {H} ρ table = fold (λ t. value_of ρ) (λ t. operation H) (reference H.nul) table

-- membership, and the order of classes; false where the sorts are wrong
abbrev pub is_in : {H : FiniteHeap} → Value H → Value H → Bool
is_in u r = is_ref u and (as_region r).has (as_ref u)

abbrev pub is_le : {H : FiniteHeap} → Value H → Value H → Bool
is_le {H} b c = is_class b and is_class c and H.le (as_class b) (as_class c)

-- "`ni`, `ne` and `nl` deny `in`, `eq` and `le`."
abbrev pub Holds : {H : FiniteHeap} → Relation → Value H → Value H → Type 0
Holds Relation.In x y = is_in x y ≡ true
Holds Relation.Ni x y = is_in x y ≡ false
Holds Relation.Eq x y = x ≡ y
Holds Relation.Ne x y = ¬ (x ≡ y)
Holds Relation.Le x y = is_le x y ≡ true
Holds Relation.Nl x y = is_le x y ≡ false

-- ".. and make every literal true or false."
abbrev pub True : {H : FiniteHeap} → Values H → (TermNo → Term) → Literal → Type 0
True ρ table (literal R m n) = Holds R (value ρ table m) (value ρ table n)

-- "where a file assumes nothing, all that it assumes counts as true"
abbrev pub AllTrue : {H : FiniteHeap} → Values H → (TermNo → Term) → List Literal → Type 0
AllTrue ρ table [] = Unit {0}
AllTrue ρ table (l ∷ ls) = True ρ table l × AllTrue ρ table ls

-- "at least one literal of every clause"
abbrev pub AnyTrue : {H : FiniteHeap} → Values H → (TermNo → Term) → List Literal → Type 0
AnyTrue ρ table [] = ⊥
AnyTrue ρ table (l ∷ ls) = True ρ table l ⊎ AnyTrue ρ table ls

abbrev pub EveryClauseTrue : {H : FiniteHeap} → Values H → (TermNo → Term) → Clauses → Type 0
EveryClauseTrue ρ table C = (k : ClauseNo) → 0 < length (clause_of C k) → AnyTrue ρ table (clause_of C k)
