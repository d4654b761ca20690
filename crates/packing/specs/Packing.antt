-- A term and a literal as one number each, and taken apart as the code's views.
use Rattle.std.specs.Prelude.{List, [], ◌∷◌, ℕ, ◌+◌, ◌*◌, ◌/◌, ◌%◌, ◌^◌, ◌<◌, ◌≡◌, Bool, false, ◌||◌, ◌&&◌, eqb, leb, get_or}
use Rattle.tableau.specs.declared.Sort.{Sort}
use Rattle.tableau.specs.declared.Operator.{Operator}
use Rattle.tableau.specs.declared.Word.{Word}
use Rattle.tableau.specs.declared.Relation.{Relation}
use Rattle.tableau.specs.declared.TermNumber.{TermNumber}
use Rattle.tableau.specs.declared.Name.{Name}
use Rattle.tableau.specs.Basics.{Four, four}
use Rattle.tableau.specs.Terms.{TermNo, Term, variable, apply, Literal, literal, written, result, sort_index, operator_index, relation_index, same_relation}
use Rattle.packing.specs.declared.TermView.{TermView}
use Rattle.packing.specs.declared.LiteralView.{LiteralView}

-- THE CODES OF WORDS: operators by their indices, then the variables by those of their sorts.
unfoldable pub word_code : Word → ℕ
word_code (Word.Variable s) = 12 + sort_index s
word_code (Word.Operation o) = operator_index o

unfoldable pub coded_words : List Word
coded_words =
    Word.Operation Operator.Nul ∷
    Word.Operation Operator.Rea ∷
    Word.Operation Operator.Emp ∷
    Word.Operation Operator.All ∷
    Word.Operation Operator.Cup ∷
    Word.Operation Operator.Cap ∷
    Word.Operation Operator.Dif ∷
    Word.Operation Operator.Sin ∷
    Word.Operation Operator.Img ∷
    Word.Operation Operator.Wri ∷
    Word.Operation Operator.Typ ∷
    Word.Operation Operator.Dty ∷
    Word.Variable Sort.Reference ∷
    Word.Variable Sort.Region ∷
    Word.Variable Sort.Heap ∷
    Word.Variable Sort.Field ∷
    []

unfoldable pub word_at : ℕ → Word
unfolding coded_words
word_at n = get_or coded_words n (Word.Variable Sort.Class)

unfoldable pub word_sort : Word → Sort
word_sort (Word.Variable s) = s
word_sort (Word.Operation o) = result o

-- A PACKED TERM, from the low bits up: the sort in 3 bits, so that a test of a sort reads no table; the word's code in 5; the fourth, third
-- and second field in 10 bits each; the first field, which alone can be a name.
unfoldable pub word_bits : Word → ℕ
word_bits w = word_code w * 8 + sort_index (word_sort w)

abbrev pub pack_fields : Word → Four ℕ → ℕ
pack_fields w k = (((k.a * 1024 + k.b) * 1024 + k.c) * 1024 + k.d) * 256 + word_bits w

unfoldable pub pack_term : Term → ℕ
pack_term (variable s n) = pack_fields (Word.Variable s) (four n 0 0 0)
pack_term (apply o k) = pack_fields (Word.Operation o) k

abbrev pub unpack_fields : ℕ → Four ℕ
unpack_fields p = four (p / 274877906944) (p / 268435456 % 1024) (p / 262144 % 1024) (p / 256 % 1024)

unfoldable pub unpack_term : ℕ → Term
unpack_term p = written (word_at (p / 8 % 32)) (unpack_fields p)

-- the terms that can be packed
abbrev pub name_limit : ℕ
name_limit = 2 ^ 17

abbrev pub term_limit : ℕ
term_limit = 1024

abbrev pub Small : TermNo → Type 0
Small n = n < term_limit

abbrev pub AllSmall : Four ℕ → Type 0
AllSmall k = Small k.a × Small k.b × Small k.c × Small k.d

abbrev pub Packable : Term → Type 0
Packable (variable s n) = n < name_limit
Packable (apply o k) = AllSmall k

-- A TERM'S VIEW, and the term that a view is of.
abbrev pub number : TermNo → TermNumber
number n = record { 0 = n }

abbrev pub name_of : ℕ → Name
name_of n = record { 0 = n }

unfoldable pub view_apply : Operator → Four TermNo → TermView
view_apply Operator.Nul k = TermView.Nul
view_apply Operator.Rea k = TermView.Rea (number k.a) (number k.b) (number k.c)
view_apply Operator.Emp k = TermView.Emp
view_apply Operator.All k = TermView.All
view_apply Operator.Cup k = TermView.Cup (number k.a) (number k.b)
view_apply Operator.Cap k = TermView.Cap (number k.a) (number k.b)
view_apply Operator.Dif k = TermView.Dif (number k.a) (number k.b)
view_apply Operator.Sin k = TermView.Sin (number k.a)
view_apply Operator.Img k = TermView.Img (number k.a) (number k.b) (number k.c)
view_apply Operator.Wri k = TermView.Wri (number k.a) (number k.b) (number k.c) (number k.d)
view_apply Operator.Typ k = TermView.Typ (number k.a)
view_apply Operator.Dty k = TermView.Dty (number k.a)

abbrev pub view_of : Term → TermView
view_of (variable s n) = TermView.Variable s (name_of n)
view_of (apply o k) = view_apply o k

-- a number is that of a term
pub record Packs (e : Term) (p : ℕ) : Type 0 where
  pub is : p ≡ pack_term e
  pub packable : Packable e

-- the word of a packed term has terms for arguments
abbrev pub takes_arguments : ℕ → Bool
takes_arguments p = eqb (p / 8 % 32) 1 || (leb 4 (p / 8 % 32) && leb (p / 8 % 32) 11)

-- its arguments, cut to what a field has room for; and the number with others for them
abbrev pub fields_in : ℕ → Four ℕ
fields_in p = four (p / 274877906944 % 1024) (p / 268435456 % 1024) (p / 262144 % 1024) (p / 256 % 1024)

abbrev pub with_fields : ℕ → Four ℕ → ℕ
with_fields p k = (((k.a * 1024 + k.b) * 1024 + k.c) * 1024 + k.d) * 256 + p % 256

-- the arguments that a view shows are small: a packed field has room for them
abbrev pub SmallView : TermView → Type 0
SmallView (TermView.Variable s n) = Unit {0}
SmallView TermView.Nul = Unit {0}
SmallView (TermView.Rea a b c) = Small a.0 × Small b.0 × Small c.0
SmallView TermView.Emp = Unit {0}
SmallView TermView.All = Unit {0}
SmallView (TermView.Cup a b) = Small a.0 × Small b.0
SmallView (TermView.Cap a b) = Small a.0 × Small b.0
SmallView (TermView.Dif a b) = Small a.0 × Small b.0
SmallView (TermView.Sin a) = Small a.0
SmallView (TermView.Img a b c) = Small a.0 × Small b.0 × Small c.0
SmallView (TermView.Wri a b c d) = Small a.0 × Small b.0 × Small c.0 × Small d.0
SmallView (TermView.Typ a) = Small a.0
SmallView (TermView.Dty a) = Small a.0

-- A PACKED LITERAL: the relation, then the two terms in 10 bits each.
unfoldable pub pack_literal : Literal → ℕ
pack_literal (literal R m n) = (relation_index R * 1024 + m) * 1024 + n

unfoldable pub coded_relations : List Relation
coded_relations = Relation.In ∷ Relation.Ni ∷ Relation.Eq ∷ Relation.Ne ∷ Relation.Le ∷ []

unfoldable pub relation_at : ℕ → Relation
unfolding coded_relations
relation_at n = get_or coded_relations n Relation.Nl

unfoldable pub unpack_literal : ℕ → Literal
unpack_literal p = literal (relation_at (p / 1048576)) (p / 1024 % 1024) (p % 1024)

-- every packed literal is below this
abbrev pub code_limit : ℕ
code_limit = 2 ^ 23

abbrev pub PackableLiteral : Literal → Type 0
PackableLiteral (literal R m n) = (m < term_limit) × (n < term_limit)

-- a literal's view, and the literal that a view is of
unfoldable pub literal_view_as : Relation → TermNumber → TermNumber → LiteralView
literal_view_as Relation.In m n = LiteralView.In m n
literal_view_as Relation.Ni m n = LiteralView.Ni m n
literal_view_as Relation.Eq m n = LiteralView.Eq m n
literal_view_as Relation.Ne m n = LiteralView.Ne m n
literal_view_as Relation.Le m n = LiteralView.Le m n
literal_view_as Relation.Nl m n = LiteralView.Nl m n

abbrev pub literal_view_of : Literal → LiteralView
literal_view_of (literal R m n) = literal_view_as R (number m) (number n)

abbrev pub literal_of : LiteralView → Literal
literal_of (LiteralView.In m n) = literal Relation.In m.0 n.0
literal_of (LiteralView.Ni m n) = literal Relation.Ni m.0 n.0
literal_of (LiteralView.Eq m n) = literal Relation.Eq m.0 n.0
literal_of (LiteralView.Ne m n) = literal Relation.Ne m.0 n.0
literal_of (LiteralView.Le m n) = literal Relation.Le m.0 n.0
literal_of (LiteralView.Nl m n) = literal Relation.Nl m.0 n.0

-- the parts of a literal, and of its view
abbrev pub left_in : Literal → TermNo
left_in (literal R m n) = m

abbrev pub right_in : Literal → TermNo
right_in (literal R m n) = n

abbrev pub relation_of : LiteralView → Relation
relation_of (LiteralView.In m n) = Relation.In
relation_of (LiteralView.Ni m n) = Relation.Ni
relation_of (LiteralView.Eq m n) = Relation.Eq
relation_of (LiteralView.Ne m n) = Relation.Ne
relation_of (LiteralView.Le m n) = Relation.Le
relation_of (LiteralView.Nl m n) = Relation.Nl

-- a literal of another relation
abbrev pub IsNot : Relation → LiteralView → Type 0
IsNot R p = same_relation R (relation_of p) ≡ false

abbrev pub left_of : LiteralView → TermNo
left_of (LiteralView.In m n) = m.0
left_of (LiteralView.Ni m n) = m.0
left_of (LiteralView.Eq m n) = m.0
left_of (LiteralView.Ne m n) = m.0
left_of (LiteralView.Le m n) = m.0
left_of (LiteralView.Nl m n) = m.0

abbrev pub right_of : LiteralView → TermNo
right_of (LiteralView.In m n) = n.0
right_of (LiteralView.Ni m n) = n.0
right_of (LiteralView.Eq m n) = n.0
right_of (LiteralView.Ne m n) = n.0
right_of (LiteralView.Le m n) = n.0
right_of (LiteralView.Nl m n) = n.0

abbrev pub SmallLiteral : LiteralView → Type 0
SmallLiteral p = Small (left_of p) × Small (right_of p)
