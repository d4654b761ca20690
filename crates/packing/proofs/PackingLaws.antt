-- Packing loses nothing, and what a packed number is computes from its code.
use mathlib.Core.Path.{◌≡◌, refl, sym, ◌∙◌, ap, ap₂}
use Prim.Native.Nat.{ℕ, zero, suc, ◌+◌, ◌*◌, ◌/◌, ◌%◌, ◌<◌, ◌≤◌}
use native.Mathlib.Omega.{arith}
use lib.ListN.{get_or-eq_default}
use Rattle.tableau.specs.declared.Sort.{Sort}
use Rattle.tableau.specs.declared.Operator.{Operator}
use Rattle.tableau.specs.declared.Word.{Word}
use Rattle.tableau.specs.declared.Relation.{Relation}
use Rattle.tableau.specs.Basics.{Four, four}
use Rattle.tableau.specs.Terms.{Term, variable, apply, Literal, literal, written, result, sort_of, sort_index, operator_index, relation_index}
use Rattle.packing.specs.Packing.{word_code, coded_words, word_at, word_sort, word_bits, pack_fields, pack_term, unpack_fields, unpack_term, Packable, number, name_of, view_apply, view_of, pack_literal, coded_relations, relation_at, unpack_literal, PackableLiteral, left_in, right_in, literal_view_as, literal_view_of, literal_of, SmallView, SmallLiteral}
use Rattle.tableau.specs.declared.TermNumber.{TermNumber}
use Rattle.packing.specs.declared.TermView.{TermView}
use Rattle.packing.specs.declared.LiteralView.{LiteralView}

-- a number that is none of the first k is at least k
abbrev Excluded : ℕ → ℕ → Type 0
Excluded zero n = Unit {0}
Excluded (suc k) n = Excluded k n × (n ≡ k → ⊥)

pub past : (k n : ℕ) → Excluded k n → k ≤ n
past zero n h = omega arith
past (suc k) n h = let l : k ≤ n = past k n h.0 in omega arith

-- a code past the others is that of a class variable
pub view_coded_last : (p : ℕ) → 16 ≤ p / 8 % 32 → TermView.Variable Sort.Class (name_of (unpack_fields p).a) ≡ view_of (unpack_term p)
unfolding unpack_term word_at
view_coded_last p h = ap (λ (w : Word). view_of (written w (unpack_fields p))) (sym (get_or-eq_default coded_words (Word.Variable Sort.Class) h))

pub literal_coded_last : (p : ℕ) {m n : TermNumber} → m.0 ≡ left_in (unpack_literal p) → n.0
    ≡ right_in (unpack_literal p) → 5 ≤ p / 1048576
    → LiteralView.Nl m n ≡ literal_view_of (unpack_literal p)
unfolding unpack_literal relation_at literal_view_as
literal_coded_last p em en h =
    λ i. literal_view_as (sym (get_or-eq_default coded_relations Relation.Nl h) i) (number (em i))
    (number (en i))

-- the codes are small, and give the words back
pub sort_small : (s : Sort) → sort_index s < 5
unfolding sort_index
sort_small Sort.Reference = omega arith
sort_small Sort.Region = omega arith
sort_small Sort.Heap = omega arith
sort_small Sort.Field = omega arith
sort_small Sort.Class = omega arith

pub relation_small : (R : Relation) → relation_index R < 6
unfolding relation_index
relation_small Relation.In = omega arith
relation_small Relation.Ni = omega arith
relation_small Relation.Eq = omega arith
relation_small Relation.Ne = omega arith
relation_small Relation.Le = omega arith
relation_small Relation.Nl = omega arith

pub operator_small : (o : Operator) → operator_index o < 12
unfolding operator_index
operator_small Operator.Nul = omega arith
operator_small Operator.Rea = omega arith
operator_small Operator.Emp = omega arith
operator_small Operator.All = omega arith
operator_small Operator.Cup = omega arith
operator_small Operator.Cap = omega arith
operator_small Operator.Dif = omega arith
operator_small Operator.Sin = omega arith
operator_small Operator.Img = omega arith
operator_small Operator.Wri = omega arith
operator_small Operator.Typ = omega arith
operator_small Operator.Dty = omega arith

code_small : (w : Word) → word_code w < 32
unfolding word_code
code_small (Word.Variable s) = omega (arith, sort_small s)
code_small (Word.Operation o) = omega (arith, operator_small o)

word_back : (w : Word) → word_at (word_code w) ≡ w
unfolding word_at word_code sort_index operator_index
word_back (Word.Variable Sort.Reference) = refl
word_back (Word.Variable Sort.Region) = refl
word_back (Word.Variable Sort.Heap) = refl
word_back (Word.Variable Sort.Field) = refl
word_back (Word.Variable Sort.Class) = refl
word_back (Word.Operation Operator.Nul) = refl
word_back (Word.Operation Operator.Rea) = refl
word_back (Word.Operation Operator.Emp) = refl
word_back (Word.Operation Operator.All) = refl
word_back (Word.Operation Operator.Cup) = refl
word_back (Word.Operation Operator.Cap) = refl
word_back (Word.Operation Operator.Dif) = refl
word_back (Word.Operation Operator.Sin) = refl
word_back (Word.Operation Operator.Img) = refl
word_back (Word.Operation Operator.Wri) = refl
word_back (Word.Operation Operator.Typ) = refl
word_back (Word.Operation Operator.Dty) = refl

-- four fields come back from above the low bits
fields_back : (k : Four ℕ) (low : ℕ) → k.b < 1024 → k.c < 1024 → k.d < 1024 → low < 256
    → unpack_fields ((((k.a * 1024 + k.b) * 1024 + k.c) * 1024 + k.d) * 256 + low) ≡ k
fields_back k low hb hc hd h =
    let p : ℕ = (((k.a * 1024 + k.b) * 1024 + k.c) * 1024 + k.d) * 256 + low in
    let ea : p / 274877906944 ≡ k.a = omega arith in
    let eb : p / 268435456 % 1024 ≡ k.b = omega arith in
    let ec : p / 262144 % 1024 ≡ k.c = omega arith in
    let ed : p / 256 % 1024 ≡ k.d = omega arith in
    λ i. four (ea i) (eb i) (ec i) (ed i)

unpack_fields_lem : (w : Word) (k : Four ℕ) → k.b < 1024 → k.c < 1024 → k.d < 1024 → unpack_term (pack_fields w k) ≡ written w k
unfolding unpack_term word_bits
unpack_fields_lem w k hb hc hd =
    let lc : word_code w < 32 = code_small w in
    let ls : sort_index (word_sort w) < 5 = sort_small (word_sort w) in
    let e : pack_fields w k / 8 % 32 ≡ word_code w = omega arith in
    ap₂ (λ (v : Word) (m : Four ℕ). written v m) (ap word_at e ∙ word_back w) (fields_back k (word_bits w) hb hc hd (omega arith))

pub unpack_pack : (e : Term) → Packable e → unpack_term (pack_term e) ≡ e
unfolding pack_term
unpack_pack (variable s n) h = unpack_fields_lem (Word.Variable s) (four n 0 0 0) (omega arith) (omega arith) (omega arith)
unpack_pack (apply o k) h = unpack_fields_lem (Word.Operation o) k h.1 h.2 h.3

pub pack_injective : (e x : Term) → Packable e → Packable x → pack_term e ≡ pack_term x → e ≡ x
pack_injective e x h h' q = sym (unpack_pack e h) ∙ ap unpack_term q ∙ unpack_pack x h'

-- the low bits tell the sort
bits_sort : (w : Word) (k : Four ℕ) → pack_fields w k % 8 ≡ sort_index (word_sort w)
unfolding word_bits
bits_sort w k = omega (arith, sort_small (word_sort w))

pub pack_sort : (e : Term) → pack_term e % 8 ≡ sort_index (sort_of e)
unfolding pack_term word_sort result
pack_sort (variable s n) = bits_sort (Word.Variable s) (four n 0 0 0)
pack_sort (apply o k) = bits_sort (Word.Operation o) k

-- LITERALS: packing and views lose nothing, either way
relation_back : (R : Relation) → relation_at (relation_index R) ≡ R
unfolding relation_at relation_index
relation_back Relation.In = refl
relation_back Relation.Ni = refl
relation_back Relation.Eq = refl
relation_back Relation.Ne = refl
relation_back Relation.Le = refl
relation_back Relation.Nl = refl

pub literal_unpack_pack : (l : Literal) → PackableLiteral l → unpack_literal (pack_literal l) ≡ l
unfolding unpack_literal pack_literal
literal_unpack_pack (literal R m n) h =
    let hm : m < 1024 = h.0 in
    let hn : n < 1024 = h.1 in
    let p : ℕ = (relation_index R * 1024 + m) * 1024 + n in
    let e_r : p / 1048576 ≡ relation_index R = omega arith in
    let em : p / 1024 % 1024 ≡ m = omega arith in
    let en : p % 1024 ≡ n = omega arith in
    λ i. literal ((ap relation_at e_r ∙ relation_back R) i) (em i) (en i)

pub literal_packable : (p : ℕ) → PackableLiteral (unpack_literal p)
unfolding unpack_literal
literal_packable p = (omega arith, omega arith)

pub literal_of_view : (l : Literal) → literal_of (literal_view_of l) ≡ l
unfolding literal_view_as
literal_of_view (literal Relation.In m n) = refl
literal_of_view (literal Relation.Ni m n) = refl
literal_of_view (literal Relation.Eq m n) = refl
literal_of_view (literal Relation.Ne m n) = refl
literal_of_view (literal Relation.Le m n) = refl
literal_of_view (literal Relation.Nl m n) = refl

-- WHAT IS SMALL: the arguments of a term that is packed, the sides of a packed literal
pub packable_small : (e : Term) → Packable e → SmallView (view_of e)
unfolding view_apply
packable_small (variable s n) h = tt
packable_small (apply Operator.Nul k) h = tt
packable_small (apply Operator.Rea k) h = (h.0, h.1, h.2)
packable_small (apply Operator.Emp k) h = tt
packable_small (apply Operator.All k) h = tt
packable_small (apply Operator.Cup k) h = (h.0, h.1)
packable_small (apply Operator.Cap k) h = (h.0, h.1)
packable_small (apply Operator.Dif k) h = (h.0, h.1)
packable_small (apply Operator.Sin k) h = h.0
packable_small (apply Operator.Img k) h = (h.0, h.1, h.2)
packable_small (apply Operator.Wri k) h = (h.0, h.1, h.2, h.3)
packable_small (apply Operator.Typ k) h = h.0
packable_small (apply Operator.Dty k) h = h.0

pub view_small : (l : Literal) → PackableLiteral l → SmallLiteral (literal_view_of l)
unfolding literal_view_as
view_small (literal Relation.In m n) h = h
view_small (literal Relation.Ni m n) h = h
view_small (literal Relation.Eq m n) h = h
view_small (literal Relation.Ne m n) h = h
view_small (literal Relation.Le m n) h = h
view_small (literal Relation.Nl m n) h = h

pub literal_view_small : (p : ℕ) (x : LiteralView) → x ≡ literal_view_of (unpack_literal p) → SmallLiteral x
literal_view_small p x e = rw e (view_small (unpack_literal p) (literal_packable p))

-- the literal that was read off its code
pub literal_read_lem : (p : ℕ) (x : LiteralView) → x ≡ literal_view_of (unpack_literal p) → unpack_literal p ≡ literal_of x
literal_read_lem p x e = sym (ap literal_of e ∙ literal_of_view (unpack_literal p))
