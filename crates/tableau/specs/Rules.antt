-- 'The rules': a row for each of the thirty-two, in the order of document 01, then those of document 02. Nothing here knows of replies.
use Rattle.std.specs.Prelude.{◌≡◌, refl, Bool, true, false, List, [], ◌∷◌, ℕ, eqb}
use Rattle.tableau.specs.declared.Operator.{Operator}
use Rattle.tableau.specs.declared.Relation.{Relation}
use Rattle.tableau.specs.declared.Rule.{Rule}

-- A pattern of terms: a letter, or an operator on patterns; `–` fills the place of a field that the operator does not use.
pub data Pattern : Type 0 where
  letter : ℕ → Pattern
  operator : Operator → Pattern → Pattern → Pattern → Pattern → Pattern
  – : Pattern

pub data LiteralPattern : Type 0 where
  pattern : Relation → Pattern → Pattern → LiteralPattern

infix 10 ◌∈◌ ◌∉◌ ◌≈◌ ◌≉◌ ◌⊑◌ ◌⋢◌
infixr 5 ◌∥◌
infixr 7 ◌﹐◌
abbrev pub ◌∈◌ : Pattern → Pattern → LiteralPattern
x ∈ z = pattern Relation.In x z

abbrev pub ◌∉◌ : Pattern → Pattern → LiteralPattern
x ∉ z = pattern Relation.Ni x z

abbrev pub ◌≈◌ : Pattern → Pattern → LiteralPattern
x ≈ z = pattern Relation.Eq x z

abbrev pub ◌≉◌ : Pattern → Pattern → LiteralPattern
x ≉ z = pattern Relation.Ne x z

abbrev pub ◌⊑◌ : Pattern → Pattern → LiteralPattern
x ⊑ z = pattern Relation.Le x z

abbrev pub ◌⋢◌ : Pattern → Pattern → LiteralPattern
x ⋢ z = pattern Relation.Nl x z

-- "'∥' parts alternatives, a comma joins literals added together in that order."
abbrev pub ◌﹐◌ : LiteralPattern → List LiteralPattern → List LiteralPattern
l ﹐ ls = l ∷ ls

abbrev pub ⟨◌⟩ : LiteralPattern → List LiteralPattern
⟨ l ⟩ = l ∷ []

abbrev pub ◌∥◌ : List LiteralPattern → List (List LiteralPattern) → List (List LiteralPattern)
l ∥ ls = l ∷ ls

abbrev pub only : List LiteralPattern → List (List LiteralPattern)
only l = l ∷ []

abbrev pub closes : List (List LiteralPattern)
closes = []

-- The letters of the rows. t and w stand for the terms of those fields.
abbrev pub letter_u : ℕ
letter_u = 1

abbrev pub letter_v : ℕ
letter_v = 2

abbrev pub letter_y : ℕ
letter_y = 3

abbrev pub letter_r : ℕ
letter_r = 4

abbrev pub letter_s : ℕ
letter_s = 5

abbrev pub letter_h : ℕ
letter_h = 6

abbrev pub letter_f : ℕ
letter_f = 7

abbrev pub letter_g : ℕ
letter_g = 8

abbrev pub letter_a : ℕ
letter_a = 9

abbrev pub letter_b : ℕ
letter_b = 10

abbrev pub letter_c : ℕ
letter_c = 11

abbrev pub letter_t : ℕ
letter_t = 12

abbrev pub letter_w : ℕ
letter_w = 13

abbrev pub letter_i : ℕ
letter_i = 14

abbrev pub u : Pattern
u = letter letter_u

abbrev pub v : Pattern
v = letter letter_v

abbrev pub y : Pattern
y = letter letter_y

abbrev pub r : Pattern
r = letter letter_r

abbrev pub s : Pattern
s = letter letter_s

abbrev pub h : Pattern
h = letter letter_h

abbrev pub f : Pattern
f = letter letter_f

abbrev pub g : Pattern
g = letter letter_g

abbrev pub a : Pattern
a = letter letter_a

abbrev pub b : Pattern
b = letter letter_b

abbrev pub c : Pattern
c = letter letter_c

abbrev pub t : Pattern
t = letter letter_t

abbrev pub w : Pattern
w = letter letter_w

abbrev pub i : Pattern
i = letter letter_i

-- The operators of the rows.
abbrev pub nul : Pattern
nul = operator Operator.Nul – – – –

abbrev pub rea : Pattern → Pattern → Pattern → Pattern
rea x z k = operator Operator.Rea x z k –

abbrev pub emp : Pattern
emp = operator Operator.Emp – – – –

abbrev pub all : Pattern
all = operator Operator.All – – – –

abbrev pub cup : Pattern → Pattern → Pattern
cup x z = operator Operator.Cup x z – –

abbrev pub cap : Pattern → Pattern → Pattern
cap x z = operator Operator.Cap x z – –

abbrev pub dif : Pattern → Pattern → Pattern
dif x z = operator Operator.Dif x z – –

abbrev pub sin : Pattern → Pattern
sin x = operator Operator.Sin x – – –

abbrev pub img : Pattern → Pattern → Pattern → Pattern
img x z k = operator Operator.Img x z k –

abbrev pub wri : Pattern → Pattern → Pattern → Pattern → Pattern
wri x z k l = operator Operator.Wri x z k l

abbrev pub typ : Pattern → Pattern
typ x = operator Operator.Typ x – – –

abbrev pub dty : Pattern → Pattern
dty x = operator Operator.Dty x – – –

-- What a row needs: the literal at place p, or at place q; what the term of a letter is, but not of w, of which a row may ask only that it is fresh; that a letter is a region.
pub data Need : Type 0 where
  p∶ : LiteralPattern → Need
  q∶ : LiteralPattern → Need
  is : (x : ℕ) → eqb x letter_w ≡ false → Pattern → Need
  is_region : Pattern → Need

abbrev pub t≐ : Pattern → Need
t≐ k = is letter_t refl k

abbrev pub i≐ : Pattern → Need
i≐ k = is letter_i refl k

-- A row: its needs, whether it needs a fresh w, and its alternatives; with no alternative it closes.
pub record Row : Type 0 where
  pub needs : List Need
  pub fresh : Bool
  pub adds : List (List LiteralPattern)

-- A rule: one row, several of which the first whose needs are met is taken ("or"), or one of the four that no row says.
pub data Kind : Type 0 where
  rows : List Row → Kind
  congruence : Kind
  replacement : Kind
  disjunction : Kind
  background : Kind

infix 3 ◌⟶◌ ◌；w-fresh⟶◌
infixr 2 ◌or◌
abbrev pub ◌⟶◌ : List Need → List (List LiteralPattern) → List Row
n ⟶ k = record { needs = n; fresh = false; adds = k } ∷ []

abbrev pub ◌；w-fresh⟶◌ : List Need → List (List LiteralPattern) → List Row
n ；w-fresh⟶ k = record { needs = n; fresh = true; adds = k } ∷ []

abbrev pub ◌or◌ : List Row → List Row → List Row
[] or m = m
(x ∷ n) or m = x ∷ (n or m)

-- THE TABLE OF RULES: needs ⟶ adds. "In `eqr`, `eql`, `ext` the sides are regions."
unfoldable pub rule : Rule → Kind
rule Rule.Eqr = rows (p∶ (r ≈ s) ∷ is_region r ∷ is_region s ∷ q∶ (u ∈ r) ∷ [] ⟶ only ⟨ u ∈ s ⟩)
rule Rule.Eql = rows (p∶ (r ≈ s) ∷ is_region r ∷ is_region s ∷ q∶ (u ∈ s) ∷ [] ⟶ only ⟨ u ∈ r ⟩)
rule Rule.Ext = rows (p∶ (r ≉ s) ∷ is_region r ∷ is_region s ∷ [] ；w-fresh⟶ w ∈ r ﹐ ⟨ w ∉ s ⟩ ∥ only (w ∉ r ﹐ ⟨ w ∈ s ⟩))
rule Rule.Cpe = rows (p∶ (u ∈ cap r s) ∷ [] ⟶ only (u ∈ r ﹐ ⟨ u ∈ s ⟩))
rule Rule.Cpi = rows (p∶ (u ∈ r) ∷ q∶ (u ∈ s) ∷ t≐ (cap r s) ∷ [] ⟶ only ⟨ u ∈ t ⟩)
rule Rule.Cue = rows (p∶ (u ∈ cup r s) ∷ [] ⟶ ⟨ u ∈ r ⟩ ∥ only ⟨ u ∈ s ⟩)
rule Rule.Cui = rows ((p∶ (u ∈ r) ∷ t≐ (cup r s) ∷ [] ⟶ only ⟨ u ∈ t ⟩) or (p∶ (u ∈ s) ∷ t≐ (cup r s) ∷ [] ⟶ only ⟨ u ∈ t ⟩))
rule Rule.Dfe = rows (p∶ (u ∈ dif r s) ∷ [] ⟶ only (u ∈ r ﹐ ⟨ u ∉ s ⟩))
rule Rule.Dfi = rows (p∶ (u ∈ r) ∷ q∶ (u ∉ s) ∷ t≐ (dif r s) ∷ [] ⟶ only ⟨ u ∈ t ⟩)
rule Rule.Sge = rows (p∶ (u ∈ sin v) ∷ [] ⟶ only ⟨ u ≈ v ⟩)
rule Rule.Sgi = rows (t≐ (sin u) ∷ [] ⟶ ⟨ u ∉ all ⟩ ∥ only ⟨ u ∈ t ⟩)
rule Rule.Cut = rows ([] ⟶ ⟨ t ∈ w ⟩ ∥ only ⟨ t ∉ w ⟩)
rule Rule.All = rows (p∶ (u ∈ r) ∷ [] ⟶ only ⟨ u ∈ all ⟩)
rule Rule.Nul = rows (p∶ (u ∈ r) ∷ [] ⟶ only ⟨ u ≉ nul ⟩)
rule Rule.Sep = rows (p∶ (u ∈ r) ∷ q∶ (v ∉ r) ∷ [] ⟶ only ⟨ u ≉ v ⟩)
rule Rule.Img = rows (p∶ (u ∈ r) ∷ t≐ (img h r f) ∷ [] ⟶ ⟨ typ u ⋢ dty f ⟩ ∥ ⟨ rea h u f ∉ all ⟩ ∥ only ⟨ rea h u f ∈ t ⟩)
rule Rule.Wit = rows (p∶ (u ∈ img h r f) ∷ [] ；w-fresh⟶ only (w ∈ r ﹐ typ w ⊑ dty f ﹐ ⟨ rea h w f ≈ u ⟩))
rule Rule.Ref = rows ([] ⟶ only ⟨ t ≈ t ⟩)
rule Rule.Sym = rows ((p∶ (a ≈ b) ∷ [] ⟶ only ⟨ b ≈ a ⟩) or (p∶ (a ≉ b) ∷ [] ⟶ only ⟨ b ≉ a ⟩))
rule Rule.Trn = rows (p∶ (a ≈ b) ∷ q∶ (b ≈ c) ∷ [] ⟶ only ⟨ a ≈ c ⟩)
rule Rule.Sub = congruence
rule Rule.Rep = replacement
rule Rule.Ler = rows ([] ⟶ only ⟨ t ⊑ t ⟩)
rule Rule.Let = rows (p∶ (a ⊑ b) ∷ q∶ (b ⊑ c) ∷ [] ⟶ only ⟨ a ⊑ c ⟩)
rule Rule.Lea = rows (p∶ (a ⊑ b) ∷ q∶ (b ⊑ a) ∷ [] ⟶ only ⟨ a ≈ b ⟩)
rule Rule.Rdh = rows (t≐ (rea (wri h u f v) u f) ∷ [] ⟶ only ⟨ t ≈ v ⟩)
rule Rule.Rdm = rows (t≐ (rea (wri h u f v) y g) ∷ [] ⟶ u ≈ y ﹐ ⟨ f ≈ g ⟩ ∥ only ⟨ t ≈ rea h y g ⟩)
rule Rule.Cls = rows ((p∶ (a ∈ b) ∷ q∶ (a ∉ b) ∷ [] ⟶ closes) or (p∶ (a ≈ b) ∷ q∶ (a ≉ b) ∷ [] ⟶ closes) or (p∶ (a ⊑ b) ∷ q∶ (a ⋢ b) ∷ [] ⟶ closes))
rule Rule.Emp = rows (p∶ (u ∈ emp) ∷ [] ⟶ closes)
rule Rule.Cla = disjunction
-- "place p holds cup(r,i) eq i with i = img(h,r,f), and cup(i,r) eq r is added"
rule Rule.Fin = rows (p∶ (cup r i ≈ i) ∷ i≐ (img h r f) ∷ [] ⟶ only ⟨ cup i r ≈ r ⟩)
-- "Add the closing `bck`, with no fields."
rule Rule.Bck = background

-- What `sub`, `rep` and `cla` need and add is in Steps.antt.
-- When `bck` closes is in Background.antt.
