-- What a row says of values, its letters standing for values.
use mathlib.Core.Path.{◌≡◌}
use mathlib.Core.Bool.{Bool, true, false, cond}
use mathlib.Core.List.{List, [], ◌∷◌}
use Prim.Native.Nat.{ℕ}
use lib.Dec.{eqb}
use Rattle.tableau.specs.declared.Sort.{Sort}
use Rattle.tableau.specs.declared.Rule.{Rule}
use Rattle.tableau.specs.Basics.{Four, four}
use Rattle.tableau.specs.Fields.{Use, unused, place, name, side, clause, term, of, Argument, argument_use, arguments, if_argument, rule_uses}
use Rattle.tableau.specs.Meaning.{FiniteHeap, Ref, Value, reference, operation, Holds, kind}
use Rattle.tableau.specs.Rules.{Pattern, letter, operator, –, LiteralPattern, pattern, Need, p∶, q∶, is, is_region, Row, Kind, rows, congruence, replacement, disjunction, background, rule, letter_t, letter_w}

module _ (H : FiniteHeap) where
  abbrev pub ⟦◌⟧ : Pattern → (ℕ → Value H) → Value H
  ⟦ letter x ⟧ φ = φ x
  ⟦ operator o k l m j ⟧ φ = operation H o (four
      (if_argument (arguments o).a (⟦ k ⟧ φ) (reference H.nul)) (if_argument (arguments o).b (⟦ l ⟧ φ) (reference H.nul))
      (if_argument (arguments o).c (⟦ m ⟧ φ) (reference H.nul)) (if_argument (arguments o).d (⟦ j ⟧ φ) (reference H.nul)))
  ⟦ – ⟧ φ = reference H.nul

  -- the value has the sort that the field asks for
  abbrev pub Asked : Use → Value H → Type 0
  Asked unused x = Unit {0}
  Asked place x = Unit {0}
  Asked name x = Unit {0}
  Asked side x = Unit {0}
  Asked clause x = Unit {0}
  Asked term x = Unit {0}
  Asked (of s) x = kind x ≡ s

  abbrev pub IfArgument : Argument → Type 0 → Type 0
  IfArgument unused X = Unit {0}
  IfArgument (of s) X = X

  -- the arguments in a pattern have their sorts
  abbrev pub Sorted : Pattern → (ℕ → Value H) → Type 0
  Sorted (letter x) φ = Unit {0}
  Sorted (operator o k l m j) φ =
      (Asked (argument_use (arguments o).a) (⟦ k ⟧ φ) × Asked (argument_use (arguments o).b) (⟦ l ⟧ φ) × Asked (argument_use (arguments o).c) (⟦ m ⟧ φ) × Asked (argument_use (arguments o).d) (⟦ j ⟧ φ))
      × (IfArgument (arguments o).a (Sorted k φ) × IfArgument (arguments o).b (Sorted l φ) × IfArgument (arguments o).c (Sorted m φ) × IfArgument (arguments o).d (Sorted j φ))
  Sorted – φ = Unit {0}

  abbrev pub IfHolds : (ℕ → Value H) → LiteralPattern → Type 0 → Type 0
  IfHolds φ (pattern R k l) G = Sorted k φ → Sorted l φ → Holds R (⟦ k ⟧ φ) (⟦ l ⟧ φ) → G

  -- G follows from the needs
  abbrev pub IfMet : (ℕ → Value H) → List Need → Type 0 → Type 0
  IfMet φ [] G = G
  IfMet φ (p∶ l ∷ ns) G = IfHolds φ l (IfMet φ ns G)
  IfMet φ (q∶ l ∷ ns) G = IfHolds φ l (IfMet φ ns G)
  IfMet φ (is x other k ∷ ns) G = Sorted k φ → φ x ≡ ⟦ k ⟧ φ → IfMet φ ns G
  IfMet φ (is_region k ∷ ns) G = kind (⟦ k ⟧ φ) ≡ Sort.Region → IfMet φ ns G

  -- the literals of an alternative cannot all hold
  abbrev pub CannotHold : (ℕ → Value H) → List LiteralPattern → Type 0
  CannotHold φ [] = ⊥
  CannotHold φ (pattern R k l ∷ ls) = Holds R (⟦ k ⟧ φ) (⟦ l ⟧ φ) → CannotHold φ ls

  -- the letter w standing for another reference
  abbrev pub with_w : (ℕ → Value H) → Ref H → ℕ → Value H
  with_w φ x z = cond (eqb z letter_w) (reference x) (φ z)

  -- .. whatever reference a fresh w stands for
  abbrev pub Excluded : Bool → (ℕ → Value H) → List LiteralPattern → Type 0
  Excluded false φ k = CannotHold φ k
  Excluded true φ k = (x : Ref H) → CannotHold (with_w φ x) k

  -- the alternatives are not all excluded
  abbrev pub SomeHolds : Bool → (ℕ → Value H) → List (List LiteralPattern) → Type 0
  SomeHolds fresh φ [] = ⊥
  SomeHolds fresh φ (k ∷ ks) = Excluded fresh φ k → SomeHolds fresh φ ks

  -- (a row that asks for a fresh w uses no t)
  abbrev pub AskedT : Bool → Use → Value H → Type 0
  AskedT true k x = Unit {0}
  AskedT false k x = Asked k x

  -- where t and w have the sorts asked and the needs hold, so does an alternative
  abbrev pub RowSound : Four Use → Row → Type 0
  RowSound k R = (φ : ℕ → Value H) → AskedT R.fresh k.c (φ letter_t) → Asked k.d (φ letter_w) → IfMet φ R.needs (SomeHolds R.fresh φ R.adds)

  abbrev pub RowsSound : Four Use → List Row → Type 0
  RowsSound k [] = Unit {0}
  RowsSound k (R ∷ Rs) = RowSound k R × RowsSound k Rs

  abbrev pub KindSound : Four Use → Kind → Type 0
  KindSound k (rows Rs) = RowsSound k Rs
  KindSound k congruence = Unit {0}
  KindSound k replacement = Unit {0}
  KindSound k disjunction = k.c ≡ clause
  KindSound k background = Unit {0}

  abbrev pub RuleSound : Rule → Type 0
  RuleSound x = KindSound (rule_uses x) (rule x)
