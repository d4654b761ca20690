-- `bck` is sound: where a branch is true, so is every literal that follows from it; a branch on which `bck` closes is true nowhere.
use mathlib.Core.Path.{◌≡◌, refl, sym, ◌∙◌, subst}
use mathlib.Core.Bool.{true}
use mathlib.Core.List.{List}
use Rattle.tableau.specs.declared.Relation.{Relation}
use Rattle.tableau.specs.Terms.{TermNo, Table, Literal, literal, at}
use Rattle.tableau.specs.Meaning.{FiniteHeap, Value, Values, value, is_le, Holds, True, AllTrue}
use Rattle.tableau.specs.Background as background
use Rattle.tableau.specs.Background.{On, Follows, Contradicted, by_ne, by_nl}
use Rattle.tableau.proofs.Bools.{clash}
use Rattle.tableau.proofs.WellFormed.{WellFormed}
use Rattle.tableau.proofs.Values.{le_refl, le_trans, le_anti}
use Rattle.tableau.proofs.Match.{same_application, kind_value, IfAny, literal_true}

module _ (table : Table) (wf : WellFormed (at table)) (H : FiniteHeap) (ρ : Values H) (B : List Literal) (t : AllTrue ρ (at table) B) where
  abbrev val : TermNo → Value H
  val = value ρ (at table)

  on_true : (l : Literal) → On B l → True ρ (at table) l
  on_true l h = subst (IfAny (at table) wf H ρ) h.1 (literal_true (at table) wf H ρ B h.0 t)

  -- EVERY PAIR OF THE TWO RELATIONS HOLDS
  pub follows_true : {R : Relation} {a b : TermNo} → Follows table B R a b → Holds R (val a) (val b)
  follows_true (background.eq_literal {a = a} {b = b} h) = on_true (literal Relation.Eq a b) h
  follows_true (background.le_literal {a = a} {b = b} h) = on_true (literal Relation.Le a b) h
  follows_true background.ref = refl
  follows_true (background.sym h) = sym (follows_true h)
  follows_true (background.trn h g) = follows_true h ∙ follows_true g
  follows_true (background.sub {t = t} {w = w} {o = o} {k = k} {l = l} p q takes a b c d) =
      same_application (at table) wf H ρ t w o k l p q (follows_true a) (follows_true b) (follows_true c) (follows_true d)
  follows_true (background.ler {t = t} s) = le_refl (val t) (kind_value (at table) wf H ρ t ∙ s)
  follows_true (background.let' {a = a} {b = b} {c = c} h g) = le_trans (val a) (val b) (val c) (follows_true h) (follows_true g)
  follows_true (background.lea {a = a} {b = b} h g) = le_anti (val a) (val b) (follows_true h) (follows_true g)
  follows_true (background.left {c = c} e h) = subst (λ x. is_le x (val c) ≡ true) (follows_true e) (follows_true h)
  follows_true (background.right {a = a} e h) = subst (λ x. is_le (val a) x ≡ true) (follows_true e) (follows_true h)

  -- A BRANCH ON WHICH `bck` CLOSES HAS NO MODEL
  pub contradicted_false : Contradicted table B → ⊥
  contradicted_false (by_ne {a = a} {b = b} h e) = on_true (literal Relation.Ne a b) h (follows_true e)
  contradicted_false (by_nl {a = a} {b = b} h e) = clash (follows_true e) (on_true (literal Relation.Nl a b) h)
