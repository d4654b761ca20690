-- When it matters whether w is fresh, and when whether the branch contradicts itself.
use mathlib.Core.Path.{◌≡◌, refl, ◌∙◌, ap}
use mathlib.Core.Logic.{◌⊎◌, inl, inr}
use mathlib.Core.Bool.{Bool, true, false, ◌&&◌, not, cond, false≢true}
use mathlib.Core.List.{List, [], ◌∷◌}
use Rattle.std.specs.Prelude.{Option, None, Some}
use Prim.Native.Nat.{ℕ}
use lib.Dec.{eqb}
use borrow.Author.Tests.{not-true}
use Rattle.tableau.specs.declared.Freshness.{Freshness}
use Rattle.tableau.specs.declared.Reason.{Reason}
use Rattle.tableau.specs.declared.Relation.{Relation}
use Rattle.tableau.specs.declared.Rule.{Rule}
use Rattle.tableau.specs.Basics.{then, guard}
use Rattle.tableau.specs.Words.{rule_names}
use Rattle.tableau.specs.Terms.{Table, Literal, Clauses, literal, at, same_relation}
use Rattle.tableau.specs.Rules.{Row, Kind, rows, congruence, replacement, disjunction, background}
use Rattle.tableau.specs.Rules.{rule}
use Rattle.tableau.specs.Steps.{Letters, Conclusion, adds_one, congruent, given, met, or_else}
use Rattle.tableau.specs.Steps.{conclude_rows, conclude_sub, conclude_rep, conclude, freshness}
use Rattle.tableau.specs.Saturation.{contradicted}
use Rattle.tableau.specs.Tree.{Checked, ◌>>=◌, ◌>>◌, require_some, require_fresh, answer}
use Rattle.tableau.proofs.Bools.{both_false}
use Rattle.tableau.proofs.Places.{rules, NoneOf, other_rule}
use Rattle.syntax.specs.declared.Step.{Step}
use Rattle.conclusions.specs.declared.Told.{Told}
use Rattle.conclusions.specs.Infers.{background_kind, is_background}
use Rattle.conclusions.proofs.Laws.{same_whatever}
use Rattle.steps.specs.Asking.{any_fresh, fresh_kind, asks_fresh, asks_branch, Tells}

-- FRESHNESS: a conclusion that does not ask for it
abbrev Unasked : Option Conclusion → Type 0
Unasked None = Unit {0}
Unasked (Some c) = c.fresh ≡ false

-- the conclusions of `sub` and `rep` do not
unasked_either : (e f g : Bool) (l m : Literal)
    → Unasked (guard e (cond f (Some (adds_one l)) (cond g (Some (adds_one m)) None)))
unasked_either false f g l m = tt
unasked_either true true g l m = refl
unasked_either true false true l m = refl
unasked_either true false false l m = tt

unasked_then : {A : Type 0} (m : Option A) (k : A → Option Conclusion) → ((x : A) → Unasked (k x))
    → Unasked (then m k)
unasked_then None k h = tt
unasked_then (Some x) k h = h x

module _ (table : Table) (P Q : Option Literal) (t w : ℕ) where
  unasked_sub : (L : Literal) → Unasked (conclude_sub table L t w)
  unfolding conclude_sub
  unasked_sub (literal R a b) =
      let l = literal Relation.Eq t w in
      unasked_either (same_relation Relation.Eq R && congruent a b (at table t)
      (at table w)) true true l l

  unasked_rep : (L M : Literal) → Unasked (conclude_rep L M t)
  unfolding conclude_rep
  unasked_rep (literal R m n) (literal E a b) =
      unasked_either (same_relation Relation.Eq E) (eqb t 1 && eqb m a) (eqb t 2 && eqb n a)
      (literal R b n) (literal R m b)

  -- the row that is taken does not ask, where none does
  unasked_rows : (Rs : List Row) → any_fresh Rs ≡ false → Unasked (conclude_rows table P Q t w Rs)
  unfolding conclude_rows any_fresh
  unasked_rows [] h = tt
  unasked_rows (R ∷ Rs) h =
      let b = both_false R.fresh (any_fresh Rs) h in
      go (met (at table) R.needs P Q (given R.fresh t w)) b.0 (unasked_rows Rs b.1)
    where
      go : (o : Option Letters) → R.fresh ≡ false → Unasked (conclude_rows table P Q t w Rs)
          → Unasked (or_else table P Q t w o R (conclude_rows table P Q t w Rs))
      go None h k = k
      go (Some σ) h k = h

  -- so no conclusion of a rule that asks nowhere does
  unasked : (D : List Literal) (E : Bool) (k : Kind) → fresh_kind k ≡ false
      → Unasked (conclude table P Q t w D E k)
  unfolding conclude
  unasked D E (rows Rs) h = unasked_rows Rs h
  unasked D E congruence h = unasked_then P _ unasked_sub
  unasked D E replacement h = unasked_then P _ λ L. unasked_then Q _ (unasked_rep L)
  unasked D E disjunction h = refl
  unasked D true background h = refl
  unasked D false background h = tt

-- checks 12 to 14, from the conclusion
ending : Freshness → Option Conclusion → Checked (List (List Literal))
ending f o =
    require_some o Reason.NeedNotMet >>= λ c.
    require_fresh c.fresh f >> require_some c.adds Reason.TermNotMade

-- freshness is not looked at, where the conclusion does not ask
same_ending : (o : Option Conclusion) → Unasked o → (f g : Freshness) → ending f o ≡ ending g o
unfolding ending
same_ending None h f g = refl
same_ending (Some c) h f g = rw h

-- the answer of a rule that asks for no fresh w does not depend on it
unasked_answer : (table : Table) (P Q : Option Literal) (D : List Literal) (E : Bool) (t w : ℕ)
    (x : Rule) → asks_fresh x ≡ false → (f g : Freshness)
    → answer table f P Q D E t w x ≡ answer table g P Q D E t w x
unfolding answer ending
unasked_answer table P Q D E t w x h f g =
    same_ending (conclude table P Q t w D E (rule x)) (unasked table P Q t w D E (rule x) h) f g

-- nor does that of `bck`
background_unasked : (k : Kind) → background_kind k ≡ true → fresh_kind k ≡ false
background_unasked (rows Rs) h = absurd (false≢true h)
background_unasked congruence h = refl
background_unasked replacement h = refl
background_unasked disjunction h = refl
background_unasked background h = refl

-- THE RULES THAT ASK are `ext`, `wit` and `bck`
pub others_unasked : (x : Rule) → NoneOf x (Rule.Ext ∷ Rule.Wit ∷ Rule.Bck ∷ [])
    → asks_branch x ≡ false
unfolding rules rule_names rule any_fresh
others_unasked x o =
    not-true _ (other_rule (λ y. not (asks_branch y))
    (Rule.Ext ∷ Rule.Wit ∷ Rule.Bck ∷ []) refl x o)

pub others_not_background : (x : Rule) → NoneOf x (Rule.Bck ∷ []) → is_background x ≡ false
unfolding rules rule_names rule
others_not_background x o =
    not-true _ (other_rule (λ y. not (is_background y)) (Rule.Bck ∷ []) refl x o)

fresh_no_background : {x : Rule} → (x ≡ Rule.Ext) ⊎ (x ≡ Rule.Wit) → is_background x ≡ false
unfolding rule
fresh_no_background (inl e) = ap is_background e
fresh_no_background (inr e) = ap is_background e

-- WHAT ANSWERS TELL: any two tell a rule that does not ask the same; `bck` is told by whether the
-- branch contradicts itself, `ext` and `wit` by whether w is fresh
module _ (table : Table) (C : Clauses) (B : List Literal) (s : Step) (o : Told) where
  pub tells_any : NoneOf s.rule (Rule.Ext ∷ Rule.Wit ∷ Rule.Bck ∷ []) → Tells table C B s o
  tells_any h P Q D t =
      let b = both_false (asks_fresh s.rule) (is_background s.rule) (others_unasked s.rule h) in
      unasked_answer table P Q D _ t _ s.rule b.0 o.fresh _
      ∙ same_whatever table P Q D o.contradicted _ t _ _ s.rule b.1

  pub tells_contradiction : s.rule ≡ Rule.Bck → o.contradicted ≡ contradicted table B
      → Tells table C B s o
  unfolding rule
  tells_contradiction b e P Q D t =
      unasked_answer table P Q D _ t _ s.rule
      (background_unasked (rule s.rule) (ap is_background b)) o.fresh _
      ∙ ap (λ (v : Bool). answer table (freshness table C B s.w.0) P Q D v t s.w.0 s.rule) e

  pub tells_fresh : (s.rule ≡ Rule.Ext) ⊎ (s.rule ≡ Rule.Wit) → o.fresh ≡ freshness table C B s.w.0
      → Tells table C B s o
  tells_fresh r e P Q D t =
      same_whatever table P Q D o.contradicted _ t _ _ s.rule (fresh_no_background r)
      ∙ ap (λ (v : Freshness). answer table v P Q D (contradicted table B) t s.w.0 s.rule) e
