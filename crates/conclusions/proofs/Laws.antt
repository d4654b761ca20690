-- What a step infers is what the function of its rule concludes.
use mathlib.Core.Path.{◌≡◌, refl, sym, ◌∙◌, ap₂, subst}
use mathlib.Core.Logic.{◌⊎◌, inl, inr}
use mathlib.Core.Bool.{Bool, true, false, not, ◌||◌, or-false}
use mathlib.Core.List.{List, []}
use Rattle.std.specs.Prelude.{Option, Result, IfOk}
use Prim.Native.Nat.{ℕ}
use native.Mathlib.Omega.{arith}
use lib.Dec.{eqb}
use borrow.Author.Tests.{eq-eqb}
use Rattle.tableau.specs.declared.Freshness.{Freshness}
use Rattle.tableau.specs.declared.Reason.{Reason}
use Rattle.tableau.specs.declared.Rule.{Rule}
use Rattle.tableau.specs.Words.{rule_names}
use Rattle.tableau.specs.Fields.{ThirdField, TermField, unused, side, clause, term, of, rule_fields}
use Rattle.tableau.specs.Terms.{Table, Literal}
use Rattle.tableau.specs.Rules.{Kind, rows, congruence, replacement, disjunction, background, rule}
use Rattle.tableau.specs.Steps.{conclude}
use Rattle.tableau.specs.Tree.{answer}
use Rattle.tableau.proofs.Bools.{clash}
use Rattle.tableau.proofs.Places.{rules, place_of, all_of, every_rule, same_rule}
use Rattle.syntax.specs.Syntax.{kind_of}
use Rattle.packing.specs.declared.LiteralView.{LiteralView}
use Rattle.table.specs.Held.{Searchable}
use Rattle.rules.specs.declared.outcome.Outcome.{Outcome}
use Rattle.rules.specs.Answer.{Room, answer_of, Concludes, ConcludesFresh}
use Rattle.equality_rules.specs.Closing.{closes_if}
use Rattle.conclusions.specs.declared.Told.{Told}
use Rattle.conclusions.specs.Infers.{at_place, ThirdGiven, TermGiven, Given, background_kind}
use Rattle.conclusions.specs.Infers.{is_background, Infers}

-- THE NUMBERS that a rule's function speaks of: 0 for a field that the rule does not use
abbrev third_of : ThirdField → ℕ → ℕ
third_of unused n = 0
third_of side n = n
third_of clause n = n
third_of term n = n
third_of (of s) n = n

abbrev fourth_of : TermField → ℕ → ℕ
fourth_of unused n = 0
fourth_of term n = n
fourth_of (of s) n = n

third_of_lem : (f : ThirdField) (n : ℕ) → ThirdGiven f n → n ≡ third_of f n
third_of_lem unused n h = h
third_of_lem side n h = refl
third_of_lem clause n h = refl
third_of_lem term n h = refl
third_of_lem (of s) n h = refl

fourth_of_lem : (f : TermField) (n : ℕ) → TermGiven f n → n ≡ fourth_of f n
fourth_of_lem unused n h = h
fourth_of_lem term n h = refl
fourth_of_lem (of s) n h = refl

-- what is given to a rule is given to the rule that it is
pub given_as : {x y : Rule} {t w : ℕ} → x ≡ y → Given x t w → Given y t w
given_as {t = t} {w = w} e g = subst (λ (z : Rule). Given z t w) e g

-- A RULE THAT DOES NOT ASK WHETHER THE BRANCH CONTRADICTS ITSELF answers the same whichever it is
module _ (table : Table) (P Q : Option Literal) (D : List Literal) (E F : Bool) (t w : ℕ) where
  same_conclusion : (k : Kind) → background_kind k ≡ false
      → conclude table P Q t w D E k ≡ conclude table P Q t w D F k
  unfolding conclude
  same_conclusion (rows Rs) h = refl
  same_conclusion congruence h = refl
  same_conclusion replacement h = refl
  same_conclusion disjunction h = refl
  same_conclusion background h = clash refl h

  pub same_whatever : (f : Freshness) (x : Rule) → is_background x ≡ false
      → answer table f P Q D E t w x ≡ answer table f P Q D F t w x
  unfolding answer
  same_whatever f x b = rw (same_conclusion (rule x) b)

-- WHAT A STEP INFERS is what the function of its rule concludes
same_answer : (table : Table) (fresh : Freshness) (P Q : Option Literal) (E : Bool) (t w : ℕ)
    (x : Rule) → is_background x ≡ false → Given x t w
    → answer table fresh P Q [] E t w x ≡ answer table fresh P Q [] false
    (third_of (rule_fields x).t t) (fourth_of (rule_fields x).w w) x
same_answer table fresh P Q E t w x b g = same_whatever table P Q [] E false t w fresh x b
    ∙ (ap₂ (λ (k l : ℕ). answer table fresh P Q [] false k l x)
    (third_of_lem (rule_fields x).t t g.third) (fourth_of_lem (rule_fields x).w w g.fourth))

module _ {x y : Rule} {P Q : LiteralView} {t w : ℕ} {o : Told} {terms chains : List ℕ}
    {r : Result Outcome Reason} {A : Table → Type 0} (e : x ≡ y)
    (b : is_background y ≡ false) (g : Given x t w)
    (f : (table : Table) → Searchable table terms chains → A table) where
  as_rule : Infers y P Q t w o terms chains r → Infers x P Q t w o terms chains r
  as_rule i = subst (λ (z : Rule). Infers z P Q t w o terms chains r) (sym e) i

  pub infers : Concludes A y (at_place (rule_fields y).p P) (at_place (rule_fields y).q Q)
      (third_of (rule_fields y).t t) (fourth_of (rule_fields y).w w) r
      → Infers x P Q t w o terms chains r
  infers C = as_rule record {
    room = C.room;
    answers = λ table S.
        same_answer table o.fresh (at_place (rule_fields y).p P)
        (at_place (rule_fields y).q Q) o.contradicted t w y b (given_as e g)
        ∙ C.answers table (f table S) o.fresh;
  }

  -- the same for a rule that asks for a fresh w
  pub infers_fresh : ConcludesFresh A o.fresh y (at_place (rule_fields y).p P)
      (at_place (rule_fields y).q Q) (third_of (rule_fields y).t t)
      (fourth_of (rule_fields y).w w) r → Infers x P Q t w o terms chains r
  infers_fresh C = as_rule record {
    room = C.room;
    answers = λ table S.
        same_answer table o.fresh (at_place (rule_fields y).p P)
        (at_place (rule_fields y).q Q) o.contradicted t w y b (given_as e g)
        ∙ C.answers table (f table S);
  }

-- `bck` closes where the branch contradicts itself
background_answer : (table : Table) (f : Freshness) (P Q : Option Literal) (E : Bool) (t w : ℕ)
    → answer table f P Q [] E t w Rule.Bck ≡ answer_of (closes_if E)
unfolding answer conclude rule
background_answer table f P Q true t w = refl
background_answer table f P Q false t w = refl

closes_room : (E : Bool) → IfOk (closes_if E) Room
closes_room true = tt
closes_room false = tt

pub infers_background : {x : Rule} {P Q : LiteralView} {t w : ℕ} {o : Told} {terms chains : List ℕ}
    {r : Result Outcome Reason} → x ≡ Rule.Bck
    → r ≡ closes_if o.contradicted → Infers x P Q t w o terms chains r
infers_background {P = P} {Q} {t} {w} {o} e q = rw (e, q) record {
  room = closes_room o.contradicted;
  answers = λ table S. background_answer table o.fresh _ _ o.contradicted t w;
}

-- FIELD t: only that of `rep` is a side, and only that of `cla` a clause number
abbrev has_kind : ℕ → Rule → Bool
has_kind k x = eqb (kind_of (rule_fields x).t) k

only : (k : ℕ) (y : Rule)
    → all_of (λ x. eqb (place_of x) (place_of y) || not (has_kind k x)) rules ≡ true → (x : Rule)
    → kind_of (rule_fields x).t ≡ k → x ≡ y
only k y h x e =
    same_rule x y (go (every_rule (λ x. eqb (place_of x) (place_of y) || not (has_kind k x)) h x)
    (eq-eqb (kind_of (rule_fields x).t) k e))
  where
    go : {a b : Bool} → a || not b ≡ true → b ≡ true → a ≡ true
    go {a} {b} e q = sym (or-false a) ∙ (λ i. a || not (sym q i)) ∙ e

pub is_rep : (x : Rule) → kind_of (rule_fields x).t ≡ 1 → x ≡ Rule.Rep
unfolding rules rule_names rule_fields
is_rep = only 1 Rule.Rep refl

pub is_cla : (x : Rule) → kind_of (rule_fields x).t ≡ 2 → x ≡ Rule.Cla
unfolding rules rule_names rule_fields
is_cla = only 2 Rule.Cla refl

-- a field t that is a term is neither
pub neither : {x : Rule} → kind_of (rule_fields x).t ≡ 0 → (x ≡ Rule.Rep) ⊎ (x ≡ Rule.Cla) → ⊥
unfolding rule_fields
neither h (inl e) = let z : ◌≡◌ {A = ℕ} 1 0 = rw e at h in omega arith
neither h (inr e) = let z : ◌≡◌ {A = ℕ} 2 0 = rw e at h in omega arith
