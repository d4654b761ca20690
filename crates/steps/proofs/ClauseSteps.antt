-- Which steps look at a clause: those of `cla` alone, and what they add.
use mathlib.Core.Path.{◌≡◌, refl, ◌∙◌, ap}
use mathlib.Core.Bool.{Bool, true, false, not, ◌&&◌, ◌||◌}
use mathlib.Core.List.{List, [], ◌∷◌, map}
use Rattle.std.specs.Prelude.{Option}
use Prim.Native.Nat.{ℕ, ◌<◌}
use native.Mathlib.Omega.{arith}
use lib.Dec.{eqb, leb}
use borrow.Author.Tests.{ne_eqb, not-true}
use Rattle.tableau.specs.declared.Freshness.{Freshness}
use Rattle.tableau.specs.declared.ClauseNumber.{ClauseNumber}
use Rattle.tableau.specs.declared.Rule.{Rule}
use Rattle.tableau.specs.Basics.{every}
use Rattle.tableau.specs.Fields.{rule_fields, rule_uses}
use Rattle.tableau.specs.Words.{rule_names}
use Rattle.tableau.specs.Terms.{Table, Literal, Clauses, clause_of, last_clause}
use Rattle.tableau.specs.Rules.{Kind, rows, congruence, replacement, disjunction, background, rule}
use Rattle.tableau.specs.Steps.{conclude}
use Rattle.tableau.specs.Tree.{passed, is_clause, is_there, answer}
use Rattle.tableau.proofs.Bools.{clash}
use Rattle.tableau.proofs.ClauseLaws.{InSequence}
use Rattle.tableau.proofs.Places.{rules, every_rule}
use Rattle.syntax.specs.declared.Step.{Step}
use Rattle.syntax.specs.declared.ThirdField as declared
use Rattle.syntax.specs.Syntax.{kind_of, third_in, step_fields}
use Rattle.clauses.proofs.Laws.{is_clause_lem}
use Rattle.steps.proofs.CheckLaws.{and-true}

-- the rules that look at a clause
abbrev looks_at_clause : Kind → Bool
looks_at_clause (rows Rs) = false
looks_at_clause congruence = false
looks_at_clause replacement = false
looks_at_clause disjunction = true
looks_at_clause background = false

-- a rule of another kind concludes the same of any clause
module _ (table : Table) (P Q : Option Literal) (t w : ℕ) (D : List Literal) (E : Bool) where
  same_conclusion : (k : Kind) → looks_at_clause k ≡ false
      → conclude table P Q t w D E k ≡ conclude table P Q t w [] E k
  unfolding conclude
  same_conclusion (rows Rs) h = refl
  same_conclusion congruence h = refl
  same_conclusion replacement h = refl
  same_conclusion disjunction h = clash refl h
  same_conclusion background h = refl

-- a rule that is not `cla`, whose t is a clause's number
pub no_clause_asked : (table : Table) (f : Freshness) (P Q : Option Literal) (D : List Literal)
    (E : Bool) (t w : ℕ) (x : Rule) → kind_of (rule_fields x).t < 2
    → answer table f P Q D E t w x ≡ answer table f P Q [] E t w x
unfolding answer rules rule_names rule_fields rule
no_clause_asked table f P Q D E t w x h =
    let e =
    every_rule (λ y. eqb (kind_of (rule_fields y).t) 2 || not
    (looks_at_clause (rule y))) refl x in
    let n = not-true _ (rw (ne_eqb (kind_of (rule_fields x).t) 2 (λ z. omega arith)) at e) in
    rw (same_conclusion table P Q t w D E (rule x) n)

-- `cla` adds the literals of its clause
pub cla_answer : (table : Table) (C : Clauses) (s : Step) {k : ClauseNumber} (f : Freshness)
    (P Q : Option Literal) (E : Bool) (w : ℕ) → s.rule ≡ Rule.Cla
    → s.t ≡ declared.ThirdField.Clause k
    → answer table f P Q (clause_of C (third_in s.t)) E (third_in s.t) w s.rule ≡ passed
    (map (λ l. l ∷ []) (clause_of C k.0))
unfolding answer conclude rule
cla_answer table C s f P Q E w e q = rw (e, q)

-- CHECK 11 of `cla`
cla_there : (C : Clauses) (B : List Literal) (s : Step) {k : ClauseNumber} → s.rule ≡ Rule.Cla
    → s.t ≡ declared.ThirdField.Clause k
    → every (is_there C B) (rule_uses s.rule) (step_fields s) ≡ is_clause C k.0
unfolding rule_fields
cla_there C B s {k} e q = rw (e, q) (and-true (is_clause C k.0))

pub clause_there : (C : Clauses) (B : List Literal) (s : Step) {k : ClauseNumber} {last : ℕ}
    → s.rule ≡ Rule.Cla → s.t ≡ declared.ThirdField.Clause k
    → InSequence C → last_clause C ≡ last
    → every (is_there C B) (rule_uses s.rule) (step_fields s) ≡ (leb 1 k.0 && leb k.0 last)
clause_there C B s {k} e q h l =
    cla_there C B s e q ∙ is_clause_lem C k.0 h ∙ ap (λ n. leb 1 k.0 && leb k.0 n) l
