-- What a rule is given, and what it answers: checks 12 to 14.
use Rattle.std.specs.Prelude.{◌≡◌, Bool, true, false, List, [], ℕ, Option, None, Some, Result, IfOk}
use Rattle.tableau.specs.declared.Reason.{Reason}
use Rattle.tableau.specs.declared.Rule.{Rule}
use Rattle.tableau.specs.Fields.{PlaceField, ThirdField, TermField, unused, place, side, clause}
use Rattle.tableau.specs.Fields.{term, of, rule_fields}
use Rattle.tableau.specs.Terms.{Table, Literal}
use Rattle.tableau.specs.Rules.{Kind, rows, congruence, replacement, disjunction, background, rule}
use Rattle.tableau.specs.Tree.{answer}
use Rattle.packing.specs.declared.LiteralView.{LiteralView}
use Rattle.packing.specs.Packing.{literal_of, Small}
use Rattle.table.specs.Held.{Searchable}
use Rattle.rules.specs.declared.outcome.Outcome.{Outcome}
use Rattle.conclusions.specs.declared.Told.{Told}
use Rattle.rules.specs.Answer.{Room, answer_of}

-- the literal that a place gives the rule
abbrev pub at_place : PlaceField → LiteralView → Option Literal
at_place unused P = None
at_place place P = Some (literal_of P)

-- the numbers of the fields t and w: 0 where the rule does not use the field, else that of a term,
-- or any side or clause
abbrev pub ThirdGiven : ThirdField → ℕ → Type 0
ThirdGiven unused n = n ≡ 0
ThirdGiven side n = Unit {0}
ThirdGiven clause n = Unit {0}
ThirdGiven term n = Small n
ThirdGiven (of s) n = Small n

abbrev pub TermGiven : TermField → ℕ → Type 0
TermGiven unused n = n ≡ 0
TermGiven term n = Small n
TermGiven (of s) n = Small n

pub record Given (x : Rule) (t w : ℕ) : Type 0 where
  pub third : ThirdGiven (rule_fields x).t t
  pub fourth : TermGiven (rule_fields x).w w

-- the rule that asks whether the branch contradicts itself
abbrev pub background_kind : Kind → Bool
background_kind (rows Rs) = false
background_kind congruence = false
background_kind replacement = false
background_kind disjunction = false
background_kind background = true

abbrev pub is_background : Rule → Bool
is_background x = background_kind (rule x)

-- the outcome is the answer of rule x, which looks at no clause, where o is what it was told of the
-- branch
pub record Infers (x : Rule) (P Q : LiteralView) (t w : ℕ) (o : Told) (terms chains : List ℕ)
    (r : Result Outcome Reason) : Type 0 where
  pub room : IfOk r Room
  pub answers : (table : Table) → Searchable table terms chains
      → answer table o.fresh (at_place (rule_fields x).p P)
      (at_place (rule_fields x).q Q) [] o.contradicted t w x ≡ answer_of r
