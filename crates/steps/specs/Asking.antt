-- What is known of a step after check 8, and what it asks of the whole branch.
use Rattle.std.specs.Prelude.{◌≡◌, Bool, true, false, ◌||◌, List, [], ◌∷◌, map, ℕ, Option}
use Rattle.tableau.specs.declared.Rule.{Rule}
use Rattle.tableau.specs.Fields.{rule_uses}
use Rattle.tableau.specs.Terms.{Table, Literal, Clauses}
use Rattle.tableau.specs.Rules.{Row, Kind, rows, congruence, replacement, disjunction, background}
use Rattle.tableau.specs.Rules.{rule}
use Rattle.tableau.specs.Steps.{freshness}
use Rattle.tableau.specs.Saturation.{contradicted}
use Rattle.tableau.specs.Tree.{answer}
use Rattle.tableau.specs.Reply.{term_or_name}
use Rattle.tableau.specs.Basics.{every}
use Rattle.syntax.specs.declared.Step.{Step}
use Rattle.syntax.specs.Syntax.{step_fields}
use Rattle.packing.specs.Packing.{unpack_literal}
use Rattle.freshness.specs.Prefixes.{PrefixRows}
use Rattle.conclusions.specs.declared.Told.{Told}
use Rattle.conclusions.specs.Infers.{is_background}
use Rattle.steps.specs.declared.asking.Asked.{Asked}

-- check 8 has passed
abbrev pub TermsNamed : Table → Step → Type 0
TermsNamed table s = every (term_or_name table) (rule_uses s.rule) (step_fields s) ≡ true

-- THE RULES THAT ASK FOR A FRESH w: those with a row that does
unfoldable pub any_fresh : List Row → Bool
any_fresh [] = false
any_fresh (R ∷ Rs) = R.fresh || any_fresh Rs

abbrev pub fresh_kind : Kind → Bool
fresh_kind (rows Rs) = any_fresh Rs
fresh_kind congruence = false
fresh_kind replacement = false
fresh_kind disjunction = false
fresh_kind background = false

abbrev pub asks_fresh : Rule → Bool
asks_fresh x = fresh_kind (rule x)

-- THE RULES THAT ASK OF THE WHOLE BRANCH: these, and `bck`
abbrev pub asks_branch : Rule → Bool
asks_branch x = asks_fresh x || is_background x

-- told this, the step's rule answers as it does with the freshness of its w and with whether the
-- branch contradicts itself
abbrev pub Tells : Table → Clauses → List Literal → Step → Told → Type 0
Tells table C B s o = (P Q : Option Literal) (D : List Literal) (t : ℕ)
    → answer table o.fresh P Q D o.contradicted t s.w.0 s.rule ≡ answer table
    (freshness table C B s.w.0) P Q D (contradicted table B) t s.w.0 s.rule

-- what the step is told, and the rows after it
pub record Answers (table : Table) (C : Clauses) (codes : List ℕ) (s : Step) (prefix : List ℕ)
    (r : Asked) : Type 0 where
  pub tells : Tells table C (map unpack_literal codes) s r.told
  pub rows : PrefixRows table C codes prefix r.noted
