-- What a line is taken apart into, by its word: check 6, and the same word and fields again.
use Rattle.std.specs.Prelude.{true, false, ◌≡◌, ℕ, Result, Ok, Err}
use Rattle.tableau.specs.declared.Letter.{Letter}
use Rattle.tableau.specs.declared.Word.{Word}
use Rattle.tableau.specs.declared.Relation.{Relation}
use Rattle.tableau.specs.declared.Rule.{Rule}
use Rattle.tableau.specs.declared.Reason.{Reason}
use Rattle.tableau.specs.Basics.{Four, every}
use Rattle.tableau.specs.Fields.{Use, word_fields, sides, clause_fields, rule_uses}
use Rattle.tableau.specs.Reply.{zero_if_unused}
use Rattle.tableau.specs.Terms.{literal}
use Rattle.syntax.specs.declared.Term.{Term}
use Rattle.syntax.specs.declared.Literal.{Literal}
use Rattle.syntax.specs.declared.Step.{Step}
use Rattle.syntax.specs.Syntax.{word_in, fields_in, literal_in, step_fields, WellTaken}

abbrev pub TermTakenAs : Word → Four ℕ → Result Term Reason → Type 0
TermTakenAs w k (Ok e) =
    (every zero_if_unused (word_fields w) k ≡ true) × (word_in e ≡ w) × (fields_in e ≡ k)
TermTakenAs w k (Err r) =
    (every zero_if_unused (word_fields w) k ≡ false) × (r ≡ Reason.UnusedField)

-- the fields of a line that holds a literal
abbrev pub literal_fields : Letter → Relation → Four Use
literal_fields Letter.T R = sides R
literal_fields Letter.A R = sides R
literal_fields Letter.C R = clause_fields R
literal_fields Letter.S R = sides R

abbrev pub LiteralTakenAs : Four Use → Relation → Four ℕ → Result Literal Reason → Type 0
LiteralTakenAs u R k (Ok l) = (every zero_if_unused u k ≡ true) × (literal_in l ≡ literal R k.a k.b)
LiteralTakenAs u R k (Err r) = (every zero_if_unused u k ≡ false) × (r ≡ Reason.UnusedField)

abbrev pub StepTakenAs : Rule → Four ℕ → Result Step Reason → Type 0
StepTakenAs x k (Ok s) = (s.rule ≡ x) × (step_fields s ≡ k) × WellTaken s
StepTakenAs x k (Err r) = (every zero_if_unused (rule_uses x) k ≡ false) × (r ≡ Reason.UnusedField)
