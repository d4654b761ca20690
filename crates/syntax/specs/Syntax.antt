-- What the parts of a line stand for in the specification.
use Rattle.std.specs.Prelude.{◌≡◌, true, ℕ, ◌+◌, ◌<◌}
use Rattle.tableau.specs.declared.Word.{Word}
use Rattle.tableau.specs.Basics.{Four, four, every}
use Rattle.tableau.specs.Fields.{Use, unused, place, name, side, clause, term, of, ThirdField, rule_fields, rule_uses}
use Rattle.tableau.specs.Terms as specification
use Rattle.tableau.specs.Terms.{TermNo, variable, apply, literal}
use Rattle.tableau.specs.Reply.{zero_if_unused}
use Rattle.syntax.specs.declared.Arguments.{Arguments}
use Rattle.syntax.specs.declared.Term.{Term}
use Rattle.syntax.specs.declared.Literal.{Literal}
use Rattle.syntax.specs.declared.ThirdField as declared
use Rattle.syntax.specs.declared.Step.{Step}

-- A TERM: by its word and fields, and as the specification has it.
abbrev pub arguments_in : Arguments → Four TermNo
arguments_in k = four k.a.0 k.b.0 k.c.0 k.d.0

abbrev pub word_in : Term → Word
word_in (Term.Variable s n) = Word.Variable s
word_in (Term.Apply o k) = Word.Operation o

abbrev pub fields_in : Term → Four ℕ
fields_in (Term.Variable s n) = four n.0 0 0 0
fields_in (Term.Apply o k) = arguments_in k

abbrev pub term_in : Term → specification.Term
term_in (Term.Variable s n) = variable s n.0
term_in (Term.Apply o k) = apply o (arguments_in k)

-- A LITERAL, and the fields of an A line that says it.
abbrev pub literal_in : Literal → specification.Literal
literal_in l = literal l.relation l.left.0 l.right.0

abbrev pub sides_in : Literal → Four ℕ
sides_in l = four l.left.0 l.right.0 0 0

-- THE USED FIELDS of a word as one number, a bit for each.
abbrev pub bit_of : ℕ → Use → ℕ
bit_of n unused = 0
bit_of n place = n
bit_of n name = n
bit_of n side = n
bit_of n clause = n
bit_of n term = n
bit_of n (of s) = n

abbrev pub mask_of : Four Use → ℕ
mask_of f = bit_of 1 f.a + (bit_of 2 f.b + (bit_of 4 f.c + bit_of 8 f.d))

-- A STEP: its fields.
abbrev pub third_in : declared.ThirdField → ℕ
third_in (declared.ThirdField.Term t) = t.0
third_in (declared.ThirdField.Side s) = s.0
third_in (declared.ThirdField.Clause k) = k.0

abbrev pub step_fields : Step → Four ℕ
step_fields s = four s.p.0 s.q.0 (third_in s.t) s.w.0

-- field t is a side where the rule's is one, the number of a clause where it is one, and else a term
abbrev pub kind_of : ThirdField → ℕ
kind_of unused = 0
kind_of side = 1
kind_of clause = 2
kind_of term = 0
kind_of (of s) = 0

abbrev pub kind_in : declared.ThirdField → ℕ
kind_in (declared.ThirdField.Term t) = 0
kind_in (declared.ThirdField.Side s) = 1
kind_in (declared.ThirdField.Clause k) = 2

abbrev pub ThirdFits : ThirdField → declared.ThirdField → Type 0
ThirdFits f t = kind_of f ≡ kind_in t

abbrev pub NoClause : declared.ThirdField → Type 0
NoClause t = kind_in t < 2

-- a step has the mask of its rule, a field t of its rule's kind, and zeros where its rule uses no field
pub record WellTaken (s : Step) : Type 0 where
  pub used : s.used.0 ≡ mask_of (rule_uses s.rule)
  pub third : ThirdFits (rule_fields s.rule).t s.t
  pub unused_zero : every zero_if_unused (rule_uses s.rule) (step_fields s) ≡ true
