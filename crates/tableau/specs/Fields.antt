-- What fields 3 to 6 of a line hold, by its letter and word.
use Rattle.std.specs.Prelude.{Bool, true, false, cond}
use Rattle.tableau.specs.declared.Sort.{Sort}
use Rattle.tableau.specs.declared.Operator.{Operator}
use Rattle.tableau.specs.declared.Word.{Word}
use Rattle.tableau.specs.declared.Relation.{Relation}
use Rattle.tableau.specs.declared.Rule.{Rule}
use Rattle.tableau.specs.Basics.{Four, four, map_four}

-- What a field of a line holds: nothing, a place, a name, a side (of `rep`), the number of a clause, a term of any sort, a term of one sort.
pub data Use : Type 0 where
  unused place name side clause term : Use
  of : Sort → Use

-- does the field hold a term?
abbrev pub holds_term : Use → Bool
holds_term unused = false
holds_term place = false
holds_term name = false
holds_term side = false
holds_term clause = false
holds_term term = true
holds_term (of s) = true

-- the first where the field holds a term, else the second
abbrev pub if_term : {A : Type 0} → Use → A → A → A
if_term u x z = cond (holds_term u) x z

-- AN OPERATOR'S ARGUMENTS, "from field 3 on, in the order given": each none, or a term of a sort.
pub data Argument : Type 0 where
  unused : Argument
  of : Sort → Argument

unfoldable pub arguments : Operator → Four Argument
arguments Operator.Nul = four unused unused unused unused
arguments Operator.Rea = four (of Sort.Heap) (of Sort.Reference) (of Sort.Field) unused
arguments Operator.Emp = four unused unused unused unused
arguments Operator.All = four unused unused unused unused
arguments Operator.Cup = four (of Sort.Region) (of Sort.Region) unused unused
arguments Operator.Cap = four (of Sort.Region) (of Sort.Region) unused unused
arguments Operator.Dif = four (of Sort.Region) (of Sort.Region) unused unused
arguments Operator.Sin = four (of Sort.Reference) unused unused unused
arguments Operator.Img = four (of Sort.Heap) (of Sort.Region) (of Sort.Field) unused
arguments Operator.Wri = four (of Sort.Heap) (of Sort.Reference) (of Sort.Field) (of Sort.Reference)
arguments Operator.Typ = four (of Sort.Reference) unused unused unused
arguments Operator.Dty = four (of Sort.Field) unused unused unused

abbrev pub argument_use : Argument → Use
argument_use unused = unused
argument_use (of s) = of s

abbrev pub if_argument : {A : Type 0} → Argument → A → A → A
if_argument a x z = if_term (argument_use a) x z

-- the fields of a T line; a variable's one argument is its name
abbrev pub word_fields : Word → Four Use
word_fields (Word.Variable s) = four name unused unused unused
word_fields (Word.Operation o) = map_four argument_use (arguments o)

-- THE SIDES OF A RELATION: "`in`, `ni` (reference, region); `eq`, `ne` (both of one sort, any); `le`, `nl` (classes)"
unfoldable pub sides : Relation → Four Use
sides Relation.In = four (of Sort.Reference) (of Sort.Region) unused unused
sides Relation.Ni = four (of Sort.Reference) (of Sort.Region) unused unused
sides Relation.Eq = four term term unused unused
sides Relation.Ne = four term term unused unused
sides Relation.Le = four (of Sort.Class) (of Sort.Class) unused unused
sides Relation.Nl = four (of Sort.Class) (of Sort.Class) unused unused

-- A C LINE has the two sides, and its "clause number".
abbrev pub clause_fields : Relation → Four Use
clause_fields R = four (sides R).a (sides R).b clause unused

-- THE FIELDS OF A RULE: "places p and q, terms t and w". `cut` and `ler` ask for sorts here; the t of `rep` is a side; "`cla` names a clause number in t".
pub data PlaceField : Type 0 where
  unused place : PlaceField

pub data ThirdField : Type 0 where
  unused side clause term : ThirdField
  of : Sort → ThirdField

pub data TermField : Type 0 where
  unused term : TermField
  of : Sort → TermField

pub record RuleFields : Type 0 where
  pub p : PlaceField
  pub q : PlaceField
  pub t : ThirdField
  pub w : TermField

abbrev pub fields : PlaceField → PlaceField → ThirdField → TermField → RuleFields
fields p' q' t' w' = record { p = p'; q = q'; t = t'; w = w' }

-- "Which fields each rule uses is one fixed table of [thirty-two] rows."
unfoldable pub rule_fields : Rule → RuleFields
rule_fields Rule.Eqr = fields place place unused unused
rule_fields Rule.Eql = fields place place unused unused
rule_fields Rule.Ext = fields place unused unused term
rule_fields Rule.Cpe = fields place unused unused unused
rule_fields Rule.Cpi = fields place place term unused
rule_fields Rule.Cue = fields place unused unused unused
rule_fields Rule.Cui = fields place unused term unused
rule_fields Rule.Dfe = fields place unused unused unused
rule_fields Rule.Dfi = fields place place term unused
rule_fields Rule.Sge = fields place unused unused unused
rule_fields Rule.Sgi = fields unused unused term unused
rule_fields Rule.Cut = fields unused unused (of Sort.Reference) (of Sort.Region)
rule_fields Rule.All = fields place unused unused unused
rule_fields Rule.Nul = fields place unused unused unused
rule_fields Rule.Sep = fields place place unused unused
rule_fields Rule.Img = fields place unused term unused
rule_fields Rule.Wit = fields place unused unused term
rule_fields Rule.Ref = fields unused unused term unused
rule_fields Rule.Sym = fields place unused unused unused
rule_fields Rule.Trn = fields place place unused unused
rule_fields Rule.Sub = fields place unused term term
rule_fields Rule.Rep = fields place place side unused
rule_fields Rule.Ler = fields unused unused (of Sort.Class) unused
rule_fields Rule.Let = fields place place unused unused
rule_fields Rule.Lea = fields place place unused unused
rule_fields Rule.Rdh = fields unused unused term unused
rule_fields Rule.Rdm = fields unused unused term unused
rule_fields Rule.Cls = fields place place unused unused
rule_fields Rule.Emp = fields place unused unused unused
rule_fields Rule.Cla = fields unused unused clause unused
rule_fields Rule.Fin = fields place unused unused unused
rule_fields Rule.Bck = fields unused unused unused unused

-- the fields of a rule, as uses
abbrev pub place_use : PlaceField → Use
place_use unused = unused
place_use place = place

abbrev pub third_use : ThirdField → Use
third_use unused = unused
third_use side = side
third_use clause = clause
third_use term = term
third_use (of s) = of s

abbrev pub term_use : TermField → Use
term_use unused = unused
term_use term = term
term_use (of s) = of s

abbrev pub rule_uses : Rule → Four Use
rule_uses x = four (place_use (rule_fields x).p) (place_use (rule_fields x).q) (third_use (rule_fields x).t) (term_use (rule_fields x).w)
