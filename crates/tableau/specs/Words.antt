-- The words of the lines: what each stands for, by the letter of its line.
use Rattle.std.specs.Prelude.{List, [], ◌∷◌, ℕ, Option, None, Some}
use Rattle.tableau.specs.declared.Letter.{Letter}
use Rattle.tableau.specs.declared.Sort.{Sort}
use Rattle.tableau.specs.declared.Operator.{Operator}
use Rattle.tableau.specs.declared.Word.{Word}
use Rattle.tableau.specs.declared.Relation.{Relation}
use Rattle.tableau.specs.declared.Rule.{Rule}
use Rattle.tableau.specs.Basics.{Named, ◌↣◌, lookup}

-- "T lines make terms": a variable of each sort, or an operator.
unfoldable pub words : List (Named Word)
words =
    ("nul" ↣ Word.Operation Operator.Nul) ∷
    ("rfv" ↣ Word.Variable Sort.Reference) ∷
    ("rea" ↣ Word.Operation Operator.Rea) ∷
    ("emp" ↣ Word.Operation Operator.Emp) ∷
    ("all" ↣ Word.Operation Operator.All) ∷
    ("rgv" ↣ Word.Variable Sort.Region) ∷
    ("cup" ↣ Word.Operation Operator.Cup) ∷
    ("cap" ↣ Word.Operation Operator.Cap) ∷
    ("dif" ↣ Word.Operation Operator.Dif) ∷
    ("sin" ↣ Word.Operation Operator.Sin) ∷
    ("img" ↣ Word.Operation Operator.Img) ∷
    ("arv" ↣ Word.Variable Sort.Heap) ∷
    ("wri" ↣ Word.Operation Operator.Wri) ∷
    ("fnv" ↣ Word.Variable Sort.Field) ∷
    ("clv" ↣ Word.Variable Sort.Class) ∷
    ("typ" ↣ Word.Operation Operator.Typ) ∷
    ("dty" ↣ Word.Operation Operator.Dty) ∷
    []

-- "A lines hold a word and two terms", and so do C lines.
unfoldable pub relations : List (Named Relation)
relations =
    ("in" ↣ Relation.In) ∷
    ("ni" ↣ Relation.Ni) ∷
    ("eq" ↣ Relation.Eq) ∷
    ("ne" ↣ Relation.Ne) ∷
    ("le" ↣ Relation.Le) ∷
    ("nl" ↣ Relation.Nl) ∷
    []

-- "S lines hold a rule." Those that close stand side by side.
unfoldable pub rule_names : List (Named Rule)
rule_names =
    ("eqr" ↣ Rule.Eqr) ∷
    ("eql" ↣ Rule.Eql) ∷
    ("ext" ↣ Rule.Ext) ∷
    ("cpe" ↣ Rule.Cpe) ∷
    ("cpi" ↣ Rule.Cpi) ∷
    ("cue" ↣ Rule.Cue) ∷
    ("cui" ↣ Rule.Cui) ∷
    ("dfe" ↣ Rule.Dfe) ∷
    ("dfi" ↣ Rule.Dfi) ∷
    ("sge" ↣ Rule.Sge) ∷
    ("sgi" ↣ Rule.Sgi) ∷
    ("cut" ↣ Rule.Cut) ∷
    ("all" ↣ Rule.All) ∷
    ("nul" ↣ Rule.Nul) ∷
    ("sep" ↣ Rule.Sep) ∷
    ("img" ↣ Rule.Img) ∷
    ("wit" ↣ Rule.Wit) ∷
    ("ref" ↣ Rule.Ref) ∷
    ("sym" ↣ Rule.Sym) ∷
    ("trn" ↣ Rule.Trn) ∷
    ("sub" ↣ Rule.Sub) ∷
    ("rep" ↣ Rule.Rep) ∷
    ("ler" ↣ Rule.Ler) ∷
    ("let" ↣ Rule.Let) ∷
    ("lea" ↣ Rule.Lea) ∷
    ("rdh" ↣ Rule.Rdh) ∷
    ("rdm" ↣ Rule.Rdm) ∷
    ("cls" ↣ Rule.Cls) ∷
    ("emp" ↣ Rule.Emp) ∷
    ("bck" ↣ Rule.Bck) ∷
    ("cla" ↣ Rule.Cla) ∷
    ("fin" ↣ Rule.Fin) ∷
    []

-- What a line asks for, by its letter and word: a term, an assumption, a literal of a clause, a step.
pub data Command : Type 0 where
  make : Word → Command
  assume : Relation → Command
  disjoin : Relation → Command
  infer : Rule → Command

abbrev pub some_of : {A : Type 0} → (A → Command) → Option A → Option Command
some_of f None = None
some_of f (Some x) = Some (f x)

unfoldable pub command_of : Letter → List ℕ → Option Command
command_of Letter.T w = some_of make (lookup words w)
command_of Letter.A w = some_of assume (lookup relations w)
command_of Letter.C w = some_of disjoin (lookup relations w)
command_of Letter.S w = some_of infer (lookup rule_names w)
