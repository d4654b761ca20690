-- What an outcome of the code says, and the contract of a rule's function: the outcome is the
-- answer of the specification (checks 12, 13 and 14 of a step).
use Rattle.std.specs.Prelude.{◌≡◌, false, List, [], ◌∷◌, map, ℕ, Option, None, Some, Result, Ok, Err, IfOk}
use Rattle.tableau.specs.declared.Freshness.{Freshness}
use Rattle.tableau.specs.declared.Reason.{Reason}
use Rattle.tableau.specs.declared.Relation.{Relation}
use Rattle.tableau.specs.declared.Rule.{Rule}
use Rattle.tableau.specs.declared.TermNumber.{TermNumber}
use Rattle.tableau.specs.Terms as specification
use Rattle.tableau.specs.Terms.{TermNo, Table, Term, number_of}
use Rattle.tableau.specs.Tree.{Checked, refused, passed, answer}
use Rattle.syntax.specs.declared.Literal.{Literal}
use Rattle.packing.specs.Packing.{unpack_literal, number, Small}
pub use Rattle.packing.specs.Packing.{IsNot}
use Rattle.table.specs.Held.{Entries, Searchable}
use Rattle.tree.specs.declared.Alternative.{Alternative}
use Rattle.tree.specs.State.{codes_of, AtMost}
use Rattle.rules.specs.declared.outcome.Outcome.{Outcome}

-- a literal of the code, by its parts
abbrev pub literal_with : Relation → TermNumber → TermNumber → Literal
literal_with R m n = record { relation = R; left = m; right = n }

-- THE OUTCOME as the specification has it
abbrev pub literals_of : Alternative → List specification.Literal
literals_of k = map unpack_literal (codes_of k)

abbrev pub alternatives_of : Outcome → List (List specification.Literal)
alternatives_of Outcome.Closes = []
alternatives_of (Outcome.Adds k) = literals_of k ∷ []
alternatives_of (Outcome.Splits k l) = literals_of k ∷ literals_of l ∷ []
alternatives_of (Outcome.SplitsThree k l m) = literals_of k ∷ literals_of l ∷ literals_of m ∷ []

-- an alternative that waits has at most two literals
abbrev pub Room : Outcome → Type 0
Room Outcome.Closes = Unit {0}
Room (Outcome.Adds k) = AtMost 3 k
Room (Outcome.Splits k l) = AtMost 3 k × AtMost 2 l
Room (Outcome.SplitsThree k l m) = AtMost 3 k × AtMost 2 l × AtMost 2 m

-- THE ANSWER: an outcome, or a reason to refuse
abbrev pub answer_of : Result Outcome Reason → Checked (List (List specification.Literal))
answer_of (Ok x) = passed (alternatives_of x)
answer_of (Err r) = refused r

-- the alternative has at most n literals, and these are they
pub record Forms (n : ℕ) (k : Alternative) (ls : List specification.Literal) : Type 0 where
  pub at_most : AtMost n k
  pub is : literals_of k ≡ ls

-- the outcome adds these alternatives
pub record Builds (r : Outcome) (ks : List (List specification.Literal)) : Type 0 where
  pub room : Room r
  pub adds : alternatives_of r ≡ ks

-- THE PREMISES: the tables of which a rule that looks nothing up speaks, one that looks at terms,
-- one that searches for terms.
abbrev pub Anywhere : Table → Type 0
Anywhere table = Unit {0}

abbrev pub HeldBy : List ℕ → Table → Type 0
HeldBy terms table = Entries table terms

abbrev pub SearchableBy : List ℕ → List ℕ → Table → Type 0
SearchableBy terms chains table = Searchable table terms chains

-- the number of a term that a rule would add, or refusal 14
abbrev pub made_as : Option TermNo → Result TermNumber Reason
made_as None = Err Reason.TermNotMade
made_as (Some n) = Ok (number n)

-- f is what a search for the term e answers
pub record Finds (terms chains : List ℕ) (e : Term) (f : Result TermNumber Reason) : Type 0 where
  pub small : IfOk f (λ n. Small n.0)
  pub is : (table : Table) → SearchableBy terms chains table → f ≡ made_as (number_of table e)

-- THE CONTRACT OF A RULE other than `cla` and `bck`, which looks at no clause and not at the whole
-- branch: in every table of which the premise holds, the outcome is the rule's answer, whether w is
-- fresh or not.
pub record Concludes (premise : Table → Type 0) (x : Rule) (P Q : Option specification.Literal)
    (t w : ℕ) (r : Result Outcome Reason) : Type 0 where
  pub room : IfOk r Room
  pub answers : (table : Table) → premise table → (fresh : Freshness)
      → answer table fresh P Q [] false t w x ≡ answer_of r

-- the same for a rule that asks for a fresh w
pub record ConcludesFresh (premise : Table → Type 0) (fresh : Freshness) (x : Rule)
    (P Q : Option specification.Literal) (t w : ℕ) (r : Result Outcome Reason)
    : Type 0 where
  pub room : IfOk r Room
  pub answers : (table : Table) → premise table
      → answer table fresh P Q [] false t w x ≡ answer_of r
