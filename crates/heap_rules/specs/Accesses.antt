-- The terms that img and wit would add: an access is made where all three stand in the table.
use Rattle.std.specs.Prelude.{◌≡◌, List, ℕ, Option, None, Some, Result, Ok, Err, IfOk}
use Rattle.tableau.specs.declared.Operator.{Operator}
use Rattle.tableau.specs.declared.Reason.{Reason}
use Rattle.tableau.specs.Basics.{four}
use Rattle.tableau.specs.Terms.{TermNo, Table, Term, apply, number_of}
use Rattle.packing.specs.Packing.{Small, number}
use Rattle.rules.specs.Answer.{SearchableBy}
use Rattle.heap_rules.specs.declared.images.Access.{Access}

abbrev pub typ : TermNo → Term
typ u = apply Operator.Typ (four u 0 0 0)

abbrev pub dty : TermNo → Term
dty f = apply Operator.Dty (four f 0 0 0)

abbrev pub rea : TermNo → TermNo → TermNo → Term
rea h u f = apply Operator.Rea (four h u f 0)

abbrev pub access_of : Option TermNo → Option TermNo → Option TermNo → Result Access Reason
access_of None n o = Err Reason.TermNotMade
access_of (Some c) None o = Err Reason.TermNotMade
access_of (Some c) (Some d) None = Err Reason.TermNotMade
access_of (Some c) (Some d) (Some v) =
    Ok (record { class = number c; owner = number d; value = number v })

pub record Accesses (terms chains : List ℕ) (h u f : TermNo)
    (r : Result Access Reason) : Type 0 where
  pub small : IfOk r (λ a. Small a.class.0 × Small a.owner.0 × Small a.value.0)
  pub is : (table : Table) → SearchableBy terms chains table
      → r ≡ access_of (number_of table (typ u)) (number_of table (dty f))
      (number_of table (rea h u f))
