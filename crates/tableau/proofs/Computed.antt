-- The replies that document 01 marks, those to the files of the old checker's failings, to those about start-up, with clauses, with a used w, with `fin`, with numbers of five digits and with `bck`, by computation.
use mathlib.Core.Path.{refl}
use mathlib.Core.List.{[], ◌∷◌}
use Rattle.tableau.specs.Cases.{cases, AllReplies, ◌⊢◌}
use Rattle.tableau.specs.Failings.{incident, incident_mended, stale_witness, names_compared, literals_kept, outside_all, failings}
use Rattle.tableau.specs.StartUp.{start_up_cases}
use Rattle.tableau.specs.Disjunctions.{clause_cases}
use Rattle.tableau.specs.UsedWitnesses.{place_cases}
use Rattle.tableau.specs.InsideImage.{counting_cases}
use Rattle.tableau.specs.LongNumbers.{long_number_cases}
use Rattle.tableau.specs.Contradictions.{contradiction_cases}
use Rattle.tableau.proofs.Evaluate.{evaluate}

-- THE CASES MARKED ◆
pub marked : AllReplies cases
unfolding AllReplies cases evaluate
marked = refl

-- the incident, and the four other ways in which the old checker went wrong, are refused
pub failings_refused : AllReplies failings
unfolding AllReplies failings incident stale_witness names_compared literals_kept outside_all evaluate
failings_refused = refl

pub mended_accepted : AllReplies ((incident_mended ⊢ "yes,0,0,9,4,4,3,0") ∷ [])
unfolding AllReplies incident_mended evaluate
mended_accepted = refl

-- the start-up file is refused at its step by `fir`; one that assumes `all` ne `emp` and opens it by `ext` is accepted
pub start_up_replies : AllReplies start_up_cases
unfolding AllReplies start_up_cases evaluate
start_up_replies = refl

-- a clause that is split, with every alternative closed, is accepted; with one open, a w in a clause or a gap in the numbers it is refused
pub clause_replies : AllReplies clause_cases
unfolding AllReplies clause_cases evaluate
clause_replies = refl

-- the place of a w that is not fresh: the first that mentions it, inside a larger term too; 0 where only a clause does, and for a term that is no `rfv`
pub place_replies : AllReplies place_cases
unfolding AllReplies place_cases evaluate
place_replies = refl

-- a file closed by `fin`; with the image on a wrong side it is refused
pub counting_replies : AllReplies counting_cases
unfolding AllReplies counting_cases evaluate
counting_replies = refl

-- names of five digits, each a variable of its own; other numbers of five digits get what those of four get
pub long_number_replies : AllReplies long_number_cases
unfolding AllReplies long_number_cases evaluate
long_number_replies = refl

-- files closed by `bck`; with names for terms, le for eq, the order reversed, one argument of two, or a field, they are refused
pub contradiction_replies : AllReplies contradiction_cases
unfolding AllReplies contradiction_cases evaluate
contradiction_replies = refl
