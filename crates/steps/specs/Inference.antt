-- What a step adds, as the specification has it.
use Rattle.std.specs.Prelude.{List, [], ◌∷◌, map, ℕ, ◌≤◌, Result, Ok, Err}
use Rattle.tableau.specs.declared.Reason.{Reason}
use Rattle.tableau.specs.Terms.{Literal, Clauses, clause_of}
use Rattle.tableau.specs.Tree.{Checked, refused, passed}
use Rattle.rules.specs.Answer.{Room, alternatives_of}
use Rattle.steps.specs.declared.inferring.Inference.{Inference}

abbrev pub added_in : Clauses → Inference → List (List Literal)
added_in C (Inference.ByRule x) = alternatives_of x
added_in C (Inference.ByClause k) = map (λ l. l ∷ []) (clause_of C k.0)

abbrev pub inferred_in : Clauses → Result Inference Reason → Checked (List (List Literal))
inferred_in C (Ok i) = passed (added_in C i)
inferred_in C (Err r) = refused r

-- the tree has room for an outcome's alternatives; a clause that is named is one of those up to the
-- last
abbrev pub RoomFor : ℕ → Inference → Type 0
RoomFor last (Inference.ByRule x) = Room x
RoomFor last (Inference.ByClause k) = (1 ≤ k.0) × (k.0 ≤ last)
