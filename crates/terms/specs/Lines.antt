-- What T, A and C lines give.
use Rattle.std.specs.Prelude.{◌≡◌, Bool, ◌&&◌, List, [], ◌∷◌, ◌++◌, ℕ, ◌+◌, ◌<◌, Option, None, Some, get_or, Result, Ok, Err, IfOk, MatchResult}
use Rattle.tableau.specs.declared.Reason.{Reason}
use Rattle.tableau.specs.declared.Relation.{Relation}
use Rattle.tableau.specs.declared.Sort.{Sort}
use Rattle.tableau.specs.Basics.{Four, four, every}
use Rattle.tableau.specs.Fields.{Argument, unused, of, sides}
use Rattle.tableau.specs.Terms.{Table, Literal, at, sort_of, one_sort}
use Rattle.tableau.specs.Tree.{Checked, refused, passed}
use Rattle.tableau.specs.Reply.{of_sort, term_line}
use Rattle.syntax.specs.declared.Term.{Term}
use Rattle.syntax.specs.Syntax.{word_in, fields_in, term_in}
use Rattle.packing.specs.Packing.{pack_literal, code_limit}
use Rattle.terms.specs.Arrays.{Arrays, Held}

-- AN OPERATOR'S ROW, as the specification has it
abbrev pub argument_in : Option Sort → Argument
argument_in None = unused
argument_in (Some s) = of s

abbrev pub row_in : List (Option Sort) → Four Argument
row_in r = four (argument_in (get_or r 0 None)) (argument_in (get_or r 1 None))
    (argument_in (get_or r 2 None)) (argument_in (get_or r 3 None))

-- A T LINE: its reply, and what the arrays hold afterwards
abbrev pub making_of : Checked Table → Result (Unit {0}) Reason
making_of (refused r) = Err r
making_of (passed table) = Ok tt

-- a term that is made is added to the table; after a refusal the arrays are as before
abbrev pub After : Result (Unit {0}) Reason → Table → Term → Arrays → Arrays → ℕ → Type 0
After r table term old new n = MatchResult r (λ _. Held (table ++ (term_in term ∷ [])) new (n + 1))
    (λ _. new ≡ old)

pub record MakesTerm (table : Table) (term : Term) (old new : Arrays) (n : ℕ)
    (r : Result (Unit {0}) Reason) : Type 0 where
  pub reply : r ≡ making_of (term_line table (word_in term) (fields_in term))
  pub after : After r table term old new n

-- AN A LINE: check 9 of its sides, and the packed literal
abbrev pub sides_sorted : Table → Relation → Four ℕ → Bool
sides_sorted table R k = every (of_sort table) (sides R) k && one_sort R (sort_of (at table k.a)) (sort_of (at table k.b))

abbrev pub assumption_of : Checked Literal → Result ℕ Reason
assumption_of (refused r) = Err r
assumption_of (passed l) = Ok (pack_literal l)

abbrev pub SmallCode : Result ℕ Reason → Type 0
SmallCode r = IfOk r (λ c. c < code_limit)
