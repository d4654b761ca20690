-- A well-formed table: arguments are earlier terms of the sorts asked, and no `rfv` stands twice. (The T lines that pass their checks leave
-- such a table.)
use mathlib.Core.Path.{◌≡◌}
use Prim.Native.Nat.{ℕ, ◌<◌}
use Rattle.tableau.specs.declared.Sort.{Sort}
use Rattle.tableau.specs.Basics.{Four}
use Rattle.tableau.specs.Fields.{Argument, unused, of, arguments}
use Rattle.tableau.specs.Terms.{TermNo, Name, Term, variable, apply, sort_of}

abbrev pub OkArgument : (TermNo → Term) → TermNo → Argument → ℕ → Type 0
OkArgument table t unused n = Unit {0}
OkArgument table t (of s) n = (n < t) × (sort_of (table n) ≡ s)

abbrev pub OkArguments : (TermNo → Term) → TermNo → Four Argument → Four ℕ → Type 0
OkArguments table t k n =
    OkArgument table t k.a n.a × OkArgument table t k.b n.b × OkArgument table t k.c n.c × OkArgument table t k.d n.d

abbrev pub OkTerm : (TermNo → Term) → TermNo → Term → Type 0
OkTerm table t (variable s n) = Unit {0}
OkTerm table t (apply o k) = OkArguments table t (arguments o) k

pub record WellFormed (table : TermNo → Term) : Type 0 where
  pub ok : (t : TermNo) → OkTerm table t (table t)
  pub unique : (t t' : TermNo) (s : Sort) (n : Name) → table t ≡ variable s n → table t' ≡ variable s n → t ≡ t'
