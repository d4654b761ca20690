-- What an outcome and a clause make of the tree.
use Rattle.std.specs.Prelude.{◌≡◌, Option, Result, Ok, Err, IfOk, IfSome, cond, List, ℕ}
use Rattle.tableau.specs.declared.Reason.{Reason}
use Rattle.tableau.specs.declared.Rule.{Rule}
use Rattle.tableau.specs.Tree.{Checked, refused, passed, Status, grown}
use Rattle.tableau.specs.Reply.{is_closing}
use Rattle.packing.specs.Packing.{unpack_literal}
use Rattle.clauses.specs.declared.Span.{Span}
use Rattle.clauses.specs.Held.{codes_at}
use Rattle.tree.specs.declared.Change.{Change}
use Rattle.tree.specs.State.{AreCodes, AreWaiting, tree_in}
use Rattle.tree.specs.Change.{Fits, SplitsAt, each_alone, status_after}
use Rattle.rules.specs.declared.outcome.Outcome.{Outcome}
use Rattle.rules.specs.Answer.{alternatives_of}

-- how many closings a step is
abbrev pub closings_of : Rule → ℕ
closings_of x = cond (is_closing x) 1 0

-- what a step makes of the tree of a branch B where W waits; literals that begin to wait stand in
-- words
abbrev pub grown_by : List ℕ → List ℕ → List ℕ → Result (Option Change) Reason → Checked Status
grown_by words B W (Ok o) = passed (status_after unpack_literal words B W o)
grown_by words B W (Err r) = refused r

-- of an outcome: checks 15 and 16
pub record Grows (B W : List ℕ) (x : Outcome) (r : Result (Option Change) Reason) : Type 0 where
  pub fits : AreCodes B → AreWaiting W → IfOk r (λ o. IfSome o (Fits B W))
  pub result : (words : List ℕ) → grown_by words B W r
      ≡ grown (tree_in unpack_literal B W) (alternatives_of x)

-- of a clause whose literals stand at s: an alternative for each
abbrev pub SplitsClause : List ℕ → List ℕ → List ℕ → Span → Result Change Reason → Type 0
SplitsClause words B W s r = SplitsAt words B W (each_alone (codes_at words s.from s.count)) r
