-- How far a file is read: the specification's state that it stands for, what a line makes of it,
-- and the verdict where the file ends.
use Rattle.std.specs.Prelude.{◌≡◌, Bool, true, false, Option, Some, None, Result, Ok, Err, List, ℕ, ◌+◌, ◌≤◌, min}
use Rattle.tableau.specs.declared.Letter.{Letter}
use Rattle.tableau.specs.declared.Reason.{Reason}
use Rattle.tableau.specs.declared.Rule.{Rule}
use Rattle.tableau.specs.File.{in_order}
use Rattle.tableau.specs.Terms.{ClauseNo, Table, Clauses}
use Rattle.tableau.specs.Tree as specification
use Rattle.tableau.specs.Tree.{Checked, refused, passed, Status, is_open, is_closed}
use Rattle.tableau.specs.Reply.{State, Verdict, accept, refuse}
use Rattle.packing.specs.Packing.{unpack_literal}
use Rattle.tree.specs.declared.Begun.{Begun}
use Rattle.tree.specs.declared.Change.{Change}
use Rattle.tree.specs.State.{AreWaiting}
use Rattle.tree.specs.Change.{Fits, changed, split_into, no_literals}
use Rattle.reply.specs.declared.Counts.{Counts}
use Rattle.reply.specs.Verdict.{counts_of}
use Rattle.growth.specs.declared.Progress.{Progress}
use Rattle.growth.specs.declared.LineEffect.{LineEffect}
use Rattle.growth.specs.Growth.{closings_of}

-- THE STATE of the specification, by the table, the clauses and the tree
abbrev pub status_of : Bool → specification.Tree → Status
status_of true τ = is_closed
status_of false τ = is_open τ

abbrev pub state_at : Table → Clauses → specification.Tree → Progress → State
state_at table C τ g =
    record {
      table = table;
      clauses = C;
      status = status_of g.closed τ;
      letter = g.letter;
      counts = counts_of g.counts;
    }

-- no count is greater than that of the lines; only an S line closes the tree; only C lines make
-- clauses
pub record Counted (g : Progress) : Type 0 where
  pub terms : g.counts.terms ≤ g.lines
  pub assumptions : g.counts.assumptions ≤ g.lines
  pub steps : g.counts.steps ≤ g.lines
  pub closings : g.counts.closings ≤ g.lines
  pub clauses : g.clauses ≤ g.lines
  pub closed : g.closed ≡ true → g.letter ≡ Letter.S
  pub no_clause_yet : in_order g.letter Letter.A ≡ true → g.clauses ≡ 0

abbrev pub at_start : Progress
at_start =
    record {
      letter = Letter.T;
      closed = false;
      lines = 0;
      noted = 0;
      clauses = 0;
      counts = record { terms = 0; assumptions = 0; steps = 0; closings = 0 };
    }

-- A LINE MORE of each letter, after which the tree is open
abbrev pub after : Progress → Letter → Progress
after g l = record g { letter = l; closed = false; lines = g.lines + 1 }

abbrev pub after_term : Progress → Progress
after_term g =
    record (after g Letter.T) {
      noted = 0;
      counts = record (g.counts) { terms = g.counts.terms + 1 };
    }

abbrev pub after_literal : Progress → Progress
after_literal g =
    record (after g Letter.A) {
      counts = record
          (g.counts) { assumptions = g.counts.assumptions + 1 };
    }

abbrev pub after_disjunct : Progress → ClauseNo → Progress
after_disjunct g k = record (after g Letter.C) { noted = 0; clauses = k }

abbrev pub after_step : Progress → Rule → ℕ → Progress
after_step g x noted' = record (after g Letter.S) {
  noted = noted';
  counts =
      record (g.counts) {
        steps = g.counts.steps + 1;
        closings = g.counts.closings + closings_of x;
      };
}

-- THE EFFECT of a line, by how far the file is read after it and what it makes of the tree of a
-- branch B where W waits
abbrev pub changed_to : Progress → Change → LineEffect
changed_to g c = record { progress = record g { noted = min g.noted c.cut }; change = c }

abbrev pub grown_to : Progress → List ℕ → List ℕ → Option Change → LineEffect
grown_to g B W (Some c) = changed_to g c
grown_to g B W None =
    record {
      progress = record g { closed = true };
      change = split_into B W no_literals Begun.Nothing;
    }

-- what the line says, with the table, the clauses and their array after it
abbrev pub state_after : List ℕ → Table → Clauses → List ℕ → List ℕ → Result LineEffect Reason
    → Checked State
state_after words table C B W (Ok e) =
    passed (state_at table C (changed unpack_literal words B W e.change) e.progress)
state_after words table C B W (Err r) = refused r

-- what is so of the effect of a line that was read after g
pub record Next (g : Progress) (B W : List ℕ) (e : LineEffect) : Type 0 where
  pub lines : e.progress.lines ≡ g.lines + 1
  pub counted : Counted e.progress
  pub fits : AreWaiting W → Fits B W e.change
  pub noted : e.progress.noted ≤ e.change.cut

-- the counts with the clauses
abbrev pub total_of : Progress → Counts
total_of g = record (g.counts) { assumptions = g.counts.assumptions + g.clauses }

-- the verdict where the file ends: on a closed tree its counts, else check 17
abbrev pub verdict_if : Bool → Progress → Verdict
verdict_if true g = accept (counts_of (total_of g))
verdict_if false g = refuse Reason.BranchOpen (g.lines + 1)

abbrev pub verdict_at_end : Progress → Verdict
verdict_at_end g = verdict_if g.closed g
