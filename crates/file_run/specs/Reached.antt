-- How far the run over a file has come.
use Rattle.std.specs.Prelude.{◌≡◌, Result, Ok, Err, List, ℕ, ◌≤◌, length}
use Rattle.tableau.specs.declared.Reason.{Reason}
use Rattle.tableau.specs.declared.Refusal.{Refusal}
use Rattle.tableau.specs.File.{max_bytes}
use Rattle.tableau.specs.Terms.{Table, Clauses}
use Rattle.tableau.specs.Tree.{passed}
use Rattle.tableau.specs.Reply.{start, stopped, ended}
use Rattle.packing.specs.Packing.{unpack_literal}
use Rattle.clauses.specs.Held.{ClausesHeld}
use Rattle.terms.specs.Arrays.{Arrays, Held}
use Rattle.freshness.specs.Prefixes.{PrefixRows}
use Rattle.tree.specs.declared.Tree.{Tree}
use Rattle.tree.specs.State.{codes_in, tree_of, Within}
use Rattle.growth.specs.declared.Progress.{Progress}
use Rattle.growth.specs.Progress.{state_at, Counted}
use Rattle.running.specs.Running.{check_from}
use Rattle.file_run.specs.declared.Ran.{Ran}

-- Every line before the position passed, and arrays, tree and counts are what these lines make of
-- them.
pub record Reached (file : List ℕ) (A : Arrays) (words prefix : List ℕ) (t : Tree) (g : Progress)
    (at : ℕ) : Type 0 where
  pub table : Table
  pub clauses : Clauses
  pub held : Held table A g.counts.terms
  pub clauses_held : ClausesHeld clauses words g.clauses
  pub rows : PrefixRows table clauses (codes_in t) prefix g.noted
  pub within : Within t
  pub counted : Counted g
  pub noted : g.noted ≤ length (codes_in t)
  pub lines : g.lines ≤ at
  pub inside : at ≤ length file
  pub short : length file ≤ max_bytes
  pub runs : check_from file 0 0 (passed start)
      ≡ check_from file at g.lines (passed (state_at table clauses (tree_of unpack_literal t) g))

-- ALL LINES PASSED: what stands in the arrays and in the tree is the specification's state after
-- them.
pub record Finished (file : List ℕ) (A : Arrays) (words : List ℕ) (t : Tree)
    (g : Progress) : Type 0 where
  pub table : Table
  pub clauses : Clauses
  pub held : Held table A g.counts.terms
  pub clauses_held : ClausesHeld clauses words g.clauses
  pub within : Within t
  pub counted : Counted g
  pub lines : g.lines ≤ max_bytes
  pub runs : check_from file 0 0 (passed start)
      ≡ ended (state_at table clauses (tree_of unpack_literal t) g) g.lines

-- WHERE A RUN LEADS
abbrev pub RunsTo : List ℕ → Arrays → List ℕ → Result Ran Refusal → Type 0
RunsTo file A words (Ok ran) = Finished file A words ran.tree ran.progress
RunsTo file A words (Err r) = check_from file 0 0 (passed start) ≡ stopped r.reason r.line

abbrev pub refused_at : Reason → ℕ → Refusal
refused_at r i = record { reason = r; line = i }
