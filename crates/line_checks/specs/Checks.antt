-- What a line makes of the specification's state, for a line of each letter.
use Rattle.std.specs.Prelude.{◌≡◌, Result, Ok, Err, IfOk, List, ℕ, ◌<◌, ◌≤◌, length}
use Rattle.tableau.specs.declared.Letter.{Letter}
use Rattle.tableau.specs.declared.Reason.{Reason}
use Rattle.tableau.specs.declared.Refusal.{Refusal}
use Rattle.tableau.specs.File.{max_bytes}
use Rattle.tableau.specs.Words.{relations, infer}
use Rattle.tableau.specs.Terms.{Table, Literal, Clauses}
use Rattle.tableau.specs.Tree.{Checked, ◌>>=◌, require_some, max_waiting}
use Rattle.tableau.specs.Reply.{literal_line, run_open}
use Rattle.syntax.specs.declared.Step.{Step}
use Rattle.syntax.specs.Syntax.{step_fields}
use Rattle.lines.specs.declared.LineFields.{LineFields}
use Rattle.lines.specs.Lines.{numbers_of}
use Rattle.words.specs.Words.{lookup_packed}
use Rattle.parsing.specs.Taken.{literal_fields}
use Rattle.packing.specs.Packing.{unpack_literal}
use Rattle.clauses.specs.Held.{ClausesHeld}
use Rattle.terms.specs.Arrays.{Arrays, Held}
use Rattle.freshness.specs.Prefixes.{PrefixRows}
use Rattle.tree.specs.State.{AreCodes, tree_in}
use Rattle.growth.specs.declared.Progress.{Progress}
use Rattle.growth.specs.declared.LineEffect.{LineEffect}
use Rattle.growth.specs.Progress.{state_at, Counted, state_after, Next}
use Rattle.running.specs.Running.{run_fields}

-- Another line can be read, on a branch B where W waits; only literals on the branch have rows.
pub record Ready (g : Progress) (B W : List ℕ) : Type 0 where
  pub branch : AreCodes B
  pub waiting : length W ≤ max_waiting
  pub counted : Counted g
  pub short : g.lines < max_bytes
  pub noted : g.noted ≤ length B

-- A LINE with fields f after g: its effect is what the specification's run says, with the table,
-- the clauses and their array after the line
pub record Done (table table' : Table) (C C' : Clauses) (words : List ℕ) (g : Progress)
    (B W : List ℕ) (f : LineFields) (r : Result LineEffect Reason) : Type 0 where
  pub follows : IfOk r (Next g B W)
  pub runs : run_fields (state_at table C (tree_in unpack_literal B W) g) f
      ≡ state_after words table' C' B W r

-- A T LINE: the arrays hold the table after it, and no row of the branch's mentions is kept
pub record Made (table : Table) (A : Arrays) (g g' : Progress) : Type 0 where
  pub held : Held table A g'.counts.terms
  pub noted : g'.noted ≡ 0
  pub clauses : g'.clauses ≡ g.clauses

pub record TermDone (table : Table) (C : Clauses) (g : Progress) (B W : List ℕ) (f : LineFields)
    (A : Arrays) (r : Result LineEffect Reason) : Type 0 where
  pub after : Table
  pub made : IfOk r (λ e. Made after A g e.progress)
  pub done : (words : List ℕ) → Done table after C C words g B W f r

-- A LITERAL of an A or C line: checks 4, 6, 8 and 9
abbrev pub literal_read : Table → Letter → LineFields → Checked Literal
literal_read table l f =
    require_some (lookup_packed relations f.word) Reason.UnknownWord >>= λ R. literal_line table
    (literal_fields l R) R (numbers_of f)

-- AN A LINE: no term is made, and no row is filled
pub record Kept (g g' : Progress) : Type 0 where
  pub terms : g'.counts.terms ≡ g.counts.terms
  pub noted : g'.noted ≤ g.noted
  pub clauses : g'.clauses ≡ g.clauses

pub record AssumptionDone (table : Table) (C : Clauses) (g : Progress) (B W : List ℕ)
    (f : LineFields) (r : Result LineEffect Reason) : Type 0 where
  pub kept : IfOk r (λ e. Kept g e.progress)
  pub done : (words : List ℕ) → Done table table C C words g B W f r

-- A C LINE: the array holds the clauses after it, and their row
pub record Joined (table : Table) (C : Clauses) (B : List ℕ) (g : Progress) (words prefix : List ℕ)
    (g' : Progress) : Type 0 where
  pub terms : g'.counts.terms ≡ g.counts.terms
  pub held : ClausesHeld C words g'.clauses
  pub rows : PrefixRows table C B prefix g'.noted

pub record DisjunctDone (table : Table) (C : Clauses) (g : Progress) (B W : List ℕ) (f : LineFields)
    (words prefix : List ℕ) (r : Result LineEffect Reason) : Type 0 where
  pub after : Clauses
  pub joined : IfOk r (λ e. Joined table after B g words prefix e.progress)
  pub done : Done table table C after words g B W f r

-- AN S LINE that is taken apart, on an open tree: rows may be filled
pub record Filled (table : Table) (C : Clauses) (B : List ℕ) (g : Progress) (prefix : List ℕ)
    (g' : Progress) : Type 0 where
  pub terms : g'.counts.terms ≡ g.counts.terms
  pub clauses : g'.clauses ≡ g.clauses
  pub rows : PrefixRows table C B prefix g'.noted

pub record StepTakes (table : Table) (C : Clauses) (g : Progress) (B W : List ℕ) (x : Step)
    (words prefix : List ℕ) (r : Result LineEffect Reason) : Type 0 where
  pub rows : IfOk r (λ e. Filled table C B g prefix e.progress)
  pub follows : IfOk r (Next g B W)
  pub runs : run_open (state_at table C (tree_in unpack_literal B W) g) (tree_in unpack_literal B W)
      (infer x.rule) (step_fields x) ≡ state_after words table C B W r

-- A LINE of any letter: the arrays hold the table and the clauses after it and the rows
pub record HeldBy (table : Table) (C : Clauses) (B : List ℕ) (A : Arrays) (words prefix : List ℕ)
    (g : Progress) : Type 0 where
  pub held : Held table A g.counts.terms
  pub clauses : ClausesHeld C words g.clauses
  pub rows : PrefixRows table C B prefix g.noted

pub record LineDone (table : Table) (C : Clauses) (g : Progress) (B W : List ℕ) (f : LineFields)
    (A : Arrays) (words prefix : List ℕ) (r : Result LineEffect Reason) : Type 0 where
  pub after : Table
  pub clauses : Clauses
  pub held : IfOk r (λ e. HeldBy after clauses B A words prefix e.progress)
  pub done : Done table after C clauses words g B W f r

-- the reason of a refusal, which has the number of its line beside it
abbrev pub unnumbered : Result LineEffect Refusal → Result LineEffect Reason
unnumbered (Ok e) = Ok e
unnumbered (Err r) = Err r.reason
