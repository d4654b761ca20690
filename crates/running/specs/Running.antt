-- The specification's run over the lines of a file, told by positions in the file and by the fields
-- that a line was read as.
use Rattle.std.specs.Prelude.{◌≡◌, List, [], ◌∷◌, ℕ, suc, ◌+◌, ◌^◌, ◌<◌, ◌≤◌, length, drop, Option, None, Some}
use Rattle.tableau.specs.declared.Letter.{Letter}
use Rattle.tableau.specs.declared.Reason.{Reason}
use Rattle.tableau.specs.Basics.{Four, lookup}
use Rattle.tableau.specs.File.{LF, split, letters, max_digits, Line}
use Rattle.tableau.specs.Words.{words, relations, rule_names, Command, make, assume, disjoin, infer}
use Rattle.tableau.specs.Words.{some_of}
use Rattle.tableau.specs.Tree.{Checked, refused, passed, ◌>>=◌, require_some}
use Rattle.tableau.specs.Reply.{State, run_command, run_line, RunEnd, run_lines}
use Rattle.lines.specs.declared.LineFields.{LineFields}
use Rattle.lines.specs.Lines.{any_shape, numbers_of, line_fields}
use Rattle.words.specs.Words.{lookup_packed}

-- where the lines of a file lead, where i of them are read and the next begins at the position
abbrev pub run_from : {S : Type 0} → (S → List ℕ → Checked S) → List ℕ → ℕ → ℕ → Checked S
    → RunEnd S
run_from run file at i m = run_lines run (split LF (drop at file)) i m

-- the same of a checker file
abbrev pub check_from : List ℕ → ℕ → ℕ → Checked State → RunEnd State
check_from = run_from run_line

-- what a line asks for, by its letter and packed word
unfoldable pub packed_command : Letter → ℕ → Option Command
packed_command Letter.T w = some_of make (lookup_packed words w)
packed_command Letter.A w = some_of assume (lookup_packed relations w)
packed_command Letter.C w = some_of disjoin (lookup_packed relations w)
packed_command Letter.S w = some_of infer (lookup_packed rule_names w)

-- check 2 of the letter of a line that is read, checks 3 to 5, then those of its command
unfoldable pub run_fields : State → LineFields → Checked State
run_fields σ f =
    require_some (lookup letters (f.letter ∷ [])) Reason.BadShape >>= λ l. run_command σ l
    (packed_command l f.word) (numbers_of f)

-- no number of a line reaches this
abbrev pub number_limit : ℕ
number_limit = 10 ^ max_digits

pub record SmallNumbers (n : Four ℕ) : Type 0 where
  pub a : n.a < number_limit
  pub b : n.b < number_limit
  pub c : n.c < number_limit
  pub d : n.d < number_limit

-- A file's run of a line, by the fields that the line is read as.
pub record ByFields {S : Type 0} (run : S → List ℕ → Checked S)
    (fields : S → LineFields → Checked S) : Type 0 where
  pub shaped : (σ : S) (l : List ℕ) (k : Line ℕ) (n : ℕ) → any_shape l ≡ Some k
      → run σ l ≡ fields σ (line_fields n k)
  pub unshaped : (σ : S) (l : List ℕ) → any_shape l ≡ None → run σ l ≡ refused Reason.BadShape

-- a letter, a word of two letters, four numbers of one digit, five commas and an LF
abbrev pub least_line : ℕ
least_line = 13

-- A line with these fields begins at the position: it ends inside the file, its numbers are small,
-- and a run for which the line comes to what its fields come to goes on behind it.
pub record LineHere {S : Type 0} (run : S → List ℕ → Checked S)
    (fields : S → LineFields → Checked S) (file : List ℕ) (at : ℕ) (f : LineFields) : Type 0 where
  pub longer : at + least_line ≤ f.next.at
  pub inside : f.next.at ≤ length file
  pub small : SmallNumbers (numbers_of f)
  pub runs : (i : ℕ) (σ : S)
      → run_from run file at i (passed σ) ≡ run_from run file f.next.at (suc i) (fields σ f)
