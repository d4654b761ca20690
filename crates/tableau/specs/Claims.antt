-- What is claimed of a checker: a file's assumed literals and clauses, the demands, the counts, the place, what files within a limit of digits keep.
use Rattle.std.specs.Prelude.{◌≡◌, Bool, true, false, ◌&&◌, ◌||◌, cond, List, [], ◌∷◌, ◌++◌, ◌⊎◌, ℕ, zero, suc, ◌+◌, ◌<◌, ◌≤◌, eqb, length, take, drop, Option, None, Some}
use Rattle.tableau.specs.declared.Letter.{Letter}
use Rattle.tableau.specs.Basics.{is_some, Four, bytes, same_bytes}
use Rattle.tableau.specs.File.{Line, same_letter, digits, shape, letters, split, LF, comma}
use Rattle.tableau.specs.Words.{Command, make, assume, disjoin, infer, command_of}
use Rattle.tableau.specs.Terms.{Place, TermNo, ClauseNo, Table, Literal, literal, Clauses, disjuncts, at, mentioned_in, mentioned, written}
use Rattle.tableau.specs.Meaning.{FiniteHeap, Values, AllTrue, EveryClauseTrue}
use Rattle.tableau.specs.Steps.{is_rfv}
use Rattle.tableau.specs.Background.{Contradicted}
use Rattle.tableau.specs.Tree.{Checked, passed, ◌>>=◌, Tree, is_open, literal_at}
use Rattle.tableau.specs.Reply.{State, start, run_line, Reply, reply_within, reply}

-- THE LINES of a file: what each LF ends.
abbrev pub all_but_last : List (List ℕ) → List (List ℕ)
all_but_last [] = []
all_but_last (l ∷ []) = []
all_but_last (l ∷ m ∷ ls) = l ∷ all_but_last (m ∷ ls)

abbrev pub lines_of : List ℕ → List (List ℕ)
lines_of file = all_but_last (split LF file)

-- WHAT A FILE ASSUMES: the literals "on its A lines" and the clauses of its C lines, over the terms of its T lines, as they stand, with no check.
abbrev pub command_term : Option Command → Four ℕ → Table
command_term None n = []
command_term (Some (make w)) n = written w n ∷ []
command_term (Some (assume R)) n = []
command_term (Some (disjoin R)) n = []
command_term (Some (infer x)) n = []

abbrev pub command_literal : Option Command → Four ℕ → List Literal
command_literal None n = []
command_literal (Some (make w)) n = []
command_literal (Some (assume R)) n = literal R n.a n.b ∷ []
command_literal (Some (disjoin R)) n = []
command_literal (Some (infer x)) n = []

abbrev pub command_disjunct : Option Command → Four ℕ → Clauses
command_disjunct None n = []
command_disjunct (Some (make w)) n = []
command_disjunct (Some (assume R)) n = []
command_disjunct (Some (disjoin R)) n = record { clause = n.c; is = literal R n.a n.b } ∷ []
command_disjunct (Some (infer x)) n = []

abbrev pub line_term : Option (Line Letter) → Table
line_term None = []
line_term (Some l) = command_term (command_of l.letter l.word) l.fields

abbrev pub line_literal : Option (Line Letter) → List Literal
line_literal None = []
line_literal (Some l) = command_literal (command_of l.letter l.word) l.fields

abbrev pub line_disjunct : Option (Line Letter) → Clauses
line_disjunct None = []
line_disjunct (Some l) = command_disjunct (command_of l.letter l.word) l.fields

unfoldable pub terms_in : List (List ℕ) → Table
terms_in [] = []
terms_in (l ∷ ls) = line_term (shape letters l) ++ terms_in ls

unfoldable pub literals_in : List (List ℕ) → List Literal
literals_in [] = []
literals_in (l ∷ ls) = line_literal (shape letters l) ++ literals_in ls

unfoldable pub clauses_in : List (List ℕ) → Clauses
clauses_in [] = []
clauses_in (l ∷ ls) = line_disjunct (shape letters l) ++ clauses_in ls

abbrev pub terms_of : List ℕ → Table
terms_of file = terms_in (lines_of file)

abbrev pub assumed_of : List ℕ → List Literal
assumed_of file = literals_in (lines_of file)

abbrev pub clauses_of : List ℕ → Clauses
clauses_of file = clauses_in (lines_of file)

-- "no finite heap and no values of the variables make all assumed literals true", and "speaks of empty heaps too" and "of all A lines and at least one literal of
-- every clause"
unfoldable pub NoHeap : List ℕ → Type 0
NoHeap file = (H : FiniteHeap) (ρ : Values H) → AllTrue ρ (at (terms_of file)) (assumed_of file) → EveryClauseTrue ρ (at (terms_of file)) (clauses_of file) → ⊥

-- a finite heap and values that do
pub record Model (file : List ℕ) : Type 0 where
  pub finite_heap : FiniteHeap
  pub values : Values finite_heap
  pub all_true : AllTrue values (at (terms_of file)) (assumed_of file)
  pub every_clause_true : EveryClauseTrue values (at (terms_of file)) (clauses_of file)

-- A CHECKER, right or wrong: any function from bytes to a reply.
abbrev pub Checker : Type 0
Checker = List ℕ → Reply

-- Demand 2: "Yes exactly when the file is a closed tableau under document 01's rules and limits; otherwise the first bad line and the
-- first check it breaks. Counts after a yes are the file's."
unfoldable pub Demand2 : Checker → Type 0
Demand2 checker = (file : List ℕ) → checker file ≡ reply file

-- Demand 3: "If it says yes, no finite heap and no values of the variables make all assumed literals true."
unfoldable pub Demand3 : Checker → Type 0
Demand3 checker = (file : List ℕ) → (checker file).is_yes ≡ true → NoHeap file

-- "`bck` closes exactly when" Background.antt says so; `contradicted`, by which `reply` is computed, is such a test.
abbrev pub ExactlyContradicted : (Table → List Literal → Bool) → Type 0
ExactlyContradicted test = (table : Table) (branch : List Literal) → (test table branch ≡ true → Contradicted table branch) × (Contradicted table branch → test table branch ≡ true)

-- THE FILE'S OWN COUNTS: lines by their first field, `cls`, `emp` and `bck` lines by their second, clauses by the numbers on C lines.
abbrev pub has_letter : Letter → Option (Line Letter) → Bool
has_letter k None = false
has_letter k (Some l) = same_letter k l.letter

abbrev pub closes_branch : Option (Line Letter) → Bool
closes_branch None = false
closes_branch (Some l) = same_letter Letter.S l.letter && (same_bytes (bytes "cls") l.word || (same_bytes (bytes "emp") l.word || same_bytes (bytes "bck") l.word))

unfoldable pub count_if : (Option (Line Letter) → Bool) → List (List ℕ) → ℕ
count_if f [] = 0
count_if f (l ∷ ls) = elim (f (shape letters l)) [ true ↦ suc (count_if f ls) | false ↦ count_if f ls ]

-- "Lines of a clause stand together": a C line whose number isn't that of the C line before begins a clause
unfoldable pub count_clauses : ClauseNo → Clauses → ℕ
count_clauses last [] = 0
count_clauses last (d ∷ C) = cond (eqb d.clause last) (count_clauses d.clause C) (suc (count_clauses d.clause C))

-- "After a yes the number and line are 0", as is the place, and the counts are the file's
pub record FileCounts (file : List ℕ) (r : Reply) : Type 0 where
  pub number : r.number ≡ 0
  pub line : r.line ≡ 0
  pub terms : r.terms ≡ count_if (has_letter Letter.T) (lines_of file)
  pub assumptions : r.assumptions ≡ count_if (has_letter Letter.A) (lines_of file) + count_clauses 0 (clauses_of file)
  pub steps : r.steps ≡ count_if (has_letter Letter.S) (lines_of file)
  pub closings : r.closings ≡ count_if closes_branch (lines_of file)
  pub place : r.place ≡ 0

-- "after a no the four counts are 0"
pub record NoCounts (r : Reply) : Type 0 where
  pub terms : r.terms ≡ 0
  pub assumptions : r.assumptions ≡ 0
  pub steps : r.steps ≡ 0
  pub closings : r.closings ≡ 0

abbrev pub CountsOf : List ℕ → Reply → Bool → Type 0
CountsOf file r true = FileCounts file r
CountsOf file r false = NoCounts r

-- "Counts after a yes are the file's"; "a refusal reports zero for every count"
unfoldable pub RightCounts : Checker → Type 0
RightCounts checker = (file : List ℕ) → CountsOf file (checker file) (checker file).is_yes

-- WHERE W IS ALREADY USED: "the first branch place that mentions w".
abbrev pub MentionsAt : Table → List Literal → TermNo → Place → Type 0
MentionsAt table B w p = (l : Literal) × (literal_at B p ≡ Some l) × (mentioned_in (at table) w l ≡ true)

pub record FirstMention (table : Table) (B : List Literal) (w : TermNo) (p : Place) : Type 0 where
  pub here : MentionsAt table B w p
  pub none_before : (q : Place) → q < p → ¬ MentionsAt table B w q

-- What the place says of a w that is not fresh; it is 0 "for a w that isn't an `rfv`, and for a w found only in a clause".
abbrev pub PlaceSays : Table → Clauses → List Literal → TermNo → Place → Type 0
PlaceSays table C B w zero = (is_rfv (at table w) ≡ false) ⊎ ((mentioned (at table) w (disjuncts C) ≡ true) × ((q : Place) → ¬ MentionsAt table B w q))
PlaceSays table C B w (suc p) = (is_rfv (at table w) ≡ true) × FirstMention table B w (suc p)

-- In this state the line is a step, and the place says this of its w.
pub record StepPlace (σ : State) (text : List ℕ) (p : Place) : Type 0 where
  pub tree : Tree
  pub tree_open : σ.status ≡ is_open tree
  pub line : Line Letter
  pub shaped : shape letters text ≡ Some line
  pub is_step : line.letter ≡ Letter.S
  pub says : PlaceSays σ.table σ.clauses tree.branch line.fields.d p

-- the state after lines that pass, one after the other
unfoldable pub after : State → List (List ℕ) → Checked State
after σ [] = passed σ
after σ (l ∷ ls) = do
  σ' ← run_line σ l
  after σ' ls

-- Of these lines the i-th is such a step, in the state to which those before it lead.
pub record LinePlace (σ : State) (ls : List (List ℕ)) (i : ℕ) (p : Place) : Type 0 where
  pub earlier : List (List ℕ)
  pub text : List ℕ
  pub later : List (List ℕ)
  pub lines : ls ≡ earlier ++ (text ∷ later)
  pub number : i ≡ suc (length earlier)
  pub state : State
  pub reached : after σ earlier ≡ passed state
  pub step : StepPlace state text p

-- With 13 the place is that of the refused line's w; "it is 0 for every other reply".
unfoldable pub RightPlaces : Checker → Type 0
RightPlaces checker = (file : List ℕ) → ((checker file).number ≡ 13 → LinePlace start (lines_of file) (checker file).line (checker file).place)
    × (¬ ((checker file).number ≡ 13) → (checker file).place ≡ 0)

-- each of a list
abbrev pub AllOf : {A : Type 0} → (A → Type 0) → List A → Type 0
AllOf P [] = Unit {0}
AllOf P (x ∷ xs) = P x × AllOf P xs

-- FILES WITHIN A LIMIT: on every line, a field behind the word that is all digits has at most so many.
abbrev pub FieldWithin : ℕ → List ℕ → Type 0
FieldWithin limit p = is_some (digits p 0) ≡ true → length p ≤ limit

abbrev pub LineWithin : ℕ → List ℕ → Type 0
LineWithin limit l = AllOf (FieldWithin limit) (drop 2 (split comma l))

unfoldable pub FileWithin : ℕ → List ℕ → Type 0
FileWithin limit file = AllOf (LineWithin limit) (split LF file)

-- "Files whose numbers have at most four digits keep their replies", with 4 as the limit: the reply is that of the same definitions where a number has at most so many digits
unfoldable pub KeepsReplies : ℕ → Checker → Type 0
KeepsReplies limit checker = (file : List ℕ) → FileWithin limit file → checker file ≡ reply_within limit file

-- "A file is accepted when the checker says yes: its reply line begins with `yes`, or the call returns 0."
abbrev pub BeginsWithYes : List ℕ → Type 0
BeginsWithYes text = take 3 text ≡ bytes "yes"

-- every number of a list is below n
abbrev pub AllBelow : ℕ → List ℕ → Type 0
AllBelow n = AllOf (λ x. x < n)
