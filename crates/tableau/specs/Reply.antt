-- 'The reply': the checks of a line in the order of their numbers, the reply of a whole file, and the forms in which it is given.
use Rattle.std.specs.Prelude.{Bool, true, false, ◌&&◌, ◌||◌, not, cond, List, [], ◌∷◌, ◌++◌, ℕ, zero, suc, ◌+◌, ◌/◌, ◌%◌, eqb, leb, ltb, length, Option}
use Rattle.tableau.specs.declared.Letter.{Letter}
use Rattle.tableau.specs.declared.Word.{Word}
use Rattle.tableau.specs.declared.Relation.{Relation}
use Rattle.tableau.specs.declared.Rule.{Rule}
use Rattle.tableau.specs.declared.Reason.{Reason}
use Rattle.tableau.specs.Basics.{is_some, Four, every, bytes}
use Rattle.tableau.specs.File.{Line, letters, in_order, max_digits, shape_within, split, LF, comma, max_bytes}
use Rattle.tableau.specs.Words.{Command, make, assume, disjoin, infer, command_of}
use Rattle.tableau.specs.Fields.{Use, unused, place, name, side, clause, term, of, word_fields, sides, clause_fields, rule_uses}
use Rattle.tableau.specs.Terms.{Place, TermNo, ClauseNo, Table, Term, Literal, literal, Clauses, clause_of, last_clause, at, number_of, max_terms, sort_of, same_sort, written, one_sort}
use Rattle.tableau.specs.Rules.{Row, Kind, rows, congruence, replacement, disjunction, background, rule}
use Rattle.tableau.specs.Tree.{Checked, refused, passed, ◌>>=◌, ◌>>◌, require, require_some, Tree, Status, is_open, is_closed, root, max_places, alternatives, grown}

-- THE REFUSALS: the number of each, and the reply's last field, `place`, "0 for every other reply".
pub record Refusal : Type 0 where
  pub number : ℕ
  pub place : Place

abbrev pub numbered : ℕ → Refusal
numbered n = record { number = n; place = 0 }

unfoldable pub refusal_of : Reason → Refusal
refusal_of Reason.TooLong = numbered 1
refusal_of Reason.BadShape = numbered 2
refusal_of Reason.LetterOrder = numbered 3
refusal_of Reason.UnknownWord = numbered 4
refusal_of Reason.TreeClosed = numbered 5
refusal_of Reason.UnusedField = numbered 6
refusal_of Reason.TooManyTerms = numbered 7
refusal_of Reason.NoSuchTerm = numbered 8
refusal_of Reason.WrongSort = numbered 9
refusal_of Reason.TermRepeated = numbered 10
refusal_of Reason.NoSuchPlace = numbered 11
refusal_of Reason.NeedNotMet = numbered 12
refusal_of (Reason.NotFresh p) = record { number = 13; place = p.0 }
refusal_of Reason.TermNotMade = numbered 14
refusal_of Reason.BranchFull = numbered 15
refusal_of Reason.WaitingFull = numbered 16
refusal_of Reason.BranchOpen = numbered 17
refusal_of Reason.BufferLength = numbered 18
refusal_of Reason.BadFact = numbered 19
refusal_of Reason.NotAnOrder = numbered 20
refusal_of Reason.BadClause = numbered 21

abbrev pub reason_number : Reason → ℕ
reason_number r = (refusal_of r).number

-- The counts of a reply; while lines are read, of T, A and S lines and closings.
pub record Counts : Type 0 where
  pub terms : ℕ
  pub assumptions : ℕ
  pub steps : ℕ
  pub closings : ℕ

-- Where the reading of a file stands: the terms made, the clauses, the tree, the letter of the last line, the counts of lines.
pub record State : Type 0 where
  pub table : Table
  pub clauses : Clauses
  pub status : Status
  pub letter : Letter
  pub counts : Counts

abbrev pub start : State
start = record { table = []; clauses = []; status = is_open root; letter = Letter.T; counts = record { terms = 0; assumptions = 0; steps = 0; closings = 0 } }

-- check 5: the tree, where it is open (T, A and C lines, which check 3 keeps before any S line, always find it so)
abbrev pub require_open : Status → Checked Tree
require_open (is_open τ) = passed τ
require_open is_closed = refused Reason.TreeClosed

-- check 6: "A field that the word doesn't use holds `0`."
abbrev pub zero_if_unused : Use → ℕ → Bool
zero_if_unused unused n = eqb n 0
zero_if_unused place n = true
zero_if_unused name n = true
zero_if_unused side n = true
zero_if_unused clause n = true
zero_if_unused term n = true
zero_if_unused (of s) n = true

-- check 8: "a term field names no term made so far, or a name is 0"
abbrev pub is_term : Table → TermNo → Bool
is_term table n = leb 1 n && leb n (length table)

abbrev pub term_or_name : Table → Use → ℕ → Bool
term_or_name table unused n = true
term_or_name table place n = true
term_or_name table name n = leb 1 n
term_or_name table side n = true
term_or_name table clause n = true
term_or_name table term n = is_term table n
term_or_name table (of s) n = is_term table n

-- check 9: "wrong sort in T, A, [C,] `cut` or `ler`"
abbrev pub of_sort : Table → Use → ℕ → Bool
of_sort table unused n = true
of_sort table place n = true
of_sort table name n = true
of_sort table side n = true
of_sort table clause n = true
of_sort table term n = true
of_sort table (of s) n = same_sort s (sort_of (at table n))

-- check 10: "term already made"
abbrev pub is_new : Table → Term → Bool
is_new table e = not (is_some (number_of table e))

-- A T LINE after a table: checks 6 to 10, a line for each, and the table with its term.
unfoldable pub term_line : Table → Word → Four ℕ → Checked Table
term_line table w n = do
  require (every zero_if_unused (word_fields w) n) Reason.UnusedField
  require (ltb (length table) max_terms) Reason.TooManyTerms
  require (every (term_or_name table) (word_fields w) n) Reason.NoSuchTerm
  require (every (of_sort table) (word_fields w) n) Reason.WrongSort
  require (is_new table (written w n)) Reason.TermRepeated
  passed (table ++ (written w n ∷ []))

-- AN A OR C LINE with these fields: checks 6, 8 and 9, and its literal.
unfoldable pub literal_line : Table → Four Use → Relation → Four ℕ → Checked Literal
literal_line table uses R n = do
  require (every zero_if_unused uses n) Reason.UnusedField
  require (every (term_or_name table) uses n) Reason.NoSuchTerm
  require (every (of_sort table) uses n && one_sort R (sort_of (at table n.a)) (sort_of (at table n.b))) Reason.WrongSort
  passed (literal R n.a n.b)

-- An A line: then check 15, "an A line .. would pass 1,000 places", and the literal on the branch.
unfoldable pub assumed : Tree → Literal → Checked Tree
assumed τ l = do
  require (ltb (length τ.branch) max_places) Reason.BranchFull
  passed (record { branch = τ.branch ++ (l ∷ []); waiting = τ.waiting })

-- A C line: then check 21, "clause number 0 or one neither the last nor the next, a ninth literal, or a 401st C line", and the literal behind those of the C lines before,
-- with its clause's number.
abbrev pub max_disjuncts : ℕ
max_disjuncts = 8

abbrev pub max_clause_lines : ℕ
max_clause_lines = 400

abbrev pub last_or_next : Clauses → ClauseNo → Bool
last_or_next C k = leb 1 k && (eqb k (last_clause C) || eqb k (suc (last_clause C)))

abbrev pub takes_disjunct : Clauses → ClauseNo → Bool
takes_disjunct C k = last_or_next C k && (ltb (length (clause_of C k)) max_disjuncts && ltb (length C) max_clause_lines)

unfoldable pub disjoined : Clauses → ClauseNo → Literal → Checked Clauses
disjoined C k l = do
  require (takes_disjunct C k) Reason.BadClause
  passed (C ++ (record { clause = k; is = l } ∷ []))

-- AN S LINE: checks 6, 8 and 9, then 11 to 14 of its step; then 15 and 16, and the tree after it.
unfoldable pub step_line : Table → Clauses → List Literal → Rule → Four ℕ → Checked (List (List Literal))
step_line table C B x n = do
  require (every zero_if_unused (rule_uses x) n) Reason.UnusedField
  require (every (term_or_name table) (rule_uses x) n) Reason.NoSuchTerm
  require (every (of_sort table) (rule_uses x) n) Reason.WrongSort
  alternatives table C B x n

-- the rules that close, `cls` and `emp`, whose rows have no alternative, and `bck`
abbrev pub adds_nothing : List Row → Bool
adds_nothing [] = true
adds_nothing (R ∷ Rs) = eqb (length R.adds) 0 && adds_nothing Rs

abbrev pub closing_kind : Kind → Bool
closing_kind (rows Rs) = adds_nothing Rs
closing_kind congruence = false
closing_kind replacement = false
closing_kind disjunction = false
closing_kind background = true

abbrev pub is_closing : Rule → Bool
is_closing x = closing_kind (rule x)

abbrev pub counted : Counts → Command → Counts
counted c (make w) = record { terms = suc c.terms; assumptions = c.assumptions; steps = c.steps; closings = c.closings }
counted c (assume R) = record { terms = c.terms; assumptions = suc c.assumptions; steps = c.steps; closings = c.closings }
counted c (disjoin R) = c
counted c (infer x) = record { terms = c.terms; assumptions = c.assumptions; steps = suc c.steps; closings = cond (is_closing x) (suc c.closings) c.closings }

-- What a line does to a state whose tree is open.
unfoldable pub run_open : State → Tree → Command → Four ℕ → Checked State
run_open σ τ (make w) n = do
  table' ← term_line σ.table w n
  passed (record { table = table'; clauses = σ.clauses; status = is_open τ; letter = Letter.T; counts = counted σ.counts (make w) })
run_open σ τ (assume R) n = do
  l ← literal_line σ.table (sides R) R n
  τ' ← assumed τ l
  passed (record { table = σ.table; clauses = σ.clauses; status = is_open τ'; letter = Letter.A; counts = counted σ.counts (assume R) })
run_open σ τ (disjoin R) n = do
  l ← literal_line σ.table (clause_fields R) R n
  C ← disjoined σ.clauses n.c l
  passed (record { table = σ.table; clauses = C; status = is_open τ; letter = Letter.C; counts = counted σ.counts (disjoin R) })
run_open σ τ (infer x) n = do
  ks ← step_line σ.table σ.clauses τ.branch x n
  status' ← grown τ ks
  passed (record { table = σ.table; clauses = σ.clauses; status = status'; letter = Letter.S; counts = counted σ.counts (infer x) })

-- "Checks on a line run in the order of the numbers below": 3 to 5, a line for each, then those above. The command is what the word stands
-- for, if it is known.
abbrev pub run_command : State → Letter → Option Command → Four ℕ → Checked State
run_command σ l command n = do
  require (in_order σ.letter l) Reason.LetterOrder
  c ← require_some command Reason.UnknownWord
  τ ← require_open σ.status
  run_open σ τ c n

-- check 2, then the others
unfoldable pub run_read : State → Option (Line Letter) → Checked State
run_read σ read = do
  l ← require_some read Reason.BadShape
  run_command σ l.letter (command_of l.letter l.word) l.fields

-- a line, with numbers of at most so many digits
abbrev pub run_line_within : ℕ → State → List ℕ → Checked State
run_line_within limit σ bs = run_read σ (shape_within limit letters bs)

abbrev pub run_line : State → List ℕ → Checked State
run_line = run_line_within max_digits

-- THE LINES OF A FILE, one after the other: the first that is refused, with its number; or the state after all of them, and how many there are.
pub data RunEnd (S : Type 0) : Type 0 where
  stopped : Reason → ℕ → RunEnd S
  ended : S → ℕ → RunEnd S

-- the lines behind i others: each piece but the last was ended by an LF; a last piece that is not empty is a line with no LF (check 2)
unfoldable pub run_lines : {S : Type 0} → (S → List ℕ → Checked S) → List (List ℕ) → ℕ → Checked S → RunEnd S
run_lines run [] i (refused r) = stopped r i
run_lines run [] i (passed σ) = ended σ i
run_lines run (l ∷ ls) i (refused r) = stopped r i
run_lines run ([] ∷ []) i (passed σ) = ended σ i
run_lines run ((b ∷ bs) ∷ []) i (passed σ) = stopped Reason.BadShape (suc i)
run_lines run (l ∷ m ∷ ls) i (passed σ) = run_lines run (m ∷ ls) (suc i) (run σ l)

-- The verdict on a file: a yes with its counts, or the first bad line and the first check it breaks.
pub data Verdict : Type 0 where
  accept : Counts → Verdict
  refuse : Reason → ℕ → Verdict

-- "The assumed count takes A lines plus clauses", which are numbered from 1 without gaps.
abbrev pub with_clauses : Counts → Clauses → Counts
with_clauses c C = record { terms = c.terms; assumptions = c.assumptions + last_clause C; steps = c.steps; closings = c.closings }

-- check 17: "input ends with a branch open; line is last line plus 1"
abbrev pub at_end : State → Status → ℕ → Verdict
at_end σ (is_open τ) i = refuse Reason.BranchOpen (suc i)
at_end σ is_closed i = accept (with_clauses σ.counts σ.clauses)

abbrev pub verdict_on : RunEnd State → Verdict
verdict_on (stopped r i) = refuse r i
verdict_on (ended σ i) = at_end σ σ.status i

-- check 1: "over 60,000 bytes; line 0, before any line"
abbrev pub verdict_if : ℕ → Bool → List ℕ → Verdict
verdict_if limit true file = verdict_on (run_lines (run_line_within limit) (split LF file) 0 (passed start))
verdict_if limit false file = refuse Reason.TooLong 0

unfoldable pub verdict_within : ℕ → List ℕ → Verdict
verdict_within limit file = verdict_if limit (leb (length file) max_bytes) file

abbrev pub verdict : List ℕ → Verdict
verdict = verdict_within max_digits

-- THE REPLY, "fields in order: `yes` or `no`, refusal number, line, T lines, A lines [and clauses], S lines, closings"; "the reply gains a last field `place`".
pub record Reply : Type 0 where
  pub is_yes : Bool
  pub number : ℕ
  pub line : ℕ
  pub terms : ℕ
  pub assumptions : ℕ
  pub steps : ℕ
  pub closings : ℕ
  pub place : Place

-- "After a yes the number and line are 0; after a no the four counts are 0." A yes has no place.
unfoldable pub reply_of : Verdict → Reply
reply_of (accept c) = record { is_yes = true; number = 0; line = 0; terms = c.terms; assumptions = c.assumptions; steps = c.steps; closings = c.closings; place = 0 }
reply_of (refuse r i) = record { is_yes = false; number = (refusal_of r).number; line = i; terms = 0; assumptions = 0; steps = 0; closings = 0; place = (refusal_of r).place }

abbrev pub reply_within : ℕ → List ℕ → Reply
reply_within limit file = reply_of (verdict_within limit file)

unfoldable pub reply : List ℕ → Reply
reply = reply_within max_digits

abbrev pub reply_numbers : Reply → List ℕ
reply_numbers r = r.number ∷ r.line ∷ r.terms ∷ r.assumptions ∷ r.steps ∷ r.closings ∷ r.place ∷ []

-- "One line ended by LF": a number in decimal, with no leading zero
unfoldable pub decimal_from : ℕ → ℕ → List ℕ → List ℕ
decimal_from zero n ds = ds
decimal_from (suc fuel) n ds = elim (ltb n 10) [ true ↦ (48 + n) ∷ ds | false ↦ decimal_from fuel (n / 10) ((48 + n % 10) ∷ ds) ]

abbrev pub decimal : ℕ → List ℕ
decimal n = decimal_from (suc n) n []

unfoldable pub comma_numbers : List ℕ → List ℕ
comma_numbers [] = LF ∷ []
comma_numbers (n ∷ ns) = comma ∷ (decimal n ++ comma_numbers ns)

unfoldable pub yes_or_no : Bool → List ℕ
yes_or_no true = bytes "yes"
yes_or_no false = bytes "no"

unfoldable pub reply_line : Reply → List ℕ
reply_line r = yes_or_no r.is_yes ++ comma_numbers (reply_numbers r)

-- "[seven] numbers of four bytes each, low byte first, in the reply's order"
abbrev pub four_bytes : ℕ → List ℕ
four_bytes n = (n % 256) ∷ (n / 256 % 256) ∷ (n / 65536 % 256) ∷ (n / 16777216 % 256) ∷ []

unfoldable pub number_bytes : List ℕ → List ℕ
number_bytes [] = []
number_bytes (n ∷ ns) = four_bytes n ++ number_bytes ns

unfoldable pub reply_bytes : Reply → List ℕ
reply_bytes r = number_bytes (reply_numbers r)

-- THE CALL OF A BUILD HOST: the number it returns, and what the reply buffer holds afterwards.
-- "reply buffer not [28] bytes; returned by the call, nothing written, before 1"
abbrev pub buffer_length : ℕ
buffer_length = 28

pub record Call : Type 0 where
  pub returns : ℕ
  pub buffer : List ℕ

unfoldable pub call : List ℕ → List ℕ → Call
call file buffer' = elim (eqb (length buffer') buffer_length) [
  | true ↦ record { returns = (reply file).number; buffer = reply_bytes (reply file) }
  | false ↦ record { returns = reason_number Reason.BufferLength; buffer = buffer' }
]
