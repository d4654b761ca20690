-- Truth as a test, the reply from the bytes of both files, and the forms in which it is given.
use Rattle.std.specs.Prelude.{◌≡◌, refl, Bool, true, false, not, cond, ◌||◌, List, [], ◌∷◌, ◌++◌, ℕ, zero, suc, ◌+◌, eqb, leb, length, take}
use Rattle.std.specs.Bool.{beq}
use Rattle.tableau.specs.declared.Relation.{Relation}
use Rattle.tableau.specs.declared.Reason.{Reason}
use Rattle.tableau.specs.Basics.{bytes, same_bytes}
use Rattle.tableau.specs.File.{max_digits, split, LF, max_bytes}
use Rattle.tableau.specs.Terms.{TermNo, ClauseNo, Term, Literal, literal, Clauses, clause_of, last_clause, lines_to, at, same_sort}
use Rattle.tableau.specs.Meaning.{◌and◌, same, FiniteHeap, Region, Store, Value, reference, region, heap, field, class, kind, as_ref, as_region, as_store, as_field, as_class, Values, value, is_in, is_le}
use Rattle.tableau.specs.Tree.{passed, Status, is_open, is_closed}
use Rattle.tableau.specs.Reply.{reason_number, State, start, run_line_within, RunEnd, stopped, ended, run_lines, decimal, comma_numbers, number_bytes, Call}
use Rattle.evaluation.specs.Orders.{each}
use Rattle.evaluation.specs.Facts.{Facts, run_fact_within}
use Rattle.evaluation.specs.Heaps.{is_order, values_of}

-- EQUALITY AS A TEST
-- "Regions are subsets of `all`": the same members
unfoldable pub same_region : (H : FiniteHeap) → Region H → Region H → Bool
same_region H r s = each H.references (λ x. beq (r.has x) (s.has x))

-- heap values "are equal when they agree everywhere"
unfoldable pub same_store : (H : FiniteHeap) → Store H → Store H → Bool
same_store H h k = each H.references (λ x. each H.fields (λ f. same (h x f) (k x f)))

module _ {H : FiniteHeap} where
  -- the second value as one of the first's sort
  unfoldable pub agrees : Value H → Value H → Bool
  agrees (reference x) b = same x (as_ref b)
  agrees (region r) b = same_region H r (as_region b)
  agrees (heap h) b = same_store H h (as_store b)
  agrees (field f) b = same f (as_field b)
  agrees (class c) b = same c (as_class b)

  unfoldable pub is_eq : Value H → Value H → Bool
  is_eq a b = same_sort (kind a) (kind b) and agrees a b

  -- TRUTH AS A TEST: "`ni`, `ne` and `nl` deny `in`, `eq` and `le`."
  abbrev pub holds : Relation → Value H → Value H → Bool
  holds Relation.In x y = is_in x y
  holds Relation.Ni x y = not (is_in x y)
  holds Relation.Eq x y = is_eq x y
  holds Relation.Ne x y = not (is_eq x y)
  holds Relation.Le x y = is_le x y
  holds Relation.Nl x y = not (is_le x y)

  abbrev pub is_true : Values H → (TermNo → Term) → Literal → Bool
  is_true ρ table (literal R m n) = holds R (value ρ table m) (value ρ table n)

-- the line of the first literal that fails a test, where i lines stand before them; 0 where none does
abbrev pub first_false : (Literal → Bool) → ℕ → List Literal → ℕ
first_false test i [] = 0
first_false test i (l ∷ ls) = cond (test l) (first_false test (suc i) ls) (suc i)

-- a literal that passes a test
abbrev pub any_passes : (Literal → Bool) → List Literal → Bool
any_passes test [] = false
any_passes test (l ∷ ls) = test l || any_passes test ls

-- "the last line of the first clause with no true literal": from clause k on, of which n are left, where i lines stand before the C lines; 0 where each has one
unfoldable pub first_false_clause : (Literal → Bool) → ℕ → Clauses → ClauseNo → ℕ → ℕ
first_false_clause test i C k zero = 0
first_false_clause test i C k (suc n) = cond (any_passes test (clause_of C k)) (first_false_clause test i C (suc k) n) (i + lines_to C k)

-- "where no A line is false"
abbrev pub or_clause : ℕ → ℕ → ℕ
or_clause zero i = i
or_clause (suc j) i = suc j

-- "Reading of the checker file stops before the first line that begins `S,`."
abbrev pub begins_step : List ℕ → Bool
begins_step l = same_bytes (bytes "S,") (take 2 l)

-- of the pieces of a file; the last piece, behind the last LF, is then empty
unfoldable pub before_steps : List (List ℕ) → List (List ℕ)
before_steps [] = []
before_steps (l ∷ ls) = cond (begins_step l) ([] ∷ []) (l ∷ before_steps ls)

-- THE REPLY: "refusal number, file (1 checker, 2 heap, 0 without a refusal) and line"
pub record Evaluation : Type 0 where
  pub number : ℕ
  pub file : ℕ
  pub line : ℕ

-- ".. line: that of the refusal"
abbrev pub refusal : Reason → ℕ → ℕ → Evaluation
refusal r k i = record { number = reason_number r; file = k; line = i }

-- "0 without a refusal"
abbrev pub no_refusal : ℕ → Evaluation
no_refusal i = record { number = 0; file = 0; line = i }

-- the literals of the A lines: with no step, those of the only branch
abbrev pub assumptions_of : Status → List Literal
assumptions_of (is_open τ) = τ.branch
assumptions_of is_closed = []

module _ (σ : State) (facts : Facts) where
  -- ".. else of the first false A line, 0 where all hold": the A lines follow the T lines, each of which made a term, and the C lines follow the A lines
  unfoldable pub false_line : is_order facts ≡ true → ℕ
  false_line ordered =
      let test = is_true (values_of facts ordered) (at σ.table) in
      let A = assumptions_of σ.status in
      or_clause (first_false test (length σ.table) A) (first_false_clause test (length σ.table + length A) σ.clauses 1 (last_clause σ.clauses))

  -- "20, after all of them, an order that isn't transitive and antisymmetric, with line 0"
  abbrev pub on_heap : (b : Bool) → is_order facts ≡ b → Evaluation
  on_heap true ordered = no_refusal (false_line ordered)
  on_heap false unordered = refusal Reason.NotAnOrder 2 0

-- check 3, "none at all (line 1)"
abbrev pub after_facts : State → RunEnd Facts → Evaluation
after_facts σ (stopped r i) = refusal r 2 i
after_facts σ (ended [] i) = refusal Reason.LetterOrder 2 1
after_facts σ (ended (x ∷ xs) i) = on_heap σ (x ∷ xs) (is_order (x ∷ xs)) refl

-- ".. then the heap file; there 1, 2, 4 and 6 are as usual"
abbrev pub read_heap : ℕ → State → Bool → List ℕ → Evaluation
read_heap limit σ true heap_file = after_facts σ (run_lines (run_fact_within limit) (split LF heap_file) 0 (passed []))
read_heap limit σ false heap_file = refusal Reason.TooLong 2 0

abbrev pub after_lines : ℕ → RunEnd State → List ℕ → Evaluation
after_lines limit (stopped r i) heap_file = refusal r 1 i
after_lines limit (ended σ i) heap_file = read_heap limit σ (leb (length heap_file) max_bytes) heap_file

-- "The checker file's T[, A and C] lines are checked first, as by the checker (1 by its whole length, 17 never)"
abbrev pub read_checker : ℕ → Bool → List ℕ → List ℕ → Evaluation
read_checker limit true file heap_file = after_lines limit (run_lines (run_line_within limit) (before_steps (split LF file)) 0 (passed start)) heap_file
read_checker limit false file heap_file = refusal Reason.TooLong 1 0

abbrev pub evaluation_within : ℕ → List ℕ → List ℕ → Evaluation
evaluation_within limit file heap_file = read_checker limit (leb (length file) max_bytes) file heap_file

unfoldable pub evaluation : List ℕ → List ℕ → Evaluation
evaluation = evaluation_within max_digits

-- "The reply is one line, parted by commas and ended by LF"
unfoldable pub evaluation_line : Evaluation → List ℕ
evaluation_line e = decimal e.number ++ comma_numbers (e.file ∷ e.line ∷ [])

-- THE CALL OF A BUILD HOST, as that of the checker: three numbers of four bytes in a buffer of 12; any other length is 18, and the buffer stays as it was
unfoldable pub evaluation_bytes : Evaluation → List ℕ
evaluation_bytes e = number_bytes (e.number ∷ e.file ∷ e.line ∷ [])

abbrev pub evaluation_length : ℕ
evaluation_length = 12

unfoldable pub evaluation_call : List ℕ → List ℕ → List ℕ → Call
evaluation_call file heap_file buffer' = elim (eqb (length buffer') evaluation_length) [
  | true ↦ record { returns = (evaluation file heap_file).number; buffer = evaluation_bytes (evaluation file heap_file) }
  | false ↦ record { returns = reason_number Reason.BufferLength; buffer = buffer' }
]
