-- What is claimed of an evaluator: it equals the meaning, no accepted file's assumptions evaluate to all true, and files within a limit of digits keep their replies.
use Rattle.std.specs.Prelude.{◌≡◌, true, List, [], ◌∷◌, ◌++◌, ℕ, suc, ◌<◌, length, Option, None, Some}
use Rattle.tableau.specs.Basics.{Four, lookup}
use Rattle.tableau.specs.File.{Line, letters, shape, split, LF}
use Rattle.tableau.specs.Terms.{ClauseNo, Literal, clause_of, at}
use Rattle.tableau.specs.Meaning.{FiniteHeap, Values, True, AllTrue, AnyTrue, EveryClauseTrue}
use Rattle.tableau.specs.Reply.{reply}
use Rattle.tableau.specs.Claims.{all_but_last, lines_of, line_literal, line_disjunct, terms_in, literals_in, clauses_in, FileWithin}
use Rattle.evaluation.specs.declared.FactWord.{FactWord}
use Rattle.evaluation.specs.Facts.{heap_letters, fact_words, Facts}
use Rattle.evaluation.specs.Heaps.{is_order, heap_of, values_of, AsSaid}
use Rattle.evaluation.specs.Evaluation.{before_steps, Evaluation, no_refusal, evaluation_within, evaluation_line, evaluation_bytes}

abbrev pub Evaluator : Type 0
Evaluator = List ℕ → List ℕ → Evaluation

-- THE LINES that are read of both files, with their terms, literals, clauses and facts as they stand, with no check
abbrev pub lines_read : List ℕ → List (List ℕ)
lines_read file = all_but_last (before_steps (split LF file))

abbrev pub known_fact : Option FactWord → Four ℕ → Facts
known_fact None n = []
known_fact (Some w) n = record { word = w; fields = n } ∷ []

abbrev pub line_fact : Option (Line (Unit {0})) → Facts
line_fact None = []
line_fact (Some l) = known_fact (lookup fact_words l.word) l.fields

unfoldable pub facts_in : List (List ℕ) → Facts
facts_in [] = []
facts_in (l ∷ ls) = line_fact (shape heap_letters l) ++ facts_in ls

abbrev pub facts_of : List ℕ → Facts
facts_of heap_file = facts_in (lines_of heap_file)

-- WHAT THE LINE of a reply with no refusal says of a heap and values: it is 0, and all A lines that are read are true, and a literal of every clause; or it is that of an
-- A line that is false, and all A lines before it are true; or all A lines are true, and it is the last line of a clause with no true literal, each clause before having one.
module _ {H : FiniteHeap} (ρ : Values H) (ls : List (List ℕ)) where
  pub data Says : ℕ → Type 0 where
    all_true : AllTrue ρ (at (terms_in ls)) (literals_in ls) → EveryClauseTrue ρ (at (terms_in ls)) (clauses_in ls) → Says 0
    false_at : (before : List (List ℕ)) (l : List ℕ) (after : List (List ℕ)) (L : Literal) → ls ≡ before ++ (l ∷ after) → line_literal (shape letters l) ≡ L ∷ []
        → AllTrue ρ (at (terms_in ls)) (literals_in before) → ¬ True ρ (at (terms_in ls)) L → Says (suc (length before))
    false_clause_at : (before : List (List ℕ)) (l : List ℕ) (after : List (List ℕ)) (k : ClauseNo) (L : Literal) → ls ≡ before ++ (l ∷ after)
        → line_disjunct (shape letters l) ≡ record { clause = k; is = L } ∷ [] → clause_of (clauses_in after) k ≡ [] → AllTrue ρ (at (terms_in ls)) (literals_in ls)
        → ((j : ClauseNo) → j < k → 0 < length (clause_of (clauses_in ls) j) → AnyTrue ρ (at (terms_in ls)) (clause_of (clauses_in ls) j))
        → ¬ AnyTrue ρ (at (terms_in ls)) (clause_of (clauses_in ls) k) → Says (suc (length before))

-- "The evaluator equals the meaning": with no refusal, the heap file says a finite heap and values, and the line is right of them
pub record Means (file heap_file : List ℕ) (e : Evaluation) : Type 0 where
  pub no_file : e.file ≡ 0
  pub ordered : is_order (facts_of heap_file) ≡ true
  pub as_said : AsSaid (facts_of heap_file) (heap_of (facts_of heap_file) ordered) (values_of (facts_of heap_file) ordered)
  pub says : Says (values_of (facts_of heap_file) ordered) (lines_read file) e.line

unfoldable pub EqualsMeaning : Evaluator → Type 0
EqualsMeaning evaluator = (file heap_file : List ℕ) → (evaluator file heap_file).number ≡ 0 → Means file heap_file (evaluator file heap_file)

-- "so no accepted file's assumptions ever evaluate to all true"
unfoldable pub NeverAllTrue : Evaluator → Type 0
NeverAllTrue evaluator = (file heap_file : List ℕ) → (reply file).is_yes ≡ true → ¬ (evaluator file heap_file ≡ no_refusal 0)

-- nor is its line ever `0,0,0`, or its three numbers in the buffer
unfoldable pub NeverSaidAllTrue : Evaluator → Type 0
NeverSaidAllTrue evaluator = (file heap_file : List ℕ) → (reply file).is_yes ≡ true
    → ¬ (evaluation_line (evaluator file heap_file) ≡ evaluation_line (no_refusal 0)) × ¬ (evaluation_bytes (evaluator file heap_file) ≡ evaluation_bytes (no_refusal 0))

-- "Files whose numbers have at most four digits keep their replies": both files
unfoldable pub KeepsEvaluations : ℕ → Evaluator → Type 0
KeepsEvaluations limit evaluator = (file heap_file : List ℕ) → FileWithin limit file → FileWithin limit heap_file
    → evaluator file heap_file ≡ evaluation_within limit file heap_file
