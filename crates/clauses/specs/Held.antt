-- What the array of the clauses holds.
use Rattle.std.specs.Prelude.{◌≡◌, List, [], ◌∷◌, map, ℕ, zero, suc, ◌+◌, ◌<◌, ◌≤◌, length, get_or}
use Rattle.tableau.specs.Terms.{ClauseNo, Clauses, clause_of, last_clause, lines_to}
use Rattle.tableau.specs.Reply.{max_disjuncts, max_clause_lines}
use Rattle.tableau.proofs.ClauseLaws.{InSequence}
use Rattle.packing.specs.Packing.{unpack_literal, code_limit}
use Rattle.clauses.specs.declared.Span.{Span}

-- 400 literals, and 401 ends
abbrev pub words_length : ℕ
words_length = 801

abbrev pub end_at : List ℕ → ClauseNo → ℕ
end_at words k = get_or words (max_clause_lines + k) 0

-- n words from index i on
abbrev pub codes_at : List ℕ → ℕ → ℕ → List ℕ
codes_at words i zero = []
codes_at words i (suc n) = get_or words i 0 ∷ codes_at words (suc i) n

-- THE ARRAY HOLDS THE CLAUSES, the last of which has the given number
pub record ClausesHeld (C : Clauses) (words : List ℕ) (last' : ClauseNo) : Type 0 where
  pub size : length words ≡ words_length
  pub bounded : (i : ℕ) → get_or words i 0 < code_limit
  pub sequence : InSequence C
  pub last : last_clause C ≡ last'
  pub lines : end_at words last' ≡ length C
  pub ends : (k : ClauseNo) → k ≤ last' → end_at words k ≡ lines_to C k
  pub inside : (k : ClauseNo) → k ≤ last' → end_at words k ≤ length C
  pub counts : (k : ClauseNo) → k < last' → end_at words k + length (clause_of C (suc k)) ≡ end_at words (suc k)
  pub codes : (k : ClauseNo) → k < last' → map unpack_literal (codes_at words (end_at words k) (length (clause_of C (suc k)))) ≡ clause_of C (suc k)

-- the literals of clause k stand there
pub record SpanOf (C : Clauses) (words : List ℕ) (k : ClauseNo) (s : Span) : Type 0 where
  pub some : 1 ≤ s.count
  pub few : s.count ≤ max_disjuncts
  pub inside : s.from + s.count ≤ max_clause_lines
  pub end : s.from + s.count ≡ lines_to C k
  pub literals : map unpack_literal (codes_at words s.from s.count) ≡ clause_of C k
