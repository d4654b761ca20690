-- The specification's run over the D lines of a file, told by the fields that a line was read as and by the arrays that hold the facts.
use Rattle.std.specs.Prelude.{◌≡◌, Bool, true, false, List, [], ◌∷◌, ◌++◌, ℕ, ◌<◌, ◌≤◌, eqb, length, take, Result, Ok, Err}
use Rattle.std.specs.Bool.{beq}
use Rattle.tableau.specs.declared.Reason.{Reason}
use Rattle.tableau.specs.declared.Refusal.{Refusal}
use Rattle.tableau.specs.Basics.{Four, every, bytes, lookup}
use Rattle.tableau.specs.Tree.{Checked, refused, passed, ◌>>=◌, ◌>>◌, require, require_some}
use Rattle.tableau.specs.Reply.{stopped, ended}
use Rattle.evaluation.specs.declared.FactWord.{FactWord}
use Rattle.evaluation.specs.declared.FactField.{FactField}
use Rattle.evaluation.specs.Facts.{heap_letters, fact_words, fact_fields, Facts, sizes, is_nil, zero_unless_used, in_range, may_follow, run_fact}
use Rattle.lines.specs.declared.LineFields.{LineFields}
use Rattle.lines.specs.Lines.{pack_word, numbers_of}
use Rattle.words.specs.Words.{lookup_packed}
use Rattle.running.specs.Running.{run_from}
use Rattle.facts.specs.declared.Sizes.{Sizes}
use Rattle.facts.specs.declared.StoredFact.{StoredFact}
use Rattle.facts.specs.declared.reading.FactsRead.{FactsRead}
use Rattle.facts.specs.Keys.{sizes_of, value_part, stored, facts_length, FactsHeld}

-- `siz`, packed
abbrev pub siz_word : ℕ
siz_word = pack_word (bytes "siz")

-- checks 6 and 19 of a line whose word is known
unfoldable pub run_word : Facts → LineFields → FactWord → Checked Facts
run_word facts f w = do
  require (every zero_unless_used (fact_fields w) (numbers_of f)) Reason.UnusedField
  require (may_follow facts w (numbers_of f)) Reason.BadFact
  passed (facts ++ (record { word = w; fields = numbers_of f } ∷ []))

-- checks 2, 3 and 4 of a line that is read, by its letter's byte and its packed word
unfoldable pub run_fact_fields : Facts → LineFields → Checked Facts
run_fact_fields facts f = do
  l ← require_some (lookup heap_letters (f.letter ∷ [])) Reason.BadShape
  require (beq (is_nil facts) (eqb f.word siz_word)) Reason.LetterOrder
  w ← require_some (lookup_packed fact_words f.word) Reason.UnknownWord
  run_word facts f w

-- SIZES within their limits; values that fit a byte
pub record SizesFit (s : Four ℕ) : Type 0 where
  pub a : s.a ≤ 64
  pub b : s.b ≤ 16
  pub c : s.c ≤ 16

pub record ValuesFit (r : Four FactField) (n : Four ℕ) : Type 0 where
  pub a : value_part r.a n.a < 64
  pub b : value_part r.b n.b < 64
  pub c : value_part r.c n.c < 64
  pub d : value_part r.d n.d < 64

-- A LINE CHECKED, its word known: it is refused, or it passes with the key and the value that it adds
pub record WordAdded (facts : Facts) (f : LineFields) (w : FactWord) (x : StoredFact) : Type 0 where
  pub unused_zero : every zero_unless_used (fact_fields w) (numbers_of f) ≡ true
  pub ranges : every (in_range (sizes facts)) (fact_fields w) (numbers_of f) ≡ true
  pub is : x ≡ stored (record { word = w; fields = numbers_of f })
  pub runs : run_word facts f w ≡ passed (facts ++ (record { word = w; fields = numbers_of f } ∷ []))

abbrev pub WordDone : Facts → LineFields → FactWord → Result StoredFact Reason → Type 0
WordDone facts f w (Ok x) = WordAdded facts f w x
WordDone facts f w (Err r) = run_word facts f w ≡ refused r

-- the same of any word; the first line is `siz`
pub record Added (facts : Facts) (f : LineFields) (x : StoredFact) : Type 0 where
  pub word : FactWord
  pub first : is_nil facts ≡ true → word ≡ FactWord.Siz
  pub added : WordAdded facts f word x
  pub runs : run_fact_fields facts f ≡ run_word facts f word

abbrev pub FactDone : Facts → LineFields → Result StoredFact Reason → Type 0
FactDone facts f (Ok x) = Added facts f x
FactDone facts f (Err r) = run_fact_fields facts f ≡ refused r

-- the sizes after a line, those of the first
abbrev pub sizes_after : Bool → LineFields → Sizes → Sizes
sizes_after true f s = record { references = f.a; fields = f.b; classes = f.c }
sizes_after false f s = s

-- ALL LINES PASSED: the facts that they say are stored
pub record Finished (file : List ℕ) (held : List StoredFact) (e : FactsRead) : Type 0 where
  pub facts : Facts
  pub count : e.count ≡ length facts
  pub room : e.count ≤ facts_length
  pub kept : FactsHeld facts (take e.count held)
  pub sized : sizes facts ≡ sizes_of e.sizes
  pub runs : run_from run_fact file 0 0 (passed []) ≡ ended facts e.count

abbrev pub FactsTo : List ℕ → List StoredFact → Result FactsRead Refusal → Type 0
FactsTo file held (Ok e) = Finished file held e
FactsTo file held (Err r) = run_from run_fact file 0 0 (passed []) ≡ stopped r.reason r.line
