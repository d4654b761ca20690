-- "a heap file of six-field D lines": the words, what their fields hold, the checks of a line.
use Rattle.std.specs.Prelude.{Bool, true, false, ◌&&◌, not, cond, List, [], ◌∷◌, ◌++◌, ℕ, eqb, leb, ltb, Option, None, Some}
use Rattle.std.specs.Bool.{beq}
use Rattle.tableau.specs.declared.Reason.{Reason}
use Rattle.tableau.specs.Basics.{is_some, Four, four, every, bytes, same_bytes, Named, ◌↣◌, lookup}
use Rattle.tableau.specs.File.{max_digits, Line, shape_within}
use Rattle.tableau.specs.Tree.{Checked, passed, ◌>>=◌, ◌>>◌, require, require_some}
use Rattle.evaluation.specs.declared.FactWord.{FactWord}
use Rattle.evaluation.specs.declared.Domain.{Domain}
use Rattle.evaluation.specs.declared.Domain.TheVariants.{Reference, Field, Class, Name}
use Rattle.evaluation.specs.declared.FactField.{FactField}
use Rattle.evaluation.specs.declared.FactField.TheVariants.{Unused, Size, Subject, Value}

-- "checked by the same line shape with D as the only letter"
unfoldable pub heap_letters : List (Named (Unit {0}))
heap_letters = ("D" ↣ tt) ∷ []

unfoldable pub fact_words : List (Named FactWord)
fact_words =
    ("siz" ↣ FactWord.Siz) ∷
    ("alc" ↣ FactWord.Alc) ∷
    ("typ" ↣ FactWord.Typ) ∷
    ("dty" ↣ FactWord.Dty) ∷
    ("sub" ↣ FactWord.Sub) ∷
    ("rfv" ↣ FactWord.Rfv) ∷
    ("fnv" ↣ FactWord.Fnv) ∷
    ("clv" ↣ FactWord.Clv) ∷
    ("rgv" ↣ FactWord.Rgv) ∷
    ("arv" ↣ FactWord.Arv) ∷
    []

unfoldable pub fact_index : FactWord → ℕ
fact_index FactWord.Siz = 0
fact_index FactWord.Alc = 1
fact_index FactWord.Typ = 2
fact_index FactWord.Dty = 3
fact_index FactWord.Sub = 4
fact_index FactWord.Rfv = 5
fact_index FactWord.Fnv = 6
fact_index FactWord.Clv = 7
fact_index FactWord.Rgv = 8
fact_index FactWord.Arv = 9

-- THE TABLE OF D LINES. "`D,siz` .. gives references, fields, classes (1 to 64, 16, 16) .. `alc` reference; `typ` reference, class; `dty` field, class; `sub` lower, upper;
-- `rfv`, `fnv`, `clv` name, value; `rgv` name, member ..; `arv` name, reference, field, value."
-- "a subject (for `alc`, `sub`, `rgv` a whole line, for `arv` all but the value)"
unfoldable pub fact_fields : FactWord → Four FactField
fact_fields FactWord.Siz = four (Size 64) (Size 16) (Size 16) Unused
fact_fields FactWord.Alc = four (Subject Reference) Unused Unused Unused
fact_fields FactWord.Typ = four (Subject Reference) (Value Class) Unused Unused
fact_fields FactWord.Dty = four (Subject Field) (Value Class) Unused Unused
fact_fields FactWord.Sub = four (Subject Class) (Subject Class) Unused Unused
fact_fields FactWord.Rfv = four (Subject Name) (Value Reference) Unused Unused
fact_fields FactWord.Fnv = four (Subject Name) (Value Field) Unused Unused
fact_fields FactWord.Clv = four (Subject Name) (Value Class) Unused Unused
fact_fields FactWord.Rgv = four (Subject Name) (Subject Reference) Unused Unused
fact_fields FactWord.Arv = four (Subject Name) (Subject Reference) (Subject Field) (Value Reference)

-- A D line that is read, and the lines so far in their order.
pub record Fact : Type 0 where
  pub word : FactWord
  pub fields : Four ℕ

abbrev pub Facts : Type 0
Facts = List Fact

-- the fields of the first line: "references, fields, classes"
abbrev pub sizes : Facts → Four ℕ
sizes [] = four 0 0 0 0
sizes (x ∷ xs) = x.fields

-- THE SUBJECT of a line: its word and these numbers, other fields being 0
abbrev pub subject_part : FactField → ℕ → ℕ
subject_part Unused n = 0
subject_part (Size m) n = 0
subject_part (Subject d) n = n
subject_part (Value d) n = 0

unfoldable pub subject_of : FactWord → Four ℕ → Four ℕ
subject_of w n = four (subject_part (fact_fields w).a n.a) (subject_part (fact_fields w).b n.b) (subject_part (fact_fields w).c n.c) (subject_part (fact_fields w).d n.d)

-- does a line speak of the subject of w and n?
unfoldable pub speaks_of : FactWord → Four ℕ → Fact → Bool
speaks_of w n x = eqb (fact_index w) (fact_index x.word) && every eqb (subject_of w n) (subject_of w x.fields)

-- the fields of the first that does
unfoldable pub find : Facts → FactWord → Four ℕ → Option (Four ℕ)
find [] w n = None
find (x ∷ xs) w n = cond (speaks_of w n x) (Some x.fields) (find xs w n)

unfoldable pub said : Facts → FactWord → Four ℕ → Bool
said facts w n = is_some (find facts w n)

-- "What isn't said is 0"
abbrev pub fields_or0 : Option (Four ℕ) → Four ℕ
fields_or0 None = four 0 0 0 0
fields_or0 (Some n) = n

abbrev pub given : Facts → FactWord → Four ℕ → Four ℕ
given facts w n = fields_or0 (find facts w n)

-- check 3: "a first line that isn't `siz`, .. or a later `siz`"
abbrev pub is_nil : Facts → Bool
is_nil [] = true
is_nil (x ∷ xs) = false

abbrev pub size_first : Facts → List ℕ → Bool
size_first facts w = beq (is_nil facts) (same_bytes (bytes "siz") w)

-- check 6, "as usual": a field that the word doesn't use holds 0
abbrev pub zero_unless_used : FactField → ℕ → Bool
zero_unless_used Unused n = eqb n 0
zero_unless_used (Size m) n = true
zero_unless_used (Subject d) n = true
zero_unless_used (Value d) n = true

-- check 19: "a D line out of its ranges (a name 0 too)"
abbrev pub in_domain : Four ℕ → Domain → ℕ → Bool
in_domain s Reference n = ltb n s.a
in_domain s Field n = ltb n s.b
in_domain s Class n = ltb n s.c
in_domain s Name n = leb 1 n

abbrev pub in_range : Four ℕ → FactField → ℕ → Bool
in_range s Unused n = true
in_range s (Size m) n = leb 1 n && leb n m
in_range s (Subject d) n = in_domain s d n
in_range s (Value d) n = in_domain s d n

-- ".. a class put under itself, an allocated 0, or a member not yet allocated"
unfoldable pub allowed : Facts → FactWord → Four ℕ → Bool
allowed facts FactWord.Siz n = true
allowed facts FactWord.Alc n = not (eqb n.a 0)
allowed facts FactWord.Typ n = true
allowed facts FactWord.Dty n = true
allowed facts FactWord.Sub n = not (eqb n.a n.b)
allowed facts FactWord.Rfv n = true
allowed facts FactWord.Fnv n = true
allowed facts FactWord.Clv n = true
allowed facts FactWord.Rgv n = said facts FactWord.Alc (four n.b 0 0 0)
allowed facts FactWord.Arv n = true

-- ".. a subject .. given twice"
abbrev pub may_follow : Facts → FactWord → Four ℕ → Bool
may_follow facts w n = every (in_range (sizes facts)) (fact_fields w) n && (not (said facts w n) && allowed facts w n)

-- A D LINE after others: checks 2, 3, 4, 6 and 19, a line for each.
unfoldable pub run_fact_read : Facts → Option (Line (Unit {0})) → Checked Facts
run_fact_read facts read = do
  l ← require_some read Reason.BadShape
  require (size_first facts l.word) Reason.LetterOrder
  w ← require_some (lookup fact_words l.word) Reason.UnknownWord
  require (every zero_unless_used (fact_fields w) l.fields) Reason.UnusedField
  require (may_follow facts w l.fields) Reason.BadFact
  passed (facts ++ (record { word = w; fields = l.fields } ∷ []))

-- a line, with numbers of at most so many digits
abbrev pub run_fact_within : ℕ → Facts → List ℕ → Checked Facts
run_fact_within limit facts bs = run_fact_read facts (shape_within limit heap_letters bs)

abbrev pub run_fact : Facts → List ℕ → Checked Facts
run_fact = run_fact_within max_digits
