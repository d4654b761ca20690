-- The facts of a heap file as numbers: a key for its word and its subject, and the value that it gives.
use Rattle.std.specs.Prelude.{◌≡◌, Bool, cond, List, [], ◌∷◌, map, ℕ, ◌+◌, ◌*◌, ◌<◌, ◌==◌}
use Rattle.std.specs.List.{list_any}
use Rattle.tableau.specs.Basics.{Four, four}
use Rattle.evaluation.specs.declared.FactWord.{FactWord}
use Rattle.evaluation.specs.declared.FactField.{FactField}
use Rattle.evaluation.specs.Facts.{fact_index, fact_fields, Fact, Facts, subject_of}
use Rattle.facts.specs.declared.Sizes.{Sizes}
use Rattle.facts.specs.declared.StoredFact.{StoredFact}

-- the code's sizes, as the specification has them
abbrev pub sizes_of : Sizes → Four ℕ
sizes_of s = four s.references s.fields s.classes 0

-- THE VALUE that a line gives: in each line one field at most has it
abbrev pub value_part : FactField → ℕ → ℕ
value_part FactField.Unused n = 0
value_part (FactField.Size m) n = 0
value_part (FactField.Subject d) n = 0
value_part (FactField.Value d) n = n

unfoldable pub value_of : FactWord → Four ℕ → ℕ
value_of w n = value_part (fact_fields w).a n.a + value_part (fact_fields w).b n.b + value_part (fact_fields w).c n.c + value_part (fact_fields w).d n.d

-- THE KEY of a word and a subject: names are below 100,000, references below 64, fields and classes below 16
unfoldable pub pack_key : ℕ → ℕ → ℕ → ℕ → ℕ
pack_key i a b c = ((a * 64 + b) * 16 + c) * 16 + i

unfoldable pub key_of : FactWord → Four ℕ → ℕ
key_of w n = pack_key (fact_index w) (subject_of w n).a (subject_of w n).b (subject_of w n).c

-- a fact as it is stored
abbrev pub stored : Fact → StoredFact
stored x = record { key = key_of x.word x.fields; value = value_of x.word x.fields }

-- is the key one of a list's?
abbrev pub has_key : List StoredFact → ℕ → Bool
has_key facts k = list_any (λ (x : StoredFact). k == x.key) facts

-- the value of the first with the key, 0 where there is none
unfoldable pub value_at : List StoredFact → ℕ → ℕ
value_at [] k = 0
value_at (x ∷ xs) k = cond (k == x.key) x.value (value_at xs k)

-- a search for the key finds in a part of a list what it finds in all of it
pub record SameFound (k : ℕ) (facts part : List StoredFact) : Type 0 where
  pub has : has_key part k ≡ has_key facts k
  pub value : value_at part k ≡ value_at facts k

abbrev pub facts_length : ℕ
facts_length = 4616

-- a subject has room in its key
pub record Fits (s : Four ℕ) : Type 0 where
  pub b : s.b < 64
  pub c : s.c < 16
  pub d : s.d ≡ 0

unfoldable pub AllFit : Facts → Type 0
AllFit [] = Unit {0}
AllFit (x ∷ xs) = Fits (subject_of x.word x.fields) × AllFit xs

-- THE FACTS are those stored
pub record FactsHeld (facts : Facts) (held : List StoredFact) : Type 0 where
  pub is : held ≡ map stored facts
  pub fit : AllFit facts
