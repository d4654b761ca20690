-- The D lines have room for every heap within their sizes, but for the 60,000 bytes: four heap variables with 1,024 entries each pass them.
use Rattle.std.specs.Prelude.{◌≡◌, true, false, List, [], ◌∷◌, ◌++◌, map, ◌⊎◌, ℕ, ◌-◌, ◌^◌, ◌<◌, ◌≤◌, length, get_or}
use Rattle.tableau.specs.Basics.{bytes}
use Rattle.tableau.specs.File.{comma, max_digits}
use Rattle.tableau.specs.Terms.{Name}
use Rattle.tableau.specs.Meaning.{FiniteHeap, Ref, Field, Values}
use Rattle.tableau.specs.Tree.{passed}
use Rattle.tableau.specs.Reply.{ended, run_lines, decimal}
use Rattle.evaluation.specs.declared.FactWord.{FactWord}
use Rattle.evaluation.specs.Facts.{fact_words, fact_index, Fact, Facts, run_fact}
use Rattle.evaluation.specs.Heaps.{is_order, AsSaid}

-- the largest number that a line can hold
abbrev pub max_number : ℕ
max_number = 10 ^ max_digits - 1

-- a heap within the sizes, reference 0 being `nul`
pub record Small (H : FiniteHeap) : Type 0 where
  pub references : H.references ≤ 64
  pub fields : H.fields ≤ 16
  pub classes : H.classes ≤ 16
  pub nul : H.nul.0 ≡ 0

-- values of the names 1 to N; any other name has what is not said
pub record OnlyUpTo (N : Name) {H : FiniteHeap} (ρ : Values H) : Type 0 where
  pub rfv : (n : Name) → (n ≡ 0) ⊎ (N < n) → (ρ.rfv n).0 ≡ 0
  pub rgv : (n : Name) → (n ≡ 0) ⊎ (N < n) → (x : Ref H) → (ρ.rgv n).has x ≡ false
  pub arv : (n : Name) → (n ≡ 0) ⊎ (N < n) → (x : Ref H) (f : Field H) → (ρ.arv n x f).0 ≡ 0
  pub fnv : (n : Name) → (n ≡ 0) ⊎ (N < n) → (ρ.fnv n).0 ≡ 0
  pub clv : (n : Name) → (n ≡ 0) ⊎ (N < n) → (ρ.clv n).0 ≡ 0

-- HOW A FACT IS WRITTEN: the letter, the text of the word by the table of words, the four numbers, "parted by five commas"
abbrev pub word_text : FactWord → List ℕ
word_text w = get_or (map (λ n. bytes n.text) fact_words) (fact_index w) []

-- pieces, parted by a byte
unfoldable pub joined : ℕ → List ℕ → List (List ℕ) → List ℕ
joined c p [] = p
joined c p (q ∷ qs) = p ++ (c ∷ joined c q qs)

unfoldable pub fact_line : Fact → List ℕ
fact_line x = joined comma (bytes "D") (word_text x.word ∷ map decimal (x.fields.a ∷ x.fields.b ∷ x.fields.c ∷ x.fields.d ∷ []))

-- the lines of some facts pass all checks, and say the heap and the values
pub record Sayable (H : FiniteHeap) (ρ : Values H) : Type 0 where
  pub facts : Facts
  pub read : run_lines run_fact (map fact_line facts ++ ([] ∷ [])) 0 (passed []) ≡ ended facts (length facts)
  pub ordered : is_order facts ≡ true
  pub as_said : AsSaid facts H ρ

-- every finite heap within 64, 16 and 16, and values of finitely many variables, is said by some D lines
unfoldable pub FormatComplete : Type 0
FormatComplete = (H : FiniteHeap) (ρ : Values H) (N : Name) → Small H → N ≤ max_number → OnlyUpTo N ρ → Sayable H ρ
