-- The letters and the word tables of the specification, looked up by a byte and by a packed word.
use Rattle.std.specs.Prelude.{cond, List, [], ◌∷◌, ◌≡◌, ℕ, eqb, Option, None, Some}
use Rattle.tableau.specs.Basics.{bytes, Named}
use Rattle.tableau.specs.declared.Word.{Word}
use Rattle.tableau.specs.declared.Rule.{Rule}
use Rattle.tableau.specs.Fields.{word_fields, rule_uses}
use Rattle.syntax.specs.Syntax.{mask_of}
use Rattle.words.specs.declared.Row.{Row}
use Rattle.lines.specs.Lines.{pack_word}

-- what the first entry stands for whose text packs to w
unfoldable pub lookup_packed : {A : Type 0} → List (Named A) → ℕ → Option A
lookup_packed [] w = None
lookup_packed (n ∷ ns) w = cond (eqb w (pack_word (bytes n.text))) (Some n.is) (lookup_packed ns w)

-- the row of a word: its mask has the fields that it uses
abbrev pub word_row : Word → Row Word
word_row w = record { word = w; used = record { 0 = mask_of (word_fields w) } }

abbrev pub rule_row : Rule → Row Rule
rule_row x = record { word = x; used = record { 0 = mask_of (rule_uses x) } }

-- a row has the mask of its word
abbrev pub WordFits : Row Word → Type 0
WordFits row = row.used.0 ≡ mask_of (word_fields row.word)

abbrev pub RuleFits : Row Rule → Type 0
RuleFits row = row.used.0 ≡ mask_of (rule_uses row.word)

-- The words of a byte string, packed: three bytes each, and a space.
unfoldable pub words_of : List ℕ → List ℕ
words_of [] = []
words_of (a ∷ []) = []
words_of (a ∷ b ∷ []) = []
words_of (a ∷ b ∷ c ∷ []) = []
words_of (a ∷ b ∷ c ∷ s ∷ l) = pack_word (a ∷ b ∷ c ∷ []) ∷ words_of l

-- the row beside the first number of a list that is w
unfoldable pub row_at : {T : Type 0} → ℕ → List ℕ → List T → Option T
row_at w [] rows = None
row_at w (k ∷ ks) [] = None
row_at w (k ∷ ks) (r ∷ rows) = cond (eqb w k) (Some r) (row_at w ks rows)
