-- A word's packed number stands for the word: a table looked up by the number is the table looked
-- up by the word.
use mathlib.Core.Bool.{Bool, true, false, cond, ◌&&◌}
use mathlib.Core.List.{List, [], ◌∷◌}
use Rattle.std.specs.Prelude.{Some}
use mathlib.Core.Path.{◌≡◌, refl}
use Prim.Native.Nat.{ℕ}
use lib.Dec.{eqb}
use Rattle.tableau.specs.Basics.{bytes, same_bytes, Named, lookup}
use Rattle.tableau.specs.File.{all_small, is_word}
use Rattle.tableau.specs.Words.{words, relations, rule_names}
use Rattle.tableau.proofs.Bools.{both_true}
use Rattle.lines.specs.Lines.{pack_word}
use Rattle.lines.proofs.PackedWord.{word_small, packed_apart}
use Rattle.words.specs.Words.{lookup_packed}

-- every text of the table is a word
unfoldable pub texts_are_words : {A : Type 0} → List (Named A) → Bool
texts_are_words [] = true
texts_are_words (n ∷ ns) = is_word (bytes n.text) && texts_are_words ns

pub lookup_packed_lem : {A : Type 0} (t : List (Named A)) → texts_are_words t ≡ true → (w : List ℕ)
    → is_word w ≡ true → lookup_packed t (pack_word w) ≡ lookup t w
unfolding lookup_packed lookup texts_are_words
lookup_packed_lem [] h w g = refl
lookup_packed_lem (n ∷ ns) h w g =
    let k = both_true (is_word (bytes n.text)) (texts_are_words ns) h in
    pick (eqb (pack_word w) (pack_word (bytes n.text))) (same_bytes (bytes n.text) w)
    (packed_apart (bytes n.text) w (word_small (bytes n.text) k.0) (word_small w g))
    (lookup_packed_lem ns k.1 w g)
  where
    pick : (x y : Bool) → y ≡ x → lookup_packed ns (pack_word w) ≡ lookup ns w
        → cond x (Some n.is) (lookup_packed ns (pack_word w))
        ≡ elim y [ true ↦ Some n.is | false ↦ lookup ns w ]
    pick true y e r = rw e
    pick false y e r = rw e r

-- of the three tables
pub words_packed : (w : List ℕ) → is_word w ≡ true
    → lookup_packed words (pack_word w) ≡ lookup words w
unfolding texts_are_words words bytes all_small
words_packed = lookup_packed_lem words refl

pub relations_packed : (w : List ℕ) → is_word w ≡ true
    → lookup_packed relations (pack_word w) ≡ lookup relations w
unfolding texts_are_words relations bytes all_small
relations_packed = lookup_packed_lem relations refl

pub rules_packed : (w : List ℕ) → is_word w ≡ true
    → lookup_packed rule_names (pack_word w) ≡ lookup rule_names w
unfolding texts_are_words rule_names bytes all_small
rules_packed = lookup_packed_lem rule_names refl
