-- Checks 2, 3 and 4 of a D line that is read, in the specification's run; and the run of a line by the fields that it is read as.
use mathlib.Core.Path.{◌≡◌, refl, sym, ◌∙◌, ap}
use mathlib.Core.Bool.{Bool, true, false, ◌&&◌, beq}
use mathlib.Core.List.{List, [], ◌∷◌}
use Rattle.std.specs.Prelude.{Option, None, Some}
use Prim.Native.Nat.{ℕ}
use lib.Dec.{eqb}
use borrow.Author.Tests.{ne_eqb, eqb-true}
use Rattle.tableau.specs.declared.Reason.{Reason}
use Rattle.tableau.specs.Basics.{then, bytes, same_bytes, lookup}
use Rattle.tableau.specs.File.{comma, split, all_small, is_word, Line}
use Rattle.tableau.specs.Tree.{refused, ◌>>=◌, ◌>>◌, require, require_some}
use Rattle.evaluation.specs.declared.FactWord.{FactWord}
use Rattle.evaluation.specs.Facts.{heap_letters, fact_words, Facts, is_nil, run_fact_read, run_fact}
use Rattle.tableau.proofs.Bools.{some_inj}
use Rattle.evaluation.proofs.Decision.{beq_eq}
use Rattle.lines.specs.declared.LineFields.{LineFields}
use Rattle.lines.specs.Lines.{pack_word, capital, line_fields}
use Rattle.lines.specs.ByteSteps.{all_capitals, OnePass, OnePassIn}
use Rattle.lines.proofs.Letters.{relettered, lettered_line, shape_lettered, one_pass}
use Rattle.lines.proofs.PackedWord.{word_small, packed_apart}
use Rattle.words.specs.Words.{lookup_packed}
use Rattle.words.proofs.PackedWords.{texts_are_words, lookup_packed_lem}
use Rattle.running.specs.Running.{ByFields}
use Rattle.running.proofs.Lines.{shaped}
use Rattle.facts.specs.Reading.{siz_word, run_word, run_fact_fields}

-- CHECK 2 of the letter
pub letter_D : (x : ℕ) → x ≡ 68 → lookup heap_letters (x ∷ []) ≡ Some tt
unfolding heap_letters lookup same_bytes bytes
letter_D x e = rw e

pub no_letter : (x : ℕ) → (x ≡ 68 → ⊥) → lookup heap_letters (x ∷ []) ≡ None
unfolding heap_letters lookup same_bytes bytes
no_letter x h = which (eqb 68 x) (ne_eqb 68 x (λ e. h (sym e)))
  where
    which : (b : Bool) → b ≡ false → ◌≡◌ {A = Option (Unit {0})} (elim (b && true) [ true ↦ Some tt | false ↦ None ]) None
    which b e = rw e

module _ (facts : Facts) (f : LineFields) where
  pub run_unlettered : lookup heap_letters (f.letter ∷ []) ≡ None → run_fact_fields facts f ≡ refused Reason.BadShape
  unfolding run_fact_fields
  run_unlettered e = rw e

  -- CHECKS 3 AND 4
  module _ (l : lookup heap_letters (f.letter ∷ []) ≡ Some tt) where
    pub run_disordered : beq (is_nil facts) (eqb f.word siz_word) ≡ false → run_fact_fields facts f ≡ refused Reason.LetterOrder
    unfolding run_fact_fields
    run_disordered o = rw (l, o)

    module _ (o : beq (is_nil facts) (eqb f.word siz_word) ≡ true) where
      pub run_unknown : lookup_packed fact_words f.word ≡ None → run_fact_fields facts f ≡ refused Reason.UnknownWord
      unfolding run_fact_fields
      run_unknown e = rw (l, o, e)

      pub run_known : (w : FactWord) → lookup_packed fact_words f.word ≡ Some w → run_fact_fields facts f ≡ run_word facts f w
      unfolding run_fact_fields
      run_known w e = rw (l, o, e)

-- the first line's word is `siz`
pub first_is_size : (facts : Facts) (word : ℕ) (w : FactWord) → beq (is_nil facts) (eqb word siz_word) ≡ true → lookup_packed fact_words word ≡ Some w
    → is_nil facts ≡ true → w ≡ FactWord.Siz
unfolding fact_words lookup_packed bytes
first_is_size facts word w o e n =
    let q = eqb-true word siz_word (sym (beq_eq (is_nil facts) (eqb word siz_word) o) ∙ n) in
    sym (some_inj (ap (lookup_packed fact_words) (sym q) ∙ e))

-- THE RUN OF A LINE by its fields
size_packed : (w : List ℕ) → is_word w ≡ true → same_bytes (bytes "siz") w ≡ eqb (pack_word w) siz_word
unfolding bytes all_small
size_packed w h = packed_apart (bytes "siz") w refl (word_small w h)

facts_packed : (w : List ℕ) → is_word w ≡ true → lookup_packed fact_words (pack_word w) ≡ lookup fact_words w
unfolding texts_are_words fact_words bytes all_small
facts_packed = lookup_packed_lem fact_words refl

known_fields : (facts : Facts) (k : Line ℕ) (n : ℕ) (m : Option (Unit {0})) → is_word k.word ≡ true
    → run_fact_read facts (then m λ l. Some (relettered k l))
    ≡ (require_some m Reason.BadShape >>= λ l. require (beq (is_nil facts) (eqb (pack_word k.word) siz_word)) Reason.LetterOrder >>
    (require_some (lookup_packed fact_words (pack_word k.word)) Reason.UnknownWord >>= run_word facts (line_fields n k)))
unfolding run_fact_read run_word
known_fields facts k n None h = refl
known_fields facts k n (Some l) h = rw (size_packed k.word h, facts_packed k.word h)

capitals : all_capitals heap_letters ≡ true
unfolding heap_letters all_capitals bytes capital
capitals = refl

-- the theorem of one pass, of a heap file
pub heap_file_one_pass : OnePassIn heap_letters
unfolding OnePass OnePassIn
heap_file_one_pass = one_pass _ heap_letters capitals

pub fact_fields_lem : ByFields run_fact run_fact_fields
unfolding run_fact_read run_fact_fields
fact_fields_lem = record {
  shaped = λ facts l k n e. ap (run_fact_read facts) (shape_lettered heap_letters capitals l ∙ ap (λ m. then m (lettered_line heap_letters)) e)
      ∙ known_fields facts k n (lookup heap_letters (k.letter ∷ [])) (shaped (split comma l) k e).word;
  unshaped = λ facts l e. ap (run_fact_read facts) (shape_lettered heap_letters capitals l ∙ ap (λ m. then m (lettered_line heap_letters)) e);
}
