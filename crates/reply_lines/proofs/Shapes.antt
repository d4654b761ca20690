-- The steps over a reply line come to the specification's shape of it.
use mathlib.Core.Bool.{Bool, true, false, true≢false}
use mathlib.Core.List.{List, [], ◌∷◌, ◌++◌, append_assoc}
use Rattle.std.specs.Prelude.{Option, None, Some}
use mathlib.Core.Path.{◌≡◌, refl, sym, ap, ◌∙◌}
use Prim.Native.Nat.{ℕ, zero, suc, ◌+◌}
use native.Mathlib.Omega.{arith}
use lib.Dec.{eqb, eqb-suc-zero, eqb-zero-suc, eqb-suc-suc}
use lib.ListN.{length, drop}
use Rattle.tableau.specs.Basics.{then, guard, bytes, same_bytes, Named, lookup}
use Rattle.tableau.specs.File.{LF, comma, split, all_small, is_word, number}
use Rattle.tableau.specs.Reply.{Reply}
use Rattle.tableau.proofs.Bools.{both_true}
use Rattle.tableau.proofs.Checks.{same_bytes_lem}
use Rattle.lines.specs.Lines.{pack_word, first_line}
use Rattle.lines.specs.ByteSteps.{FieldsRead, Reading, in_word, whole, bad, with_number, word_ends}
use Rattle.lines.specs.ByteSteps.{ends, FieldsAt, line_end, steps_at, WordSteps}
use Rattle.lines.proofs.OnePass.{or_bad, many_numbers, word_left, word_whole, all_steps}
use Rattle.lines.proofs.FileSteps.{line_from, first_steps}
use Rattle.words.specs.Words.{lookup_packed}
use Rattle.words.proofs.PackedWords.{texts_are_words, lookup_packed_lem}
use Rattle.statistics.specs.ReplyLines.{answers, reply_digits, numbers, seven_numbers, reply_fields}
use Rattle.statistics.specs.ReplyLines.{reply_shape}
use Rattle.reply_lines.specs.Reading.{reply_form, NumbersHere, ReplyAt, shaped_at, reply_at}

-- THE NUMBERS behind fields that are read
abbrev with_numbers : FieldsRead → List ℕ → FieldsRead
with_numbers f ns = record { letter = f.letter; word = f.word; numbers = f.numbers ++ ns }

abbrev some_numbers : ℕ → FieldsRead → Option (List ℕ) → Reading
some_numbers n f None = bad
some_numbers n f (Some ns) =
    or_bad (guard (eqb (length ns) (suc n)) (Some (with_numbers f ns))) whole

-- one more is read before the others
one_more : (n : ℕ) (f : FieldsRead) (v : ℕ) (m : Option (List ℕ))
    → some_numbers n (with_number f v) m ≡ some_numbers (suc n) f (then m λ ns. Some (v ∷ ns))
one_more n f v None = refl
one_more n f v (Some ns) = rw (append_assoc f.numbers (v ∷ []) ns, eqb-suc-suc (length ns) (suc n))

numbers_left_lem : (n : ℕ) (f : FieldsRead) (ps : List (List ℕ))
    → many_numbers reply_form n f ps ≡ some_numbers n f (numbers ps)
unfolding numbers
numbers_left_lem zero f [] = refl
numbers_left_lem zero f (p ∷ []) = which (number reply_digits p)
  where
    which : (m : Option ℕ)
        → or_bad m (λ v. whole (with_number f v)) ≡ some_numbers zero f (then m λ n. Some (n ∷ []))
    which None = refl
    which (Some v) = refl
numbers_left_lem zero f (p ∷ q ∷ ps) =
    which (number reply_digits p) (number reply_digits q) (numbers ps)
  where
    which : (m k : Option ℕ) (o : Option (List ℕ))
        → bad
        ≡ some_numbers zero f
        (then m λ n. then (then k λ n. then o λ ns. Some (n ∷ ns)) λ ns. Some (n ∷ ns))
    which None k o = refl
    which (Some v) None o = refl
    which (Some v) (Some w) None = refl
    which (Some v) (Some w) (Some ns) =
        rw (eqb-suc-suc (suc (length ns)) 0, eqb-suc-zero (length ns))
numbers_left_lem (suc n) f [] = rw (eqb-zero-suc (suc n))
numbers_left_lem (suc n) f (p ∷ ps) =
    which (number reply_digits p) (λ v. numbers_left_lem n (with_number f v) ps)
  where
    which : (m : Option ℕ)
        → ((v : ℕ)
        → many_numbers reply_form n (with_number f v) ps
        ≡ some_numbers n (with_number f v) (numbers ps))
        → or_bad m (λ v. many_numbers reply_form n (with_number f v) ps)
        ≡ some_numbers (suc n) f (then m λ k. then (numbers ps) λ ns. Some (k ∷ ns))
    which None later = refl
    which (Some v) later = later v ∙ one_more n f v (numbers ps)

-- WHAT THE FIELDS OF A LINE SAY: an answer by its packed word, and seven numbers.
abbrev pub reply_from : FieldsAt → Option ReplyAt
reply_from e =
    then (lookup_packed answers e.fields.word) λ is_yes'. then
    (seven_numbers is_yes' e.fields.numbers) λ r. Some (record { reply = r; next = e.next })

-- a text that is an answer is a word
pub only_words : {A : Type 0} (t : List (Named A)) → texts_are_words t ≡ true → (p : List ℕ)
    → is_word p ≡ false → lookup t p ≡ None
unfolding lookup texts_are_words
only_words [] h p e = refl
only_words {A} (n ∷ ns) h p e =
    let k = both_true (is_word (bytes n.text)) (texts_are_words ns) h in
    which (same_bytes (bytes n.text) p) refl k.0 (only_words ns k.1 p e)
  where
    which : (b : Bool) → same_bytes (bytes n.text) p ≡ b → is_word (bytes n.text) ≡ true
        → lookup ns p ≡ None
        → ◌≡◌ {A = Option A} (elim b [ true ↦ Some n.is | false ↦ lookup ns p ]) None
    which true s w later =
        absurd (true≢false (sym w ∙ ap is_word (same_bytes_lem (bytes n.text) p s) ∙ e))
    which false s w later = later

pub answers_are_words : texts_are_words answers ≡ true
unfolding texts_are_words answers bytes all_small
answers_are_words = refl

-- the pieces of a line, cut at its commas
fields_say : (n : ℕ) (ps : List (List ℕ))
    → then (line_end n (ends (word_left reply_form 0 0 0 ps))) reply_from
    ≡ then (reply_fields ps) λ r. Some (record { reply = r; next = n })
fields_say n [] = refl
fields_say n (p ∷ ps) = rw (word_whole p) (which (is_word p) refl)
  where
    said : Reading → Option ReplyAt
    said r = then (line_end n (ends r)) reply_from

    begun : ℕ → FieldsRead
    begun w = record { letter = 0; word = w; numbers = [] }

    answered : (m : Option Bool) (o : Option (List ℕ)) → lookup_packed answers (pack_word p) ≡ m
        → said (some_numbers 6 (begun (pack_word p)) o)
        ≡ then (then m λ y. then o λ ns. seven_numbers y ns) λ r. Some
        (record { reply = r; next = n })
    answered None None e = refl
    answered (Some y) None e = refl
    answered m (Some ns) e = seven (eqb (length ns) 7) refl m e
      where
        seven : (b : Bool) → eqb (length ns) 7 ≡ b → (m : Option Bool)
            → lookup_packed answers (pack_word p) ≡ m
            → said (or_bad (guard b (Some (with_numbers (begun (pack_word p)) ns))) whole)
            ≡ then (then m λ y. seven_numbers y ns) λ r. Some (record { reply = r; next = n })
        seven true q None e = rw e
        seven true q (Some y) e = rw (e, q)
        seven false q None e = refl
        seven false q (Some y) e = rw q

    which : (b : Bool) → is_word p ≡ b
        → said (or_bad (guard b (Some (pack_word p))) (λ w. many_numbers reply_form 6 (begun w) ps))
        ≡ then (reply_fields (p ∷ ps)) λ r. Some (record { reply = r; next = n })
    which true e =
        rw (numbers_left_lem 6 (begun (pack_word p)) ps)
        (answered (lookup answers p) (numbers ps) (lookup_packed_lem answers answers_are_words p e))
    which false e = rw (only_words answers answers_are_words p e)

-- THE LINE that begins at a position
pub reply_steps : (night : List ℕ) (at : ℕ)
    → then (steps_at reply_form (in_word 0 0 0) night at) reply_from ≡ reply_at night at
unfolding steps_at reply_at reply_shape
reply_steps night at =
    ap (λ m. then m reply_from) (first_steps reply_form (in_word 0 0 0) (drop at night) at refl)
    ∙ same (split LF (drop at night))
  where
    same : (ls : List (List ℕ))
        → then (first_line None (line_from reply_form (in_word 0 0 0)) at ls) reply_from
        ≡ first_line None shaped_at at ls
    same [] = refl
    same (l ∷ []) = refl
    same (l ∷ m ∷ ls) =
        ap (λ r. then (line_end (at + length l + 1) (ends r)) reply_from)
        (all_steps reply_form (omega arith) (in_word 0 0 0) l)
        ∙ fields_say (at + length l + 1) (split comma l)

-- the word, the numbers and the answer, as they are read
module _ (night : List ℕ) (at : ℕ) where
  pub no_word : WordSteps night at None → None ≡ reply_at night at
  unfolding WordSteps
  no_word s = ap (λ m. then m reply_from) (sym (s reply_form 0)) ∙ reply_steps night at

  module _ (w : ℕ × ℕ) (s : WordSteps night at (Some w)) where
    behind_word : steps_at reply_form (in_word 0 0 0) night at
        ≡ steps_at reply_form (word_ends reply_form 0 w.0) night w.1
    unfolding WordSteps
    behind_word = (s reply_form 0).0

    pub no_numbers : NumbersHere night w.1 None → None ≡ reply_at night at
    unfolding NumbersHere
    no_numbers h = ap (λ m. then m reply_from) (sym (behind_word ∙ h w.0)) ∙ reply_steps night at

    module _ (n : List ℕ × ℕ) (h : NumbersHere night w.1 (Some n)) where
      says : reply_from
          (record { fields = record { letter = 0; word = w.0; numbers = n.0 }; next = n.1 })
          ≡ reply_at night at
      unfolding NumbersHere
      says = ap (λ m. then m reply_from) (sym (behind_word ∙ h.1 w.0)) ∙ reply_steps night at

      pub no_answer : None ≡ lookup_packed answers w.0 → None ≡ reply_at night at
      no_answer a = rw (← says, ← a)

      pub answered : (y : Bool) (x : Reply) → Some y ≡ lookup_packed answers w.0
          → seven_numbers y n.0 ≡ Some x
          → Some (record { reply = x; next = n.1 }) ≡ reply_at night at
      answered y x a v = rw (← says, ← a, v)
