-- A word packed in one number is told by the number.
use mathlib.Core.Bool.{Bool, true, false, ◌&&◌, ◌||◌}
use mathlib.Core.List.{List, [], ◌∷◌}
use mathlib.Core.Path.{◌≡◌, refl, sym, ap, ◌∙◌}
use Prim.Native.Nat.{ℕ, ◌+◌, ◌*◌, ◌<◌}
use native.Mathlib.Omega.{arith}
use lib.Dec.{eqb, leb}
use lib.ListN.{length}
use borrow.Author.Tests.{eq-eqb, ne_eqb, eqb-true, eqb-false, leb-true}
use Rattle.tableau.specs.Basics.{same_bytes}
use Rattle.tableau.specs.File.{all_small, is_word}
use Rattle.tableau.proofs.Bools.{both_true}
use Rattle.tableau.proofs.Checks.{same_bytes_lem}
use Rattle.lines.specs.Lines.{pack_word}
use Rattle.lines.specs.ByteSteps.{FieldsOf, FieldsInjective}

-- a small letter is no 0, and fits a byte
letter_range : (b : ℕ) (bs : List ℕ) → all_small (b ∷ bs) ≡ true
    → (0 < b) × (b < 256) × (all_small bs ≡ true)
unfolding all_small
letter_range b bs h =
    let k = both_true (leb 97 b && leb b 122) (all_small bs) h in
    let j = both_true (leb 97 b) (leb b 122) k.0 in
    (omega (arith, leb-true 97 b j.0), omega (arith, leb-true b 122 j.1), k.1)

pub word_small : (w : List ℕ) → is_word w ≡ true → all_small w ≡ true
word_small w h = (both_true (eqb (length w) 2 || eqb (length w) 3) (all_small w) h).1

pub packed_apart : (v w : List ℕ) → all_small v ≡ true → all_small w ≡ true
    → same_bytes v w ≡ eqb (pack_word w) (pack_word v)
unfolding same_bytes
packed_apart [] [] h g = refl
packed_apart [] (b ∷ w) h g =
    let k = letter_range b w g in sym (ne_eqb (pack_word (b ∷ w)) 0 (λ e. omega (arith, k.0)))
packed_apart (a ∷ v) [] h g =
    let k = letter_range a v h in sym (ne_eqb 0 (pack_word (a ∷ v)) (λ e. omega (arith, k.0)))
packed_apart (a ∷ v) (b ∷ w) h g =
    let j = letter_range a v h in
    let k = letter_range b w g in
    which j.1 k.1 (eqb a b) refl (eqb (pack_word w) (pack_word v)) refl (packed_apart v w j.2 k.2)
  where
    which : a < 256 → b < 256 → (x : Bool) → eqb a b ≡ x → (y : Bool)
        → eqb (pack_word w) (pack_word v) ≡ y
        → same_bytes v w ≡ eqb (pack_word w) (pack_word v)
        → eqb a b && same_bytes v w ≡ eqb (b + 256 * pack_word w) (a + 256 * pack_word v)
    which la lb true p true q e =
        let n = eqb-true (pack_word w) (pack_word v) q in
        rw (p, e, q) (sym
        (eq-eqb (b + 256 * pack_word w) (a + 256 * pack_word v)
        (omega (arith, eqb-true a b p))))
    which la lb true p false q e =
        let n = eqb-false (pack_word w) (pack_word v) q in
        rw (p, e, q) (sym
        (ne_eqb (b + 256 * pack_word w) (a + 256 * pack_word v)
        (λ z. n (omega (arith, eqb-true a b p, z)))))
    which la lb false p y q e =
        let n = eqb-false a b p in
        rw p (sym (ne_eqb (b + 256 * pack_word w) (a + 256 * pack_word v)
        (λ z. n (omega (arith, z)))))

same_word : (v w : List ℕ) → is_word v ≡ true → is_word w ≡ true → pack_word v ≡ pack_word w → v ≡ w
same_word v w h g e =
    same_bytes_lem v w
    (packed_apart v w (word_small v h) (word_small w g)
    ∙ eq-eqb (pack_word w) (pack_word v) (sym e))

pub fields_injective : FieldsInjective
unfolding FieldsInjective
fields_injective L k n h g e =
    let letters-same : k.letter ≡ n.letter = ap (λ (f : FieldsOf L). f.letter) e in
    let words_same = same_word k.word n.word h g (ap (λ (f : FieldsOf L). f.word) e) in
    let numbers-same : (k.fields.a ∷ k.fields.b ∷ k.fields.c ∷ k.fields.d ∷ [])
    ≡ (n.fields.a ∷ n.fields.b ∷ n.fields.c ∷ n.fields.d ∷ []) =
    ap (λ (f : FieldsOf L). f.numbers) e in
    let a-same : k.fields.a ≡ n.fields.a = cc in
    let b-same : k.fields.b ≡ n.fields.b = cc in
    let c-same : k.fields.c ≡ n.fields.c = cc in
    let d-same : k.fields.d ≡ n.fields.d = cc in
    λ i. record {
      letter = letters-same i;
      word = words_same i;
      fields = record { a = a-same i; b = b-same i; c = c-same i; d = d-same i };
    }
