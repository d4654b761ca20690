-- Checks 6 and 19 of a line whose word is known, in the specification's run.
use mathlib.Core.Path.{◌≡◌, refl}
use mathlib.Core.Bool.{true, false}
use mathlib.Core.List.{List, [], ◌∷◌, ◌++◌}
use Prim.Native.Nat.{ℕ}
use Rattle.tableau.specs.declared.Reason.{Reason}
use Rattle.tableau.specs.Basics.{Four, four, every}
use Rattle.tableau.specs.Tree.{refused, passed}
use Rattle.evaluation.specs.declared.FactWord.{FactWord}
use Rattle.evaluation.specs.Facts.{fact_index, fact_fields, Facts, sizes, subject_of, said, zero_unless_used, in_range, allowed}
use Rattle.lines.specs.declared.LineFields.{LineFields}
use Rattle.lines.specs.Lines.{numbers_of}
use Rattle.facts.specs.declared.StoredFact.{StoredFact}
use Rattle.facts.specs.Keys.{pack_key, key_of, has_key, Fits, FactsHeld}
use Rattle.facts.specs.Reading.{run_word}
use Rattle.facts.proofs.KeyLaws.{has_said}

-- what is stored is what is said
pub held_said : {facts : Facts} {held : List StoredFact} → FactsHeld facts held → (w : FactWord) (k : Four ℕ) → Fits (subject_of w k)
    → has_key held (key_of w k) ≡ said facts w k
held_said {facts} H w k p = rw H.is (has_said w k p facts H.fit)

pub allocated_key : (x : ℕ) → pack_key (fact_index FactWord.Alc) x 0 0 ≡ key_of FactWord.Alc (four x 0 0 0)
unfolding key_of subject_of fact_fields
allocated_key x = refl

-- of a word that is none of these three nothing is asked
pub others_allowed : (facts : Facts) (w : FactWord) (n : Four ℕ) → (w ≡ FactWord.Alc → ⊥) → (w ≡ FactWord.Sub → ⊥) → (w ≡ FactWord.Rgv → ⊥) → true ≡ allowed facts w n
unfolding allowed
others_allowed facts FactWord.Siz n a b c = refl
others_allowed facts FactWord.Alc n a b c = absurd (a refl)
others_allowed facts FactWord.Typ n a b c = refl
others_allowed facts FactWord.Dty n a b c = refl
others_allowed facts FactWord.Sub n a b c = absurd (b refl)
others_allowed facts FactWord.Rfv n a b c = refl
others_allowed facts FactWord.Fnv n a b c = refl
others_allowed facts FactWord.Clv n a b c = refl
others_allowed facts FactWord.Rgv n a b c = absurd (c refl)
others_allowed facts FactWord.Arv n a b c = refl

module _ (facts : Facts) (f : LineFields) (w : FactWord) where
  pub field_used : every zero_unless_used (fact_fields w) (numbers_of f) ≡ false → run_word facts f w ≡ refused Reason.UnusedField
  unfolding run_word
  field_used e = rw e

  module _ (z : every zero_unless_used (fact_fields w) (numbers_of f) ≡ true) where
    pub out_of_range : every (in_range (sizes facts)) (fact_fields w) (numbers_of f) ≡ false → run_word facts f w ≡ refused Reason.BadFact
    unfolding run_word
    out_of_range e = rw (z, e)

    module _ (r : every (in_range (sizes facts)) (fact_fields w) (numbers_of f) ≡ true) where
      pub given_twice : said facts w (numbers_of f) ≡ true → run_word facts f w ≡ refused Reason.BadFact
      unfolding run_word
      given_twice e = rw (z, r, e)

      pub not_allowed : said facts w (numbers_of f) ≡ false → allowed facts w (numbers_of f) ≡ false → run_word facts f w ≡ refused Reason.BadFact
      unfolding run_word
      not_allowed e a = rw (z, r, e, a)

      pub passes : said facts w (numbers_of f) ≡ false → allowed facts w (numbers_of f) ≡ true
          → run_word facts f w ≡ passed (facts ++ (record { word = w; fields = numbers_of f } ∷ []))
      unfolding run_word
      passes e a = rw (z, r, e, a)
