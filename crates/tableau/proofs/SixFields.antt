-- A line of six fields, taken apart.
use mathlib.Core.Path.{◌≡◌, refl, subst}
use mathlib.Core.Bool.{Bool, true, false, ◌||◌}
use mathlib.Core.List.{List, [], ◌∷◌}
use Rattle.std.specs.Prelude.{Option, Some}
use Prim.Native.Nat.{ℕ, ◌≤◌}
use native.Mathlib.Omega.{arith}
use lib.Dec.{eqb}
use lib.ListN.{length}
use borrow.Author.Tests.{eqb-true}
use Rattle.tableau.specs.Basics.{Four, four}
use Rattle.tableau.specs.File.{Line, all_small, is_word, number, six_fields}
use Rattle.tableau.proofs.Bools.{both_true, none≢some, some_inj, then_inv, guard_inv}

module _ {L : Type 0} (limit : ℕ) (first : List ℕ → Option L) where
  pub record SixFields (ps : List (List ℕ)) (l : Line L) : Type 0 where
    pub letter_text : List ℕ
    pub texts : Four (List ℕ)
    pub pieces : ps ≡ letter_text ∷ l.word ∷ texts.a ∷ texts.b ∷ texts.c ∷ texts.d ∷ []
    pub letter : first letter_text ≡ Some l.letter
    pub word : is_word l.word ≡ true
    pub a : number limit texts.a ≡ Some l.fields.a
    pub b : number limit texts.b ≡ Some l.fields.b
    pub c : number limit texts.c ≡ Some l.fields.c
    pub d : number limit texts.d ≡ Some l.fields.d

  pub six_fields_lem : {l : Line L} (ps : List (List ℕ)) → six_fields limit first ps ≡ Some l → SixFields ps l
  unfolding six_fields
  six_fields_lem [] e = none≢some e
  six_fields_lem (k ∷ []) e = none≢some e
  six_fields_lem (k ∷ w ∷ []) e = none≢some e
  six_fields_lem (k ∷ w ∷ a ∷ []) e = none≢some e
  six_fields_lem (k ∷ w ∷ a ∷ b ∷ []) e = none≢some e
  six_fields_lem (k ∷ w ∷ a ∷ b ∷ c ∷ []) e = none≢some e
  six_fields_lem (k ∷ w ∷ a ∷ b ∷ c ∷ d ∷ []) e =
      let h₁ = then_inv (first k) _ e in
      let h₂ = guard_inv (is_word w) _ h₁.2 in
      let h₃ = then_inv (number limit a) _ h₂.1 in
      let h₄ = then_inv (number limit b) _ h₃.2 in
      let h₅ = then_inv (number limit c) _ h₄.2 in
      let h₆ = then_inv (number limit d) _ h₅.2 in
      subst (SixFields _) (some_inj h₆.2)
      (record { letter_text = k; texts = four a b c d; pieces = refl; letter = h₁.1; word = h₂.0; a = h₃.1; b = h₄.1; c = h₅.1; d = h₆.1 })
  six_fields_lem (k ∷ w ∷ a ∷ b ∷ c ∷ d ∷ x ∷ xs) e = none≢some e

-- HOW LONG a number and a word are at least
pub some_digit : (limit : ℕ) (p : List ℕ) {n : ℕ} → number limit p ≡ Some n → 1 ≤ length p
unfolding number
some_digit limit [] e = none≢some e
some_digit limit (b ∷ p) e = omega arith

pub word_long : (w : List ℕ) → is_word w ≡ true → 2 ≤ length w
word_long w h = which (eqb (length w) 2) refl (both_true (eqb (length w) 2 || eqb (length w) 3) (all_small w) h).0
  where
    which : (b : Bool) → eqb (length w) 2 ≡ b → (b || eqb (length w) 3) ≡ true → 2 ≤ length w
    which true e h = omega (arith, eqb-true (length w) 2 e)
    which false e h = omega (arith, eqb-true (length w) 3 h)
