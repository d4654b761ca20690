-- A key stands for its word and its subject: facts looked up by keys are the facts that the specification finds.
use mathlib.Core.Path.{◌≡◌, refl, sym, ◌∙◌, ap}
use mathlib.Core.Bool.{Bool, true, false, cond, ◌||◌, true≢false}
use mathlib.Core.List.{[], ◌∷◌, map}
use Rattle.std.specs.Prelude.{Some}
use Prim.Native.Nat.{ℕ, ◌<◌}
use native.Mathlib.Omega.{arith}
use lib.Dec.{eqb}
use borrow.Author.Tests.{eq-eqb, ne_eqb}
use Rattle.tableau.specs.Basics.{is_some, Four, four}
use Rattle.evaluation.specs.declared.FactWord.{FactWord}
use Rattle.evaluation.specs.declared.FactField.{FactField}
use Rattle.evaluation.specs.Facts.{fact_index, fact_fields, Fact, Facts, subject_of, speaks_of, find, said, fields_or0, given}
use Rattle.evaluation.proofs.Finding.{same_word, index_small, speaks_inv}
use Rattle.facts.specs.Keys.{value_part, value_of, pack_key, key_of, stored, has_key, value_at, Fits, AllFit}

-- THE PARTS OF A KEY
unpacked : (i a b c j x y z : ℕ) → i < 10 → c < 16 → b < 64 → j < 10 → z < 16 → y < 64 → pack_key i a b c ≡ pack_key j x y z → (i ≡ j) × (a ≡ x) × (b ≡ y) × (c ≡ z)
unfolding pack_key
unpacked i a b c j x y z h₁ h₂ h₃ h₄ h₅ h₆ e = (omega (arith, e), omega (arith, e), omega (arith, e), omega (arith, e))

-- a key is that of a fact where the fact speaks of its subject
module _ (w : FactWord) (n : Four ℕ) (v : FactWord) (m : Four ℕ) (p : Fits (subject_of w n)) (q : Fits (subject_of v m)) where
  abbrev it : Fact
  it = record { word = v; fields = m }

  speaks : key_of w n ≡ key_of v m → speaks_of w n it ≡ true
  unfolding key_of speaks_of
  speaks e =
      let u = unpacked (fact_index w) (subject_of w n).a (subject_of w n).b (subject_of w n).c (fact_index v) (subject_of v m).a (subject_of v m).b (subject_of v m).c
      (index_small w) p.c p.b (index_small v) q.c q.b e in
      let g : v ≡ w = sym (same_word w v (eq-eqb (fact_index w) (fact_index v) u.0)) in
      rw (
        eq-eqb (fact_index w) (fact_index v) u.0,
        eq-eqb (subject_of w n).a (subject_of w m).a (u.1 ∙ ap (λ y. (subject_of y m).a) g),
        eq-eqb (subject_of w n).b (subject_of w m).b (u.2 ∙ ap (λ y. (subject_of y m).b) g),
        eq-eqb (subject_of w n).c (subject_of w m).c (u.3 ∙ ap (λ y. (subject_of y m).c) g),
        eq-eqb (subject_of w n).d (subject_of w m).d (p.d ∙ sym q.d ∙ ap (λ y. (subject_of y m).d) g),
      )

  one_key : speaks_of w n it ≡ true → key_of w n ≡ key_of v m
  unfolding key_of
  one_key f =
      let t = speaks_inv w n it f in
      ap (λ (s : Four ℕ). pack_key (fact_index w) s.a s.b s.c) t.1 ∙ ap (λ y. key_of y m) t.0

  pub key_speaks : eqb (key_of w n) (key_of v m) ≡ speaks_of w n it
  key_speaks = which (speaks_of w n it) refl
    where
      which : (b : Bool) → speaks_of w n it ≡ b → eqb (key_of w n) (key_of v m) ≡ b
      which true f = eq-eqb _ _ (one_key f)
      which false f = ne_eqb _ _ (λ e. true≢false (sym (speaks e) ∙ f))

-- WHAT IS FOUND by a key
no_value : (f : FactField) → value_part f 0 ≡ 0
no_value FactField.Unused = refl
no_value (FactField.Size m) = refl
no_value (FactField.Subject d) = refl
no_value (FactField.Value d) = refl

value_zeros : (w : FactWord) → value_of w (four 0 0 0 0) ≡ 0
unfolding value_of
value_zeros w = rw (no_value (fact_fields w).a, no_value (fact_fields w).b, no_value (fact_fields w).c, no_value (fact_fields w).d)

module _ (w : FactWord) (n : Four ℕ) (p : Fits (subject_of w n)) where
  pub has_said : (facts : Facts) → AllFit facts → has_key (map stored facts) (key_of w n) ≡ said facts w n
  unfolding said find AllFit
  has_said [] f = refl
  has_said (x ∷ xs) f = rw (key_speaks w n x.word x.fields p f.0) (which (speaks_of w n x) (has_said xs f.1))
    where
      which : (b : Bool) → has_key (map stored xs) (key_of w n) ≡ is_some (find xs w n) → (b || has_key (map stored xs) (key_of w n)) ≡ is_some (cond b (Some x.fields) (find xs w n))
      which true e = refl
      which false e = e

  pub value_given : (facts : Facts) → AllFit facts → value_at (map stored facts) (key_of w n) ≡ value_of w (given facts w n)
  unfolding value_at find AllFit
  value_given [] f = sym (value_zeros w)
  value_given (x ∷ xs) f = rw (key_speaks w n x.word x.fields p f.0) (which (speaks_of w n x) refl (value_given xs f.1))
    where
      which : (b : Bool) → speaks_of w n x ≡ b → value_at (map stored xs) (key_of w n) ≡ value_of w (fields_or0 (find xs w n))
          → cond b (value_of x.word x.fields) (value_at (map stored xs) (key_of w n)) ≡ value_of w (fields_or0 (cond b (Some x.fields) (find xs w n)))
      which true s e = ap (λ y. value_of y x.fields) (sym (speaks_inv w n x s).0)
      which false s e = e
