-- What the ranges of the table say of a subject and of a value: a subject has room in its key, a value in a byte.
use mathlib.Core.Path.{◌≡◌, refl}
use mathlib.Core.Bool.{Bool, true, false, ◌&&◌, false≢true}
use Prim.Native.Nat.{ℕ, ◌<◌, ◌≤◌}
use native.Mathlib.Omega.{arith}
use borrow.Author.Tests.{ltb-true}
use Rattle.tableau.specs.Basics.{Four, every}
use Rattle.tableau.proofs.Bools.{both_true, every_true}
use Rattle.tableau.proofs.Places.{every_value}
use Rattle.evaluation.specs.declared.FactWord.{FactWord}
use Rattle.evaluation.specs.declared.Domain.{Domain}
use Rattle.evaluation.specs.declared.FactField.{FactField}
use Rattle.evaluation.specs.Facts.{fact_fields, subject_part, subject_of, in_domain, in_range}
use Rattle.evaluation.specs.contracts.FactWord as word-type
use Rattle.facts.specs.Keys.{value_part, Fits}
use Rattle.facts.specs.Reading.{SizesFit, ValuesFit}

-- a number that is no name is below 64; a field or a class below 16
abbrev is_number : Domain → Bool
is_number Domain.Reference = true
is_number Domain.Field = true
is_number Domain.Class = true
is_number Domain.Name = false

abbrev is_narrow : Domain → Bool
is_narrow Domain.Reference = false
is_narrow Domain.Field = true
is_narrow Domain.Class = true
is_narrow Domain.Name = false

module _ (s : Four ℕ) (fit : SizesFit s) where
  below_64 : (d : Domain) (n : ℕ) → is_number d ≡ true → in_domain s d n ≡ true → n < 64
  below_64 Domain.Reference n e h = omega (arith, ltb-true n s.a h, fit.a)
  below_64 Domain.Field n e h = omega (arith, ltb-true n s.b h, fit.b)
  below_64 Domain.Class n e h = omega (arith, ltb-true n s.c h, fit.c)
  below_64 Domain.Name n e h = absurd (false≢true e)

  below_16 : (d : Domain) (n : ℕ) → is_narrow d ≡ true → in_domain s d n ≡ true → n < 16
  below_16 Domain.Reference n e h = absurd (false≢true e)
  below_16 Domain.Field n e h = omega (arith, ltb-true n s.b h, fit.b)
  below_16 Domain.Class n e h = omega (arith, ltb-true n s.c h, fit.c)
  below_16 Domain.Name n e h = absurd (false≢true e)

-- a test of the subjects of a field, and of its values
abbrev of_subject : (Domain → Bool) → FactField → Bool
of_subject test FactField.Unused = true
of_subject test (FactField.Size m) = true
of_subject test (FactField.Subject d) = test d
of_subject test (FactField.Value d) = true

abbrev of_value : FactField → Bool
of_value FactField.Unused = true
of_value (FactField.Size m) = true
of_value (FactField.Subject d) = true
of_value (FactField.Value d) = is_number d

module _ (s : Four ℕ) (test : Domain → Bool) (k : ℕ) (some : 0 < k) (below : (d : Domain) (n : ℕ) → test d ≡ true → in_domain s d n ≡ true → n < k) where
  subject_below : (f : FactField) (n : ℕ) → of_subject test f ≡ true → in_range s f n ≡ true → subject_part f n < k
  subject_below FactField.Unused n e h = some
  subject_below (FactField.Size m) n e h = some
  subject_below (FactField.Subject d) n e h = below d n e h
  subject_below (FactField.Value d) n e h = some

no_subject : (f : FactField) (n : ℕ) → of_subject (λ d. false) f ≡ true → subject_part f n ≡ 0
no_subject FactField.Unused n e = refl
no_subject (FactField.Size m) n e = refl
no_subject (FactField.Subject d) n e = absurd (false≢true e)
no_subject (FactField.Value d) n e = refl

value_below : (s : Four ℕ) → SizesFit s → (f : FactField) (n : ℕ) → of_value f ≡ true → in_range s f n ≡ true → value_part f n < 64
value_below s fit FactField.Unused n e h = omega arith
value_below s fit (FactField.Size m) n e h = omega arith
value_below s fit (FactField.Subject d) n e h = omega arith
value_below s fit (FactField.Value d) n e h = below_64 s fit d n e h

pub subject_small : (f : FactField) (n : ℕ) → subject_part f n ≤ n
subject_small FactField.Unused n = omega arith
subject_small (FactField.Size m) n = omega arith
subject_small (FactField.Subject d) n = omega arith
subject_small (FactField.Value d) n = omega arith

-- THE TABLE, computed: no name is the second part of a subject, no reference the third, and there is no fourth; no name is a value
abbrev subjects_fit : FactWord → Bool
subjects_fit w = of_subject is_number (fact_fields w).b && (of_subject is_narrow (fact_fields w).c && of_subject (λ d. false) (fact_fields w).d)

table_subjects : (w : FactWord) → subjects_fit w ≡ true
unfolding fact_fields
table_subjects = every_value word-type.enum refl subjects_fit refl

abbrev values_are_numbers : FactWord → Bool
values_are_numbers w = of_value (fact_fields w).a && (of_value (fact_fields w).b && (of_value (fact_fields w).c && of_value (fact_fields w).d))

table_values : (w : FactWord) → values_are_numbers w ≡ true
unfolding fact_fields
table_values = every_value word-type.enum refl values_are_numbers refl

module _ (s : Four ℕ) (fit : SizesFit s) (w : FactWord) (n : Four ℕ) (h : every (in_range s) (fact_fields w) n ≡ true) where
  pub subject_fits : Fits (subject_of w n)
  unfolding subject_of
  subject_fits =
      let r = every_true (in_range s) (fact_fields w) n h in
      let t₁ = both_true (of_subject is_number (fact_fields w).b) _ (table_subjects w) in
      let t₂ = both_true (of_subject is_narrow (fact_fields w).c) _ t₁.1 in
      record {
        b = subject_below s is_number 64 (omega arith) (below_64 s fit) (fact_fields w).b n.b t₁.0 r.1;
        c = subject_below s is_narrow 16 (omega arith) (below_16 s fit) (fact_fields w).c n.c t₂.0 r.2;
        d = no_subject (fact_fields w).d n.d t₂.1;
      }

  pub values_fit : ValuesFit (fact_fields w) n
  values_fit =
      let r = every_true (in_range s) (fact_fields w) n h in
      let t₁ = both_true (of_value (fact_fields w).a) _ (table_values w) in
      let t₂ = both_true (of_value (fact_fields w).b) _ t₁.1 in
      let t₃ = both_true (of_value (fact_fields w).c) _ t₂.1 in
      record {
        a = value_below s fit (fact_fields w).a n.a t₁.0 r.0;
        b = value_below s fit (fact_fields w).b n.b t₂.0 r.1;
        c = value_below s fit (fact_fields w).c n.c t₃.0 r.2;
        d = value_below s fit (fact_fields w).d n.d t₃.1 r.3;
      }
