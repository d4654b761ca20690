-- The first false literal of the branch; whether a literal of a clause is true.
use mathlib.Core.Path.{◌≡◌, refl, sym, ◌∙◌, ap}
use mathlib.Core.Bool.{Bool, true, false, ◌||◌, or-true}
use mathlib.Core.List.{List, [], ◌∷◌}
use Prim.Native.Nat.{ℕ, zero, suc, ◌+◌, ◌<◌}
use native.Mathlib.Omega.{arith}
use lib.ListN.{length, get_or, length-map}
use Rattle.std.specs.Prelude.{Option, None, Some}
use Rattle.std.specs.Bool.{MatchBool}
use Rattle.std.specs.Option.{MatchOption}
use Rattle.std.specs.List.{AllWithin, HoldsAt}
use Rattle.tableau.specs.Terms.{Table, Literal, at}
use Rattle.tableau.specs.Meaning.{FiniteHeap, Values}
use Rattle.evaluation.specs.Evaluation.{is_true, first_false, any_passes}
use Rattle.packing.specs.Packing.{unpack_literal}
use Rattle.table.specs.Held.{Entries}
use Rattle.regions.specs.declared.HeapTables.{HeapTables}
use Rattle.term_values.specs.declared.TermValues.{TermValues}
use Rattle.term_values.specs.Literals.{IsAssumption, Evaluable}
use Rattle.evaluator.specs.Assumptions.{literals_of, AllAssumptions, literal_at, FirstFalse, AnyIs}

-- the code at an index, and what is known of it
pub assumption_at : (table : Table) (codes : List ℕ) → AllAssumptions table (literals_of codes) → (k : ℕ) (d : ℕ) → k < length codes → IsAssumption table (unpack_literal (get_or codes k d))
unfolding AllAssumptions
assumption_at table [] a k d l = absurd (omega arith)
assumption_at table (x ∷ xs) a zero d l = a.0
assumption_at table (x ∷ xs) a (suc k) d l = assumption_at table xs a.1 k d (omega arith)

-- THE FIRST of codes that fails a test, by its index
module _ (test : Literal → Bool) where
  abbrev passes : List ℕ → ℕ → Bool
  passes codes k = test (unpack_literal (get_or codes k 0))

  abbrev IsFirst : List ℕ → Option ℕ → Type 0
  IsFirst codes None = (k : ℕ) → k < length codes → passes codes k ≡ true
  IsFirst codes (Some n) = (n < length codes) × (passes codes n ≡ false) × ((k : ℕ) → k < n → passes codes k ≡ true)

  first_place : (codes : List ℕ) (place : Option ℕ) → IsFirst codes place → (i : ℕ) → literal_at i place ≡ first_false test i (literals_of codes)
  first_place [] None m i = refl
  first_place [] (Some n) m i = absurd (omega (arith, m.0))
  first_place (x ∷ xs) None m i = rw (m 0 (omega arith)) (first_place xs None (λ k l. m (suc k) (omega arith)) (suc i))
  first_place (x ∷ xs) (Some zero) m i = rw m.1 (omega arith)
  first_place (x ∷ xs) (Some (suc n)) m i =
      rw (m.2 0 (omega arith))
      ((let e : suc (i + suc n) ≡ suc (suc i + n) = omega arith in e) ∙ first_place xs (Some n) (omega (arith, m.0), m.1, λ k l. m.2 (suc k) (omega arith)) (suc i))

  -- whether one of them passes
  any_place : (codes : List ℕ) (b : Bool) → MatchBool b ((k : ℕ) × (k < length codes) × (passes codes k ≡ true)) ((k : ℕ) → k < length codes → passes codes k ≡ false)
      → b ≡ any_passes test (literals_of codes)
  any_place [] true m = absurd (omega (arith, m.1))
  any_place [] false m = refl
  any_place (x ∷ xs) true (zero, l, e) = rw e
  any_place (x ∷ xs) true (suc k, l, e) = sym (ap (λ (b : Bool). test (unpack_literal x) || b) (sym (any_place xs true (k, omega arith, e))) ∙ or-true (test (unpack_literal x)))
  any_place (x ∷ xs) false m = rw (m 0 (omega arith)) (any_place xs false (λ k l. m (suc k) (omega arith)))

-- WHAT A TEST OF A CODE SAYS, for every heap and all values that the arrays show
module _ (terms : List ℕ) (values : TermValues) (tables : HeapTables) where
  abbrev pub Tested : Bool → ℕ → Type 0
  Tested b code = (H : FiniteHeap) (ρ : Values H) (table : Table) → Entries table terms → IsAssumption table (unpack_literal code) → Evaluable H ρ table tables values.numbers values.rows
      → b ≡ is_true ρ (at table) (unpack_literal code)

  pub first_is : (codes : List ℕ) (place : Option ℕ)
      → MatchOption place (AllWithin (Tested true) codes 0 (length codes)) (λ i. (i < length codes) × HoldsAt (Tested false) codes i × AllWithin (Tested true) codes 0 i)
      → FirstFalse (literals_of codes) terms values tables place
  first_is codes None m = record {
    few = tt;
    is = λ H ρ table E A W. first_place (is_true ρ (at table)) codes None (λ k l. sym (m k 0 (omega arith) l H ρ table E (assumption_at table codes A k 0 l) W));
  }
  first_is codes (Some n) m = record {
    few = rw length-map m.0;
    is = λ H ρ table E A W. first_place (is_true ρ (at table)) codes (Some n) (
      m.0,
      sym (m.1 0 H ρ table E (assumption_at table codes A n 0 m.0) W),
      λ k l. sym (m.2 k 0 (omega arith) l H ρ table E (assumption_at table codes A k 0 (omega (arith, m.0))) W),
    );
  }

  pub any_is : (codes : List ℕ) (b : Bool) → MatchBool b ((k : ℕ) × (k < length codes) × HoldsAt (Tested true) codes k) (AllWithin (Tested false) codes 0 (length codes))
      → AnyIs (literals_of codes) terms values tables b
  any_is codes true m = record { is = λ H ρ table E A W. any_place (is_true ρ (at table)) codes true (m.0, m.1, sym (m.2 0 H ρ table E (assumption_at table codes A m.0 0 m.1) W)) }
  any_is codes false m = record {
    is = λ H ρ table E A W. any_place (is_true ρ (at table)) codes false (λ k l. sym (m k 0 (omega arith) l H ρ table E (assumption_at table codes A k 0 l) W));
  }
