-- The number of a term: where it stands, and what a further term changes.
use mathlib.Core.Path.{◌≡◌, refl, sym, ◌∙◌, ap}
use mathlib.Core.Bool.{Bool, true, false, cond}
use mathlib.Core.List.{[], ◌∷◌, ◌++◌}
use Rattle.std.specs.Prelude.{None, Some}
use Prim.Native.Nat.{ℕ, suc, ◌+◌, ◌<◌, ◌≤◌}
use native.Mathlib.Nat.{add-zero}
use native.Mathlib.Omega.{arith}
use lib.ListN.{length}
use Rattle.tableau.specs.Terms.{TermNo, Table, Term, at, number_from, number_of, same_term}
use Rattle.tableau.proofs.Bools.{none≢some, some_inj, clash}
use Rattle.tableau.proofs.StepSound.{same_term_lem}
use Rattle.tableau.proofs.TableGrowth.{same_term_refl}

-- what is found stands there
number_in : (i : ℕ) (xs : Table) (e : Term) (j : ℕ) → number_from i xs e ≡ Some j
    → (k : ℕ) × (j ≡ i + k) × (k < length xs) × (at xs (suc k) ≡ e)
unfolding number_from
number_in i [] e j h = none≢some h
number_in i (x ∷ xs) e j h = go (number_in (suc i) xs e j) (same_term e x) refl h
  where
    go : (number_from (suc i) xs e ≡ Some j → (k : ℕ) × (j ≡ suc i + k) × (k < length xs) × (at xs (suc k) ≡ e)) → (b : Bool) → same_term e x ≡ b
        → cond b (Some i) (number_from (suc i) xs e) ≡ Some j
        → (k : ℕ) × (j ≡ i + k) × (k < suc (length xs)) × (at (x ∷ xs) (suc k) ≡ e)
    go ih true q h = (0, sym (some_inj h) ∙ sym (add-zero i), omega arith, sym (same_term_lem e x q))
    go ih false q h = let r = ih h in let l : r.0 < length xs = r.2 in let p : j ≡ suc i + r.0 = r.1 in (suc r.0, omega arith, omega arith, r.3)

pub record Standing (table : Table) (e : Term) (j : TermNo) : Type 0 where
  pub first : 0 < j
  pub last : j ≤ length table
  pub is : at table j ≡ e

pub found_in : (table : Table) (e : Term) (j : TermNo) → number_of table e ≡ Some j → Standing table e j
found_in table e j h =
    let r = number_in 1 table e j h in
    let p : j ≡ suc r.0 = omega (arith, r.1) in
    let l : r.0 < length table = r.2 in
    record { first = omega arith; last = omega arith; is = ap (at table) p ∙ r.3 }

-- a further term at the end changes no number that was found, and is numbered last if it was not
pub number_kept : (i : ℕ) (xs : Table) (y e : Term) (j : ℕ) → number_from i xs e ≡ Some j → number_from i (xs ++ (y ∷ [])) e ≡ Some j
unfolding number_from
number_kept i [] y e j h = none≢some h
number_kept i (x ∷ xs) y e j h = go (number_kept (suc i) xs y e j) (same_term e x) h
  where
    go : (number_from (suc i) xs e ≡ Some j → number_from (suc i) (xs ++ (y ∷ [])) e ≡ Some j) → (b : Bool)
        → cond b (Some i) (number_from (suc i) xs e) ≡ Some j
        → cond b (Some i) (number_from (suc i) (xs ++ (y ∷ [])) e) ≡ Some j
    go ih true h = h
    go ih false h = ih h

pub number_added : (i : ℕ) (xs : Table) (e : Term) → number_from i xs e ≡ None → number_from i (xs ++ (e ∷ [])) e ≡ Some (i + length xs)
unfolding number_from
number_added i [] e h = go (same_term e e) (same_term_refl e)
  where
    go : (b : Bool) → b ≡ true → cond b (Some i) (None) ≡ Some (i + 0)
    go true q = ap Some (sym (add-zero i))
    go false q = clash q refl
number_added i (x ∷ xs) e h = go (number_added (suc i) xs e) (same_term e x) h
  where
    go : (number_from (suc i) xs e ≡ None → number_from (suc i) (xs ++ (e ∷ [])) e ≡ Some (suc i + length xs)) → (b : Bool)
        → cond b (Some i) (number_from (suc i) xs e) ≡ None
        → cond b (Some i) (number_from (suc i) (xs ++ (e ∷ [])) e) ≡ Some (i + suc (length xs))
    go ih true h = none≢some (sym h)
    go ih false h = ih h ∙ ap Some (shift i (length xs))
      where
        shift : (a b : ℕ) → suc a + b ≡ a + suc b
        shift a b = omega arith
