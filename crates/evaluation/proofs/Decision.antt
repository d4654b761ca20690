-- The evaluator's tests are the meaning, in both directions.
use mathlib.Core.Path.{◌≡◌, refl, sym, ◌∙◌, ap, subst}
use mathlib.Core.Bool.{Bool, true, false, ◌||◌, not, beq, false≢true}
use mathlib.Core.Logic.Iff
use mathlib.Core.Logic.{◌↔◌, ◌⊎◌, inl, inr}
use mathlib.Core.List.{List, [], ◌∷◌}
use Prim.Native.Nat.{ℕ, zero, suc}
use borrow.Author.Tests.{not-true}
use Rattle.tableau.specs.declared.Relation.{Relation}
use Rattle.tableau.specs.Terms.{TermNo, Term, Literal, literal, sort_index}
use Rattle.tableau.specs.Meaning.{Below, widen, FiniteHeap, Region, Store, Value, reference, region, heap, field, class, kind, as_ref, as_region, as_store, as_field, as_class}
use Rattle.tableau.specs.Meaning.{Values, value, Holds, True, AnyTrue}
use Rattle.tableau.proofs.Bools.{and_l, and_r, and_i, eqb_same}
use Rattle.tableau.proofs.Numbers.{same_eq, same_refl}
use Rattle.tableau.proofs.Values.{region_path, as_sort, as_sort_lem}
use Rattle.tableau.proofs.Match.{same_sort_lem}
use Rattle.evaluation.specs.Orders.{each, each_out}
use Rattle.evaluation.specs.Evaluation.{same_region, same_store, agrees, is_eq, holds, is_true, any_passes}

pub each_in : (n : ℕ) (f : Below n → Bool) → ((x : Below n) → f x ≡ true) → each n f ≡ true
unfolding each
each_in zero f h = refl
each_in (suc n) f h = and_i (h _) (each_in n (λ x. f (widen x)) (λ x. h (widen x)))

pub beq_eq : (a b : Bool) → beq a b ≡ true → a ≡ b
beq_eq true true e = refl
beq_eq true false e = absurd (false≢true e)
beq_eq false true e = absurd (false≢true e)
beq_eq false false e = refl

pub eq_beq : (a b : Bool) → a ≡ b → beq a b ≡ true
eq_beq true true e = refl
eq_beq true false e = sym e
eq_beq false true e = e
eq_beq false false e = refl

denied : {P : Type 0} (b : Bool) → (b ≡ true) ↔ P → (not b ≡ true) ↔ ¬ P
denied true h = ((λ e. absurd (false≢true e)), (λ n. absurd (n (h.0 refl))))
denied false h = ((λ e p. false≢true (h.1 p)), (λ n. refl))

either : {P Q : Type 0} (a b : Bool) → (a ≡ true) ↔ P → (b ≡ true) ↔ Q → ((a || b) ≡ true) ↔ (P ⊎ Q)
either true b p q = ((λ e. inl (p.0 refl)), (λ h. refl))
either {P} {Q} false b p q = ((λ e. inr (q.0 e)), from)
  where
    from : P ⊎ Q → b ≡ true
    from (inl x) = absurd (false≢true (p.1 x))
    from (inr y) = q.1 y

module _ (H : FiniteHeap) where
  region_eq : (r s : Region H) → same_region H r s ≡ true → r ≡ s
  unfolding same_region
  region_eq r s e = region_path r s (λ x. beq_eq (r.has x) (s.has x) (each_out H.references _ e x))

  region_refl : (r : Region H) → same_region H r r ≡ true
  unfolding same_region
  region_refl r = each_in H.references _ (λ x. eq_beq (r.has x) (r.has x) refl)

  store_eq : (h k : Store H) → same_store H h k ≡ true → h ≡ k
  unfolding same_store
  store_eq h k e = λ i x f. same_eq (h x f) (k x f) (each_out H.fields _ (each_out H.references _ e x) f) i

  store_refl : (h : Store H) → same_store H h h ≡ true
  unfolding same_store
  store_refl h = each_in H.references _ (λ x. each_in H.fields _ (λ f. same_refl (h x f)))

module _ {H : FiniteHeap} where
  -- VALUES
  agrees_eq : (a b : Value H) → agrees a b ≡ true → a ≡ as_sort (kind a) b
  unfolding agrees
  agrees_eq (reference x) b e = ap reference (same_eq x (as_ref b) e)
  agrees_eq (region r) b e = ap region (region_eq H r (as_region b) e)
  agrees_eq (heap h) b e = ap heap (store_eq H h (as_store b) e)
  agrees_eq (field f) b e = ap field (same_eq f (as_field b) e)
  agrees_eq (class c) b e = ap class (same_eq c (as_class b) e)

  agrees_refl : (a : Value H) → agrees a a ≡ true
  unfolding agrees
  agrees_refl (reference x) = same_refl x
  agrees_refl (region r) = region_refl H r
  agrees_refl (heap h) = store_refl H h
  agrees_refl (field f) = same_refl f
  agrees_refl (class c) = same_refl c

  pub eq_iff : (a b : Value H) → (is_eq a b ≡ true) ↔ (a ≡ b)
  unfolding is_eq
  eq_iff a b = (
    (λ e. agrees_eq a b (and_r _ _ e) ∙ sym (as_sort_lem b (kind a) (sym (same_sort_lem (kind a) (kind b) (and_l _ _ e))))),
    (λ e. subst (λ x. is_eq a x ≡ true) e (and_i (eqb_same (sort_index (kind a))) (agrees_refl a))),
  )

  -- LITERALS
  holds_iff : (R : Relation) (a b : Value H) → (holds R a b ≡ true) ↔ Holds R a b
  holds_iff Relation.In a b = Iff.rfl
  holds_iff Relation.Ni a b = (not-true _, ap not)
  holds_iff Relation.Eq a b = eq_iff a b
  holds_iff Relation.Ne a b = denied (is_eq a b) (eq_iff a b)
  holds_iff Relation.Le a b = Iff.rfl
  holds_iff Relation.Nl a b = (not-true _, ap not)

-- THE TEST OF A LITERAL IS ITS TRUTH
pub true_iff : {H : FiniteHeap} (ρ : Values H) (table : TermNo → Term) (l : Literal) → (is_true ρ table l ≡ true) ↔ True ρ table l
true_iff ρ table (literal R m n) = holds_iff R (value ρ table m) (value ρ table n)

-- the test of several is the truth of one of them
pub any_iff : {H : FiniteHeap} (ρ : Values H) (table : TermNo → Term) (ls : List Literal) → (any_passes (is_true ρ table) ls ≡ true) ↔ AnyTrue ρ table ls
any_iff ρ table [] = (false≢true, (λ t. absurd t))
any_iff ρ table (l ∷ ls) = either (is_true ρ table l) _ (true_iff ρ table l) (any_iff ρ table ls)
