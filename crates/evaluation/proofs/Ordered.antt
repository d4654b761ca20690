-- Facts that say a heap say an order of its classes: check 20 passes.
use mathlib.Core.Path.{◌≡◌, refl, sym, ◌∙◌, ap}
use mathlib.Core.Bool.{Bool, true, false}
use native.Mathlib.Omega.{arith}
use borrow.Author.Tests.{eq-eqb}
use Rattle.tableau.specs.Meaning.{FiniteHeap, Class, Values}
use Rattle.tableau.proofs.Bools.{and_i}
use Rattle.evaluation.specs.Orders.{implies, is_transitive, is_antisymmetric}
use Rattle.evaluation.specs.Facts.{Facts}
use Rattle.evaluation.specs.Heaps.{SaidClass, is_under, is_order, AsSaid}
use Rattle.evaluation.proofs.Decision.{each_in}

pub implies_in : (a b : Bool) → (a ≡ true → b ≡ true) → implies a b ≡ true
unfolding implies
implies_in true b h = h refl
implies_in false b h = refl

module _ {facts : Facts} {H : FiniteHeap} {ρ : Values H} (A : AsSaid facts H ρ) where
  class : SaidClass facts → Class H
  class b = (b.0, omega (arith, b.1, A.classes, H.a_class.1))

  under : (b c : SaidClass facts) → is_under facts b c ≡ H.le (class b) (class c)
  unfolding is_under class
  under b c = sym (A.le (class b) (class c))

  pub said_ordered : is_order facts ≡ true
  unfolding is_order is_transitive is_antisymmetric class
  said_ordered = and_i
      (each_in _ _ λ b. each_in _ _ λ c. each_in _ _ λ d. implies_in (is_under facts b c) _ λ p. implies_in (is_under facts c d) _ λ q.
      under b d ∙ H.le_trans (class b) (class c) (class d) (sym (under b c) ∙ p) (sym (under c d) ∙ q))
      (each_in _ _ λ b. each_in _ _ λ c. implies_in (is_under facts b c) _ λ p. implies_in (is_under facts c b) _ λ q.
      eq-eqb b.0 c.0 (ap (λ x. x.0) (H.le_anti (class b) (class c) (sym (under b c) ∙ p) (sym (under c b) ∙ q))))
