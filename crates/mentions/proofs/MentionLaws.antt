-- What stands in a term: the equation of each kind of term, and that it rests on the earlier terms alone.
use mathlib.Core.Path.{◌≡◌, refl, ◌∙◌, ap}
use mathlib.Core.Bool.{Bool, false, ◌||◌}
use Prim.Native.Nat.{ℕ, zero, suc, ◌<◌, ◌≤◌}
use native.Mathlib.Omega.{arith}
use lib.Dec.{eqb}
use borrow.Author.Tests.{ne_eqb}
use Rattle.tableau.specs.declared.Sort.{Sort}
use Rattle.tableau.specs.declared.Operator.{Operator}
use Rattle.tableau.specs.Basics.{Four, four}
use Rattle.tableau.specs.Fields.{arguments, if_argument}
use Rattle.tableau.specs.Terms.{TermNo, Name, Term, variable, apply, no_term, layer, to_depth, fold, mentions}
use Rattle.tableau.proofs.WellFormed.{OkTerm, WellFormed}
use Rattle.tableau.proofs.Fold.{argument_same, fold_eq}

-- two tables that agree up to n give what they give up to n
module _ {A : Type 0} (on_variable : TermNo → Sort → Name → A) (on_apply : TermNo → Operator → Four A → A) (z : A) (f f' : TermNo → Term) (n : ℕ)
    (same : (t : TermNo) → t ≤ n → f' t ≡ f t) (ok : (t : TermNo) → OkTerm f t (f t)) where
  layer_agree : {g g' : TermNo → A} (t : TermNo) (e : Term) → OkTerm f t e → ((m : ℕ) → m < t → g' m ≡ g m)
      → layer on_variable on_apply z f' t e g' ≡ layer on_variable on_apply z f t e g
  unfolding layer
  layer_agree t (variable s m) ok' h = refl
  layer_agree t (apply o k) ok' h = λ i. on_apply t o (four
      (argument_same z f t (arguments o).a k.a ok'.0 h i) (argument_same z f t (arguments o).b k.b ok'.1 h i)
      (argument_same z f t (arguments o).c k.c ok'.2 h i) (argument_same z f t (arguments o).d k.d ok'.3 h i))

  depth_agree : (k : ℕ) (t : TermNo) → t ≤ n → to_depth on_variable on_apply z f' k t ≡ to_depth on_variable on_apply z f k t
  unfolding to_depth
  depth_agree zero t l = refl
  depth_agree (suc k) t l =
      ap (λ (e : Term). layer on_variable on_apply z f' t e (to_depth on_variable on_apply z f' k)) (same t l)
      ∙ layer_agree t (f t) (ok t) (λ m h. depth_agree k m (omega arith))

pub mentions_same : (f f' : TermNo → Term) (n : ℕ) → ((t : TermNo) → t ≤ n → f' t ≡ f t) → WellFormed f → (w t : TermNo) → t ≤ n
    → mentions f' w t ≡ mentions f w t
unfolding mentions fold
mentions_same f f' n same wf w t l = depth_agree _ _ false f f' n same wf.ok (suc t) t l

-- no term stands in the number 0
pub mentions_zero : (f : TermNo → Term) → f 0 ≡ no_term → (w : TermNo) → 0 < w → mentions f w 0 ≡ false
unfolding mentions fold to_depth layer arguments
mentions_zero f e w l = rw (e, layer, arguments) (ap (λ (b : Bool). b || false) (ne_eqb 0 w (omega arith)))

abbrev here : TermNo → TermNo → Sort → Name → Bool
here w t s m = eqb t w

abbrev inside : TermNo → TermNo → Operator → Four Bool → Bool
inside w t o m = eqb t w || (m.a || (m.b || (m.c || m.d)))

module _ (f : TermNo → Term) (wf : WellFormed f) (w t : TermNo) where
  mentions_layer : (e : Term) → f t ≡ e → mentions f w t ≡ layer (here w) (inside w) false f t e (mentions f w)
  unfolding mentions
  mentions_layer e q = fold_eq (here w) (inside w) false f wf t ∙ ap (λ (x : Term). layer (here w) (inside w) false f t x (mentions f w)) q

  pub mentions_variable : (s : Sort) (m : Name) → f t ≡ variable s m → mentions f w t ≡ eqb t w
  unfolding layer
  mentions_variable s m e = mentions_layer (variable s m) e

  pub mentions_apply : (o : Operator) (k : Four TermNo) → f t ≡ apply o k
      → mentions f w t ≡ (eqb t w || (if_argument (arguments o).a (mentions f w k.a) false || (if_argument (arguments o).b (mentions f w k.b) false
      || (if_argument (arguments o).c (mentions f w k.c) false || if_argument (arguments o).d (mentions f w k.d) false))))
  unfolding layer
  mentions_apply o k e = mentions_layer (apply o k) e
