-- A fold over a well-formed table gives each term what its entry says, from what the fold gives its arguments.
use mathlib.Core.Path.{◌≡◌, refl}
use Prim.Native.Nat.{ℕ, zero, suc, ◌<◌}
use native.Mathlib.Nat.{not-suc-le-zero, le_of_suc-le-suc, lt-suc_self, le_trans}
use Rattle.tableau.specs.declared.Sort.{Sort}
use Rattle.tableau.specs.declared.Operator.{Operator}
use Rattle.tableau.specs.Basics.{Four, four}
use Rattle.tableau.specs.Fields.{Argument, unused, of, arguments, if_argument}
use Rattle.tableau.specs.Terms.{TermNo, Name, Term, variable, apply, layer, to_depth, fold}
use Rattle.tableau.proofs.WellFormed.{OkArgument, OkTerm, WellFormed}

-- two functions that agree below t agree at the arguments of term t
pub argument_same : {A : Type 0} {f f' : TermNo → A} (z : A) (table : TermNo → Term) (t : TermNo) (k : Argument) (n : ℕ) → OkArgument table t k n
    → ((m : ℕ) → m < t → f m ≡ f' m) → if_argument k (f n) z ≡ if_argument k (f' n) z
argument_same z table t unused n ok e = refl
argument_same z table t (of s) n ok e = e n ok.0

module _ {A : Type 0} (on_variable : TermNo → Sort → Name → A) (on_apply : TermNo → Operator → Four A → A) (z : A)
    (table : TermNo → Term) (wf : WellFormed table) where
  layer_same : {f f' : TermNo → A} (t : TermNo) (e : Term) → OkTerm table t e → ((m : ℕ) → m < t → f m ≡ f' m)
      → layer on_variable on_apply z table t e f ≡ layer on_variable on_apply z table t e f'
  unfolding layer
  layer_same t (variable s n) ok e = refl
  layer_same t (apply o k) ok e = λ i. on_apply t o (four
      (argument_same z table t (arguments o).a k.a ok.0 e i) (argument_same z table t (arguments o).b k.b ok.1 e i)
      (argument_same z table t (arguments o).c k.c ok.2 e i) (argument_same z table t (arguments o).d k.d ok.3 e i))

  -- depth beyond the term's number changes nothing
  depth_same : (k k' t : ℕ) → t < k → t < k' → to_depth on_variable on_apply z table k t ≡ to_depth on_variable on_apply z table k' t
  unfolding to_depth
  depth_same zero k' t h h' = absurd (not-suc-le-zero h)
  depth_same (suc k) zero t h h' = absurd (not-suc-le-zero h')
  depth_same (suc k) (suc k') t h h' =
      layer_same t (table t) (wf.ok t) (λ m l. depth_same k k' m (le_trans l (le_of_suc-le-suc h)) (le_trans l (le_of_suc-le-suc h')))

  pub fold_eq : (t : TermNo) → fold on_variable on_apply z table t ≡ layer on_variable on_apply z table t (table t) (fold on_variable on_apply z table)
  unfolding fold to_depth
  fold_eq t = layer_same t (table t) (wf.ok t) (λ m l. depth_same t (suc m) m l (lt-suc_self m))
