-- t is a read of a heap z: what `rdh` and `rdm` ask first.
use mathlib.Core.Path.{◌≡◌, ◌∙◌}
use mathlib.Core.List.{List, ◌∷◌}
use Rattle.std.specs.Prelude.{Option, Some, Err}
use Prim.Native.Nat.{ℕ}
use Rattle.tableau.specs.declared.Operator.{Operator}
use Rattle.tableau.specs.declared.Reason.{Reason}
use Rattle.tableau.specs.declared.Rule.{Rule}
use Rattle.tableau.specs.declared.TermNumber.{TermNumber}
use Rattle.tableau.specs.Basics.{four}
use Rattle.tableau.specs.Terms.{Table, Literal, at}
use Rattle.tableau.specs.Rules.{Pattern, operator, –, LiteralPattern, Need, t≐, ◌⟶◌, rows, rule}
use Rattle.tableau.specs.Steps.{arguments_of}
use Rattle.packing.specs.declared.TermView.{TermView}
use Rattle.table.specs.Held.{ViewAt}
use Rattle.rules.specs.Answer.{Concludes}
use Rattle.rules.proofs.Laws.{Arguments3, Others, computing, is_rea, is_wri, no_arguments}

module _ {A : Table → Type 0} {t : ℕ} {v x : TermView} {z k g : TermNumber}
    (e : v ≡ TermView.Rea z k g)
    (i : (table : Table) → A table → ViewAt table t v)
    (j : (table : Table) → A table → ViewAt table z.0 x) where
  -- the heap is not written
  pub other_heap : {r : Rule} {a b c d l m : Pattern} {ns : List Need}
      {ks : List (List LiteralPattern)} {P Q : Option Literal} {w : ℕ}
      → rule r ≡ rows (t≐ (operator Operator.Rea (operator Operator.Wri a b c d) l m –) ∷ ns ⟶ ks)
      → Others Operator.Wri x
      → Concludes A r P Q t w (Err Reason.NeedNotMet)
  unfolding computing
  other_heap q o = record {
    room = tt;
    answers = λ table h fresh.
        rw (
          q,
          (is_rea (at table t) _ _ _ ((i table h).is ∙ e)).1,
          no_arguments Operator.Wri
              (at table z.0) (j table h).is o,
        );
  }

  -- it is wri(h,u,f,w)
  pub read_written : {h u f w : TermNumber} → x ≡ TermView.Wri h u f w → (table : Table) → A table
      → Arguments3 Operator.Rea (at table t) z k g ×
      (arguments_of Operator.Wri (at table z.0) ≡ Some (four h.0 u.0 f.0 w.0))
  read_written y table h = (
    is_rea (at table t) _ _ _ ((i table h).is ∙ e),
    is_wri (at table z.0) _ _ _ _
        ((j table h).is ∙ y),
  )
