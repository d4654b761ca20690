-- What the rules on regions answer, by what their functions test.
use mathlib.Core.Path.{◌≡◌, refl, ◌∙◌}
use mathlib.Core.Logic.{◌⊎◌, inl, inr}
use mathlib.Core.Bool.{Bool, true, false, not, cond, ◌&&◌, ◌||◌}
use mathlib.Core.List.{[], ◌∷◌}
use Rattle.std.specs.Prelude.{Option, None, Some, Result, Err, IfOk}
use Prim.Native.Nat.{ℕ}
use lib.Dec.{eqb}
use borrow.Author.Tests.{eq-eqb, ne_eqb}
use Rattle.tableau.specs.declared.Freshness.{Freshness}
use Rattle.tableau.specs.declared.Operator.{Operator}
use Rattle.tableau.specs.declared.Reason.{Reason}
use Rattle.tableau.specs.declared.Relation.{Relation}
use Rattle.tableau.specs.declared.Rule.{Rule}
use Rattle.tableau.specs.declared.TermNumber.{TermNumber}
use Rattle.tableau.specs.Basics.{guard}
use Rattle.tableau.specs.Fields.{arguments}
use Rattle.tableau.specs.Terms.{TermNo, Table, Term, Literal, literal, at, same_relation}
use Rattle.tableau.specs.Rules.{rows, rule}
use Rattle.tableau.specs.Tree.{refused, passed, ◌>>◌, require_fresh}
use Rattle.packing.specs.declared.LiteralView.{LiteralView}
use Rattle.packing.specs.declared.TermView.{TermView}
use Rattle.packing.specs.Packing.{literal_of, view_of, number, relation_of, left_of, right_of}
use Rattle.table.specs.Held.{ViewAt}
use Rattle.rules.specs.declared.outcome.Outcome.{Outcome}
use Rattle.rules.specs.Answer.{IsNot, Concludes, ConcludesFresh, Room, answer_of}
use Rattle.rules.proofs.Laws.{Arguments2, by_sides, by_test, computing, is_cup, same}
use Rattle.rules.proofs.Laws.{test_fails, test_holds}
use Rattle.rules.proofs.Rows.{MetIf, by_tests, carrying, joining, letters_of}
use Rattle.set_rules.specs.Regions.{are_regions}

two_guards : {A : Type 0} (a b : Bool) (k : Option A) → guard a (guard b k) ≡ guard (a && b) k
two_guards true b k = refl
two_guards false b k = refl

-- p is m eq n; the row carries a member of the one with letter k to the one with letter l
module _ {A : Table → Type 0} {x : Rule} {k l : ℕ} {p : LiteralView} {m n : TermNumber}
    (i : rule x ≡ rows (carrying k l)) (e : p ≡ LiteralView.Eq m n) where
  pub no_member : (q : LiteralView) → IsNot Relation.In q
      → Concludes A x (Some (literal_of p)) (Some (literal_of q)) 0 0 (Err Reason.NeedNotMet)
  unfolding computing
  no_member q o = record {
    room = tt;
    answers = λ table h fresh.
        rw (i, e, two_guards _ _ _, by_sides q)
        (by_test (are_regions table m.0 n.0) (λ j. rw (j, o)) (λ j. rw j));
  }

  -- q is u in y, and b whether they are regions
  pub carried : {q : LiteralView} {u y : TermNumber} {b : Bool} {c d : TermNo}
      → q ≡ LiteralView.In u y
      → ((table : Table) → A table → b ≡ are_regions table m.0 n.0) → letters_of m n u k ≡ Some c
      → letters_of m n u l ≡ Some d
      → MetIf A x (Some (literal_of p)) (Some (literal_of q)) 0 0 (b && eqb c y.0)
      ((literal Relation.In u.0 d ∷ []) ∷ [])
  unfolding computing
  carried {y = y} {b} {c} q f from to = record {
    answers = λ table h fresh.
        rw (i, e, two_guards _ _ _, ← f table h, q)
        (by_tests b (eqb c y.0) (λ j. rw j) (λ j o. rw (j, from, o)) (λ j o. rw (j, from, o, to)));
  }

-- the same by b, which is whether m and n are regions, and for every q
module _ {A : Table → Type 0} {x : Rule} {k l : ℕ} {p : LiteralView} {m n : TermNumber} {b : Bool}
    (i : rule x ≡ rows (carrying k l)) (e : p ≡ LiteralView.Eq m n)
    (f : (table : Table) → A table → b ≡ are_regions table m.0 n.0) where
  pub no_regions : {Q : Option Literal} → b ≡ false
      → Concludes A x (Some (literal_of p)) Q 0 0 (Err Reason.NeedNotMet)
  unfolding computing
  no_regions g = record {
    room = tt;
    answers = λ table h fresh. rw (i, e, two_guards _ _ _, test_fails (f table h) g);
  }

  pub moves : {c d : TermNo} (q : LiteralView) → b ≡ true
      → ((u : TermNumber) → letters_of m n u k ≡ Some c)
      → ((u : TermNumber) → letters_of m n u l ≡ Some d)
      → MetIf A x (Some (literal_of p)) (Some (literal_of q)) 0 0
      (same_relation Relation.In (relation_of q) && eqb c (right_of q))
      ((literal Relation.In (left_of q) d ∷ []) ∷ [])
  unfolding computing
  moves {c} q g from to = record {
    answers = λ table h fresh.
        let u = number (left_of q) in
        rw (i, e, two_guards _ _ _, test_holds (f table h) g, by_sides q)
        (by_tests (same_relation Relation.In (relation_of q)) (eqb c (right_of q)) (λ j. rw j)
        (λ j o. rw (j, from u, o)) (λ j o. rw (j, from u, o, to u)));
  }

-- p is m ne n, and b whether they are regions
pub unequal : {A : Table → Type 0} {p : LiteralView} {m n : TermNumber} {b : Bool}
    {fresh : Freshness} {w : ℕ} {r : Result Outcome Reason} → p ≡ LiteralView.Ne m n
    → ((table : Table) → A table → b ≡ are_regions table m.0 n.0) → IfOk r Room
    → answer_of r ≡ cond (not b) (refused Reason.NeedNotMet) (require_fresh true fresh >> passed (
    (literal Relation.In w m.0 ∷ literal Relation.Ni w n.0 ∷ []) ∷
    (literal Relation.Ni w m.0 ∷ literal Relation.In w n.0 ∷ []) ∷
    []
    ))
    → ConcludesFresh A fresh Rule.Ext (Some (literal_of p)) None 0 w r
unfolding computing
unequal {b = b} {fresh = f} e g room a = record {
  room = room;
  answers = λ table h.
      rw (e, two_guards _ _ _, ← g table h, a) (by_test b (λ i. rw i) (λ i. rw i));
}

-- v is what the code computes for a test b and a test w
pub and_holds : {v w b : Bool} → v ≡ w → b ≡ true → v ≡ (b && w)
and_holds e f = rw f e

pub and_fails : {v b : Bool} (w : Bool) → v ≡ b → b ≡ false → v ≡ (b && w)
and_fails w e f = rw f (e ∙ f)

-- both of two equalities, or not both
pub both_equal : {a b c d : ℕ} → (a ≡ b) × (c ≡ d) → (eqb a b && eqb c d) ≡ true
both_equal {a} {b} {c} {d} e = rw (eq-eqb a b e.0, eq-eqb c d e.1)

pub not_both_equal : {a b c d : ℕ} → ((a ≡ b) × (c ≡ d → ⊥)) ⊎ (a ≡ b → ⊥)
    → (eqb a b && eqb c d) ≡ false
not_both_equal {a} {b} {c} {d} (inl e) = rw (eq-eqb a b e.0, ne_eqb c d e.1)
not_both_equal {a} {b} {c} {d} (inr e) = rw (ne_eqb a b e)

pub or_holds : {v b : Bool} (w : Bool) → v ≡ b → b ≡ true → v ≡ (b || w)
or_holds w e f = rw f (e ∙ f)

pub or_fails : {v w b : Bool} → v ≡ w → b ≡ false → v ≡ (b || w)
or_fails e f = rw f e

-- m in k, n in or outside l, and t has the operator and a, b: m in t where m is n, k is a, and l is
-- b
pub joins : {A : Table → Type 0} {x : Rule} {R : Relation} {o : Operator} {P Q : Literal}
    {m k n l t : ℕ} {a b : TermNumber} {v y : TermView}
    → rule x ≡ rows (joining R o) → arguments o ≡ arguments Operator.Cap
    → P ≡ literal Relation.In m k → Q ≡ literal R n l
    → ((e : Term) → view_of e ≡ y → Arguments2 o e a b) → v ≡ y
    → ((table : Table) → A table → ViewAt table t v)
    → MetIf A x (Some P) (Some Q) t 0 ((eqb m n && eqb k a.0) && eqb l b.0)
    ((literal Relation.In m t ∷ []) ∷ [])
unfolding computing
joins {R = R} {m = m} {k} {n} {l} {t} {a} {b} i two p q is j g = record {
  answers = λ table h fresh.
      rw (i, p, q, same R)
      (by_test (eqb m n)
      (λ e.
      rw (e, (is (at table t) ((g table h).is ∙ j)).2, two)
      (by_tests (eqb k a.0) (eqb l b.0) (λ f. rw f) (λ f o. rw (f, o)) (λ f o. rw (f, o))))
      (λ e. rw e));
}

-- u in k, and t is cup(a,b): u in t where k is a or b
pub united : {A : Table → Type 0} {p : LiteralView} {u k a b : TermNumber} {Q : Option Literal}
    {t : ℕ} {v : TermView} → p ≡ LiteralView.In u k
    → v ≡ TermView.Cup a b → ((table : Table) → A table → ViewAt table t v)
    → MetIf A Rule.Cui (Some (literal_of p)) Q t 0 (eqb k.0 a.0 || eqb k.0 b.0)
    ((literal Relation.In u.0 t ∷ []) ∷ [])
unfolding computing
united {k = k} {a} {b} {t = t} p j g = record {
  answers = λ table h fresh.
      rw (p, (is_cup (at table t) _ _ ((g table h).is ∙ j)).2)
      (by_test (eqb k.0 a.0) (λ i. rw i)
      (λ i. rw i (by_test (eqb k.0 b.0) (λ o. rw o) (λ o. rw o))));
}

-- u in k, v ni l: u ne v where k is l
pub separated : {A : Table → Type 0} {p q : LiteralView} {u k v l : TermNumber}
    → p ≡ LiteralView.In u k → q ≡ LiteralView.Ni v l
    → MetIf A Rule.Sep (Some (literal_of p)) (Some (literal_of q)) 0 0 (eqb k.0 l.0)
    ((literal Relation.Ne u.0 v.0 ∷ []) ∷ [])
unfolding computing
separated {k = k} {l = l} e f = record {
  answers = λ table h fresh. rw (e, f) (by_test (eqb k.0 l.0) (λ i. rw i) (λ i. rw i));
}
