-- What the functions of rules with like rows answer, said once: a relation, an operator or a side
-- of the row is left open.
use mathlib.Core.Path.{◌≡◌, refl, sym, subst, ◌∙◌}
use mathlib.Core.Bool.{Bool, true, false, not, ◌&&◌, cond}
use mathlib.Core.List.{List, [], ◌∷◌}
use Rattle.std.specs.Prelude.{Option, None, Some, Result, Ok, Err, IsErrAnd}
use Prim.Native.Nat.{ℕ}
use lib.Dec.{eqb}
use Rattle.tableau.specs.declared.Freshness.{Freshness}
use Rattle.tableau.specs.declared.Operator.{Operator}
use Rattle.tableau.specs.declared.Reason.{Reason}
use Rattle.tableau.specs.declared.Relation.{Relation}
use Rattle.tableau.specs.declared.Rule.{Rule}
use Rattle.tableau.specs.declared.TermNumber.{TermNumber}
use Rattle.tableau.specs.Basics.{four}
use Rattle.tableau.specs.Fields.{arguments}
use Rattle.tableau.specs.Terms.{Table, Term, Literal, literal, apply, at}
use Rattle.tableau.specs.Rules.{Pattern, letter, operator, –, LiteralPattern, pattern, Need, p∶, q∶}
use Rattle.tableau.specs.Rules.{t≐, is_region, Row, ◌⟶◌, ◌∈◌, ◌≈◌, only, ⟨◌⟩, rows, rule, letter_u}
use Rattle.tableau.specs.Rules.{letter_r, letter_s}
use Rattle.tableau.specs.Rules as row
use Rattle.tableau.specs.Tree.{refused, passed, answer}
use Rattle.tableau.specs.Steps.{Letters, bind, given, fits_literal, made_alternatives}
use Rattle.packing.specs.declared.LiteralView.{LiteralView}
use Rattle.packing.specs.declared.TermView.{TermView}
use Rattle.packing.specs.Packing.{literal_of, view_of}
use Rattle.tableau.specs.declared.TermNumber.{TermNumber}
use Rattle.table.specs.Held.{ViewAt}
use Rattle.rules.specs.declared.outcome.Outcome.{Outcome}
use Rattle.rules.specs.Answer.{IsNot, SearchableBy, Finds, Builds, Concludes, ConcludesFresh}
use Rattle.rules.proofs.Laws.{Arguments2, Others, agree, differ, by_sides, by_test, computing}
use Rattle.rules.proofs.Laws.{found, missing, no_arguments, passed_on, same}

-- a rule that asks for a fresh w answers so too, where the answer does not hang on it
pub fresh_or_not : {A : Table → Type 0} {fresh : Freshness} {x : Rule} {P Q : Option Literal}
    {t w : ℕ} {r : Result Outcome Reason} → Concludes A x P Q t w r
    → ConcludesFresh A fresh x P Q t w r
fresh_or_not {fresh = fresh} k =
    record { room = k.room; answers = λ table h. k.answers table h fresh }

-- THE EXIT OF A `?`: the reason goes on to the caller
pub passes_on : {A : Table → Type 0} {x : Rule} {P Q : Option Literal} {t w : ℕ}
    {r : Result Outcome Reason} {d : Reason} → IsErrAnd r (λ e. e ≡ d)
    → Concludes A x P Q t w (Err d) → Concludes A x P Q t w r
passes_on {A} {x} {P} {Q} {t} {w} h k = subst (Concludes A x P Q t w) (sym (passed_on h)) k

-- NO NEEDS: what the row adds is added
pub always : {A : Table → Type 0} {x : Rule} {t w : ℕ} {ks : List (List LiteralPattern)}
    {r : Outcome} {ls : List (List Literal)}
    → rule x ≡ rows ([] ⟶ ks)
    → ((table : Table) → made_alternatives table ks (given false t w) ≡ Some ls) → Builds r ls
    → Concludes A x None None t w (Ok r)
unfolding computing
always i f b = record { room = b.room; answers = λ table h fresh. rw (i, f table, b.adds) }

-- A TEST: the row adds ks where b holds, and else its needs are not met
pub record MetIf (A : Table → Type 0) (x : Rule) (P Q : Option Literal) (t w : ℕ) (b : Bool)
    (ks : List (List Literal)) : Type 0 where
  pub answers : (table : Table) → A table → (fresh : Freshness)
      → answer table fresh P Q [] false t w x ≡ cond b (passed ks) (refused Reason.NeedNotMet)

module _ {A : Table → Type 0} {x : Rule} {P Q : Option Literal} {t w : ℕ} {b : Bool}
    {ks : List (List Literal)} (m : MetIf A x P Q t w b ks) where
  pub where_false : b ≡ false → Concludes A x P Q t w (Err Reason.NeedNotMet)
  where_false e = record { room = tt; answers = λ table k fresh. rw (m.answers table k fresh, e) }

  pub where_true : {o : Outcome} → b ≡ true → Builds o ks → Concludes A x P Q t w (Ok o)
  where_true e g =
      record { room = g.room; answers = λ table k fresh. rw (m.answers table k fresh, e, g.adds) }

  -- by what `!=` answers
  pub unmet : {r : Bool} → r ≡ not b → r ≡ true → Concludes A x P Q t w (Err Reason.NeedNotMet)
  unmet e h = where_false (differ e h)

  pub met : {r : Bool} {o : Outcome} → r ≡ not b → r ≡ false → Builds o ks
      → Concludes A x P Q t w (Ok o)
  met e h g = where_true (agree e h) g

-- two tests, of which the second is looked at only where the first holds
pub by_tests : {A : Type 0} (a b : Bool) → (a ≡ false → A) → (a ≡ true → b ≡ false → A)
    → (a ≡ true → b ≡ true → A) → A
by_tests a b f g h = by_test a (λ i. by_test b (h i) (g i)) f

-- one of them fails
pub by_failed : {A : Type 0} (a b : Bool) → (a && b) ≡ false → (a ≡ false → A)
    → (a ≡ true → b ≡ false → A) → A
by_failed true b e f g = g refl e
by_failed false b e f g = f refl

-- ANY ROW: p has another relation
pub other_p : {A : Table → Type 0} {x : Rule} {R : Relation} {k l : Pattern} {ns : List Need}
    {f : Bool} {ks : List (List LiteralPattern)}
    {Q : Option Literal} {t w : ℕ} (p : LiteralView)
    → rule x ≡ rows (record { needs = p∶ (pattern R k l) ∷ ns; fresh = f; adds = ks } ∷ [])
    → IsNot R p → Concludes A x (Some (literal_of p)) Q t w (Err Reason.NeedNotMet)
unfolding computing
other_p p i n = record { room = tt; answers = λ table h fresh. rw (i, by_sides p, n) }

-- p fits, and q has another relation
pub other_q : {A : Table → Type 0} {x : Rule} {k : LiteralPattern} {R : Relation} {i j : Pattern}
    {ns : List Need} {ks : List (List LiteralPattern)}
    {p v : LiteralView} {σ : Letters} {t w : ℕ} (q : LiteralView)
    → rule x ≡ rows (p∶ k ∷ q∶ (pattern R i j) ∷ ns ⟶ ks) → p ≡ v
    → ((table : Table) → fits_literal (at table) k (literal_of v) (given false t w) ≡ Some σ)
    → IsNot R q
    → Concludes A x (Some (literal_of p)) (Some (literal_of q)) t w (Err Reason.NeedNotMet)
unfolding computing
other_q q i e f n =
    record { room = tt; answers = λ table h fresh. rw (i, e, f table, by_sides q, n) }

-- t has another operator
pub other_t : {A : Table → Type 0} {x : Rule} {o : Operator} {i j k l : Pattern} {ns : List Need}
    {ks : List (List LiteralPattern)} {P Q : Option Literal}
    {t w : ℕ} {v : TermView} → rule x ≡ rows (t≐ (operator o i j k l) ∷ ns ⟶ ks)
    → ((table : Table) → A table → ViewAt table t v) → Others o v
    → Concludes A x P Q t w (Err Reason.NeedNotMet)
unfolding computing
other_t {o = o} {t = t} i g n =
    record {
      room = tt;
      answers = λ table h fresh.
          rw (i, no_arguments o (at table t) (g table h).is n);
    }

-- p is u in a term of another operator
pub other_region : {A : Table → Type 0} {x : Rule} {o : Operator} {i j k l : Pattern}
    {ns : List Need} {f : Bool} {ks : List (List LiteralPattern)}
    {p : LiteralView} {m n : TermNumber} {Q : Option Literal} {t w : ℕ} {v : TermView}
    → rule x ≡ rows (record { needs = p∶ (row.u ∈ operator o i j k l) ∷ ns; fresh = f; adds = ks }
    ∷ []) → given f t w letter_u ≡ None
    → p ≡ LiteralView.In m n → ((table : Table) → A table → ViewAt table n.0 v) → Others o v
    → Concludes A x (Some (literal_of p)) Q t w (Err Reason.NeedNotMet)
unfolding computing
other_region {o = o} {n = n} i u e g k = record {
  room = tt;
  answers = λ table h fresh. rw (i, e, u, no_arguments o (at table n.0) (g table h).is k);
}

-- u in a term of two regions, which the row takes apart
pub parted : {A : Table → Type 0} {x : Rule} {o : Operator} {ks : List (List LiteralPattern)}
    {p : LiteralView} {m n a b : TermNumber} {Q : Option Literal}
    {v y : TermView} {r : Outcome} {ls : List (List Literal)}
    → rule x ≡ rows (p∶ (row.u ∈ operator o row.r row.s – –) ∷ [] ⟶ ks)
    → arguments o ≡ arguments Operator.Cap → p ≡ LiteralView.In m n → v ≡ y
    → ((e : Term) → view_of e ≡ y → Arguments2 o e a b)
    → ((table : Table) → A table → ViewAt table n.0 v)
    → ((table : Table) → made_alternatives table ks
    (bind (bind (bind (given false 0 0) letter_u m.0) letter_r a.0) letter_s b.0) ≡ Some ls)
    → Builds r ls → Concludes A x (Some (literal_of p)) Q 0 0 (Ok r)
unfolding computing
parted {n = n} i two e f is g made b = record {
  room = b.room;
  answers = λ table h fresh.
      rw (i, e, (is (at table n.0) ((g table h).is ∙ f)).2, two, made table, b.adds);
}

-- A SIDE of r eq s, by its letter k: q has u in it, and the row adds u in the other, with letter l
abbrev pub carrying : ℕ → ℕ → List Row
carrying k l =
    p∶ (row.r ≈ row.s) ∷ is_region row.r ∷ is_region row.s ∷ q∶ (row.u ∈ letter k) ∷ []
    ⟶ only ⟨ row.u ∈ letter l ⟩

abbrev pub letters_of : TermNumber → TermNumber → TermNumber → Letters
letters_of m n u = bind (bind (bind (given false 0 0) letter_r m.0) letter_s n.0) letter_u u.0

-- A TERM OF TWO REGIONS: u in r, and u in or outside s, and t has the operator and r, s
abbrev pub joining : Relation → Operator → List Row
joining R o =
    p∶ (row.u ∈ row.r) ∷ q∶ (pattern R row.u row.s) ∷ t≐ (operator o row.r row.s – –) ∷ []
    ⟶ only ⟨ row.u ∈ row.t ⟩

module _ {A : Table → Type 0} {x : Rule} {R : Relation} {o : Operator} {P Q : Literal}
    {m k n l t : ℕ} (d : rule x ≡ rows (joining R o))
    (two : arguments o ≡ arguments Operator.Cap) (p : P ≡ literal Relation.In m k)
    (q : Q ≡ literal R n l) where
  pub other_term : {v : TermView} → ((table : Table) → A table → ViewAt table t v) → Others o v
      → Concludes A x (Some P) (Some Q) t 0 (Err Reason.NeedNotMet)
  unfolding computing
  other_term g w = record {
    room = tt;
    answers = λ table h fresh.
        by_test (eqb m n) (λ i. rw (
          d,
          p,
          q,
          same R,
          i,
          no_arguments o (at table t)
              (g table h).is w,
        )) (λ i. rw (d, p, q, same R, i));
  }

-- A TERM WITHOUT ARGUMENTS that the row names, if it stands in the table
abbrev pub naming : Relation → Operator → List Row
naming R o = p∶ (row.u ∈ row.r) ∷ [] ⟶ only ⟨ pattern R row.u (operator o – – – –) ⟩

module _ {x : Rule} {R : Relation} {o : Operator} {p : LiteralView} {m n : TermNumber}
    {Q : Option Literal} {terms chains : List ℕ}
    {f : Result TermNumber Reason} (i : rule x ≡ rows (naming R o))
    (none-taken : arguments o ≡ arguments Operator.Nul) (e : p ≡ LiteralView.In m n)
    (F : Finds terms chains (apply o (four 0 0 0 0)) f) where
  pub not_named : {d : Reason} → f ≡ Err d
      → Concludes (SearchableBy terms chains) x (Some (literal_of p)) Q 0 0 (Err d)
  unfolding computing
  not_named j =
      record {
        room = tt;
        answers = λ table h fresh.
            let m = missing F h j in rw (i, e, none-taken, m.0, m.1);
      }

  pub named : {k : TermNumber} {r : Outcome} → f ≡ Ok k → Builds r ((literal R m.0 k.0 ∷ []) ∷ [])
      → Concludes (SearchableBy terms chains) x (Some (literal_of p)) Q 0 0 (Ok r)
  unfolding computing
  named j b =
      record {
        room = b.room;
        answers = λ table h fresh.
            rw (i, e, none-taken, found F h j, b.adds);
      }
