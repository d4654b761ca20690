-- The checks 8, 9 and 11 of an S line: of which fields each speaks, and what the mask of the rule's
-- fields says of it.
use mathlib.Core.Path.{◌≡◌, refl, sym, ◌∙◌, ap}
use mathlib.Core.Bool.{Bool, true, false, not, ◌&&◌, ◌||◌, true≢false}
use mathlib.Core.List.{List, [], ◌∷◌}
use Prim.Native.Nat.{ℕ, ◌≤◌, ◌<◌}
use native.Mathlib.Omega.{arith}
use lib.Bits.{bit_and}
use lib.Dec.{eqb, leb}
use lib.ListN.{length}
use borrow.Author.Tests.{eqb-true, leb-true, ne_eqb, not-true}
use Rattle.tableau.specs.declared.Rule.{Rule}
use Rattle.tableau.specs.declared.TermNumber.{TermNumber}
use Rattle.tableau.specs.declared.ClauseNumber.{ClauseNumber}
use Rattle.tableau.specs.Basics.{Four, every}
use Rattle.tableau.specs.Words.{rule_names}
use Rattle.tableau.specs.Fields.{Use, name, PlaceField, ThirdField, TermField, unused, place, side}
use Rattle.tableau.specs.Fields.{clause, term, of, place_use, third_use, term_use, rule_fields}
use Rattle.tableau.specs.Fields.{rule_uses}
use Rattle.tableau.specs.Terms.{Table, Literal, Clauses, max_terms}
use Rattle.tableau.specs.Tree.{on_branch, is_there}
use Rattle.tableau.specs.Reply.{zero_if_unused, is_term, term_or_name, of_sort}
use Rattle.tableau.proofs.Bools.{both_true, every_true}
use Rattle.tableau.proofs.Places.{rules, NoneOf, every_rule, other_rule}
use Rattle.syntax.specs.declared.ThirdField as declared
use Rattle.syntax.specs.declared.Step.{Step}
use Rattle.syntax.specs.Syntax.{kind_of, kind_in, ThirdFits, NoClause, WellTaken, third_in}
use Rattle.syntax.specs.Syntax.{step_fields}
use Rattle.syntax.proofs.Masks.{is_used, bits_of}
use Rattle.packing.specs.Packing.{Small}
use Rattle.conclusions.specs.Infers.{ThirdGiven, TermGiven, Given}

-- FIELD t in the arm that is left when a term, or a clause number, has its own
pub no_term_lem : (k : declared.ThirdField)
    → ((t : TermNumber) → k ≡ declared.ThirdField.Term t → ⊥) → 1 ≤ kind_in k
no_term_lem (declared.ThirdField.Term t) o = absurd (o t refl)
no_term_lem (declared.ThirdField.Side s) o = omega arith
no_term_lem (declared.ThirdField.Clause k) o = omega arith

pub no_clause : (k : declared.ThirdField)
    → ((n : ClauseNumber) → k ≡ declared.ThirdField.Clause n → ⊥) → kind_in k < 2
no_clause (declared.ThirdField.Term t) o = omega arith
no_clause (declared.ThirdField.Side s) o = omega arith
no_clause (declared.ThirdField.Clause k) o = absurd (o k refl)

-- CHECKS 8 AND 9 speak of t and w alone
module _ (table : Table) where
  place_made : (f : PlaceField) (n : ℕ) → term_or_name table (place_use f) n ≡ true
  place_made unused n = refl
  place_made place n = refl

  place_sorted : (f : PlaceField) (n : ℕ) → of_sort table (place_use f) n ≡ true
  place_sorted unused n = refl
  place_sorted place n = refl

  pub eight : (x : Rule) (k : Four ℕ)
      → every (term_or_name table) (rule_uses x) k ≡
      (term_or_name table (rule_uses x).c k.c && term_or_name table (rule_uses x).d k.d)
  eight x k = λ i. place_made (rule_fields x).p k.a i && (place_made (rule_fields x).q k.b i
      && (term_or_name table (rule_uses x).c k.c && term_or_name table (rule_uses x).d k.d))

  pub nine : (x : Rule) (k : Four ℕ)
      → every (of_sort table) (rule_uses x) k ≡
      (of_sort table (rule_uses x).c k.c && of_sort table (rule_uses x).d k.d)
  nine x k = λ i. place_sorted (rule_fields x).p k.a i && (place_sorted (rule_fields x).q k.b i
      && (of_sort table (rule_uses x).c k.c && of_sort table (rule_uses x).d k.d))

  -- a term that is used is to be made
  pub third_made : (f : ThirdField) (t : TermNumber) → ThirdFits f (declared.ThirdField.Term t)
      → term_or_name table (third_use f) t.0 ≡ (not (is_used (third_use f)) || is_term table t.0)
  third_made unused t h = refl
  third_made side t h = absurd (omega arith)
  third_made clause t h = absurd (omega arith)
  third_made term t h = refl
  third_made (of s) t h = refl

  -- a side or a clause number is no term
  pub third_unmade : (f : ThirdField) (n : ℕ) → 1 ≤ kind_of f
      → term_or_name table (third_use f) n ≡ true
  third_unmade unused n h = absurd (omega arith)
  third_unmade side n h = refl
  third_unmade clause n h = refl
  third_unmade term n h = absurd (omega arith)
  third_unmade (of s) n h = absurd (omega arith)

  pub fourth_made : (f : TermField) (n : ℕ)
      → term_or_name table (term_use f) n ≡ (not (is_used (term_use f)) || is_term table n)
  fourth_made unused n = refl
  fourth_made term n = refl
  fourth_made (of s) n = refl

pub and-true : (b : Bool) → (b && true) ≡ b
and-true true = refl
and-true false = refl

-- CHECK 11 speaks of p, q and t
module _ (C : Clauses) (B : List Literal) where
  fourth_there : (f : TermField) (n : ℕ) → is_there C B (term_use f) n ≡ true
  fourth_there unused n = refl
  fourth_there term n = refl
  fourth_there (of s) n = refl

  eleven : (x : Rule) (k : Four ℕ)
      → every (is_there C B) (rule_uses x) k ≡
      (is_there C B (rule_uses x).a k.a &&
      (is_there C B (rule_uses x).b k.b && is_there C B (rule_uses x).c k.c))
  eleven x k = λ i. is_there C B (rule_uses x).a k.a && (is_there C B (rule_uses x).b k.b
      && (ap (λ (b : Bool). is_there C B (rule_uses x).c k.c && b)
      (fourth_there (rule_fields x).w k.d) ∙ and-true (is_there C B (rule_uses x).c k.c)) i)

  -- a place that is used is to be there
  place_there : (f : PlaceField) (n : ℕ)
      → is_there C B (place_use f) n ≡ (not (is_used (place_use f)) || on_branch B n)
  place_there unused n = refl
  place_there place n = refl

  -- a t that is no clause number is not asked for
  third_there : (f : ThirdField) (n : ℕ) → kind_of f < 2 → is_there C B (third_use f) n ≡ true
  third_there unused n h = refl
  third_there side n h = refl
  third_there clause n h = absurd (omega arith)
  third_there term n h = refl
  third_there (of s) n h = refl

-- THE MASK of a step: a bit is not set where the field is not used
unset : {a b : Bool} → not a ≡ b → a ≡ not b
unset {a} {b} e = sym (twice a) ∙ ap not e
  where
    twice : (c : Bool) → not (not c) ≡ c
    twice true = refl
    twice false = refl

module _ (s : Step) (W : WellTaken s) where
  pub unset_p : eqb (bit_and s.used.0 1) 0 ≡ not (is_used (rule_uses s.rule).a)
  unset_p = unset (bits_of (rule_uses s.rule) s.used.0 W.used).0

  pub unset_q : eqb (bit_and s.used.0 2) 0 ≡ not (is_used (rule_uses s.rule).b)
  unset_q = unset (bits_of (rule_uses s.rule) s.used.0 W.used).1

  pub unset_t : eqb (bit_and s.used.0 4) 0 ≡ not (is_used (rule_uses s.rule).c)
  unset_t = unset (bits_of (rule_uses s.rule) s.used.0 W.used).2

  pub unset_w : eqb (bit_and s.used.0 8) 0 ≡ not (is_used (rule_uses s.rule).d)
  unset_w = unset (bits_of (rule_uses s.rule) s.used.0 W.used).3

  -- check 11, by what is found of p and q, where t is no clause
  pub eleven_by : (C : Clauses) (B : List Literal) → NoClause s.t → {p q : Bool}
      → p ≡ (eqb (bit_and s.used.0 1) 0 || on_branch B s.p.0)
      → q ≡ (eqb (bit_and s.used.0 2) 0 || on_branch B s.q.0)
      → every (is_there C B) (rule_uses s.rule) (step_fields s) ≡ (p && q)
  eleven_by C B n a b =
      let x = s.rule in
      eleven C B x (step_fields s)
      ∙ rw (
        place_there C B (rule_fields x).p,
        place_there C B (rule_fields x).q,
        third_there C B
            (rule_fields x).t (third_in s.t) (omega (arith, n, W.third)),
        and-true,
        ← unset_p,
        ← unset_q,
        a,
        b,
      )

-- WHAT THE RULE IS GIVEN, after checks 6 and 8
made_small : (table : Table) (n : ℕ) → length table ≤ max_terms → is_term table n ≡ true → Small n
made_small table n few h =
    let l : n ≤ length table = leb-true n (length table) (both_true (leb 1 n) _ h).1 in omega arith

module _ (table : Table) (few : length table ≤ max_terms) where
  third_given : (f : ThirdField) (n : ℕ) → zero_if_unused (third_use f) n ≡ true
      → term_or_name table (third_use f) n ≡ true → ThirdGiven f n
  third_given unused n z h = eqb-true n 0 z
  third_given side n z h = tt
  third_given clause n z h = tt
  third_given term n z h = made_small table n few h
  third_given (of s) n z h = made_small table n few h

  fourth_given : (f : TermField) (n : ℕ) → zero_if_unused (term_use f) n ≡ true
      → term_or_name table (term_use f) n ≡ true → TermGiven f n
  fourth_given unused n z h = eqb-true n 0 z
  fourth_given term n z h = made_small table n few h
  fourth_given (of s) n z h = made_small table n few h

  pub step_given : (s : Step) → WellTaken s
      → every (term_or_name table) (rule_uses s.rule) (step_fields s) ≡ true
      → Given s.rule (third_in s.t) s.w.0
  step_given s W e =
      let z = every_true zero_if_unused (rule_uses s.rule) (step_fields s) W.unused_zero in
      let h = every_true (term_or_name table) (rule_uses s.rule) (step_fields s) e in
      record {
        third = third_given (rule_fields s.rule).t (third_in s.t) z.2 h.2;
        fourth = fourth_given (rule_fields s.rule).w s.w.0 z.3 h.3;
      }

-- a field that is a term is small, used or not
pub third_small : (f : ThirdField) (t : TermNumber) → ThirdFits f (declared.ThirdField.Term t)
    → ThirdGiven f t.0 → Small t.0
third_small unused t h g = omega arith
third_small side t h g = absurd (omega arith)
third_small clause t h g = absurd (omega arith)
third_small term t h g = g
third_small (of s) t h g = g

pub fourth_small : (f : TermField) (n : ℕ) → TermGiven f n → Small n
fourth_small unused n g = omega arith
fourth_small term n g = g
fourth_small (of s) n g = g

-- CHECK 9 of a rule that asks for no sort
abbrev asks_sort : Use → Bool
asks_sort unused = false
asks_sort place = false
asks_sort name = false
asks_sort side = false
asks_sort clause = false
asks_sort term = false
asks_sort (of s) = true

unsorted : (table : Table) (u : Use) (n : ℕ) → asks_sort u ≡ false → of_sort table u n ≡ true
unsorted table unused n h = refl
unsorted table place n h = refl
unsorted table name n h = refl
unsorted table side n h = refl
unsorted table clause n h = refl
unsorted table term n h = refl
unsorted table (of s) n h = absurd (true≢false h)

-- all rules but `cut` and `ler`
pub others_unsorted : (table : Table) (x : Rule) (t w : ℕ) → NoneOf x (Rule.Cut ∷ Rule.Ler ∷ [])
    → (of_sort table (rule_uses x).c t && of_sort table (rule_uses x).d w) ≡ true
unfolding rules rule_names rule_fields
others_unsorted table x t w o =
    let b = both_true (not (asks_sort (rule_uses x).c)) _
    (other_rule (λ y. not (asks_sort (rule_uses y).c) && not (asks_sort (rule_uses y).d))
    (Rule.Cut ∷ Rule.Ler ∷ []) refl x o) in
    λ i.
    unsorted table (rule_uses x).c t (not-true _ b.0) i && unsorted table (rule_uses x).d w
    (not-true _ b.1) i

-- nor has a rule whose t is no term
pub unsorted_unless_term : (table : Table) (x : Rule) (t w : ℕ) → 1 ≤ kind_of (rule_fields x).t
    → (of_sort table (rule_uses x).c t && of_sort table (rule_uses x).d w) ≡ true
unfolding rules rule_names rule_fields
unsorted_unless_term table x t w h =
    let e =
    every_rule (λ y. eqb (kind_of (rule_fields y).t) 0 ||
    (not (asks_sort (rule_uses y).c) && not (asks_sort (rule_uses y).d))) refl x in
    let b =
    both_true (not (asks_sort (rule_uses x).c)) _
    (rw (ne_eqb (kind_of (rule_fields x).t) 0 (λ z. omega arith)) at e) in
    λ i.
    unsorted table (rule_uses x).c t (not-true _ b.0) i && unsorted table (rule_uses x).d w
    (not-true _ b.1) i
