-- Where all that a rule adds is refuted, the branch is.
use mathlib.Core.Path.{◌≡◌, refl, sym, ◌∙◌, ap, subst, fun_ext}
use mathlib.Core.Bool.{Bool, true, false, ◌&&◌, cond, false≢true}
use mathlib.Core.List.{List, [], ◌∷◌, map}
use Rattle.std.specs.Prelude.{Option, None, Some, slice_get}
use mathlib.Core.Logic.{◌⊎◌, inl, inr}
use Prim.Native.Nat.{ℕ, zero, suc, ◌+◌, ◌<◌}
use native.Mathlib.Nat.{add-zero}
use native.Mathlib.Omega.{arith}
use lib.Dec.{eqb}
use lib.ListN.{length}
use borrow.Author.Tests.{eqb-true, leb-true}
use Rattle.tableau.specs.declared.Sort.{Sort}
use Rattle.tableau.specs.declared.Operator.{Operator}
use Rattle.tableau.specs.declared.Relation.{Relation}
use Rattle.tableau.specs.declared.Rule.{Rule}
use Rattle.tableau.specs.Basics.{is_some, Four, four}
use Rattle.tableau.specs.Fields.{Use, Argument, unused, of, arguments, if_argument, rule_uses}
use Rattle.tableau.specs.Terms.{TermNo, Table, Term, variable, apply, Literal, literal, at, number_from, number_of, same_term, same_sort, same_operator, same_relation, mentions, first_place, mentioned, Clauses, disjuncts, clause_of}
use Rattle.tableau.specs.Meaning.{FiniteHeap, Ref, Value, reference, operation, Values, value, Holds, True, AllTrue, AnyTrue, EveryClauseTrue}
use Rattle.tableau.specs.Rules.{Pattern, letter, operator, –, LiteralPattern, pattern, Need, Row, Kind, rows, congruence, replacement, disjunction, background, rule, letter_t, letter_w}
use Rattle.tableau.specs.Steps.{Letters, met, made, made_literals, made_alternatives, is_rfv, fresh_if, freshness, Conclusion, adds_one, splits_into, agree, takes_terms, congruent, conclude_sub, conclude_rep, given, or_else, conclude_rows, conclude}
use Rattle.tableau.specs.Saturation.{contradicted}
use Rattle.tableau.specs.Tree.{passed, literal_at, is_there, require_fresh}
use Rattle.tableau.proofs.Bools.{every_true, both_true, both_false, one_true, dec, none≢some, some_inj, then_inv, guard_inv}
use Rattle.tableau.proofs.WellFormed.{WellFormed}
use Rattle.tableau.proofs.RowMeaning.{⟦◌⟧, Asked, CannotHold, SomeHolds, RowSound, RowsSound, KindSound}
use Rattle.tableau.proofs.Match.{same_operator_lem, same_relation_lem, same_sort_lem, value_apply, same_application, Under, Extends, IfAny, literal_true, met_extends, met_value}
use Rattle.tableau.proofs.Checks.{refused≢passed}
use Rattle.tableau.proofs.FirstPlace.{not_mentioned}
use Rattle.tableau.proofs.Fresh.{with_rfv, WithoutAny, Clean, met_clean, same_value, same_branch, same_clauses, w_value}
use Rattle.tableau.proofs.RuleSound.{rules_sound}
use Rattle.tableau.proofs.BackgroundSound.{contradicted_false}
use Rattle.tableau.proofs.SaturationExact.{contradicted_only}

-- terms that pass the test are equal
pub same_term_lem : (e x : Term) → same_term e x ≡ true → e ≡ x
same_term_lem (variable s n) (variable s' n') h = λ i. variable (same_sort_lem s s' (both_true _ _ h).0 i) (eqb-true n n' (both_true (same_sort s s') _ h).1 i)
same_term_lem (variable s n) (apply o k) h = absurd (false≢true h)
same_term_lem (apply o k) (variable s n) h = absurd (false≢true h)
same_term_lem (apply o k) (apply o' k') h =
    let e = every_true eqb k k' (both_true (same_operator o o') _ h).1 in
    λ i. apply (same_operator_lem o o' (both_true _ _ h).0 i)
    (four (eqb-true k.a k'.a e.0 i) (eqb-true k.b k'.b e.1 i) (eqb-true k.c k'.c e.2 i) (eqb-true k.d k'.d e.3 i))

shift : (i k : ℕ) → suc i + k ≡ i + suc k
shift i k = omega arith

one_more : (k : ℕ) → 1 + k ≡ suc k
one_more k = omega arith

-- what is found stands there
number_at : (i : ℕ) (xs : Table) (e : Term) (j : ℕ) → number_from i xs e ≡ Some j → (k : ℕ) × (j ≡ i + k) × (at xs (suc k) ≡ e)
unfolding number_from
number_at i [] e j h = none≢some h
number_at i (x ∷ xs) e j h = go (number_at (suc i) xs e j) (same_term e x) refl h
  where
    go : (number_from (suc i) xs e ≡ Some j → (k : ℕ) × (j ≡ suc i + k) × (at xs (suc k) ≡ e)) → (b : Bool) → same_term e x ≡ b
        → cond b (Some i) (number_from (suc i) xs e) ≡ Some j → (k : ℕ) × (j ≡ i + k) × (at (x ∷ xs) (suc k) ≡ e)
    go ih true q h = (0, sym (some_inj h) ∙ sym (add-zero i), sym (same_term_lem e x q))
    go ih false q h = let r = ih h in (suc r.0, r.1 ∙ shift i r.0, r.2)

found_at : (table : Table) (e : Term) (j : TermNo) → number_of table e ≡ Some j → at table j ≡ e
found_at table e j h = let r = number_at 1 table e j h in ap (at table) (r.1 ∙ one_more r.0) ∙ r.2

module _ (table : Table) (C : Clauses) (H : FiniteHeap) where
  -- each alternative, with the clauses and the branch, is refuted
  abbrev pub Refuted : List Literal → List (List Literal) → Type 0
  Refuted B [] = Unit {0}
  Refuted B (k ∷ ks) = ((ρ : Values H) → EveryClauseTrue ρ (at table) C → AllTrue ρ (at table) B → AllTrue ρ (at table) k → ⊥) × Refuted B ks

module _ (table : Table) (C : Clauses) (wf : WellFormed (at table)) (H : FiniteHeap) where
  module _ (ρ : Values H) where
    -- the value of the term that a letter stands for
    abbrev letter_value : Option TermNo → Value H
    letter_value None = reference H.nul
    letter_value (Some n) = value ρ (at table) n

    abbrev φ : Letters → ℕ → Value H
    φ σ x = letter_value (σ x)

    under : (σ : Letters) → Under (at table) wf H ρ σ (φ σ)
    under σ x m e = ap letter_value e

    -- the value of a field of a term that is made
    field_made : (fld : Argument) (k : Pattern) (σ : Letters) (n : TermNo) → if_argument fld (made table k σ) (Some 0) ≡ Some n
        → (made table k σ ≡ Some n → value ρ (at table) n ≡ ⟦◌⟧ H k (φ σ))
        → if_argument fld (value ρ (at table) n) (reference H.nul) ≡ if_argument fld (⟦◌⟧ H k (φ σ)) (reference H.nul)
    field_made unused k σ n e f = refl
    field_made (of s) k σ n e f = f e

    made_value : (k : Pattern) (σ : Letters) (n : TermNo) → made table k σ ≡ Some n → value ρ (at table) n ≡ ⟦◌⟧ H k (φ σ)
    unfolding made
    made_value (letter x) σ n e = sym (under σ x n e)
    made_value (operator o k l m j) σ n e =
        let a = then_inv (if_argument (arguments o).a (made table k σ) (Some 0)) _ e in
        let b = then_inv (if_argument (arguments o).b (made table l σ) (Some 0)) _ a.2 in
        let c = then_inv (if_argument (arguments o).c (made table m σ) (Some 0)) _ b.2 in
        let d = then_inv (if_argument (arguments o).d (made table j σ) (Some 0)) _ c.2 in
        value_apply (at table) wf H ρ n o (four a.0 b.0 c.0 d.0) (found_at table (apply o (four a.0 b.0 c.0 d.0)) n d.2)
        ∙ (λ i. operation H o (four
        (field_made (arguments o).a k σ a.0 a.1 (made_value k σ a.0) i) (field_made (arguments o).b l σ b.0 b.1 (made_value l σ b.0) i)
        (field_made (arguments o).c m σ c.0 c.1 (made_value m σ c.0) i) (field_made (arguments o).d j σ d.0 d.1 (made_value j σ d.0) i)))
    made_value – σ n e = none≢some e

    -- where the literals made cannot all be true, the patterns cannot all hold
    literals_made : (ls : List LiteralPattern) (σ : Letters) (k : List Literal) → made_literals table ls σ ≡ Some k
        → (AllTrue ρ (at table) k → ⊥) → CannotHold H (φ σ) ls
    unfolding made_literals
    literals_made [] σ k e f = f (subst (AllTrue ρ (at table)) (some_inj e) tt)
    literals_made (pattern R x y ∷ ls) σ k e f =
        let a = then_inv (made table x σ) _ e in
        let b = then_inv (made table y σ) _ a.2 in
        let c = then_inv (made_literals table ls σ) _ b.2 in
        λ h. literals_made ls σ c.0 c.1 (λ t. f (subst (AllTrue ρ (at table)) (some_inj c.2) (
          subst (λ v. Holds R v (value ρ (at table) b.0)) (sym (made_value x σ a.0 a.1))
              (subst (λ v. Holds R (⟦◌⟧ H x (φ σ)) v) (sym (made_value y σ b.0 b.1)) h),
          t,
        )))

  refuted_alternatives : (ρ : Values H) (B : List Literal) → EveryClauseTrue ρ (at table) C → AllTrue ρ (at table) B → (ls : List (List LiteralPattern)) (σ : Letters) (ks : List (List Literal))
      → made_alternatives table ls σ ≡ Some ks → Refuted table C H B ks → SomeHolds H false (φ ρ σ) ls → ⊥
  unfolding made_alternatives
  refuted_alternatives ρ B u t [] σ ks e r s = s
  refuted_alternatives ρ B u t (l ∷ ls) σ ks e r s =
      let a = then_inv (made_literals table l σ) _ e in
      let b = then_inv (made_alternatives table ls σ) _ a.2 in
      let r' : Refuted table C H B (a.0 ∷ b.0) = subst (Refuted table C H B) (sym (some_inj b.2)) r in
      refuted_alternatives ρ B u t ls σ b.0 b.1 r'.1 (s (literals_made ρ l σ a.0 a.1 (r'.0 ρ u t)))

  -- a fresh w: the refuted_alternatives are refuted at each value that it may take
  module _ (B : List Literal) (w : TermNo) (n : ℕ) (is-w : at table w ≡ variable Sort.Reference n) (absent : mentioned (at table) w (disjuncts C) ≡ false)
      (new : mentioned (at table) w B ≡ false) (ρ : Values H) (u : EveryClauseTrue ρ (at table) C) (t : AllTrue ρ (at table) B) (σ : Letters) (σw : σ letter_w ≡ Some w) (clean : Clean (at table) wf w n is-w σ) where
    -- what the letters stand for, where w takes the value x
    moved : (x : Ref H) (z : ℕ) (o : Option TermNo) → σ z ≡ o → (eqb z letter_w ≡ true) ⊎ (eqb z letter_w ≡ false)
        → letter_value (with_rfv ρ n x) o ≡ cond (eqb z letter_w) (reference x) (letter_value ρ o)
    moved x z o e (inl p) = ap (letter_value (with_rfv ρ n x)) (sym e ∙ ap σ (eqb-true z letter_w p) ∙ σw)
        ∙ w_value (at table) wf w n is-w H ρ x ∙ sym (ap (λ b. cond b (reference x) (letter_value ρ o)) p)
    moved x z None e (inr p) = sym (ap (λ b. cond b (reference x) (reference H.nul)) p)
    moved x z (Some m) e (inr p) = same_value (at table) wf w n is-w H ρ x m (clean z m p e)
        ∙ sym (ap (λ b. cond b (reference x) (value ρ (at table) m)) p)

    refuted_alternatives_fresh : (ls : List (List LiteralPattern)) (ks : List (List Literal)) → made_alternatives table ls σ ≡ Some ks
        → Refuted table C H B ks → SomeHolds H true (φ ρ σ) ls → ⊥
    unfolding made_alternatives
    refuted_alternatives_fresh [] ks e r s = s
    refuted_alternatives_fresh (l ∷ ls) ks e r s =
        let a = then_inv (made_literals table l σ) _ e in
        let b = then_inv (made_alternatives table ls σ) _ a.2 in
        let r' : Refuted table C H B (a.0 ∷ b.0) = subst (Refuted table C H B) (sym (some_inj b.2)) r in
        refuted_alternatives_fresh ls b.0 b.1 r'.1
        (s (λ x. subst (λ (f : ℕ → Value H). CannotHold H f l) (fun_ext (λ z. moved x z (σ z) refl (dec (eqb z letter_w))))
        (literals_made (with_rfv ρ n x) l σ a.0 a.1 (r'.0 (with_rfv ρ n x) (same_clauses (at table) wf w n is-w H ρ x C absent u) (same_branch (at table) wf w n is-w H ρ x B new t)))))

is_rfv_lem : (e : Term) → is_rfv e ≡ true → (n : ℕ) × (e ≡ variable Sort.Reference n)
is_rfv_lem (variable s n) h = (n, ap (λ k. variable k n) (sym (same_sort_lem Sort.Reference s h)))
is_rfv_lem (apply o k) h = absurd (false≢true h)

-- a fresh w is an `rfv` that neither the clauses nor the branch mention
fresh_inv : (table : Table) (C : Clauses) (B : List Literal) (w : TermNo) → require_fresh true (freshness table C B w) ≡ passed tt
    → (n : ℕ) × (at table w ≡ variable Sort.Reference n) × (mentioned (at table) w (disjuncts C) ≡ false) × (mentioned (at table) w B ≡ false)
unfolding freshness
fresh_inv table C B w h =
    let f = go (is_rfv (at table w)) (first_place (at table) w B) (mentioned (at table) w (disjuncts C)) h in
    let k = is_rfv_lem (at table w) f.0 in
    (k.0, k.1, f.1, f.2)
  where
    go : (b : Bool) (p : Option ℕ) (c : Bool) → require_fresh true (fresh_if b p c) ≡ passed tt → (b ≡ true) × (c ≡ false) × (is_some p ≡ false)
    go false p c h = refused≢passed h
    go true (Some p) c h = refused≢passed h
    go true None true h = refused≢passed h
    go true None false h = (refl, refl, refl)

module _ (table : Table) (C : Clauses) (wf : WellFormed (at table)) (H : FiniteHeap) (ρ : Values H) where
  place_true : (B : List Literal) (n : ℕ) → AllTrue ρ (at table) B → IfAny (at table) wf H ρ (literal_at B n)
  place_true B zero t = tt
  place_true B (suc n) t = literal_true (at table) wf H ρ B n t

  -- a literal on a branch without w is without w
  literal_without : (w : TermNo) (n : ℕ) (is-w : at table w ≡ variable Sort.Reference n) (B : List Literal) (k : ℕ) → mentioned (at table) w B ≡ false
      → WithoutAny (at table) wf w n is-w (slice_get B k)
  literal_without w n is-w [] k h = tt
  literal_without w n is-w (literal R a b ∷ B) zero h =
      let c = (not_mentioned (at table) w (literal R a b) B h).0 in
      ((both_false (mentions (at table) w a) _ c).0, (both_false (mentions (at table) w a) _ c).1)
  literal_without w n is-w (l ∷ B) (suc k) h = literal_without w n is-w B k (not_mentioned (at table) w l B h).1

  place_without : (w : TermNo) (n : ℕ) (is-w : at table w ≡ variable Sort.Reference n) (B : List Literal) (k : ℕ) → mentioned (at table) w B ≡ false
      → WithoutAny (at table) wf w n is-w (literal_at B k)
  place_without w n is-w B zero h = tt
  place_without w n is-w B (suc k) h = literal_without w n is-w B k h

  module _ (u : EveryClauseTrue ρ (at table) C) (B : List Literal) (t : AllTrue ρ (at table) B) (p q T w : ℕ) where
    abbrev P : Option Literal
    P = literal_at B p

    abbrev Q : Option Literal
    Q = literal_at B q

    given_clean : (n : ℕ) (is-w : at table w ≡ variable Sort.Reference n) → Clean (at table) wf w n is-w (given true T w)
    given_clean n is-w z m h e = none≢some (sym (ap (λ b. cond b (Some w) None) h) ∙ e)

    -- a row, with the sorts that are asked of t and w
    row_sound : (k : Four Use) (fresh : Bool) (ns : List Need) (ads : List (List LiteralPattern)) → RowSound H k (record { needs = ns; fresh = fresh; adds = ads })
        → Asked H k.c (value ρ (at table) T) → Asked H k.d (value ρ (at table) w)
        → (σ : Letters) → met (at table) ns P Q (given fresh T w) ≡ Some σ
        → require_fresh fresh (freshness table C B w) ≡ passed tt
        → (ls : List (List Literal)) → made_alternatives table ads σ ≡ Some ls → Refuted table C H B ls → ⊥
    row_sound k false ns ads s a_t aw σ e f ls m r =
        let x : Extends (given false T w) σ = met_extends (at table) wf H ρ P Q ns (given false T w) σ e in
        let z = under table C wf H ρ σ in
        refuted_alternatives table C wf H ρ B u t ads σ ls m r
        (met_value (at table) wf H ρ P Q ns (given false T w) σ e (φ table C wf H ρ σ) z (place_true B p t) (place_true B q t) _
        (s (φ table C wf H ρ σ) (subst (Asked H k.c) (sym (z letter_t T (x letter_t T refl))) a_t) (subst (Asked H k.d) (sym (z letter_w w (x letter_w w refl))) aw)))
    row_sound k true ns ads s a_t aw σ e f ls m r =
        let x : Extends (given true T w) σ = met_extends (at table) wf H ρ P Q ns (given true T w) σ e in
        let z = under table C wf H ρ σ in
        let v = fresh_inv table C B w f in
        let c = met_clean (at table) wf w v.0 v.1 P Q (place_without w v.0 v.1 B p v.3) (place_without w v.0 v.1 B q v.3)
        ns (given true T w) σ e (given_clean v.0 v.1) in
        refuted_alternatives_fresh table C wf H B w v.0 v.1 v.2 v.3 ρ u t σ (x letter_w w refl) c ads ls m r
        (met_value (at table) wf H ρ P Q ns (given true T w) σ e (φ table C wf H ρ σ) z (place_true B p t) (place_true B q t) _
        (s (φ table C wf H ρ σ) tt (subst (Asked H k.d) (sym (z letter_w w (x letter_w w refl))) aw)))

    -- what a rule concludes: where its refuted_alternatives are refuted, the branch is not true
    abbrev Sound : Option Conclusion → Type 0
    Sound m = (c : Conclusion) → m ≡ Some c → require_fresh c.fresh (freshness table C B w) ≡ passed tt
        → (ls : List (List Literal)) → c.adds ≡ Some ls → Refuted table C H B ls → ⊥

    rows_sound : (k : Four Use) → Asked H k.c (value ρ (at table) T) → Asked H k.d (value ρ (at table) w) → (Rs : List Row) → RowsSound H k Rs
        → Sound (conclude_rows table P Q T w Rs)
    unfolding conclude_rows
    rows_sound k a_t aw [] s c e f ls m r = none≢some e
    rows_sound k a_t aw (R ∷ Rs) s c e f ls m r =
        go (rows_sound k a_t aw Rs s.1 c) (met (at table) R.needs P Q (given R.fresh T w)) refl e
      where
        go : (conclude_rows table P Q T w Rs ≡ Some c → require_fresh c.fresh (freshness table C B w) ≡ passed tt
            → (ls : List (List Literal)) → c.adds ≡ Some ls → Refuted table C H B ls → ⊥)
            → (o : Option Letters) → met (at table) R.needs P Q (given R.fresh T w) ≡ o
            → or_else table P Q T w o R (conclude_rows table P Q T w Rs) ≡ Some c → ⊥
        go ih None h e = ih e f ls m r
        go ih (Some σ) h e =
            let c' = some_inj e in
            row_sound k R.fresh R.needs R.adds s.0 a_t aw σ h
            (ap (λ (d : Conclusion). require_fresh d.fresh (freshness table C B w)) c' ∙ f) ls (ap (λ (d : Conclusion). d.adds) c' ∙ m) r

    -- one literal, true
    one_sound : (l : Literal) → True ρ (at table) l → Sound (Some (adds_one l))
    one_sound l h c e f ls m r =
        let q : (l ∷ []) ∷ [] ≡ ls = some_inj (ap (λ (d : Conclusion). d.adds) (some_inj e) ∙ m) in
        let r' : Refuted table C H B ((l ∷ []) ∷ []) = subst (Refuted table C H B) (sym q) r in
        r'.0 ρ u t (h, tt)

    abbrev val : TermNo → Value H
    val = value ρ (at table)

    as_eq : (R : Relation) (a b : TermNo) → same_relation Relation.Eq R ≡ true → True ρ (at table) (literal R a b) → val a ≡ val b
    as_eq R a b h k = subst (λ Q. True ρ (at table) (literal Q a b)) (sym (same_relation_lem Relation.Eq R h)) k

    -- `sub`
    agree_value : (a b m n : TermNo) → val a ≡ val b → agree a b m n ≡ true → val m ≡ val n
    agree_value a b m n e h = elim (one_true (eqb m n) _ h) [
      | inl k ↦ ap val (eqb-true m n k)
      | inr k ↦ ap val (eqb-true m a (both_true _ (eqb n b) k).0) ∙ e ∙ sym (ap val (eqb-true n b (both_true (eqb m a) _ k).1))
    ]

    congruent_value : (a b : TermNo) → val a ≡ val b → (e e' : Term) → at table T ≡ e → at table w ≡ e' → congruent a b e e' ≡ true → val T ≡ val w
    congruent_value a b q (variable s n) e' x y h = absurd (false≢true h)
    congruent_value a b q (apply o k) (variable s n) x y h = absurd (false≢true h)
    congruent_value a b q (apply o k) (apply o' k') x y h =
        let h₁ = (both_true (takes_terms o) _ h).1 in
        let e = every_true (agree a b) k k' (both_true (same_operator o o') _ h₁).1 in
        same_application (at table) wf H ρ T w o k k' x (y ∙ ap (λ (p : Operator). apply p k') (sym (same_operator_lem o o' (both_true _ _ h₁).0)))
        (agree_value a b k.a k'.a q e.0) (agree_value a b k.b k'.b q e.1) (agree_value a b k.c k'.c q e.2) (agree_value a b k.d k'.d q e.3)

    sub_sound : (L : Literal) → True ρ (at table) L → Sound (conclude_sub table L T w)
    unfolding conclude_sub
    sub_sound (literal R a b) h c e f ls m r =
        let g = guard_inv (same_relation Relation.Eq R && congruent a b (at table T) (at table w)) _ e in
        one_sound (literal Relation.Eq T w)
        (congruent_value a b (as_eq R a b (both_true (same_relation Relation.Eq R) _ g.0).0 h) (at table T) (at table w) refl refl
        (both_true (same_relation Relation.Eq R) _ g.0).1)
        c g.1 f ls m r

    -- `rep`
    cond_concludes : (b : Bool) (x y : Option Conclusion) → (b ≡ true → Sound x) → Sound y → Sound (cond b x y)
    cond_concludes true x y k l = k refl
    cond_concludes false x y k l = l

    rep_sound : (L E : Literal) → True ρ (at table) L → True ρ (at table) E → Sound (conclude_rep L E T)
    unfolding conclude_rep
    rep_sound (literal R m n) (literal E a b) h k c e =
        let g = guard_inv (same_relation Relation.Eq E) _ e in
        let q : val a ≡ val b = as_eq E a b g.0 k in
        cond_concludes (eqb T 1 && eqb m a) _ _
        (λ z. one_sound (literal R b n) (subst (λ x. Holds R x (val n)) (ap val (eqb-true m a (both_true (eqb T 1) _ z).1) ∙ q) h))
        (cond_concludes (eqb T 2 && eqb n a) _ _
        (λ z. one_sound (literal R m b) (subst (λ x. Holds R (val m) x) (ap val (eqb-true n a (both_true (eqb T 2) _ z).1) ∙ q) h))
        (λ c e. none≢some e))
        c g.1

    -- `cla`: where one of the clause's literals is true, not all are refuted
    any_refuted : (D : List Literal) → AnyTrue ρ (at table) D → Refuted table C H B (map (λ l. l ∷ []) D) → ⊥
    any_refuted [] a r = a
    any_refuted (l ∷ D) (inl h) r = r.0 ρ u t (h, tt)
    any_refuted (l ∷ D) (inr h) r = any_refuted D h r.1

    cla_sound : 0 < length (clause_of C T) → Sound (Some (splits_into (clause_of C T)))
    cla_sound n c e f ls m r =
        let q : map (λ l. l ∷ []) (clause_of C T) ≡ ls = some_inj (ap (λ (d : Conclusion). d.adds) (some_inj e) ∙ m) in
        any_refuted (clause_of C T) (u T n) (subst (Refuted table C H B) (sym q) r)

    kind_sound : (k : Four Use) (K : Kind) → KindSound H k K → is_there C B k.c T ≡ true → Asked H k.c (value ρ (at table) T) → Asked H k.d (value ρ (at table) w)
        → Sound (conclude table P Q T w (clause_of C T) (contradicted table B) K)
    unfolding conclude
    kind_sound k (rows Rs) s i a_t aw c e f ls m r = rows_sound k a_t aw Rs s c e f ls m r
    kind_sound k congruence s i a_t aw c e f ls m r =
        let L = then_inv P _ e in
        sub_sound L.0 (subst (IfAny (at table) wf H ρ) L.1 (place_true B p t)) c L.2 f ls m r
    kind_sound k replacement s i a_t aw c e f ls m r =
        let L = then_inv P _ e in
        let M = then_inv Q _ L.2 in
        rep_sound L.0 M.0 (subst (IfAny (at table) wf H ρ) L.1 (place_true B p t)) (subst (IfAny (at table) wf H ρ) M.1 (place_true B q t)) c M.2 f ls m r
    kind_sound k disjunction s i a_t aw c e f ls m r =
        cla_sound (leb-true 1 (length (clause_of C T)) (ap (λ (x : Use). is_there C B x T) (sym s) ∙ i)) c e f ls m r
    kind_sound k background s i a_t aw c e f ls m r = contradicted_false table wf H ρ B t (contradicted_only table B (guard_inv (contradicted table B) _ e).0)

    -- A RULE IS SOUND
    pub rule_sound : (x : Rule) → is_there C B (rule_uses x).c T ≡ true → Asked H (rule_uses x).c (value ρ (at table) T) → Asked H (rule_uses x).d (value ρ (at table) w)
        → Sound (conclude table P Q T w (clause_of C T) (contradicted table B) (rule x))
    rule_sound x = kind_sound (rule_uses x) (rule x) (rules_sound H x)
