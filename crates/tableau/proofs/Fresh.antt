-- A term that does not mention w keeps its value when w's changes; what fits a pattern mentions no more than the term did.
use mathlib.Core.Path.{◌≡◌, refl, sym, ◌∙◌, ap, subst}
use mathlib.Core.Bool.{Bool, true, false, ◌||◌, cond}
use mathlib.Core.List.{List, [], ◌∷◌}
use Rattle.std.specs.Prelude.{Option, None, Some}
use mathlib.Core.Logic.{◌⊎◌, inl, inr}
use Prim.Native.Nat.{ℕ, zero, suc}
use lib.Dec.{eqb}
use borrow.Author.Tests.{eqb-true}
use Rattle.tableau.specs.declared.Sort.{Sort}
use Rattle.tableau.specs.declared.Operator.{Operator}
use Rattle.tableau.specs.Basics.{Four, four}
use Rattle.tableau.specs.Fields.{Argument, unused, of, arguments, if_argument}
use Rattle.tableau.specs.Terms.{TermNo, Name, Term, variable, apply, Literal, literal, sort_of, same_sort, same_relation, layer, to_depth, fold, mentions, mentioned_in, mentioned, ClauseNo, Clauses, disjuncts, clause_of}
use Rattle.tableau.specs.Meaning.{FiniteHeap, Ref, Value, reference, operation, Values, value_of, value, Holds, True, AllTrue, AnyTrue, EveryClauseTrue}
use Rattle.tableau.specs.Rules.{Pattern, letter, operator, –, LiteralPattern, pattern, Need, p∶, q∶, is, is_region, letter_w}
use Rattle.tableau.specs.Steps.{Letters, fits_letter, fits, fits_literal, term_of, met}
use Rattle.tableau.proofs.FirstPlace.{mentioned_none, mentioned_more, not_mentioned}
use Rattle.tableau.proofs.Bools.{both_false, dec, clash, eqb_same, none≢some, some_inj, then_inv, guard_inv}
use Rattle.tableau.proofs.WellFormed.{WellFormed}
use Rattle.tableau.proofs.Fold.{fold_eq}
use Rattle.tableau.proofs.Match.{fields_inv, value_variable}

-- the value of the `rfv` with name n becomes x
abbrev pub with_rfv : {H : FiniteHeap} → Values H → Name → Ref H → Values H
with_rfv ρ n x = record { rfv = λ m. cond (eqb m n) x (ρ.rfv m); rgv = ρ.rgv; arv = ρ.arv; fnv = ρ.fnv; clv = ρ.clv }

-- none of four fields that are terms passes a test
none_of_four : (k : Four Argument) (m : Four Bool) → (if_argument k.a m.a false || (if_argument k.b m.b false || (if_argument k.c m.c false || if_argument k.d m.d false))) ≡ false
    → (if_argument k.a m.a false ≡ false) × (if_argument k.b m.b false ≡ false) × (if_argument k.c m.c false ≡ false) × (if_argument k.d m.d false ≡ false)
none_of_four k m h =
    let h₁ = (both_false (if_argument k.a m.a false) _ h).1 in
    let h₂ = (both_false (if_argument k.b m.b false) _ h₁).1 in
    ((both_false _ _ h).0, (both_false (if_argument k.b m.b false) _ h₁).0, (both_false (if_argument k.c m.c false) _ h₂).0, (both_false (if_argument k.c m.c false) _ h₂).1)

-- where a field that is a term passes no test, two values that agree unless it does are equal
field_same : {A : Type 0} {x y : A} (z : A) (k : Argument) (b : Bool) → if_argument k b false ≡ false → (b ≡ false → x ≡ y) → if_argument k x z ≡ if_argument k y z
field_same z unused b h e = refl
field_same z (of s) b h e = e h

module _ (table : TermNo → Term) (wf : WellFormed table) (w : TermNo) (n : Name) (is-w : table w ≡ variable Sort.Reference n) where
  abbrev pub NotIn : TermNo → Type 0
  NotIn t = mentions table w t ≡ false

  abbrev on_variable : TermNo → Sort → Name → Bool
  on_variable t s m = eqb t w

  abbrev on_apply : TermNo → Operator → Four Bool → Bool
  on_apply t o m = eqb t w || (m.a || (m.b || (m.c || m.d)))

  -- a term without w has arguments without w
  pub not_in_arguments : (t : TermNo) (o : Operator) (k : Four TermNo) → table t ≡ apply o k → NotIn t
      → (if_argument (arguments o).a (mentions table w k.a) false ≡ false) × (if_argument (arguments o).b (mentions table w k.b) false ≡ false)
      × (if_argument (arguments o).c (mentions table w k.c) false ≡ false) × (if_argument (arguments o).d (mentions table w k.d) false ≡ false)
  unfolding mentions layer
  not_in_arguments t o k e h =
      let m : TermNo → Bool = mentions table w in
      none_of_four (arguments o) (four (m k.a) (m k.b) (m k.c) (m k.d))
      (both_false (eqb t w) _ (sym (fold_eq on_variable on_apply false table wf t ∙ ap (λ x. layer on_variable on_apply false table t x m) e) ∙ h)).1

  module _ (H : FiniteHeap) (ρ : Values H) (x : Ref H) where
    abbrev ρ' : Values H
    ρ' = with_rfv ρ n x

    -- another `rfv` term has another name
    other_name : (t : TermNo) (m : Name) → table t ≡ variable Sort.Reference m → eqb t w ≡ false → eqb m n ≡ false
    other_name t m e h = go (dec (eqb m n))
      where
        go : (eqb m n ≡ true) ⊎ (eqb m n ≡ false) → eqb m n ≡ false
        go (inl p) =
            let q : t ≡ w = wf.unique t w Sort.Reference n (e ∙ ap (variable Sort.Reference) (eqb-true m n p)) is-w in
            clash (ap (λ z. eqb z w) q ∙ eqb_same w) h
        go (inr p) = p

    variable_same : (t : TermNo) (s : Sort) (m : Name) → table t ≡ variable s m → eqb t w ≡ false → value_of ρ' s m ≡ value_of ρ s m
    unfolding value_of
    variable_same t Sort.Reference m e h = ap (λ b. reference (cond b x (ρ.rfv m))) (other_name t m e h)
    variable_same t Sort.Region m e h = refl
    variable_same t Sort.Heap m e h = refl
    variable_same t Sort.Field m e h = refl
    variable_same t Sort.Class m e h = refl

    abbrev V' : Values H → ℕ → TermNo → Value H
    V' ν = to_depth (λ t. value_of ν) (λ t. operation H) (reference H.nul) table

    abbrev M : ℕ → TermNo → Bool
    M = to_depth on_variable on_apply false table

    layer_same : (k : ℕ) → ((t : TermNo) → M k t ≡ false → V' ρ' k t ≡ V' ρ k t) → (t : TermNo) (e : Term) → table t ≡ e
        → layer on_variable on_apply false table t e (M k) ≡ false
        → layer (λ t. value_of ρ') (λ t. operation H) (reference H.nul) table t e (V' ρ' k)
        ≡ layer (λ t. value_of ρ) (λ t. operation H) (reference H.nul) table t e (V' ρ k)
    unfolding layer
    layer_same k ih t (variable s m) e h = variable_same t s m e h
    layer_same k ih t (apply o j) e h =
        let c = none_of_four (arguments o) (four (M k j.a) (M k j.b) (M k j.c) (M k j.d)) (both_false (eqb t w) _ h).1 in
        let z = reference H.nul in
        λ i. operation H o (four
        (field_same z (arguments o).a (M k j.a) c.0 (ih j.a) i) (field_same z (arguments o).b (M k j.b) c.1 (ih j.b) i)
        (field_same z (arguments o).c (M k j.c) c.2 (ih j.c) i) (field_same z (arguments o).d (M k j.d) c.3 (ih j.d) i))

    depth_same : (k : ℕ) (t : TermNo) → M k t ≡ false → V' ρ' k t ≡ V' ρ k t
    unfolding to_depth
    depth_same zero t h = refl
    depth_same (suc k) t h = layer_same k (λ t h. depth_same k t h) t (table t) refl h

    pub same_value : (t : TermNo) → NotIn t → value ρ' table t ≡ value ρ table t
    unfolding mentions fold
    same_value t h = depth_same (suc t) t h

    pub w_value : value ρ' table w ≡ reference x
    unfolding value_of
    w_value = value_variable table wf H ρ' w Sort.Reference n is-w ∙ ap (λ b. reference (cond b x (ρ.rfv n))) (eqb_same n)

    -- a literal that does not mention w stays true
    same_literal : (l : Literal) → mentioned_in table w l ≡ false → True ρ table l → True ρ' table l
    same_literal (literal R a b) h k =
        subst (λ v. Holds R v (value ρ' table b)) (sym (same_value a (both_false _ _ h).0))
        (subst (λ v. Holds R (value ρ table a) v) (sym (same_value b (both_false (mentions table w a) _ h).1)) k)

    -- so do a branch and every clause
    pub same_branch : (B : List Literal) → mentioned table w B ≡ false → AllTrue ρ table B → AllTrue ρ' table B
    same_branch [] h k = tt
    same_branch (l ∷ ls) h k = let c = not_mentioned table w l ls h in (same_literal l c.0 k.0, same_branch ls c.1 k.1)

    same_any : (ls : List Literal) → mentioned table w ls ≡ false → AnyTrue ρ table ls → AnyTrue ρ' table ls
    same_any [] h k = k
    same_any (l ∷ ls) h (inl k) = inl (same_literal l (not_mentioned table w l ls h).0 k)
    same_any (l ∷ ls) h (inr k) = inr (same_any ls (not_mentioned table w l ls h).1 k)

    not_in_clause : (C : Clauses) (k : ClauseNo) → mentioned table w (disjuncts C) ≡ false → mentioned table w (clause_of C k) ≡ false
    unfolding clause_of
    not_in_clause [] k h = mentioned_none table w
    not_in_clause (d ∷ C) k h = let c = not_mentioned table w d.is (disjuncts C) h in go (eqb d.clause k) c.0 (not_in_clause C k c.1)
      where
        go : (b : Bool) → mentioned_in table w d.is ≡ false → mentioned table w (clause_of C k) ≡ false → mentioned table w (cond b (d.is ∷ clause_of C k) (clause_of C k)) ≡ false
        go true i r = mentioned_more table w d.is (clause_of C k) ∙ rw (i, r)
        go false i r = r

    pub same_clauses : (C : Clauses) → mentioned table w (disjuncts C) ≡ false → EveryClauseTrue ρ table C → EveryClauseTrue ρ' table C
    same_clauses C h e k i = same_any (clause_of C k) (not_in_clause C k h) (e k i)

  -- the letters other than w stand for terms without w
  abbrev pub Clean : Letters → Type 0
  Clean σ = (z m : ℕ) → eqb z letter_w ≡ false → σ z ≡ Some m → NotIn m

  same_clean : (σ σ' : Letters) → σ ≡ σ' → Clean σ → Clean σ'
  same_clean σ σ' e h = λ y m q s. h y m q (ap (λ (f : Letters). f y) e ∙ s)

  letter_clean : (o : Option TermNo) (z k : ℕ) (σ σ' : Letters) → fits_letter o z k σ ≡ Some σ' → NotIn k → Clean σ → Clean σ'
  letter_clean None z k σ σ' e c h y m q s = go (dec (eqb y z))
    where
      eq : cond (eqb y z) (Some k) (σ y) ≡ Some m
      eq = ap (λ (f : Letters). f y) (some_inj e) ∙ s

      go : (eqb y z ≡ true) ⊎ (eqb y z ≡ false) → NotIn m
      go (inl p) = subst NotIn (some_inj (ap (λ b. cond b (Some k) (σ y)) (sym p) ∙ eq)) c
      go (inr p) = h y m q (ap (λ b. cond b (Some k) (σ y)) (sym p) ∙ eq)
  letter_clean (Some j) z k σ σ' e c h y m q s = same_clean σ σ' (some_inj (guard_inv (eqb j k) (Some σ) e).1) h y m q s

  field_clean : (fld : Argument) (m : Option Letters) (t : TermNo) (σ σ' : Letters) → if_argument fld m (Some σ) ≡ Some σ' → if_argument fld (mentions table w t) false ≡ false
      → (m ≡ Some σ' → NotIn t → Clean σ → Clean σ') → Clean σ → Clean σ'
  field_clean unused m t σ σ' e c k h = same_clean σ σ' (some_inj e) h
  field_clean (of s) m t σ σ' e c k h = k e c h

  fits_clean : (k : Pattern) (t : TermNo) (σ σ' : Letters) → fits table k t σ ≡ Some σ' → NotIn t → Clean σ → Clean σ'
  unfolding fits
  fits_clean (letter z) t σ σ' e c h = letter_clean (σ z) z t σ σ' e c h
  fits_clean (operator o k l m j) t σ σ' e c h =
      let d = fields_inv table o k l m j t σ σ' e in
      let n' = d.arguments' in
      let C = not_in_arguments t o n' d.is c in
      field_clean (arguments o).d _ n'.d d.σ₃ σ' d.fourth C.3 (λ q. fits_clean j n'.d d.σ₃ σ' q)
      (field_clean (arguments o).c _ n'.c d.σ₂ d.σ₃ d.third C.2 (λ q. fits_clean m n'.c d.σ₂ d.σ₃ q)
      (field_clean (arguments o).b _ n'.b d.σ₁ d.σ₂ d.second C.1 (λ q. fits_clean l n'.b d.σ₁ d.σ₂ q)
      (field_clean (arguments o).a _ n'.a σ d.σ₁ d.first C.0 (λ q. fits_clean k n'.a σ d.σ₁ q) h)))
  fits_clean – t σ σ' e c h = none≢some e

  -- a literal without w
  abbrev pub Without : Literal → Type 0
  Without (literal R a b) = NotIn a × NotIn b

  literal_clean : (l : LiteralPattern) (L : Literal) (σ σ' : Letters) → fits_literal table l L σ ≡ Some σ' → Without L → Clean σ → Clean σ'
  unfolding fits_literal
  literal_clean (pattern R a b) (literal R' m k) σ σ' e c h =
      let g = guard_inv (same_relation R R') _ e in
      let f = then_inv (fits table a m σ) _ g.1 in
      fits_clean b k f.0 σ' f.2 c.1 (fits_clean a m σ f.0 f.1 c.0 h)

  abbrev pub WithoutAny : Option Literal → Type 0
  WithoutAny None = Unit {0}
  WithoutAny (Some L) = Without L

  pub met_clean : (P Q : Option Literal) → WithoutAny P → WithoutAny Q → (ns : List Need) (σ σ' : Letters)
      → met table ns P Q σ ≡ Some σ' → Clean σ → Clean σ'
  unfolding met
  met_clean P Q cp cq [] σ σ' e h = same_clean σ σ' (some_inj e) h
  met_clean P Q cp cq (p∶ l ∷ ns) σ σ' e h =
      let L = then_inv P _ e in
      let f = then_inv (fits_literal table l L.0 σ) _ L.2 in
      met_clean P Q cp cq ns f.0 σ' f.2 (literal_clean l L.0 σ f.0 f.1 (subst WithoutAny L.1 cp) h)
  met_clean P Q cp cq (q∶ l ∷ ns) σ σ' e h =
      let L = then_inv Q _ e in
      let f = then_inv (fits_literal table l L.0 σ) _ L.2 in
      met_clean P Q cp cq ns f.0 σ' f.2 (literal_clean l L.0 σ f.0 f.1 (subst WithoutAny L.1 cq) h)
  met_clean P Q cp cq (is y other k ∷ ns) σ σ' e h =
      let m = then_inv (σ y) _ e in
      let f = then_inv (fits table k m.0 σ) _ m.2 in
      met_clean P Q cp cq ns f.0 σ' f.2 (fits_clean k m.0 σ f.0 f.1 (h y m.0 other m.1) h)
  met_clean P Q cp cq (is_region k ∷ ns) σ σ' e h =
      let m = then_inv (term_of table k σ) _ e in
      met_clean P Q cp cq ns σ σ' (guard_inv (same_sort Sort.Region (sort_of (table m.0))) _ m.2).1 h
