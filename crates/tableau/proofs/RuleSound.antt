-- Each row is true of values: where its needs hold, one of its alternatives does.
use mathlib.Core.Path.{◌≡◌, refl, sym, ◌∙◌, ap, subst}
use mathlib.Core.Bool.{true, not, cond, false≢true}
use mathlib.Core.Logic.{inl, inr}
use Prim.Native.Nat.{ℕ}
use borrow.Author.Tests.{not-true}
use Rattle.tableau.specs.declared.Operator.{Operator}
use Rattle.tableau.specs.declared.Rule.{Rule}
use Rattle.tableau.specs.Basics.{four}
use Rattle.tableau.specs.Fields.{arguments, rule_fields}
use Rattle.tableau.specs.Meaning.{◌and◌, same, FiniteHeap, Ref, Region, Field, Store, Value, reference, region, field, as_ref, as_region, as_store, as_field, within, image, operation, is_in}
use Rattle.tableau.specs.Rules.{rule, letter_a, letter_b, letter_c, letter_f, letter_g, letter_h, letter_i, letter_r, letter_s, letter_t, letter_u, letter_v, letter_w, letter_y}
use Rattle.tableau.proofs.Bools.{and_l, and_r, and_i, or_e, or_i1, or_i2, and_false_r, and_false_of, alike, dec, clash}
use Rattle.tableau.proofs.Numbers.{same_eq, same_refl, any_out, any_in}
use Rattle.tableau.proofs.Values.{region_path, union_with_part, is_ref_lem, as_ref_lem, as_region_lem, as_field_lem, le_refl, le_trans, le_anti}
use Rattle.tableau.proofs.Counting.{onto_no_more, no_more_than_part}
use Rattle.tableau.proofs.RowMeaning.{RuleSound}

module _ (H : FiniteHeap) where
  -- u in x, and t is x
  in_t : (φ : ℕ → Value H) {x : Value H} → φ letter_t ≡ x → is_in (φ letter_u) x ≡ true → is_in (φ letter_u) (φ letter_t) ≡ true
  in_t φ e h = subst (λ t. is_in (φ letter_u) t ≡ true) (sym e) h

  -- what is in a region is in `all`
  in_all : (φ : ℕ → Value H) (r : Value H) → is_in (φ letter_u) r ≡ true → H.all (as_ref (φ letter_u)) ≡ true
  in_all φ r h = (as_region r).inside (as_ref (φ letter_u)) (and_r _ _ h)

  eqr : RuleSound H Rule.Eqr
  unfolding rule rule_fields
  eqr = (λ φ _ _ _ _ e _ _ _ _ i k. k (subst (λ r. is_in (φ letter_u) r ≡ true) e i), tt)

  eql : RuleSound H Rule.Eql
  unfolding rule rule_fields
  eql = (λ φ _ _ _ _ e _ _ _ _ i k. k (subst (λ r. is_in (φ letter_u) r ≡ true) (sym e) i), tt)

  -- two regions with no member in which they differ would be equal
  ext : RuleSound H Rule.Ext
  unfolding rule rule_fields
  ext = (
    λ φ _ _ _ _ n a b k l.
        let R = as_region (φ letter_r) in
        let S = as_region (φ letter_s) in
        let go : (x : Ref H) → R.has x ≡ S.has x
        = λ x. alike _ _ (dec _) (dec _) (λ c d. k x (and_i refl c) (and_false_r _ _ d)) (λ c d. l x (and_false_r _ _ c) (and_i refl d)) in
        n (as_region_lem (φ letter_r) a ∙ ap region (region_path R S go) ∙ sym (as_region_lem (φ letter_s) b)),
    tt,
  )

  cpe : RuleSound H Rule.Cpe
  unfolding rule rule_fields operation arguments
  cpe = (λ φ _ _ _ _ i k. let h = and_r _ _ (and_r _ _ i) in k (and_i (and_l _ _ i) (and_l _ _ h)) (and_i (and_l _ _ i) (and_r _ _ h)), tt)

  cpi : RuleSound H Rule.Cpi
  unfolding rule rule_fields operation arguments
  cpi = (
    λ φ _ _ _ _ i _ _ j _ e k.
        k (in_t φ e (and_i (and_l _ _ i) (and_i (in_all φ (φ letter_r) i) (and_i (and_r _ _ i) (and_r _ _ j))))),
    tt,
  )

  cue : RuleSound H Rule.Cue
  unfolding rule rule_fields operation arguments
  cue = (
    λ φ _ _ _ _ i k l. elim (or_e _ _ (and_r _ _ (and_r _ _ i))) [
      | inl h ↦ k (and_i (and_l _ _ i) h)
      | inr h ↦ l (and_i (and_l _ _ i) h)
    ],
    tt,
  )

  cui : RuleSound H Rule.Cui
  unfolding rule rule_fields operation arguments
  cui = (
    λ φ _ _ _ _ i _ e k. k (in_t φ e (and_i (and_l _ _ i) (and_i (in_all φ (φ letter_r) i) (or_i1 _ _ (and_r _ _ i))))),
    (
      (λ φ _ _ _ _ i _ e k.
          k (in_t φ e (and_i (and_l _ _ i) (and_i (in_all φ (φ letter_s) i) (or_i2 ((as_region (φ letter_r)).has (as_ref (φ letter_u))) _ (and_r _ _ i)))))),
      tt,
    ),
  )

  dfe : RuleSound H Rule.Dfe
  unfolding rule rule_fields operation arguments
  dfe = (λ φ _ _ _ _ i k. let h = and_r _ _ (and_r _ _ i) in k (and_i (and_l _ _ i) (and_l _ _ h)) (and_false_r _ _ (not-true _ (and_r _ _ h))), tt)

  dfi : RuleSound H Rule.Dfi
  unfolding rule rule_fields operation arguments
  dfi = (
    λ φ _ _ _ _ i _ _ j _ e k.
        k (in_t φ e (and_i (and_l _ _ i) (and_i (in_all φ (φ letter_r) i) (and_i (and_r _ _ i) (ap not (and_false_of _ _ (and_l _ _ i) j)))))),
    tt,
  )

  sge : RuleSound H Rule.Sge
  unfolding rule rule_fields operation arguments
  sge = (
    λ φ _ _ _ o i k.
        k (is_ref_lem (φ letter_u) (and_l _ _ i) ∙ ap reference (same_eq _ _ (and_r _ _ (and_r _ _ i))) ∙ sym (as_ref_lem (φ letter_v) o.0.0)),
    tt,
  )

  sgi : RuleSound H Rule.Sgi
  unfolding rule rule_fields operation arguments
  sgi = (
    λ φ _ _ o e k l. elim (dec (is_in (φ letter_u) (operation H Operator.All (four (φ letter_u) (φ letter_u) (φ letter_u) (φ letter_u))))) [
      | inr h ↦ k h
      | inl h ↦ l (in_t φ e (and_i (and_l _ _ h) (and_i (and_l _ _ (and_r _ _ h)) (same_refl (as_ref (φ letter_u))))))
    ],
    tt,
  )

  cut : RuleSound H Rule.Cut
  unfolding rule rule_fields
  cut = (λ φ _ _ k l. elim (dec (is_in (φ letter_t) (φ letter_w))) [ inl h ↦ k h | inr h ↦ l h ], tt)

  all : RuleSound H Rule.All
  unfolding rule rule_fields operation
  all = (λ φ _ _ _ _ i k. k (and_i (and_l _ _ i) (and_i (in_all φ (φ letter_r) i) refl)), tt)

  nul : RuleSound H Rule.Nul
  unfolding rule rule_fields operation
  nul = (λ φ _ _ _ _ i k. k (λ e. clash (in_all φ (φ letter_r) i) (ap (λ a. H.all (as_ref a)) e ∙ H.all_nul)), tt)

  sep : RuleSound H Rule.Sep
  unfolding rule rule_fields
  sep = (λ φ _ _ _ _ i _ _ j k. k (λ e. clash (subst (λ a. is_in a (φ letter_r) ≡ true) e i) j), tt)

  -- u has no field f; or what h gives for it is not allocated; or that is in the image
  img : RuleSound H Rule.Img
  unfolding rule rule_fields operation arguments
  img = (
    λ φ _ _ _ _ i _ e k l m.
        let read : Ref H = as_store (φ letter_h) (as_ref (φ letter_u)) (as_field (φ letter_f)) in
        elim (dec (H.le (H.typ (as_ref (φ letter_u))) (H.dty (as_field (φ letter_f))))) [
          | inr h ↦ k (and_false_r _ _ h)
          | inl h ↦ elim (dec (H.all read and true)) [
            | inr g ↦ l (and_false_r _ _ g)
            | inl g ↦ m (subst (λ t. is_in (reference read) t ≡ true) (sym e)
                (and_i refl (and_i (and_l _ _ g) (any_in H.references _ (as_ref (φ letter_u)) (and_i (and_i (and_r _ _ i) h) (same_refl read))))))
          ]
        ],
    tt,
  )

  wit : RuleSound H Rule.Wit
  unfolding rule rule_fields operation arguments
  wit = (
    λ φ _ _ _ _ i k.
        let a = any_out H.references _ (and_r _ _ (and_r _ _ i)) in
        let h = and_l _ _ a.1 in
        k a.0 (and_i refl (and_l _ _ h)) (and_i (and_i refl refl) (and_r _ _ h))
        (ap reference (same_eq _ _ (and_r _ _ a.1)) ∙ sym (is_ref_lem (φ letter_u) (and_l _ _ i))),
    tt,
  )

  ref : RuleSound H Rule.Ref
  unfolding rule rule_fields
  ref = (λ φ _ _ k. k refl, tt)

  sym' : RuleSound H Rule.Sym
  unfolding rule rule_fields
  sym' = (λ φ _ _ _ _ e k. k (sym e), (λ φ _ _ _ _ n k. k (λ e. n (sym e)), tt))

  trn : RuleSound H Rule.Trn
  unfolding rule rule_fields
  trn = (λ φ _ _ _ _ e _ _ e' k. k (e ∙ e'), tt)

  ler : RuleSound H Rule.Ler
  unfolding rule rule_fields
  ler = (λ φ o _ k. k (le_refl (φ letter_t) o), tt)

  let' : RuleSound H Rule.Let
  unfolding rule rule_fields
  let' = (λ φ _ _ _ _ i _ _ j k. k (le_trans (φ letter_a) (φ letter_b) (φ letter_c) i j), tt)

  lea : RuleSound H Rule.Lea
  unfolding rule rule_fields
  lea = (λ φ _ _ _ _ i _ _ j k. k (le_anti (φ letter_a) (φ letter_b) i j), tt)

  rdh : RuleSound H Rule.Rdh
  unfolding rule rule_fields operation arguments
  rdh = (
    λ φ _ _ o e k.
        k (e ∙ ap reference (ap (λ b. cond b (as_ref (φ letter_v)) (as_store (φ letter_h) (as_ref (φ letter_u)) (as_field (φ letter_f)))) (and_i (same_refl (as_ref (φ letter_u))) (same_refl (as_field (φ letter_f)))))
        ∙ sym (as_ref_lem (φ letter_v) o.1.0.0.3)),
    tt,
  )

  rdm : RuleSound H Rule.Rdm
  unfolding rule rule_fields operation arguments
  rdm = (
    λ φ _ _ o e k l. elim (dec (same (as_ref (φ letter_u)) (as_ref (φ letter_y)) and same (as_field (φ letter_f)) (as_field (φ letter_g)))) [
      | inl h ↦ k (as_ref_lem (φ letter_u) o.1.0.0.1 ∙ ap reference (same_eq _ _ (and_l _ _ h)) ∙ sym (as_ref_lem (φ letter_y) o.0.1))
          (as_field_lem (φ letter_f) o.1.0.0.2 ∙ ap field (same_eq _ _ (and_r _ _ h)) ∙ sym (as_field_lem (φ letter_g) o.0.2))
      | inr h ↦ l (e ∙ ap reference (ap (λ b. cond b (as_ref (φ letter_v)) (as_store (φ letter_h) (as_ref (φ letter_y)) (as_field (φ letter_g)))) h))
    ],
    tt,
  )

  cls : RuleSound H Rule.Cls
  unfolding rule rule_fields
  cls = (λ φ _ _ _ _ i _ _ j. clash i j, (λ φ _ _ _ _ e _ _ n. n e, (λ φ _ _ _ _ i _ _ j. clash i j, tt)))

  emp : RuleSound H Rule.Emp
  unfolding rule rule_fields operation
  emp = (λ φ _ _ _ _ i. false≢true (and_r _ _ (and_r _ _ i)), tt)

  -- every member of the image is what h gives for a member of r, so the image has at most as many members; where r is inside, it is all of the image
  inside_image : (h : Store H) (r : Region H) (f : Field H) → ((x : Ref H) → r.has x ≡ true → (within H (image H h r f)).has x ≡ true)
      → (x : Ref H) → (within H (image H h r f)).has x ≡ true → r.has x ≡ true
  inside_image h r f inside = no_more_than_part H.references r.has (within H (image H h r f)).has inside
      (onto_no_more H.references (λ a. h a f) r.has (within H (image H h r f)).has
      (λ x i. let a = any_out H.references _ (and_r _ _ i) in (a.0, and_l _ _ (and_l _ _ a.1), same_eq _ _ (and_r _ _ a.1))))

  fin : RuleSound H Rule.Fin
  unfolding rule rule_fields operation arguments
  fin = (
    λ φ _ _ o _ e _ q k.
        let r = as_region (φ letter_r) in
        let i = as_region (φ letter_i) in
        let is_image : (x : Ref H) → i.has x ≡ (within H (image H (as_store (φ letter_h)) r (as_field (φ letter_f)))).has x = λ x. ap (λ s. (as_region s).has x) q in
        let inside : (x : Ref H) → r.has x ≡ true → i.has x ≡ true = λ x h. subst (λ s. (as_region s).has x ≡ true) e (and_i (r.inside x h) (or_i1 _ _ h)) in
        let back : (x : Ref H) → i.has x ≡ true → r.has x ≡ true
        = λ x h. inside_image (as_store (φ letter_h)) r (as_field (φ letter_f)) (λ y g. sym (is_image y) ∙ inside y g) x (sym (is_image x) ∙ h) in
        k (ap region (union_with_part i r back) ∙ sym (as_region_lem (φ letter_r) o.0.0)),
    tt,
  )

  -- EVERY RULE (`sub`, `rep` and `cla` are no rows: see StepSound)
  pub rules_sound : (x : Rule) → RuleSound H x
  unfolding rule rule_fields
  rules_sound Rule.Eqr = eqr
  rules_sound Rule.Eql = eql
  rules_sound Rule.Ext = ext
  rules_sound Rule.Cpe = cpe
  rules_sound Rule.Cpi = cpi
  rules_sound Rule.Cue = cue
  rules_sound Rule.Cui = cui
  rules_sound Rule.Dfe = dfe
  rules_sound Rule.Dfi = dfi
  rules_sound Rule.Sge = sge
  rules_sound Rule.Sgi = sgi
  rules_sound Rule.Cut = cut
  rules_sound Rule.All = all
  rules_sound Rule.Nul = nul
  rules_sound Rule.Sep = sep
  rules_sound Rule.Img = img
  rules_sound Rule.Wit = wit
  rules_sound Rule.Ref = ref
  rules_sound Rule.Sym = sym'
  rules_sound Rule.Trn = trn
  rules_sound Rule.Sub = tt
  rules_sound Rule.Rep = tt
  rules_sound Rule.Ler = ler
  rules_sound Rule.Let = let'
  rules_sound Rule.Lea = lea
  rules_sound Rule.Rdh = rdh
  rules_sound Rule.Rdm = rdm
  rules_sound Rule.Cls = cls
  rules_sound Rule.Emp = emp
  rules_sound Rule.Cla = refl
  rules_sound Rule.Fin = fin
  rules_sound Rule.Bck = tt
