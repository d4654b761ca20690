-- The tables that are read are those of the heap that the lines say.
use Rattle.std.proofs.Common.{◌≡◌, ℕ, ◌%◌, ◌^◌, ◌<◌, ◌≤◌, Bool, true, false, ◌||◌, eqb, ltb, leb, List, get_or, sym, refl, ap, ◌∙◌, subst, inl, inr, mod-eq_of_lt, arith, ltb-false, ltb-true, eqb-true, leb-true}
use Rattle.tableau.specs.Basics.{four}
use Rattle.tableau.specs.Meaning.{◌and◌, ◌or◌, FiniteHeap, Ref, Field, Class, Region, within}
use Rattle.tableau.proofs.Bools.{dec, both_true, every_true}
use Rattle.evaluation.specs.declared.FactWord.{FactWord}
use Rattle.evaluation.specs.Orders.{is_transitive, is_antisymmetric}
use Rattle.evaluation.specs.Facts.{fact_index, fact_fields, Facts, sizes, subject_of, said, given, in_range}
use Rattle.evaluation.specs.Heaps.{count, SaidClass, is_under, is_order, heap_of, values_of, AsSaid}
use Rattle.evaluation.proofs.Passable.{Passable}
use Rattle.evaluation.proofs.HeapSaid.{sizes_in, said_by, as_said}
use Rattle.mentions.specs.Mentions.{bit_at}
use Rattle.facts.specs.declared.StoredFact.{StoredFact}
use Rattle.facts.specs.Keys.{value_of, key_of, has_key, value_at, Fits, FactsHeld}
use Rattle.facts.proofs.KeyLaws.{has_said, value_given}
use Rattle.regions.specs.declared.HeapTables.{HeapTables}
use Rattle.regions.specs.Masks.{IsMask}
use Rattle.regions.specs.Shown.{HoldHeap}
use Rattle.regions.proofs.MaskLaws.{bit_past}
use Rattle.heap_tables.specs.Tables.{TablesRead}
use Rattle.heap_tables.specs.Order.{relation, is_order_below}
use Rattle.heap_tables.proofs.TableLaws.{key_14}

or_swap : (a b : Bool) → (a || b) ≡ (b or a)
unfolding ◌or◌
or_swap true true = refl
or_swap true false = refl
or_swap false true = refl
or_swap false false = refl

and_all : (a : Bool) → (a and true) ≡ a
unfolding ◌and◌
and_all true = refl
and_all false = refl

-- THE SIZES of lines that passed
pub sizes_high : {facts : Facts} → Passable facts → ((sizes facts).a ≤ 64) × ((sizes facts).b ≤ 16) × ((sizes facts).c ≤ 16) × (1 ≤ (sizes facts).c)
unfolding fact_fields
sizes_high {facts} p =
    let n = sizes facts in
    let s = every_true (in_range n) (fact_fields FactWord.Siz) n (sizes_in p) in (
      leb-true n.a 64 (both_true (leb 1 n.a) _ s.0).1,
      leb-true n.b 16 (both_true (leb 1 n.b) _ s.1).1,
      leb-true n.c 16 (both_true (leb 1 n.c) _ s.2).1,
      leb-true 1 n.c (both_true (leb 1 n.c) _ s.2).0,
    )

-- the mask of references that are said, all of them below the size
module _ {facts : Facts} (p : Passable facts) (ordered : is_order facts ≡ true) where
  pub said_mask : (r : Region (heap_of facts ordered)) (m : ℕ) (test : ℕ → Bool) → m < 2 ^ 64 → ((x : ℕ) → x < 64 → bit_at m x ≡ test x)
      → ((x : ℕ) → test x ≡ true → x < (sizes facts).a) → ((x : Ref (heap_of facts ordered)) → r.has x ≡ test x.0) → IsMask (heap_of facts ordered) r m
  said_mask r m test small bits low has = record {
    small = small;
    bits = λ x. bits x.0 (omega (arith, x.1, S.references, (sizes_high p).0)) ∙ sym (has x);
    above = λ q l. elim (dec (ltb q 64)) [
      | inr t ↦ bit_past 64 m q small (ltb-false q 64 t)
      | inl t ↦ elim (dec (bit_at m q)) [
        | inr u ↦ u
        | inl u ↦ absurd (let k = low q (sym (bits q (ltb-true q 64 t)) ∙ u) in omega (arith, k, l, S.references))
      ]
    ];
  }
    where
      S : AsSaid facts (heap_of facts ordered) (values_of facts ordered)
      S = as_said p ordered

module _ {facts : Facts} (held : List StoredFact) (F : FactsHeld facts held) where
  -- WHAT THE STORED LINES SAY
  pub held_said : (w : FactWord) (a b c : ℕ) → Fits (subject_of w (four a b c 0)) → has_key held (key_of w (four a b c 0)) ≡ said facts w (four a b c 0)
  held_said w a b c fits = ap (λ (k : List StoredFact). has_key k (key_of w (four a b c 0))) F.is ∙ has_said w (four a b c 0) fits facts F.fit

  pub held_value : (w : FactWord) (a b c : ℕ) → Fits (subject_of w (four a b c 0))
      → value_at held (key_of w (four a b c 0)) ≡ value_of w (given facts w (four a b c 0))
  held_value w a b c fits = ap (λ (k : List StoredFact). value_at k (key_of w (four a b c 0))) F.is ∙ value_given w (four a b c 0) fits facts F.fit

  module _ (A : HeapTables) (T : TablesRead held A) where
    -- the tables by what is said
    all_said : (x : ℕ) → x < 64 → bit_at A.all x ≡ said facts FactWord.Alc (four x 0 0 0)
    unfolding key_of subject_of fact_fields
    all_said x l =
        T.all.bits x l ∙ ap (has_key held) (key_14 (fact_index FactWord.Alc) x)
        ∙ held_said FactWord.Alc x 0 0 (record { b = omega arith; c = omega arith; d = refl })

    typ_given : (x : ℕ) → x < 64 → get_or A.typ x 0 ≡ (given facts FactWord.Typ (four x 0 0 0)).b
    unfolding key_of subject_of fact_fields value_of
    typ_given x l = T.typ x l ∙ held_value FactWord.Typ x 0 0 (record { b = omega arith; c = omega arith; d = refl }) ∙ omega arith

    dty_given : (f : ℕ) → f < 16 → get_or A.dty f 0 ≡ (given facts FactWord.Dty (four f 0 0 0)).b
    unfolding key_of subject_of fact_fields value_of
    dty_given f l = T.dty f l ∙ held_value FactWord.Dty f 0 0 (record { b = omega arith; c = omega arith; d = refl }) ∙ omega arith

    under_said : (b c : ℕ) → b < 16 → c < 16 → bit_at (get_or A.under b 0) c ≡ (eqb b c or said facts FactWord.Sub (four b c 0 0))
    unfolding key_of subject_of fact_fields
    under_said b c l m =
        (T.under.rows b l).bits c (omega arith)
        ∙ ap (λ (t : Bool). t || eqb b c) (held_said FactWord.Sub b c 0 (record { b = omega arith; c = omega arith; d = refl }))
        ∙ or_swap (said facts FactWord.Sub (four b c 0 0)) (eqb b c)

    module _ (p : Passable facts) where
      allocated_low : (x : ℕ) → said facts FactWord.Alc (four x 0 0 0) ≡ true → x < (sizes facts).a
      unfolding fact_fields subject_of
      allocated_low x h =
          let k = said_by p FactWord.Alc (four x 0 0 0) h in
          let e = eqb-true x k.0.a (both_true (eqb x k.0.a) _ k.1.subject).0 in
          let l = ltb-true k.0.a (sizes facts).a (every_true (in_range (sizes facts)) (fact_fields FactWord.Alc) k.0 k.1.ranges).0 in
          omega (arith, e, l)

      -- CHECK 20
      order_under : (m : ℕ) → m ≡ count (sizes facts).c → is_order_below A.under m ≡ is_order facts
      unfolding is_order_below is_order is_under
      order_under m e = subst (λ (k : ℕ). is_order_below A.under k ≡ is_order facts) (sym e)
          (ap (λ (le : SaidClass facts → SaidClass facts → Bool). is_transitive le and is_antisymmetric le) (λ i b c. same b c i))
        where
          same : (b c : SaidClass facts) → relation A.under (count (sizes facts).c) b c ≡ is_under facts b c
          same b c = let s = sizes_high p in under_said b.0 c.0 (omega (arith, b.1, s.2, s.3)) (omega (arith, c.1, s.2, s.3))

      pub order_held : is_order_below A.under (sizes facts).c ≡ is_order facts
      order_held = order_under (sizes facts).c (omega (arith, (sizes_high p).3))

      -- THE HEAP
      module _ (ordered : is_order facts ≡ true) where
        abbrev H : FiniteHeap
        H = heap_of facts ordered

        S : AsSaid facts (heap_of facts ordered) (values_of facts ordered)
        S = as_said p ordered

        few : (H.references ≤ 64) × (H.fields ≤ 16) × (H.classes ≤ 16)
        few = let s = sizes_high p in (omega (arith, s.0, S.references), omega (arith, s.1, S.fields), omega (arith, s.2, S.classes))

        typ_held : (x : Ref H) → get_or A.typ x.0 0 ≡ (H.typ x).0
        typ_held x = typ_given x.0 (omega (arith, x.1, few.0)) ∙ sym (S.typ x)

        dty_held : (f : Field H) → get_or A.dty f.0 0 ≡ (H.dty f).0
        dty_held f = dty_given f.0 (omega (arith, f.1, few.1)) ∙ sym (S.dty f)

        under_held : (b c : Class H) → bit_at (get_or A.under b.0 0) c.0 ≡ H.le b c
        under_held b c = under_said b.0 c.0 (omega (arith, b.1, few.2)) (omega (arith, c.1, few.2)) ∙ sym (S.le b c)

        class_mod : (k : ℕ) → k ≤ 64 → 16 ≤ k → (m : ℕ) (b : Class H) → m ≡ b.0 → m % k ≡ b.0
        class_mod k h l m b e = ap (λ (j : ℕ). j % k) e ∙ mod-eq_of_lt (omega (arith, b.1, few.2))

        pub heap_held : HoldHeap (heap_of facts ordered) A
        heap_held = record {
          references = few.0;
          fields = few.1;
          classes = few.2;
          nul = S.nul;
          all = said_mask p ordered (within (heap_of facts ordered) (λ x. true)) A.all (λ x. said facts FactWord.Alc (four x 0 0 0)) T.all.small all_said allocated_low
              (λ x. and_all (H.all x) ∙ S.all x);
          typ = typ_held;
          dty = dty_held;
          having = λ x f.
              (T.having.rows f.0 (omega (arith, f.1, few.1))).bits x.0 (omega (arith, x.1, few.0))
              ∙ (λ i. bit_at (get_or A.under (class_mod 16 (omega arith) (omega arith) _ (H.typ x) (typ_held x) i) 0) (class_mod 64 (omega arith) (omega arith) _ (H.dty f) (dty_held f) i))
              ∙ under_held (H.typ x) (H.dty f);
          under = under_held;
        }
