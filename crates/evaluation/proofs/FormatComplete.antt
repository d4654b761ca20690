-- Every heap within the sizes, with values of the names 1 to N, is said by some D lines. `answer` is what the heap and the values have for a subject, and `expected` the line
-- with it. Of all expected lines those that may follow are added, twice: the second time everything allocated is said. Then what is found is what is expected.
use mathlib.Core.Path.{◌≡◌, refl, sym, ◌∙◌, ap, subst}
use mathlib.Core.Bool.{Bool, true, false, ◌&&◌, not, beq, cond, true≢false, false≢true}
use mathlib.Core.List.{List, [], ◌∷◌, ◌++◌}
use Rattle.std.specs.Prelude.{Option, None, Some}
use mathlib.Core.Logic.{◌⊎◌, inl, inr}
use Prim.Native.Nat.{ℕ, zero, suc, ◌<◌, ◌≤◌}
use native.Mathlib.Fin
use native.Mathlib.Decide.{dec_lt}
use native.Mathlib.Omega.{arith}
use lib.Dec.{eqb, leb, ltb}
use lib.ListN.{get_or}
use borrow.Author.Tests.{ne_eqb, lt-ltb, le-leb}
use Rattle.tableau.specs.Basics.{then, guard, is_some, Four, four, every}
use Rattle.tableau.specs.Terms.{Name}
use Rattle.tableau.specs.Meaning.{◌or◌, Below, same, FiniteHeap, Ref, Class, Values}
use Rattle.tableau.specs.Reply.{run_lines}
use Rattle.tableau.proofs.Bools.{dec, clash, both_true, both_i, none≢some, some_inj, then_inv, guard_inv}
use Rattle.tableau.proofs.Numbers.{same_eq}
use Rattle.evaluation.specs.declared.FactWord.{FactWord}
use Rattle.evaluation.specs.declared.FactField.{FactField}
use Rattle.evaluation.specs.Facts.{fact_index, fact_fields, Fact, Facts, subject_part, subject_of, speaks_of, find}
use Rattle.evaluation.specs.Facts.{said, fields_or0, given, zero_unless_used, in_domain, in_range, allowed, may_follow}
use Rattle.evaluation.specs.Heaps.{AsSaid}
use Rattle.evaluation.specs.Sayable.{max_number, Small, OnlyUpTo, FormatComplete}
use Rattle.evaluation.proofs.FactLines.{is_size, Low, run_fact_lem, Read, read_more}
use Rattle.evaluation.proofs.Loops.{for_lists, lists_extend, lists_take}
use Rattle.evaluation.proofs.Ordered.{said_ordered}
use Rattle.evaluation.proofs.Finding.{word_at, word_at_lem, index_small, speaks_inv, speaks_of_itself, find_subject, said_still, said_now, found_more}

-- what is said of the element with a number; none where there is no such element
at : {A : Type 0} (n i : ℕ) → (Below n → Option A) → Option A
at n i g = elim (dec_lt i n) [ yes l ↦ g (i, l) | no l ↦ None ]

at_is : {A : Type 0} {n : ℕ} (x : Below n) (g : Below n → Option A) → at n x.0 g ≡ g x
unfolding at
at_is {A} {n} x g = go (dec_lt x.0 n)
  where
    go : (d : Dec (x.0 < n)) → elim d [ yes l ↦ g (x.0, l) | no l ↦ None ] ≡ g x
    go (yes l) = ap g (Fin.val_path {n = n} {i = (x.0, l)} {j = x} refl)
    go (no l) = absurd (l x.1)

at_inv : {A : Type 0} {n i : ℕ} {v : A} (g : Below n → Option A) → at n i g ≡ Some v → (x : Below n) × (x.0 ≡ i) × (g x ≡ Some v)
unfolding at
at_inv {A} {n} {i} {v} g = go (dec_lt i n)
  where
    go : (d : Dec (i < n)) → elim d [ yes l ↦ g (i, l) | no l ↦ None ] ≡ Some v → (x : Below n) × (x.0 ≡ i) × (g x ≡ Some v)
    go (yes l) h = ((i, l), refl, h)
    go (no l) h = none≢some h

-- "What isn't said is 0": a value 0 needs no line
non_zero : ℕ → Option ℕ
non_zero zero = None
non_zero (suc v) = Some (suc v)

non_zero_inv : {v : ℕ} (u : ℕ) → non_zero u ≡ Some v → (u ≡ v) × (u ≡ 0 → ⊥)
unfolding non_zero
non_zero_inv zero e = none≢some e
non_zero_inv (suc u) e = (some_inj e, λ z. omega arith)

-- a number below a size, as a field of a line
in_domain_lem : {n i : ℕ} (x : Below n) → x.0 ≡ i → n ≤ 64 → (ltb i n ≡ true) × (i ≤ max_number)
in_domain_lem {n} {i} x e l = (ap (λ (k : ℕ). ltb k n) (sym e) ∙ lt-ltb x.0 n x.1, omega (arith, x.1, e))

-- THE FIELDS OF A LINE by the table, from those of its subject and its value
fill : FactField → ℕ → ℕ → ℕ
fill FactField.Unused s v = 0
fill (FactField.Size m) s v = 0
fill (FactField.Subject d) s v = s
fill (FactField.Value d) s v = v

abbrev line : FactWord → Four ℕ → ℕ → Four ℕ
line w s v = four (fill (fact_fields w).a s.a v) (fill (fact_fields w).b s.b v) (fill (fact_fields w).c s.c v) (fill (fact_fields w).d s.d v)

module _ (H : FiniteHeap) (ρ : Values H) (N : Name) (S : Small H) (L : N ≤ max_number) (O : OnlyUpTo N ρ) where
  first : Fact
  first = record { word = FactWord.Siz; fields = four H.references H.fields H.classes 0 }

  -- THE ANSWER for a subject: its value, 0 for a word that gives none; none where nothing is to be said
  answer : FactWord → Four ℕ → Option ℕ
  answer FactWord.Siz s = None
  answer FactWord.Alc s = at H.references s.a (λ x. guard (H.all x) (Some 0))
  answer FactWord.Typ s = at H.references s.a (λ x. non_zero (H.typ x).0)
  answer FactWord.Dty s = at H.fields s.a (λ f. non_zero (H.dty f).0)
  answer FactWord.Sub s = at H.classes s.a (λ b. at H.classes s.b (λ c. guard (H.le b c && not (same b c)) (Some 0)))
  answer FactWord.Rfv s = non_zero (ρ.rfv s.a).0
  answer FactWord.Fnv s = non_zero (ρ.fnv s.a).0
  answer FactWord.Clv s = non_zero (ρ.clv s.a).0
  answer FactWord.Rgv s = at H.references s.b (λ x. guard ((ρ.rgv s.a).has x) (Some 0))
  answer FactWord.Arv s = at H.references s.b (λ x. at H.fields s.c (λ f. non_zero (ρ.arv s.a x f).0))

  -- what a field of the line may hold
  Fits : FactField → ℕ → ℕ → Type 0
  Fits FactField.Unused s v = Unit {0}
  Fits (FactField.Size m) s v = ⊥
  Fits (FactField.Subject d) s v = (in_domain first.fields d s ≡ true) × (s ≤ max_number)
  Fits (FactField.Value d) s v = (in_domain first.fields d v ≡ true) × (v ≤ max_number)

  Allocated : Facts → Type 0
  Allocated facts = (x : Ref H) → H.all x ≡ true → said facts FactWord.Alc (four x.0 0 0 0) ≡ true

  -- a member of a region is allowed once everything allocated is said, any other line at once
  Permitted : FactWord → Four ℕ → Type 0
  Permitted w m = (facts : Facts) → (w ≡ FactWord.Rgv → Allocated facts) → allowed facts w m ≡ true

  abbrev Fitting : FactWord → Four ℕ → ℕ → Type 0
  Fitting w s v =
      (is_size w ≡ false) × Permitted w (line w s v)
      × Fits (fact_fields w).a s.a v × Fits (fact_fields w).b s.b v × Fits (fact_fields w).c s.c v × Fits (fact_fields w).d s.d v

  -- the names that have a value
  named : (n : Name) → ((n ≡ 0) ⊎ (N < n) → ⊥) → (leb 1 n ≡ true) × (n ≤ max_number)
  named zero h = absurd (h (inl refl))
  named (suc n) h = elim (dec_lt N (suc n)) [ yes l ↦ absurd (h (inr l)) | no l ↦ (le-leb 1 (suc n) (omega arith), omega arith) ]

  fields_64 : H.fields ≤ 64
  fields_64 = omega (arith, S.fields)

  classes_64 : H.classes ≤ 64
  classes_64 = omega (arith, S.classes)

  -- a line with an answer is no `siz`, is allowed, and its fields fit
  fitting : (w : FactWord) (s : Four ℕ) (v : ℕ) → answer w s ≡ Some v → Fitting w s v
  unfolding answer first Allocated Permitted Fits fill fact_index fact_fields allowed
  fitting FactWord.Siz s v e = none≢some e
  fitting FactWord.Alc s v e =
      let x = at_inv _ e in
      let a = (guard_inv (H.all x.0) _ x.2).0 in
      let nul : s.a ≡ 0 → ⊥ = λ z. clash a (ap H.all (Fin.val_path {n = H.references} {i = x.0} {j = H.nul} (x.1 ∙ z ∙ sym S.nul)) ∙ H.all_nul) in
      (refl, λ facts h. ap not (ne_eqb s.a 0 nul), in_domain_lem x.0 x.1 S.references, tt, tt, tt)
  fitting FactWord.Typ s v e =
      let x = at_inv _ e in
      (refl, λ facts h. refl, in_domain_lem x.0 x.1 S.references, in_domain_lem (H.typ x.0) (non_zero_inv _ x.2).0 classes_64, tt, tt)
  fitting FactWord.Dty s v e =
      let x = at_inv _ e in
      (refl, λ facts h. refl, in_domain_lem x.0 x.1 fields_64, in_domain_lem (H.dty x.0) (non_zero_inv _ x.2).0 classes_64, tt, tt)
  fitting FactWord.Sub s v e =
      let x = at_inv _ e in
      let y = at_inv _ x.2 in
      let t = both_true (H.le x.0 y.0) _ (guard_inv (H.le x.0 y.0 && not (same x.0 y.0)) _ y.2).0 in
      (refl, λ facts h. (λ i. not (eqb (sym x.1 i) (sym y.1 i))) ∙ t.1, in_domain_lem x.0 x.1 classes_64, in_domain_lem y.0 y.1 classes_64, tt, tt)
  fitting FactWord.Rfv s v e =
      let q = non_zero_inv (ρ.rfv s.a).0 e in
      (refl, λ facts h. refl, named s.a (λ u. q.1 (O.rfv s.a u)), in_domain_lem (ρ.rfv s.a) q.0 S.references, tt, tt)
  fitting FactWord.Fnv s v e =
      let q = non_zero_inv (ρ.fnv s.a).0 e in
      (refl, λ facts h. refl, named s.a (λ u. q.1 (O.fnv s.a u)), in_domain_lem (ρ.fnv s.a) q.0 fields_64, tt, tt)
  fitting FactWord.Clv s v e =
      let q = non_zero_inv (ρ.clv s.a).0 e in
      (refl, λ facts h. refl, named s.a (λ u. q.1 (O.clv s.a u)), in_domain_lem (ρ.clv s.a) q.0 classes_64, tt, tt)
  fitting FactWord.Rgv s v e =
      let x = at_inv _ e in
      let g = (guard_inv ((ρ.rgv s.a).has x.0) _ x.2).0 in
      let a = (ρ.rgv s.a).inside x.0 g in
      let p : Permitted FactWord.Rgv (four s.a s.b 0 0) = λ facts h. ap (λ (i : ℕ). said facts FactWord.Alc (four i 0 0 0)) (sym x.1) ∙ h refl x.0 a in
      (refl, p, named s.a (λ u. clash g (O.rgv s.a u x.0)), in_domain_lem x.0 x.1 S.references, tt, tt)
  fitting FactWord.Arv s v e =
      let x = at_inv _ e in
      let f = at_inv _ x.2 in
      let q = non_zero_inv (ρ.arv s.a x.0 f.0).0 f.2 in
      let n = named s.a (λ u. q.1 (O.arv s.a u x.0 f.0)) in
      (refl, λ facts h. refl, n, in_domain_lem x.0 x.1 S.references, in_domain_lem f.0 f.1 fields_64, in_domain_lem (ρ.arv s.a x.0 f.0) q.0 S.references)

  -- THE EXPECTED LINE of a subject
  expected : FactWord → Four ℕ → Option (Four ℕ)
  expected w s = then (answer w s) (λ v. Some (line w s v))

  -- a line, no `siz`, with what the checks ask of it, but that its subject is new
  record Valid (x : Fact) : Type 0 where
    later : is_size x.word ≡ false
    permitted : Permitted x.word x.fields
    zeros : every zero_unless_used (fact_fields x.word) x.fields ≡ true
    ranges : every (in_range first.fields) (fact_fields x.word) x.fields ≡ true
    low : Low x.fields
    is_expected : expected x.word (subject_of x.word x.fields) ≡ Some x.fields

  -- the same, of one field
  held : (f : FactField) (n v : ℕ) → Fits f (subject_part f n) v → let k = fill f (subject_part f n) v in
      (subject_part f k ≡ subject_part f n) × (zero_unless_used f k ≡ true) × (in_range first.fields f k ≡ true) × (k ≤ max_number)
  unfolding Fits fill
  held FactField.Unused n v h = (refl, refl, refl, omega arith)
  held (FactField.Size m) n v h = absurd h
  held (FactField.Subject d) n v h = (refl, refl, h.0, h.1)
  held (FactField.Value d) n v h = (refl, refl, h.0, h.1)

  expected_valid : (w : FactWord) (n m : Four ℕ) → expected w (subject_of w n) ≡ Some m → Valid (record { word = w; fields = m }) × (subject_of w m ≡ subject_of w n)
  unfolding expected subject_of
  expected_valid w n m e =
      let t = then_inv (answer w (subject_of w n)) _ e in
      let r = fitting w (subject_of w n) t.0 t.1 in
      let a = held (fact_fields w).a n.a t.0 r.2 in
      let b = held (fact_fields w).b n.b t.0 r.3 in
      let c = held (fact_fields w).c n.c t.0 r.4 in
      let d = held (fact_fields w).d n.d t.0 r.5 in
      let s : subject_of w (line w (subject_of w n) t.0) ≡ subject_of w n = λ i. four (a.0 i) (b.0 i) (c.0 i) (d.0 i) in
      subst (λ (k : Four ℕ). Valid (record { word = w; fields = k }) × (subject_of w k ≡ subject_of w n)) (some_inj t.2) (
        record {
          later = r.0;
          permitted = r.1;
          zeros = both_i a.1 (both_i b.1 (both_i c.1 d.1));
          ranges = both_i a.2 (both_i b.2 (both_i c.2 d.2));
          low = (a.3, b.3, c.3, d.3);
          is_expected = ap (expected w) s ∙ ap (λ o. then o (λ v. Some (line w (subject_of w n) v))) t.1;
        },
        s,
      )

  -- ALL EXPECTED LINES THAT MAY FOLLOW, added
  add : Option Fact → Facts → Facts
  add None ys = ys
  add (Some x) ys = cond (may_follow (first ∷ ys) x.word x.fields) (ys ++ (x ∷ [])) ys

  -- by the number of a word, and a subject
  candidate : List ℕ → Option Fact
  candidate is =
      then (word_at (get_or is 0 0)) λ w.
      then (expected w (subject_of w (four (get_or is 1 0) (get_or is 2 0) (get_or is 3 0) (get_or is 4 0)))) λ m.
      Some (record { word = w; fields = m })

  add_all : Facts → Facts
  add_all = for_lists max_number 5 (λ is. add (candidate is))

  -- what a further line keeps
  abbrev Invariant : (Facts → Type 0) → Type 0
  Invariant P = (ys : Facts) (x : Fact) → Valid x → may_follow (first ∷ ys) x.word x.fields ≡ true → P ys → P (ys ++ (x ∷ []))

  -- zs is ys with further lines
  abbrev Extends : Facts → Facts → Type 1
  Extends ys zs = (P : Facts → Type 0) → Invariant P → P ys → P zs

  add_extends : (is : List ℕ) (ys : Facts) → Extends ys (add (candidate is) ys)
  unfolding add candidate
  add_extends is ys P stays p = go (candidate is) refl
    where
      put : (x : Fact) → Valid x → (b : Bool) → may_follow (first ∷ ys) x.word x.fields ≡ b → P (cond b (ys ++ (x ∷ [])) ys)
      put x r true e = stays ys x r e p
      put x r false e = p

      go : (o : Option Fact) → candidate is ≡ o → P (add o ys)
      go None e = p
      go (Some x) e =
          let w = then_inv (word_at (get_or is 0 0)) _ e in
          let m = then_inv (expected w.0 (subject_of w.0 _)) _ w.2 in
          put x (subst Valid (some_inj m.2) (expected_valid w.0 _ m.0 m.1).0) (may_follow (first ∷ ys) x.word x.fields) refl

  all_extends : (ys : Facts) → Extends ys (add_all ys)
  unfolding add_all
  all_extends = lists_extend Extends (λ ys P i p. p) (λ xs ys zs f g P i p. g P i (f P i p)) max_number 5 _ add_extends

  -- each line has its turn
  all_takes : (x : Fact) → Valid x → (ys : Facts) → (zs : Facts) × Extends ys zs × Extends (add (Some x) zs) (add_all ys)
  unfolding add_all candidate
  all_takes x r ys =
      let i = fact_index x.word in
      let n = x.fields in
      let l = r.low in
      let e : candidate (i ∷ n.a ∷ n.b ∷ n.c ∷ n.d ∷ []) ≡ Some x = rw (word_at_lem x.word, r.is_expected) in
      let t = lists_take Extends (λ ys P i p. p) (λ xs ys zs f g P i p. g P i (f P i p)) max_number (i ∷ n.a ∷ n.b ∷ n.c ∷ n.d ∷ []) _ add_extends
      (omega (arith, index_small x.word), (l.0, (l.1, (l.2, (l.3, tt))))) ys in
      (t.0, t.1, subst (λ o. Extends (add o t.0) (add_all ys)) e t.2)

  -- what is said stays said, and a line that was to be added is said
  said_stays : (w : FactWord) (n : Four ℕ) → Invariant (λ ys. said (first ∷ ys) w n ≡ true)
  said_stays w n ys x r e = said_still x w n (first ∷ ys)

  allocated_stays : Invariant (λ ys. Allocated (first ∷ ys))
  unfolding Allocated
  allocated_stays ys x r e h y a = said_stays FactWord.Alc (four y.0 0 0 0) ys x r e (h y a)

  add_says : (x : Fact) → Valid x → (ys : Facts) → (x.word ≡ FactWord.Rgv → Allocated (first ∷ ys)) → said (first ∷ add (Some x) ys) x.word x.fields ≡ true
  unfolding add first Permitted
  add_says x r ys p = go (may_follow (first ∷ ys) x.word x.fields) refl
    where
      may : said (first ∷ ys) x.word x.fields ≡ false → may_follow (first ∷ ys) x.word x.fields ≡ true
      may h = both_i r.ranges (both_i (ap not h) (r.permitted (first ∷ ys) p))

      go : (b : Bool) → may_follow (first ∷ ys) x.word x.fields ≡ b → said (first ∷ cond b (ys ++ (x ∷ [])) ys) x.word x.fields ≡ true
      go true e = said_now x x.word x.fields (first ∷ ys) (speaks_of_itself x)
      go false e = elim (dec (said (first ∷ ys) x.word x.fields)) [ inl h ↦ h | inr h ↦ clash (may h) e ]

  all_says : (ys : Facts) (w : FactWord) (n m : Four ℕ) → (w ≡ FactWord.Rgv → Allocated (first ∷ ys)) → expected w (subject_of w n) ≡ Some m → said (first ∷ add_all ys) w n ≡ true
  unfolding said
  all_says ys w n m p e =
      let r = expected_valid w n m e in
      let t = all_takes (record { word = w; fields = m }) r.0 ys in
      let h = add_says (record { word = w; fields = m }) r.0 t.0 (λ g. t.1 (λ zs. Allocated (first ∷ zs)) allocated_stays (p g)) in
      ap is_some (find_subject (first ∷ add_all ys) w n m (sym r.1)) ∙ t.2 (λ zs. said (first ∷ zs) w m ≡ true) (said_stays w m) h

  allocated : Allocated (first ∷ add_all [])
  unfolding Allocated expected answer subject_of fact_fields fill
  allocated x a =
      all_says [] FactWord.Alc (four x.0 0 0 0) (four x.0 0 0 0) (λ z. let y : true ≡ false = cc in absurd (true≢false y))
      (rw (at_is {A = ℕ} x (λ y. guard (H.all y) (Some 0)), a))

  -- what is found is expected
  FindsExpected : Facts → Type 0
  FindsExpected ys = (w : FactWord) (n k : Four ℕ) → is_size w ≡ false → find (first ∷ ys) w n ≡ Some k → expected w (subject_of w n) ≡ Some k

  first_finds : FindsExpected []
  unfolding FindsExpected find speaks_of first fact_index
  first_finds w n k l h = none≢some (sym (ap (λ b. cond (b && every eqb (subject_of w n) (subject_of w first.fields)) (Some first.fields) None) l) ∙ h)

  finds_stays : Invariant FindsExpected
  unfolding FindsExpected
  finds_stays ys x r e c w n k l h = go (found_more x w n (first ∷ ys) k h)
    where
      go : (find (first ∷ ys) w n ≡ Some k) ⊎ ((speaks_of w n x ≡ true) × (x.fields ≡ k)) → expected w (subject_of w n) ≡ Some k
      go (inl f) = c w n k l f
      go (inr s) = let t = speaks_inv w n x s.0 in ap (expected w) t.1 ∙ (λ i. expected (t.0 i) (subject_of (t.0 i) x.fields)) ∙ r.is_expected ∙ ap Some s.1

  sized : {n m : ℕ} → Below n → n ≤ m → (leb 1 n && leb n m) ≡ true
  sized {n} {m} x l = both_i (le-leb 1 n (omega (arith, x.1))) (le-leb n m l)

  first_read : Read (first ∷ [])
  unfolding Read run_lines first fact_fields fact_index said find allowed
  first_read =
      read_more [] first refl (run_fact_lem [] first (omega (arith, S.references), omega (arith, S.fields), omega (arith, S.classes), omega arith) refl refl
      (both_i (both_i (sized H.nul S.references) (both_i (sized H.a_field S.fields) (both_i (sized H.a_class S.classes) refl))) refl))

  read_stays : Invariant (λ ys. Read (first ∷ ys))
  read_stays ys x r e h = read_more (first ∷ ys) x h (run_fact_lem (first ∷ ys) x r.low (ap (beq false) r.later) r.zeros e)

  -- THE FACTS
  facts : Facts
  facts = first ∷ add_all (add_all [])

  facts_keep : (P : Facts → Type 0) → Invariant P → P [] → P (add_all (add_all []))
  facts_keep P stays p = all_extends (add_all []) P stays (all_extends [] P stays p)

  -- WHAT IS FOUND IS WHAT IS EXPECTED
  find_is : (w : FactWord) (n : Four ℕ) (o : Option ℕ) → is_size w ≡ false → answer w (subject_of w n) ≡ o → find facts w n ≡ then o (λ v. Some (line w (subject_of w n) v))
  unfolding facts FindsExpected said expected
  find_is w n o l q = go (find facts w n) (expected w (subject_of w n)) refl refl ∙ ap (λ o. then o (λ v. Some (line w (subject_of w n) v))) q
    where
      go : (o e : Option (Four ℕ)) → find facts w n ≡ o → expected w (subject_of w n) ≡ e → find facts w n ≡ expected w (subject_of w n)
      go (Some k) e f h = f ∙ sym (facts_keep FindsExpected finds_stays first_finds w n k l f)
      go None None f h = f ∙ sym h
      go None (Some m) f h = absurd (false≢true (sym (ap is_some f) ∙ all_says (add_all []) w n m (λ g. allocated) h))

  said_is : (w : FactWord) (n : Four ℕ) (b : Bool) → is_size w ≡ false → answer w (subject_of w n) ≡ guard b (Some 0) → b ≡ said facts w n
  unfolding said
  said_is w n b l e = go b ∙ sym (ap is_some (find_is w n (guard b (Some 0)) l e))
    where
      go : (b : Bool) → b ≡ is_some (then (guard b (Some 0)) (λ v. Some (line w (subject_of w n) v)))
      go true = refl
      go false = refl

  -- a value, in the field that g takes
  given_is : (w : FactWord) (n : Four ℕ) (g : Four ℕ → ℕ) (v : ℕ) → is_size w ≡ false → g (four 0 0 0 0) ≡ 0 → ((v : ℕ) → g (line w (subject_of w n) v) ≡ v)
      → answer w (subject_of w n) ≡ non_zero v → v ≡ g (given facts w n)
  unfolding non_zero
  given_is w n g v l z h e = go v ∙ sym (ap (λ o. g (fields_or0 o)) (find_is w n (non_zero v) l e))
    where
      go : (v : ℕ) → v ≡ g (fields_or0 (then (non_zero v) (λ v. Some (line w (subject_of w n) v))))
      go zero = sym z
      go (suc v) = sym (h (suc v))

  le_is : (b c : Class H) → H.le b c ≡ (same b c or (H.le b c && not (same b c)))
  unfolding ◌or◌
  le_is b c = go (H.le b c) (same b c) (λ s. ap (H.le b) (sym (same_eq b c s)) ∙ H.le_refl b)
    where
      go : (l s : Bool) → (s ≡ true → l ≡ true) → l ≡ (s or (l && not s))
      go l true h = h refl
      go true false h = refl
      go false false h = refl

  as_said : AsSaid facts H ρ
  unfolding facts first answer subject_of fact_fields fill fact_index
  as_said = record {
    references = refl;
    fields = refl;
    classes = refl;
    nul = S.nul;
    all = λ x. said_is FactWord.Alc (four x.0 0 0 0) (H.all x) refl (at_is x _);
    le = λ b c. le_is b c ∙ ap (λ t. same b c or t) (said_is FactWord.Sub (four b.0 c.0 0 0) (H.le b c && not (same b c)) refl (at_is b _ ∙ at_is c _));
    typ = λ x. given_is FactWord.Typ (four x.0 0 0 0) (λ k. k.b) (H.typ x).0 refl refl (λ v. refl) (at_is x _);
    dty = λ f. given_is FactWord.Dty (four f.0 0 0 0) (λ k. k.b) (H.dty f).0 refl refl (λ v. refl) (at_is f _);
    rfv = λ n. given_is FactWord.Rfv (four n 0 0 0) (λ k. k.b) (ρ.rfv n).0 refl refl (λ v. refl) refl;
    rgv = λ n x. said_is FactWord.Rgv (four n x.0 0 0) ((ρ.rgv n).has x) refl (at_is x _);
    arv = λ n x f. given_is FactWord.Arv (four n x.0 f.0 0) (λ k. k.d) (ρ.arv n x f).0 refl refl (λ v. refl) (at_is x _ ∙ at_is f _);
    fnv = λ n. given_is FactWord.Fnv (four n 0 0 0) (λ k. k.b) (ρ.fnv n).0 refl refl (λ v. refl) refl;
    clv = λ n. given_is FactWord.Clv (four n 0 0 0) (λ k. k.b) (ρ.clv n).0 refl refl (λ v. refl) refl;
  }

  facts_read : Read facts
  unfolding facts
  facts_read = facts_keep (λ ys. Read (first ∷ ys)) read_stays first_read

pub format_complete : FormatComplete
unfolding FormatComplete Read
format_complete H ρ N S l O = record {
  facts = facts H ρ N S l O;
  read = facts_read H ρ N S l O;
  ordered = said_ordered (as_said H ρ N S l O);
  as_said = as_said H ρ N S l O;
}
