-- Of D lines that pass their checks, the heap and the values of the variables are what the lines say.
use mathlib.Core.Path.{◌≡◌, refl, sym, ◌∙◌, ap, subst}
use mathlib.Core.Bool.{Bool, true, false, not, true≢false}
use mathlib.Core.List.{List, [], ◌∷◌, ◌++◌}
use Rattle.std.specs.Prelude.{Option, None, Some}
use mathlib.Core.Logic.{inl, inr}
use Prim.Native.Nat.{ℕ, ◌-◌, min}
use native.Mathlib.Nat.{min-eq_left, zero-min}
use native.Mathlib.Omega.{arith}
use lib.Dec.{eqb, ltb}
use borrow.Author.Tests.{eqb-true, ltb-true, leb-true}
use Rattle.tableau.specs.Basics.{is_some, Four, four, every}
use Rattle.tableau.specs.Meaning.{◌and◌}
use Rattle.tableau.proofs.Bools.{clash, and_i, and_false_r, both_true, every_true, eqb_same, none≢some}
use Rattle.tableau.proofs.Checks.{Run, done, next}
use Rattle.evaluation.specs.declared.FactWord.{FactWord}
use Rattle.evaluation.specs.Facts.{fact_index, fact_fields, Fact, Facts, sizes, subject_of, speaks_of}
use Rattle.evaluation.specs.Facts.{find, said, fields_or0, given, is_nil, in_range, allowed, may_follow}
use Rattle.evaluation.specs.Heaps.{is_under, is_order, is_allocated, heap_of, values_of, AsSaid}
use Rattle.evaluation.proofs.Passable.{Passable, size, more}
use Rattle.evaluation.proofs.Decision.{beq_eq}
use Rattle.evaluation.proofs.FilesRead.{FactPassed}
use Rattle.evaluation.proofs.FactLines.{is_size, is_size_lem}
use Rattle.evaluation.proofs.Finding.{same_word, speaks_inv, said_still, found_more}

-- LINES THAT PASS are passable by their words and numbers
line_passable : {bs : List ℕ} {facts facts' : Facts} → FactPassed facts bs facts' → (is_nil facts ≡ false → Passable facts) → Passable facts'
line_passable {bs} {facts} {facts'} p h =
    subst Passable p.after (go facts (beq_eq _ _ p.ordered ∙ sym (is_size_lem p.line.word p.known)) p.follows h)
  where
    x : Fact
    x = record { word = p.word; fields = p.line.fields }

    go : (f : Facts) → is_nil f ≡ is_size p.word → may_follow f p.word p.line.fields ≡ true → (is_nil f ≡ false → Passable f) → Passable (f ++ (x ∷ []))
    go [] q m h = let e = same_word p.word FactWord.Siz (sym q) in size x e (rw e at p.unused_zero) (rw e at m)
    go (y ∷ ys) q m h = more (y ∷ ys) x (h refl) (λ e. clash (eqb_same (fact_index FactWord.Siz)) (sym (q ∙ ap is_size e))) p.unused_zero m

pub run_passable : {facts facts' : Facts} {ls : List (List ℕ)} → Run FactPassed facts ls facts' → (is_nil facts ≡ false → Passable facts) → is_nil facts' ≡ false → Passable facts'
run_passable done h = h
run_passable (next p r) h = run_passable r (λ n. line_passable p h)

-- THE SIZES are those of the first line, and in their ranges
first_of : {facts : Facts} → Passable facts → (y : Fact) × (ys : Facts) × (facts ≡ y ∷ ys)
first_of (size x w z m) = (x, [], refl)
first_of (more facts x p w z m) = let f = first_of p in (f.0, f.1 ++ (x ∷ []), ap (λ l. l ++ (x ∷ [])) f.2)

sizes_more : {facts : Facts} (x : Fact) → Passable facts → sizes (facts ++ (x ∷ [])) ≡ sizes facts
sizes_more x p = rw (first_of p).2

pub sizes_in : {facts : Facts} → Passable facts → every (in_range (sizes facts)) (fact_fields FactWord.Siz) (sizes facts) ≡ true
unfolding fact_fields
sizes_in (size x w z m) = (both_true _ _ m).0
sizes_in (more facts x p w z m) = rw (sizes_more x p) (sizes_in p)

-- WHAT IS FOUND was said by a line that passed: its numbers are in range, it speaks of what is looked for, and it was allowed where it stands
pub record Found (s : Four ℕ) (facts : Facts) (w : FactWord) (n k : Four ℕ) : Type 0 where
  pub ranges : every (in_range s) (fact_fields w) k ≡ true
  pub subject : every eqb (subject_of w n) (subject_of w k) ≡ true
  pub earlier : Facts
  pub allows : allowed earlier w k ≡ true
  pub grows : (v : FactWord) (m : Four ℕ) → said earlier v m ≡ true → said facts v m ≡ true

found_last : {w : FactWord} {n k : Four ℕ} (s : Four ℕ) (facts : Facts) (x : Fact) → every (in_range s) (fact_fields x.word) x.fields ≡ true
    → allowed facts x.word x.fields ≡ true → (speaks_of w n x ≡ true) × (x.fields ≡ k) → Found s (facts ++ (x ∷ [])) w n k
unfolding speaks_of
found_last {w} {n} s facts x r a (h, e) =
    let v = (speaks_inv w n x h).0 in
    let t = (both_true (eqb (fact_index w) (fact_index x.word)) _ h).1 in
    rw (← e) (record { ranges = rw v r; subject = t; earlier = facts; allows = rw v a; grows = λ v m. said_still x v m facts })

follows : (facts : Facts) (w : FactWord) (n : Four ℕ) → may_follow facts w n ≡ true → (every (in_range (sizes facts)) (fact_fields w) n ≡ true) × (allowed facts w n ≡ true)
follows facts w n m = let h = both_true (every (in_range (sizes facts)) (fact_fields w) n) _ m in (h.0, (both_true (not (said facts w n)) _ h.1).1)

pub found : {facts : Facts} → Passable facts → (w : FactWord) (n k : Four ℕ) → find facts w n ≡ Some k → Found (sizes facts) facts w n k
unfolding fact_fields find
found (size x e z m) w n k q =
    let f = follows [] FactWord.Siz x.fields m in
    elim (found_more x w n [] k q) [ inl h ↦ none≢some h | inr h ↦ found_last x.fields [] x (rw e f.0) (rw e f.1) h ]
found (more facts x p e z m) w n k q = rw (sizes_more x p) (elim (found_more x w n facts k q) [
  | inl h ↦
      let f = found p w n k h in
      record { ranges = f.ranges; subject = f.subject; earlier = f.earlier; allows = f.allows; grows = λ v i s. said_still x v i facts (f.grows v i s) }
  | inr h ↦ let f = follows facts x.word x.fields m in found_last (sizes facts) facts x f.0 f.1 h
])

-- THE HEAP AND THE VALUES
and_implied : (a b : Bool) → (b ≡ true → a ≡ true) → a and b ≡ b
unfolding ◌and◌
and_implied a true h = and_i (h refl) refl
and_implied a false h = and_false_r a false refl

module _ {facts : Facts} (p : Passable facts) where
  -- a number that is given is in its range, so nothing of it is cut off
  uncut : (w : FactWord) (n : Four ℕ) (part : Four ℕ → ℕ) (d : ℕ) → part (four 0 0 0 0) ≡ 0
      → ((k : Four ℕ) → every (in_range (sizes facts)) (fact_fields w) k ≡ true → ltb (part k) d ≡ true) → min (part (given facts w n)) (d - 1) ≡ part (given facts w n)
  uncut w n part d z h = go (find facts w n) refl
    where
      go : (m : Option (Four ℕ)) → find facts w n ≡ m → min (part (fields_or0 m)) (d - 1) ≡ part (fields_or0 m)
      go None e = rw z (zero-min (d - 1))
      go (Some k) e = min-eq_left (omega (arith, ltb-true (part k) d (h k (found p w n k e).ranges)))

  -- the value of a line is its second number, or the fourth
  second : (w : FactWord) (n : Four ℕ) (d : ℕ) → ((i : ℕ) → in_range (sizes facts) (fact_fields w).b i ≡ ltb i d) → min (given facts w n).b (d - 1) ≡ (given facts w n).b
  second w n d h = uncut w n (λ k. k.b) d refl (λ k r. sym (h k.b) ∙ (every_true (in_range (sizes facts)) (fact_fields w) k r).1)

  fourth : (w : FactWord) (n : Four ℕ) (d : ℕ) → ((i : ℕ) → in_range (sizes facts) (fact_fields w).d i ≡ ltb i d) → min (given facts w n).d (d - 1) ≡ (given facts w n).d
  fourth w n d h = uncut w n (λ k. k.d) d refl (λ k r. sym (h k.d) ∙ (every_true (in_range (sizes facts)) (fact_fields w) k r).3)

  pub said_by : (w : FactWord) (n : Four ℕ) → said facts w n ≡ true → (k : Four ℕ) × Found (sizes facts) facts w n k
  unfolding said
  said_by w n = go (find facts w n) refl
    where
      go : (m : Option (Four ℕ)) → find facts w n ≡ m → is_some m ≡ true → (k : Four ℕ) × Found (sizes facts) facts w n k
      go None e h = absurd (true≢false (sym h))
      go (Some k) e h = (k, found p w n k e)

  not_nul : (m : ℕ) → said facts FactWord.Alc (four m 0 0 0) ≡ true → not (eqb m 0) ≡ true
  unfolding allowed fact_fields subject_of
  not_nul m h =
      let k = said_by FactWord.Alc (four m 0 0 0) h in
      rw (eqb-true m k.0.a (both_true (eqb m k.0.a) _ k.1.subject).0) k.1.allows

  member_allocated : (n m : ℕ) → said facts FactWord.Rgv (four n m 0 0) ≡ true → said facts FactWord.Alc (four m 0 0 0) ≡ true
  unfolding allowed fact_fields subject_of
  member_allocated n m h =
      let k = said_by FactWord.Rgv (four n m 0 0) h in
      let e = eqb-true m k.0.b (both_true (eqb m k.0.b) _ (both_true (eqb n k.0.a) _ k.1.subject).1).0 in
      rw e (k.1.grows FactWord.Alc (four k.0.b 0 0 0) k.1.allows)

  pub as_said : (ordered : is_order facts ≡ true) → AsSaid facts (heap_of facts ordered) (values_of facts ordered)
  unfolding heap_of values_of is_allocated is_under fact_fields
  as_said ordered =
      let s = every_true (in_range (sizes facts)) (fact_fields FactWord.Siz) (sizes facts) (sizes_in p) in
      record {
        references = omega (arith, leb-true 1 (sizes facts).a (both_true _ _ s.0).0);
        fields = omega (arith, leb-true 1 (sizes facts).b (both_true _ _ s.1).0);
        classes = omega (arith, leb-true 1 (sizes facts).c (both_true _ _ s.2).0);
        nul = zero-min ((sizes facts).a - 1);
        all = λ x. and_implied (not (eqb x.0 0)) _ (not_nul x.0);
        le = λ b c. refl;
        typ = λ x. second FactWord.Typ (four x.0 0 0 0) (sizes facts).c (λ i. refl);
        dty = λ f. second FactWord.Dty (four f.0 0 0 0) (sizes facts).c (λ i. refl);
        rfv = λ n. second FactWord.Rfv (four n 0 0 0) (sizes facts).a (λ i. refl);
        rgv = λ n x. and_implied (is_allocated facts x) _ (λ h. let a = member_allocated n x.0 h in and_i (not_nul x.0 a) a);
        arv = λ n x f. fourth FactWord.Arv (four n x.0 f.0 0) (sizes facts).a (λ i. refl);
        fnv = λ n. second FactWord.Fnv (four n 0 0 0) (sizes facts).b (λ i. refl);
        clv = λ n. second FactWord.Clv (four n 0 0 0) (sizes facts).c (λ i. refl);
      }
