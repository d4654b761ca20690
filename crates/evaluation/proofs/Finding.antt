-- A word by its index, the subject that a fact speaks of, and what is found among facts, and among them with a further one.
use mathlib.Core.Path.{◌≡◌, refl, sym, ◌∙◌, ap}
use mathlib.Core.Bool.{Bool, true, false, ◌&&◌, cond}
use mathlib.Core.List.{[], ◌∷◌, ◌++◌, map}
use Rattle.std.specs.Prelude.{Option, None, Some}
use mathlib.Core.Logic.{◌⊎◌, inl, inr}
use Prim.Native.Nat.{ℕ, ◌<◌}
use lib.Dec.{eqb, ltb}
use lib.ListN.{get_or}
use borrow.Author.Tests.{eqb-true, ltb-true}
use Rattle.tableau.specs.Basics.{is_some, Four, four, every, bytes, lookup}
use Rattle.tableau.specs.Meaning.{◌or◌}
use Rattle.tableau.proofs.Bools.{or_i1, or_i2, both_true, both_i, every_true, eqb_same, none≢some, some_inj}
use Rattle.tableau.proofs.Places.{every_value}
use Rattle.evaluation.specs.declared.FactWord.{FactWord}
use Rattle.evaluation.specs.Facts.{fact_words, fact_index, Fact, Facts, subject_of, speaks_of, find, said}
use Rattle.evaluation.specs.contracts.FactWord as word-type
use Rattle.evaluation.proofs.FactLines.{known}

-- WORDS by their index: the word with that text of the table
pub word_at : ℕ → Option FactWord
word_at i = lookup fact_words (get_or (map (λ n. bytes n.text) fact_words) i [])

pub word_at_lem : (w : FactWord) → word_at (fact_index w) ≡ Some w
unfolding word_at
word_at_lem = known

pub same_word : (v w : FactWord) → eqb (fact_index v) (fact_index w) ≡ true → v ≡ w
same_word v w e = some_inj (sym (word_at_lem v) ∙ ap word_at (eqb-true _ _ e) ∙ word_at_lem w)

pub index_small : (w : FactWord) → fact_index w < 10
unfolding fact_index
index_small w = ltb-true _ 10 (every_value word-type.enum refl (λ x. ltb (fact_index x) 10) refl w)

-- WHAT A FACT SPEAKS OF
same_four : (p q : Four ℕ) → every eqb p q ≡ true → p ≡ q
same_four p q h =
    let t = every_true eqb p q h in
    λ i. four (eqb-true p.a q.a t.0 i) (eqb-true p.b q.b t.1 i) (eqb-true p.c q.c t.2 i) (eqb-true p.d q.d t.3 i)

pub speaks_inv : (w : FactWord) (n : Four ℕ) (x : Fact) → speaks_of w n x ≡ true → (w ≡ x.word) × (subject_of w n ≡ subject_of w x.fields)
unfolding speaks_of
speaks_inv w n x h =
    let t = both_true (eqb (fact_index w) (fact_index x.word)) _ h in
    (same_word w x.word t.0, same_four (subject_of w n) (subject_of w x.fields) t.1)

pub speaks_of_itself : (x : Fact) → speaks_of x.word x.fields x ≡ true
unfolding speaks_of
speaks_of_itself x =
    let s = subject_of x.word x.fields in
    both_i (eqb_same (fact_index x.word)) (both_i (eqb_same s.a) (both_i (eqb_same s.b) (both_i (eqb_same s.c) (eqb_same s.d))))

-- only the subject counts
pub find_subject : (xs : Facts) (w : FactWord) (n m : Four ℕ) → subject_of w n ≡ subject_of w m → find xs w n ≡ find xs w m
unfolding find speaks_of
find_subject [] w n m e = refl
find_subject (x ∷ xs) w n m e = λ i. cond (eqb (fact_index w) (fact_index x.word) && every eqb (e i) (subject_of w x.fields)) (Some x.fields) (find_subject xs w n m e i)

-- AMONG MORE FACTS: the first of two
abbrev or_find : Option (Four ℕ) → Option (Four ℕ) → Option (Four ℕ)
or_find None o = o
or_find (Some k) o = Some k

find_more : (xs ys : Facts) (w : FactWord) (n : Four ℕ) → find (xs ++ ys) w n ≡ or_find (find xs w n) (find ys w n)
unfolding find
find_more [] ys w n = refl
find_more (x ∷ xs) ys w n = go (speaks_of w n x) (find_more xs ys w n)
  where
    go : (b : Bool) → find (xs ++ ys) w n ≡ or_find (find xs w n) (find ys w n) → cond b (Some x.fields) (find (xs ++ ys) w n) ≡ or_find (cond b (Some x.fields) (find xs w n)) (find ys w n)
    go true e = refl
    go false e = e

module _ (x : Fact) (w : FactWord) (n : Four ℕ) (xs : Facts) where
  said_more : said (xs ++ (x ∷ [])) w n ≡ (said xs w n or speaks_of w n x)
  unfolding said find ◌or◌
  said_more = ap is_some (find_more xs (x ∷ []) w n) ∙ go (find xs w n) (speaks_of w n x)
    where
      go : (o : Option (Four ℕ)) (b : Bool) → is_some (or_find o (cond b (Some x.fields) None)) ≡ (is_some o or b)
      go None true = refl
      go None false = refl
      go (Some k) b = refl

  pub said_still : said xs w n ≡ true → said (xs ++ (x ∷ [])) w n ≡ true
  said_still h = said_more ∙ or_i1 _ _ h

  pub said_now : speaks_of w n x ≡ true → said (xs ++ (x ∷ [])) w n ≡ true
  said_now h = said_more ∙ or_i2 _ _ h

  pub found_more : (k : Four ℕ) → find (xs ++ (x ∷ [])) w n ≡ Some k → (find xs w n ≡ Some k) ⊎ ((speaks_of w n x ≡ true) × (x.fields ≡ k))
  unfolding find
  found_more k h = go (find xs w n) (speaks_of w n x) refl (sym (find_more xs (x ∷ []) w n) ∙ h)
    where
      go : (o : Option (Four ℕ)) (b : Bool) → speaks_of w n x ≡ b → or_find o (cond b (Some x.fields) None) ≡ Some k → (o ≡ Some k) ⊎ ((speaks_of w n x ≡ true) × (x.fields ≡ k))
      go (Some j) b e h = inl h
      go None true e h = inr (e, some_inj h)
      go None false e h = none≢some h
