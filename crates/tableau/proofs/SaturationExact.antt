-- What is computed for `bck` is what is defined: `saturate` finds exactly the two relations.
use mathlib.Core.Path.{◌≡◌, refl, sym, ◌∙◌, ap, subst}
use mathlib.Core.Bool.{Bool, true, false, ◌&&◌, ◌||◌, false≢true}
use mathlib.Core.List.{List, [], ◌∷◌, ◌++◌}
use Rattle.std.specs.Prelude.{Option, None, Some, slice_get}
use mathlib.Core.Logic.{◌⊎◌, inl, inr}
use Prim.Native.Nat.{ℕ, zero, suc, ◌≤◌, ◌<◌}
use native.Mathlib.Nat.{not-suc-le-zero}
use native.Mathlib.Omega.{arith}
use lib.Dec.{eqb}
use lib.ListN.{length}
use borrow.Author.Tests.{eqb-true, eq-eqb}
use Rattle.tableau.specs.declared.Sort.{Sort}
use Rattle.tableau.specs.declared.Operator.{Operator}
use Rattle.tableau.specs.declared.Relation.{Relation}
use Rattle.tableau.specs.Basics.{Four, every}
use Rattle.tableau.specs.Fields.{arguments}
use Rattle.tableau.specs.Terms.{TermNo, Table, Term, variable, apply, Literal, literal, at, result, sort_of, same_sort, same_operator, same_relation, relation_index, operator_index, sort_index}
use Rattle.tableau.specs.Steps.{takes_terms}
use Rattle.tableau.specs.Background as background
use Rattle.tableau.specs.Background.{On, Follows, Contradicted, by_ne, by_nl}
use Rattle.tableau.specs.Claims.{ExactlyContradicted}
use Rattle.tableau.specs.Saturation.{has, some_below, bound, equal, below, alike, between, one_step, pick, next, with_right, all_below, saturate, universe, closure, denies, any_denies, contradicted}
use Rattle.tableau.proofs.Bools.{dec, clash, both_true, both_i, one_true, or_l, or_r, every_true, eqb_same, none≢some, some_inj}
use Rattle.tableau.proofs.TableGrowth.{inside}
use Rattle.tableau.proofs.Match.{same_operator_lem, same_relation_lem, same_sort_lem}

-- what follows from each of two tests, or of five, follows from their or
either : {P : Type 0} (a b : Bool) → a || b ≡ true → (a ≡ true → P) → (b ≡ true → P) → P
either true b h f g = f refl
either false b h f g = g h

five : {P : Type 0} (a b c d e : Bool) → a || (b || (c || (d || e))) ≡ true → (a ≡ true → P) → (b ≡ true → P) → (c ≡ true → P) → (d ≡ true → P) → (e ≡ true → P) → P
five true b c d e h f₁ f₂ f₃ f₄ f₅ = f₁ refl
five false true c d e h f₁ f₂ f₃ f₄ f₅ = f₂ refl
five false false true d e h f₁ f₂ f₃ f₄ f₅ = f₃ refl
five false false false true e h f₁ f₂ f₃ f₄ f₅ = f₄ refl
five false false false false e h f₁ f₂ f₃ f₄ f₅ = f₅ h

relation_self : (R : Relation) → same_relation R R ≡ true
relation_self R = eqb_same (relation_index R)

operator_self : (o : Operator) → same_operator o o ≡ true
operator_self o = eqb_same (operator_index o)

-- among some literals
pub has_on : (ls : List Literal) (R : Relation) (a b : TermNo) → has ls R a b ≡ true → On ls (literal R a b)
unfolding has
has_on [] R a b h = absurd (false≢true h)
has_on (literal R' a' b' ∷ ls) R a b h = go (has_on ls R a b) (one_true _ _ h)
  where
    go : (has ls R a b ≡ true → On ls (literal R a b)) → (same_relation R R' && (eqb a a' && eqb b b') ≡ true) ⊎ (has ls R a b ≡ true)
        → On (literal R' a' b' ∷ ls) (literal R a b)
    go ih (inl p) =
        let q = both_true (same_relation R R') _ p in
        let r = both_true (eqb a a') _ q.1 in
        (0, λ i. Some (literal (sym (same_relation_lem R R' q.0) i) (sym (eqb-true a a' r.0) i) (sym (eqb-true b b' r.1) i)))
    go ih (inr p) = let k = ih p in (suc k.0, k.1)

same_literal : {R R' : Relation} {a a' b b' : TermNo} → literal R a b ≡ literal R' a' b' → (R ≡ R') × (a ≡ a') × (b ≡ b')
same_literal e = (cc, cc, cc)

here : (R R' : Relation) (a a' b b' : TermNo) → literal R' a' b' ≡ literal R a b → same_relation R R' && (eqb a a' && eqb b b') ≡ true
here R R' a a' b b' e =
    let s = same_literal e in
    both_i (ap (same_relation R) s.0 ∙ relation_self R) (both_i (ap (eqb a) s.1 ∙ eqb_same a) (ap (eqb b) s.2 ∙ eqb_same b))

pub on_has : (ls : List Literal) (R : Relation) (a b : TermNo) (i : ℕ) → slice_get ls i ≡ Some (literal R a b) → has ls R a b ≡ true
unfolding has
on_has [] R a b i e = none≢some e
on_has (literal R' a' b' ∷ ls) R a b zero e = or_l _ (here R R' a a' b b' (some_inj e))
on_has (literal R' a' b' ∷ ls) R a b (suc i) e = or_r (same_relation R R' && (eqb a a' && eqb b b')) (on_has ls R a b i e)

some_out : (n : ℕ) (f : ℕ → Bool) → some_below n f ≡ true → (c : ℕ) × (f c ≡ true)
unfolding some_below
some_out zero f h = absurd (false≢true h)
some_out (suc n) f h = go (some_out n f) (one_true _ _ h)
  where
    go : (some_below n f ≡ true → (c : ℕ) × (f c ≡ true)) → (f n ≡ true) ⊎ (some_below n f ≡ true) → (c : ℕ) × (f c ≡ true)
    go ih (inl p) = (n, p)
    go ih (inr p) = ih p

last_or : (c n : ℕ) → c < suc n → (c ≡ n → ⊥) → c < n
last_or c n h k = omega arith

some_in : (n : ℕ) (f : ℕ → Bool) (c : ℕ) → c < n → f c ≡ true → some_below n f ≡ true
unfolding some_below
some_in zero f c h e = absurd (not-suc-le-zero h)
some_in (suc n) f c h e = go (some_in n f c) (dec (eqb c n))
  where
    go : (c < n → f c ≡ true → some_below n f ≡ true) → (eqb c n ≡ true) ⊎ (eqb c n ≡ false) → f n || some_below n f ≡ true
    go ih (inl p) = or_l _ (ap f (sym (eqb-true c n p)) ∙ e)
    go ih (inr p) = or_r (f n) (ih (last_or c n h (λ q. clash (eq-eqb c n q) p)) e)

takes : Term → Bool
takes (variable s n) = false
takes (apply o k) = takes_terms o

-- the bound
bound_table : (ls : List Literal) (n t : ℕ) → t ≤ n → t < bound ls n
unfolding bound
bound_table [] n t h = omega arith
bound_table (literal R a b ∷ ls) n t h = let k = bound_table ls n t h in omega arith

bound_literal : (ls : List Literal) (n i : ℕ) (R : Relation) (a b : TermNo) → slice_get ls i ≡ Some (literal R a b) → (a < bound ls n) × (b < bound ls n)
unfolding bound
bound_literal [] n i R a b e = none≢some e
bound_literal (literal R' a' b' ∷ ls) n zero R a b e =
    let s = same_literal {R = R'} {R' = R} {a = a'} {a' = a} {b = b'} {b' = b} (some_inj e) in
    let p : a' ≡ a = s.1 in
    let q : b' ≡ b = s.2 in (omega arith, omega arith)
bound_literal (literal R' a' b' ∷ ls) n (suc i) R a b e = let k = bound_literal ls n i R a b e in (omega arith, omega arith)

module _ (table : Table) (branch : List Literal) where
  abbrev N : ℕ
  N = bound branch (length table)

  -- SOUND: what is found follows
  abbrev AllFollow : List Literal → Type 0
  AllFollow known = (R : Relation) (a b : TermNo) → has known R a b ≡ true → Follows table branch R a b

  abbrev LiteralFollows : Literal → Type 0
  LiteralFollows (literal R a b) = Follows table branch R a b

  module _ (known : List Literal) (all : AllFollow known) where
    abbrev E : TermNo → TermNo → Bool
    E = equal table branch known

    abbrev L : TermNo → TermNo → Bool
    L = below table branch known

    equal_sound : (a b : TermNo) → equal table branch known a b ≡ true → Follows table branch Relation.Eq a b
    equal_sound a b h = either (eqb a b) (has known Relation.Eq a b) h
        (λ p. subst (λ x. Follows table branch Relation.Eq a x) (eqb-true a b p) background.ref)
        (λ p. all Relation.Eq a b p)

    alike_sound : (t w : TermNo) (e f : Term) → at table t ≡ e → at table w ≡ f → alike table branch known e f ≡ true → Follows table branch Relation.Eq t w
    alike_sound t w (variable s n) f p q h = absurd (false≢true h)
    alike_sound t w (apply o k) (variable s n) p q h = absurd (false≢true h)
    alike_sound t w (apply o k) (apply o' l) p q h =
        let h₁ = both_true (takes_terms o) _ h in
        let h₂ = both_true (same_operator o o') _ h₁.1 in
        let e = every_true (equal table branch known) k l h₂.1 in
        background.sub p (q ∙ ap (λ x. apply x l) (sym (same_operator_lem o o' h₂.0))) h₁.0
        (equal_sound _ _ e.0) (equal_sound _ _ e.1) (equal_sound _ _ e.2) (equal_sound _ _ e.3)

    step_sound : (l : Literal) → one_step table branch known l ≡ true → LiteralFollows l
    unfolding one_step
    step_sound (literal Relation.Eq a b) h = five (has branch Relation.Eq a b) (E b a) (between table branch known (λ c. E a c && E c b))
        (alike table branch known (at table a) (at table b)) (L a b && L b a) h
        (λ p. background.eq_literal (has_on branch Relation.Eq a b p))
        (λ p. background.sym (equal_sound b a p))
        (λ p. let c = some_out N (λ c. E a c && E c b) p in
        let q = both_true (E a c.0) (E c.0 b) c.1 in
        background.trn (equal_sound a c.0 q.0) (equal_sound c.0 b q.1))
        (λ p. alike_sound a b (at table a) (at table b) refl refl p)
        (λ p. let q = both_true (L a b) (L b a) p in background.lea (all Relation.Le a b q.0) (all Relation.Le b a q.1))
    step_sound (literal Relation.Le a b) h = five (has branch Relation.Le a b) (eqb a b && same_sort Sort.Class (sort_of (at table a)))
        (between table branch known (λ c. L a c && L c b)) (between table branch known (λ c. E c a && L c b)) (between table branch known (λ c. E c b && L a c)) h
        (λ p. background.le_literal (has_on branch Relation.Le a b p))
        (λ p. let q = both_true (eqb a b) (same_sort Sort.Class (sort_of (at table a))) p in
        subst (λ x. Follows table branch Relation.Le a x) (eqb-true a b q.0) (background.ler (sym (same_sort_lem Sort.Class (sort_of (at table a)) q.1))))
        (λ p. let c = some_out N (λ c. L a c && L c b) p in
        let q = both_true (L a c.0) (L c.0 b) c.1 in
        background.let' (all Relation.Le a c.0 q.0) (all Relation.Le c.0 b q.1))
        (λ p. let c = some_out N (λ c. E c a && L c b) p in
        let q = both_true (E c.0 a) (L c.0 b) c.1 in
        background.left (equal_sound c.0 a q.0) (all Relation.Le c.0 b q.1))
        (λ p. let c = some_out N (λ c. E c b && L a c) p in
        let q = both_true (E c.0 b) (L a c.0) c.1 in
        background.right (equal_sound c.0 b q.0) (all Relation.Le a c.0 q.1))
    step_sound (literal Relation.In a b) h = absurd (false≢true h)
    step_sound (literal Relation.Ni a b) h = absurd (false≢true h)
    step_sound (literal Relation.Ne a b) h = absurd (false≢true h)
    step_sound (literal Relation.Nl a b) h = absurd (false≢true h)

  -- the literal picked follows in one step; the others are as before
  pub record Picked (known todo : List Literal) (x : Literal) (rest : List Literal) : Type 0 where
    pub steps : one_step table branch known x ≡ true
    pub shorter : length todo ≡ suc (length rest)
    pub others : (R : Relation) (a b : TermNo) → has todo R a b ≡ true → (has (x ∷ []) R a b ≡ true) ⊎ (has rest R a b ≡ true)

  cons_has : (x : Literal) (ls : List Literal) (R : Relation) (a b : TermNo) → has (x ∷ ls) R a b ≡ true → (has (x ∷ []) R a b ≡ true) ⊎ (has ls R a b ≡ true)
  unfolding has
  cons_has (literal R' a' b') ls R a b h = elim (one_true (same_relation R R' && (eqb a a' && eqb b b')) _ h) [ inl p ↦ inl (or_l false p) | inr p ↦ inr p ]

  has_cons : (x : Literal) (ls : List Literal) (R : Relation) (a b : TermNo) → (has (x ∷ []) R a b ≡ true) ⊎ (has ls R a b ≡ true) → has (x ∷ ls) R a b ≡ true
  unfolding has
  has_cons (literal R' a' b') ls R a b (inl h) = elim (one_true (same_relation R R' && (eqb a a' && eqb b b')) false h) [ inl p ↦ or_l _ p | inr p ↦ absurd (false≢true p) ]
  has_cons (literal R' a' b') ls R a b (inr h) = or_r (same_relation R R' && (eqb a a' && eqb b b')) h

  picked : (known todo : List Literal) (x : Literal × List Literal) → next table branch known todo ≡ Some x → Picked known todo x.0 x.1
  unfolding next
  picked known [] x e = none≢some e
  picked known (l ∷ ls) x e = go (picked known ls) (one_step table branch known l) refl (next table branch known ls) refl e
    where
      go : ((x : Literal × List Literal) → next table branch known ls ≡ Some x → Picked known ls x.0 x.1) → (b : Bool) → one_step table branch known l ≡ b
          → (m : Option (Literal × List Literal)) → next table branch known ls ≡ m → pick table branch known b l ls m ≡ Some x → Picked known (l ∷ ls) x.0 x.1
      go ih true p m q e =
          subst (λ (y : Literal × List Literal). Picked known (l ∷ ls) y.0 y.1) (some_inj e)
          (record { steps = p; shorter = refl; others = cons_has l ls })
      go ih false p None q e = none≢some e
      go ih false p (Some y) q e =
          let k = ih y q in
          subst (λ (y : Literal × List Literal). Picked known (l ∷ ls) y.0 y.1) (some_inj e)
          (record {
            steps = k.steps;
            shorter = ap suc k.shorter;
            others = λ R a b h. elim (cons_has l ls R a b h) [
              | inl p ↦ inr (has_cons l y.1 R a b (inl p))
              | inr p ↦ elim (k.others R a b p) [ inl r ↦ inl r | inr r ↦ inr (has_cons l y.1 R a b (inr r)) ]
            ];
          })

  -- where none is picked, none follows in one step
  none_picked : (known todo : List Literal) → next table branch known todo ≡ None → (R : Relation) (a b : TermNo) → has todo R a b ≡ true
      → one_step table branch known (literal R a b) ≡ true → ⊥
  unfolding next has
  none_picked known [] e R a b h s = false≢true h
  none_picked known (literal R' a' b' ∷ ls) e R a b h s =
      go (none_picked known ls) (one_step table branch known (literal R' a' b')) refl (next table branch known ls) refl e (one_true (same_relation R R' && (eqb a a' && eqb b b')) _ h)
    where
      go : (next table branch known ls ≡ None → (R : Relation) (a b : TermNo) → has ls R a b ≡ true → one_step table branch known (literal R a b) ≡ true → ⊥)
          → (c : Bool) → one_step table branch known (literal R' a' b') ≡ c → (m : Option (Literal × List Literal)) → next table branch known ls ≡ m
          → pick table branch known c (literal R' a' b') ls m ≡ None → (same_relation R R' && (eqb a a' && eqb b b') ≡ true) ⊎ (has ls R a b ≡ true) → ⊥
      go ih true p m q e k = none≢some (sym e)
      go ih false p (Some y) q e k = none≢some (sym e)
      go ih false p None q e (inr k) = ih q R a b k s
      go ih false p None q e (inl k) =
          let k₁ = both_true (same_relation R R') _ k in
          let k₂ = both_true (eqb a a') _ k₁.1 in
          let same : literal R a b ≡ literal R' a' b' = λ i. literal (same_relation_lem R R' k₁.0 i) (eqb-true a a' k₂.0 i) (eqb-true b b' k₂.1 i) in
          clash (ap (one_step table branch known) (sym same) ∙ s) p

  one_follows : (x : Literal) → LiteralFollows x → (R : Relation) (a b : TermNo) → has (x ∷ []) R a b ≡ true → Follows table branch R a b
  one_follows (literal R' a' b') f R a b h =
      let o = has_on (literal R' a' b' ∷ []) R a b h in
      subst LiteralFollows (go o.0 o.1) f
    where
      go : (i : ℕ) → slice_get (literal R' a' b' ∷ []) i ≡ Some (literal R a b) → literal R' a' b' ≡ literal R a b
      go zero e = some_inj e
      go (suc i) e = none≢some e

  saturate_sound : (fuel : ℕ) (known todo : List Literal) → AllFollow known → AllFollow (saturate table branch fuel known todo)
  unfolding saturate
  saturate_sound zero known todo all = all
  saturate_sound (suc fuel) known todo all = go (saturate_sound fuel) (next table branch known todo) refl
    where
      go : ((known todo : List Literal) → AllFollow known → AllFollow (saturate table branch fuel known todo))
          → (m : Option (Literal × List Literal)) → next table branch known todo ≡ m
          → AllFollow (elim m [ None ↦ known | Some x ↦ saturate table branch fuel (x.0 ∷ known) x.1 ])
      go ih None e = all
      go ih (Some x) e = ih (x.0 ∷ known) x.1 (λ R a b h. elim (cons_has x.0 known R a b h) [
        | inl p ↦ one_follows x.0 (step_sound known all x.0 (picked known todo x e).steps) R a b p
        | inr p ↦ all R a b p
      ])

  closure_sound : AllFollow (closure table branch)
  unfolding closure has
  closure_sound = saturate_sound _ [] _ (λ R a b h. absurd (false≢true h))

  -- CLOSED: what follows in one step from what is found is found
  abbrev Saturated : List Literal → Type 0
  Saturated known = (R : Relation) (a b : TermNo) → has (universe table branch) R a b ≡ true → one_step table branch known (literal R a b) ≡ true → has known R a b ≡ true

  none_left : (todo : List Literal) (R : Relation) (a b : TermNo) → length todo ≤ 0 → has todo R a b ≡ true → ⊥
  unfolding has
  none_left [] R a b h e = false≢true e
  none_left (l ∷ ls) R a b h e = not-suc-le-zero h

  saturate_closed : (fuel : ℕ) (known todo : List Literal) → length todo ≤ fuel
      → ((R : Relation) (a b : TermNo) → has (universe table branch) R a b ≡ true → (has known R a b ≡ true) ⊎ (has todo R a b ≡ true))
      → Saturated (saturate table branch fuel known todo)
  unfolding saturate
  saturate_closed zero known todo len all = λ R a b u s. elim (all R a b u) [ inl p ↦ p | inr p ↦ absurd (none_left todo R a b len p) ]
  saturate_closed (suc fuel) known todo len all = go (saturate_closed fuel) (next table branch known todo) refl
    where
      go : ((known todo : List Literal) → length todo ≤ fuel
          → ((R : Relation) (a b : TermNo) → has (universe table branch) R a b ≡ true → (has known R a b ≡ true) ⊎ (has todo R a b ≡ true))
          → Saturated (saturate table branch fuel known todo))
          → (m : Option (Literal × List Literal)) → next table branch known todo ≡ m
          → Saturated (elim m [ None ↦ known | Some x ↦ saturate table branch fuel (x.0 ∷ known) x.1 ])
      go ih None e = λ R a b u s. elim (all R a b u) [ inl p ↦ p | inr p ↦ absurd (none_picked known todo e R a b p s) ]
      go ih (Some x) e =
          let k = picked known todo x e in
          let len' : length todo ≡ suc (length x.1) = k.shorter in
          ih (x.0 ∷ known) x.1 (omega arith) (λ R a b u. elim (all R a b u) [
            | inl p ↦ inl (has_cons x.0 known R a b (inr p))
            | inr p ↦ elim (k.others R a b p) [ inl q ↦ inl (has_cons x.0 known R a b (inl q)) | inr q ↦ inr q ]
          ])

  closure_closed : Saturated (closure table branch)
  unfolding closure
  closure_closed = saturate_closed _ [] _ (omega arith) (λ R a b u. inr u)

  -- COMPLETE: numbers that differ and are related are below the bound
  abbrev Range : Relation → TermNo → TermNo → Type 0
  Range Relation.Eq a b = (a ≡ b) ⊎ ((a < N) × (b < N))
  Range Relation.Le a b = (a < N) × (b < N)
  Range Relation.In a b = Unit {0}
  Range Relation.Ni a b = Unit {0}
  Range Relation.Ne a b = Unit {0}
  Range Relation.Nl a b = Unit {0}

  applied : {t : TermNo} {o : Operator} {k : Four TermNo} → at table t ≡ apply o k → takes_terms o ≡ true → t < N
  unfolding takes takes_terms arguments
  applied {t} e h = bound_table branch (length table) t (inside takes refl table t (ap takes e ∙ h)).1

  class_term : (t : TermNo) → sort_of (at table t) ≡ Sort.Class → same_sort Sort.Class (sort_of (at table t)) ≡ true
  class_term t e = ap (same_sort Sort.Class) e ∙ eqb_same (sort_index Sort.Class)

  class_range : (t : TermNo) → sort_of (at table t) ≡ Sort.Class → t < N
  unfolding result sort_index
  class_range t e = bound_table branch (length table) t (inside (λ x. same_sort Sort.Class (sort_of x)) refl table t (class_term t e)).1

  range_trn : {a b c : TermNo} → Range Relation.Eq a b → Range Relation.Eq b c → Range Relation.Eq a c
  range_trn {a} {b} {c} (inl p) r = subst (λ x. Range Relation.Eq x c) (sym p) r
  range_trn {a} {b} {c} (inr p) (inl q) = subst (λ x. Range Relation.Eq a x) q (inr p)
  range_trn {a} {b} {c} (inr p) (inr q) = inr (p.0, q.1)

  moved : {a b : TermNo} → Range Relation.Eq a b → a < N → b < N
  moved {a} {b} (inl p) h = subst (λ x. x < N) p h
  moved {a} {b} (inr p) h = p.1

  back : {a b : TermNo} → Range Relation.Eq a b → Range Relation.Eq b a
  back (inl p) = inl (sym p)
  back (inr p) = inr (p.1, p.0)

  range : {R : Relation} {a b : TermNo} → Follows table branch R a b → Range R a b
  range (background.eq_literal {a = a} {b = b} h) = inr (bound_literal branch (length table) h.0 Relation.Eq a b h.1)
  range (background.le_literal {a = a} {b = b} h) = bound_literal branch (length table) h.0 Relation.Le a b h.1
  range background.ref = inl refl
  range (background.sym h) = back (range h)
  range (background.trn h g) = range_trn (range h) (range g)
  range (background.sub p q h ha hb hc hd) = inr (applied p h, applied q h)
  range (background.ler {t = t} s) = (class_range t s, class_range t s)
  range (background.let' h g) = ((range h).0, (range g).1)
  range (background.lea h g) = inr (range h)
  range (background.left e h) = (moved (range e) (range h).0, (range h).1)
  range (background.right e h) = ((range h).0, moved (range e) (range h).1)

  with_right_lem : (a b n : ℕ) → b < n → (has (with_right a n) Relation.Eq a b ≡ true) × (has (with_right a n) Relation.Le a b ≡ true)
  unfolding with_right has relation_index
  with_right_lem a b zero h = absurd (not-suc-le-zero h)
  with_right_lem a b (suc n) h = go (with_right_lem a b n) (dec (eqb b n))
    where
      go : (b < n → (has (with_right a n) Relation.Eq a b ≡ true) × (has (with_right a n) Relation.Le a b ≡ true)) → (eqb b n ≡ true) ⊎ (eqb b n ≡ false)
          → (has (with_right a (suc n)) Relation.Eq a b ≡ true) × (has (with_right a (suc n)) Relation.Le a b ≡ true)
      go ih (inl p) = (or_l (has (literal Relation.Le a n ∷ with_right a n) Relation.Eq a b) (both_i (eqb_same a) p), or_l (has (with_right a n) Relation.Le a b) (both_i (eqb_same a) p))
      go ih (inr p) =
          let k = ih (last_or b n h (λ q. clash (eq-eqb b n q) p)) in
          (or_r (eqb a a && eqb b n) k.0, or_r (eqb a a && eqb b n) k.1)

  append_l : (ls ms : List Literal) (R : Relation) (a b : TermNo) → has ls R a b ≡ true → has (ls ++ ms) R a b ≡ true
  unfolding has
  append_l [] ms R a b h = absurd (false≢true h)
  append_l (literal R' a' b' ∷ ls) ms R a b h = either (same_relation R R' && (eqb a a' && eqb b b')) (has ls R a b) h
      (λ p. or_l (has (ls ++ ms) R a b) p) (λ p. or_r (same_relation R R' && (eqb a a' && eqb b b')) (append_l ls ms R a b p))

  append_r : (ls ms : List Literal) (R : Relation) (a b : TermNo) → has ms R a b ≡ true → has (ls ++ ms) R a b ≡ true
  unfolding has
  append_r [] ms R a b h = h
  append_r (literal R' a' b' ∷ ls) ms R a b h = or_r (same_relation R R' && (eqb a a' && eqb b b')) (append_r ls ms R a b h)

  all_below_lem : (m n a b : ℕ) → a < m → b < n → (has (all_below m n) Relation.Eq a b ≡ true) × (has (all_below m n) Relation.Le a b ≡ true)
  unfolding all_below
  all_below_lem zero n a b h g = absurd (not-suc-le-zero h)
  all_below_lem (suc m) n a b h g = go (all_below_lem m n a b) (dec (eqb a m))
    where
      go : (a < m → b < n → (has (all_below m n) Relation.Eq a b ≡ true) × (has (all_below m n) Relation.Le a b ≡ true)) → (eqb a m ≡ true) ⊎ (eqb a m ≡ false)
          → (has (with_right m n ++ all_below m n) Relation.Eq a b ≡ true) × (has (with_right m n ++ all_below m n) Relation.Le a b ≡ true)
      go ih (inl p) =
          let k = subst (λ x. (has (with_right x n) Relation.Eq a b ≡ true) × (has (with_right x n) Relation.Le a b ≡ true)) (eqb-true a m p) (with_right_lem a b n g) in
          (append_l (with_right m n) (all_below m n) Relation.Eq a b k.0, append_l (with_right m n) (all_below m n) Relation.Le a b k.1)
      go ih (inr p) =
          let k = ih (last_or a m h (λ q. clash (eq-eqb a m q) p)) g in
          (append_r (with_right m n) (all_below m n) Relation.Eq a b k.0, append_r (with_right m n) (all_below m n) Relation.Le a b k.1)

  -- A PAIR THAT IS FOUND. Stated of any list that is closed; the closure is one.
  module _ (known : List Literal) (closed : Saturated known) where
    abbrev Eq : TermNo → TermNo → Bool
    Eq = equal table branch known

    abbrev Le : TermNo → TermNo → Bool
    Le = below table branch known

    abbrev Found : Relation → TermNo → TermNo → Type 0
    Found Relation.Eq a b = Eq a b ≡ true
    Found Relation.Le a b = Le a b ≡ true
    Found Relation.In a b = Unit {0}
    Found Relation.Ni a b = Unit {0}
    Found Relation.Ne a b = Unit {0}
    Found Relation.Nl a b = Unit {0}

    eq_found : (a b : TermNo) → Range Relation.Eq a b → (a < N → b < N → one_step table branch known (literal Relation.Eq a b) ≡ true) → Eq a b ≡ true
    eq_found a b (inl p) s = or_l (has known Relation.Eq a b) (eq-eqb a b p)
    eq_found a b (inr p) s = or_r (eqb a b) (closed Relation.Eq a b (all_below_lem N N a b p.0 p.1).0 (s p.0 p.1))

    le_found : (a b : TermNo) → Range Relation.Le a b → one_step table branch known (literal Relation.Le a b) ≡ true → Le a b ≡ true
    le_found a b p s = closed Relation.Le a b (all_below_lem N N a b p.0 p.1).1 s

    every_i : (k l : Four TermNo) → Eq k.a l.a ≡ true → Eq k.b l.b ≡ true → Eq k.c l.c ≡ true → Eq k.d l.d ≡ true → every Eq k l ≡ true
    every_i k l a b c d = both_i a (both_i b (both_i c d))

    alike_found : (t w : TermNo) (o : Operator) (k l : Four TermNo) → at table t ≡ apply o k → at table w ≡ apply o l → takes_terms o ≡ true → every Eq k l ≡ true
        → alike table branch known (at table t) (at table w) ≡ true
    alike_found t w o k l p q h e = (λ i. alike table branch known (p i) (q i)) ∙ both_i h (both_i (operator_self o) e)

    found : {R : Relation} {a b : TermNo} → Follows table branch R a b → Found R a b
    unfolding one_step
    found (background.eq_literal {a = a} {b = b} h) = eq_found a b (range (background.eq_literal h)) (λ _ _. or_l _ (on_has branch Relation.Eq a b h.0 h.1))
    found (background.le_literal {a = a} {b = b} h) = le_found a b (range (background.le_literal h)) (or_l _ (on_has branch Relation.Le a b h.0 h.1))
    found (background.ref {t = t}) = or_l (has known Relation.Eq t t) (eqb_same t)
    found (background.sym {a = a} {b = b} h) = eq_found b a (range (background.sym h)) (λ _ _. or_r (has branch Relation.Eq b a) (or_l _ (found h)))
    found (background.trn {a = a} {b = b} {c = c} h g) = eq_found a c (range (background.trn h g))
        (λ p _. or_r (has branch Relation.Eq a c) (or_r (Eq c a) (or_l _ (some_in N (λ x. Eq a x && Eq x c) b (moved (range h) p) (both_i (found h) (found g))))))
    found (background.sub {t = t} {w = w} {o = o} {k = k} {l = l} p q h ha hb hc hd) = eq_found t w (range (background.sub p q h ha hb hc hd))
        (λ _ _. or_r (has branch Relation.Eq t w) (or_r (Eq w t) (or_r (between table branch known (λ x. Eq t x && Eq x w))
        (or_l _ (alike_found t w o k l p q h (every_i k l (found ha) (found hb) (found hc) (found hd)))))))
    found (background.ler {t = t} s) = le_found t t (range (background.ler s)) (or_r (has branch Relation.Le t t) (or_l _ (both_i (eqb_same t) (class_term t s))))
    found (background.let' {a = a} {b = b} {c = c} h g) = le_found a c (range (background.let' h g))
        (or_r (has branch Relation.Le a c) (or_r (eqb a c && same_sort Sort.Class (sort_of (at table a))) (or_l _ (some_in N (λ x. Le a x && Le x c) b (range h).1 (both_i (found h) (found g))))))
    found (background.lea {a = a} {b = b} h g) = eq_found a b (range (background.lea h g))
        (λ _ _. or_r (has branch Relation.Eq a b) (or_r (Eq b a) (or_r (between table branch known (λ x. Eq a x && Eq x b))
        (or_r (alike table branch known (at table a) (at table b)) (both_i (found h) (found g))))))
    found (background.left {a = a} {b = b} {c = c} e h) = le_found b c (range (background.left e h))
        (or_r (has branch Relation.Le b c) (or_r (eqb b c && same_sort Sort.Class (sort_of (at table b))) (or_r (between table branch known (λ x. Le b x && Le x c))
        (or_l _ (some_in N (λ x. Eq x b && Le x c) a (range h).0 (both_i (found e) (found h)))))))
    found (background.right {a = a} {b = b} {c = c} e h) = le_found a c (range (background.right e h))
        (or_r (has branch Relation.Le a c) (or_r (eqb a c && same_sort Sort.Class (sort_of (at table a))) (or_r (between table branch known (λ x. Le a x && Le x c))
        (or_r (between table branch known (λ x. Eq x a && Le x c)) (some_in N (λ x. Eq x c && Le a x) b (range h).1 (both_i (found e) (found h)))))))

  -- EXACTLY: what is computed is the definition
  denies_out : (ls : List Literal) → any_denies table branch (closure table branch) ls ≡ true → (l : Literal) × On ls l × (denies table branch (closure table branch) l ≡ true)
  unfolding any_denies
  denies_out [] h = absurd (false≢true h)
  denies_out (l ∷ ls) h = go (denies_out ls) (one_true (denies table branch (closure table branch) l) (any_denies table branch (closure table branch) ls) h)
    where
      go : (any_denies table branch (closure table branch) ls ≡ true → (l : Literal) × On ls l × (denies table branch (closure table branch) l ≡ true))
          → (denies table branch (closure table branch) l ≡ true) ⊎ (any_denies table branch (closure table branch) ls ≡ true)
          → (m : Literal) × On (l ∷ ls) m × (denies table branch (closure table branch) m ≡ true)
      go ih (inl p) = (l, (0, refl), p)
      go ih (inr p) = let k = ih p in (k.0, (suc k.1.0, k.1.1), k.2)

  denies_in : (ls : List Literal) (i : ℕ) (l : Literal) → slice_get ls i ≡ Some l → denies table branch (closure table branch) l ≡ true
      → any_denies table branch (closure table branch) ls ≡ true
  unfolding any_denies
  denies_in [] i l e h = none≢some e
  denies_in (x ∷ ls) zero l e h = or_l _ (ap (denies table branch (closure table branch)) (some_inj e) ∙ h)
  denies_in (x ∷ ls) (suc i) l e h = or_r (denies table branch (closure table branch) x) (denies_in ls i l e h)

  denied : (l : Literal) → On branch l → denies table branch (closure table branch) l ≡ true → Contradicted table branch
  denied (literal Relation.Ne a b) o h = by_ne o (equal_sound (closure table branch) closure_sound a b h)
  denied (literal Relation.Nl a b) o h = by_nl o (closure_sound Relation.Le a b h)
  denied (literal Relation.In a b) o h = absurd (false≢true h)
  denied (literal Relation.Ni a b) o h = absurd (false≢true h)
  denied (literal Relation.Eq a b) o h = absurd (false≢true h)
  denied (literal Relation.Le a b) o h = absurd (false≢true h)

  pub contradicted_only : contradicted table branch ≡ true → Contradicted table branch
  unfolding contradicted
  contradicted_only h = let k = denies_out branch h in denied k.0 k.1 k.2

  pub contradicted_if : Contradicted table branch → contradicted table branch ≡ true
  unfolding contradicted
  contradicted_if (by_ne {a = a} {b = b} o h) = denies_in branch o.0 (literal Relation.Ne a b) o.1 (found (closure table branch) closure_closed h)
  contradicted_if (by_nl {a = a} {b = b} o h) = denies_in branch o.0 (literal Relation.Nl a b) o.1 (found (closure table branch) closure_closed h)

-- `bck` CLOSES EXACTLY WHEN the request says so
pub exactly_contradicted : ExactlyContradicted contradicted
exactly_contradicted table branch = (contradicted_only table branch, contradicted_if table branch)
