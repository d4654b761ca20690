-- A table stays well formed as a T line that passes its checks adds to it.
use mathlib.Core.Path.{◌≡◌, refl, sym, ◌∙◌, ap, subst}
use mathlib.Core.Bool.{Bool, true, false, cond, true≢false}
use mathlib.Core.List.{[], ◌∷◌, ◌++◌}
use Rattle.std.specs.Prelude.{None, Some}
use mathlib.Core.Logic.{◌⊎◌, inl, inr}
use Prim.Native.Nat.{ℕ, zero, suc, ◌<◌, ◌≤◌}
use native.Mathlib.Nat.{not-suc-le-zero}
use native.Mathlib.Omega.{arith}
use lib.Dec.{eqb, leb, eqb-suc-suc, eqb-suc-zero, eqb-zero-suc}
use lib.ListN.{length}
use borrow.Author.Tests.{eqb-true, leb-true, leb-false}
use Rattle.tableau.specs.declared.Sort.{Sort}
use Rattle.tableau.specs.Fields.{Argument, unused, of, arguments}
use Rattle.tableau.specs.Terms.{TermNo, Name, Table, Term, variable, apply, at, no_term, number_from, number_of, result, sort_of, sort_index, operator_index, same_term}
use Rattle.tableau.proofs.Bools.{dec, clash, eqb_same, none≢some, both_i}
use Rattle.tableau.proofs.WellFormed.{OkArgument, OkTerm, WellFormed}

-- a term that passes a test which `nul` fails stands in the table: other numbers are read as `nul`
pub inside : (f : Term → Bool) → f no_term ≡ false → (table : Table) (t : TermNo) → f (at table t) ≡ true → (0 < t) × (t ≤ length table)
inside f z [] t h = clash h z
inside f z (e ∷ es) zero h = clash h z
inside f z (e ∷ es) (suc zero) h = (omega arith, omega arith)
inside f z (e ∷ es) (suc (suc n)) h = let k = inside f z es (suc n) h in let l : suc n ≤ length es = k.1 in (omega arith, omega arith)

-- the table with one term more
pub at_snoc : (table : Table) (e : Term) (t : TermNo) → at (table ++ (e ∷ [])) t ≡ cond (eqb t (suc (length table))) e (at table t)
at_snoc [] e zero = refl
at_snoc [] e (suc zero) = refl
at_snoc [] e (suc (suc n)) = sym (ap (λ b. cond b e no_term) (eqb-suc-suc (suc n) 0 ∙ eqb-suc-zero n))
at_snoc (x ∷ xs) e zero = sym (ap (λ b. cond b e no_term) (eqb-zero-suc (suc (length xs))))
at_snoc (x ∷ xs) e (suc zero) = sym (ap (λ b. cond b e x) (eqb-suc-suc 0 (suc (length xs)) ∙ eqb-zero-suc (length xs)))
at_snoc (x ∷ xs) e (suc (suc n)) = at_snoc xs e (suc n) ∙ ap (λ b. cond b e (at xs (suc n))) (sym (eqb-suc-suc (suc n) (suc (length xs))))

pub at_zero : (table : Table) → at table 0 ≡ no_term
at_zero [] = refl
at_zero (x ∷ xs) = refl

pub at_beyond : (table : Table) (t : TermNo) → length table < t → at table t ≡ no_term
at_beyond [] t h = refl
at_beyond (x ∷ xs) zero h = refl
at_beyond (x ∷ xs) (suc zero) h = absurd (omega arith)
at_beyond (x ∷ xs) (suc (suc n)) h = at_beyond xs (suc n) (omega arith)

pub same_term_refl : (e : Term) → same_term e e ≡ true
same_term_refl (variable s n) = both_i (eqb_same (sort_index s)) (eqb_same n)
same_term_refl (apply o k) =
    both_i (eqb_same (operator_index o)) (both_i (eqb_same k.a) (both_i (eqb_same k.b) (both_i (eqb_same k.c) (eqb_same k.d))))

-- what is not found does not stand there
not_found : (i : ℕ) (table : Table) (e : Term) → number_from i table e ≡ None → (k : ℕ) → k < length table → at table (suc k) ≡ e → ⊥
unfolding number_from
not_found i [] e h k l q = not-suc-le-zero l
not_found i (x ∷ xs) e h k l q = go (not_found (suc i) xs e) k l q (same_term e x) refl h
  where
    go : (number_from (suc i) xs e ≡ None → (k : ℕ) → k < length xs → at xs (suc k) ≡ e → ⊥) → (k : ℕ) → k < suc (length xs) → at (x ∷ xs) (suc k) ≡ e
        → (b : Bool) → same_term e x ≡ b → cond b (Some i) (number_from (suc i) xs e) ≡ None → ⊥
    go ih k l q true s h = none≢some (sym h)
    go ih zero l q false s h = clash (ap (same_term e) q ∙ same_term_refl e) s
    go ih (suc k) l q false s h = ih h k (omega arith) q

-- tables that agree below t have the same arguments there
move_argument : (f f' : TermNo → Term) (t : TermNo) → ((m : ℕ) → m < t → f' m ≡ f m) → (k : Argument) (n : ℕ) → OkArgument f t k n → OkArgument f' t k n
unfolding result
move_argument f f' t h unused n ok = ok
move_argument f f' t h (of s) n ok = (ok.0, ap sort_of (h n ok.0) ∙ ok.1)

move : (f f' : TermNo → Term) (t : TermNo) → ((m : ℕ) → m < t → f' m ≡ f m) → (e : Term) → OkTerm f t e → OkTerm f' t e
move f f' t h (variable s n) ok = tt
move f f' t h (apply o k) ok = (
  move_argument f f' t h (arguments o).a k.a ok.0,
  move_argument f f' t h (arguments o).b k.b ok.1,
  move_argument f f' t h (arguments o).c k.c ok.2,
  move_argument f f' t h (arguments o).d k.d ok.3,
)

ok_no_term : (f : TermNo → Term) (t : TermNo) → OkTerm f t no_term
unfolding arguments
ok_no_term f t = (tt, tt, tt, tt)

no_variable : {A : Type 0} (e : Term) (s : Sort) (n : Name) → e ≡ no_term → e ≡ variable s n → A
no_variable e s n p q = let z : true ≡ false = cc in absurd (true≢false z)

pub empty_well_formed : WellFormed (at [])
empty_well_formed = record { ok = λ t. ok_no_term (at []) t; unique = λ t t' s n p q. no_variable no_term s n refl p }

module _ (table : Table) (e : Term) (wf : WellFormed (at table)) (ok : OkTerm (at table) (suc (length table)) e) (new : number_of table e ≡ None) where
  abbrev n : ℕ
  n = length table

  abbrev grown : TermNo → Term
  grown = at (table ++ (e ∷ []))

  old : (t : TermNo) → eqb t (suc n) ≡ false → grown t ≡ at table t
  old t h = at_snoc table e t ∙ ap (λ b. cond b e (at table t)) h

  here : (t : TermNo) → eqb t (suc n) ≡ true → grown t ≡ e
  here t h = at_snoc table e t ∙ ap (λ b. cond b e (at table t)) h

  not_last : (t : TermNo) → t ≤ n → eqb t (suc n) ≡ false
  not_last t h = elim (dec (eqb t (suc n))) [ inl q ↦ absurd (omega (arith, eqb-true t (suc n) q)) | inr q ↦ q ]

  below : (t : TermNo) → t ≤ suc n → (m : TermNo) → m < t → grown m ≡ at table m
  below t h m l = old m (not_last m (omega arith))

  good : (t : TermNo) → (eqb t (suc n) ≡ true) ⊎ (eqb t (suc n) ≡ false) → (leb t n ≡ true) ⊎ (leb t n ≡ false) → OkTerm grown t (grown t)
  good t (inl q) c = subst (OkTerm grown t) (sym (here t q))
      (subst (λ m. OkTerm grown m e) (sym (eqb-true t (suc n) q)) (move (at table) grown (suc n) (below (suc n) (omega arith)) e ok))
  good t (inr q) (inl c) =
      let l : t ≤ n = leb-true t n c in
      subst (OkTerm grown t) (sym (old t q)) (move (at table) grown t (below t (omega arith)) (at table t) (wf.ok t))
  good t (inr q) (inr c) = subst (OkTerm grown t) (sym (old t q ∙ at_beyond table t (leb-false t n c))) (ok_no_term grown t)

  -- the new term is no variable that the table has
  no_second : (t : TermNo) (s : Sort) (m : Name) → e ≡ variable s m → at table t ≡ variable s m → ⊥
  no_second zero s m p q = no_variable (at table 0) s m (at_zero table) q
  no_second (suc t) s m p q = elim (dec (leb (suc t) n)) [
    | inl c ↦ not_found 1 table e new t (leb-true (suc t) n c) (q ∙ sym p)
    | inr c ↦ no_variable (at table (suc t)) s m (at_beyond table (suc t) (leb-false (suc t) n c)) q
  ]

  only_one : (t t' : TermNo) (s : Sort) (m : Name) → grown t ≡ variable s m → grown t' ≡ variable s m
      → (eqb t (suc n) ≡ true) ⊎ (eqb t (suc n) ≡ false) → (eqb t' (suc n) ≡ true) ⊎ (eqb t' (suc n) ≡ false) → t ≡ t'
  only_one t t' s m p q (inl a) (inl b) = eqb-true t (suc n) a ∙ sym (eqb-true t' (suc n) b)
  only_one t t' s m p q (inl a) (inr b) = absurd (no_second t' s m (sym (here t a) ∙ p) (sym (old t' b) ∙ q))
  only_one t t' s m p q (inr a) (inl b) = absurd (no_second t s m (sym (here t' b) ∙ q) (sym (old t a) ∙ p))
  only_one t t' s m p q (inr a) (inr b) = wf.unique t t' s m (sym (old t a) ∙ p) (sym (old t' b) ∙ q)

  pub grown_well_formed_lem : WellFormed grown
  grown_well_formed_lem = record {
    ok = λ t. good t (dec (eqb t (suc n))) (dec (leb t n));
    unique = λ t t' s m p q. only_one t t' s m p q (dec (eqb t (suc n))) (dec (eqb t' (suc n)));
  }
