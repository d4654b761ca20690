-- The last line of a clause, and the first clause with no true literal.
use mathlib.Core.Path.{◌≡◌, refl, sym, ◌∙◌, ap, subst}
use mathlib.Core.Bool.{Bool, true, false, cond}
use mathlib.Core.List.{List, [], ◌∷◌, ◌++◌}
use mathlib.Core.Logic.{◌⊎◌, inl, inr}
use Prim.Native.Nat.{ℕ, zero, suc, ◌+◌, ◌≤◌, ◌<◌}
use native.Mathlib.Nat.{eq-or-lt_of_le, le_of_suc-le-suc}
use native.Mathlib.Omega.{arith}
use lib.Dec.{eqb, leb}
use lib.ListN.{length}
use borrow.Author.Tests.{eqb-true, leb-true, leb-false}
use Rattle.tableau.specs.File.{letters, rank, shape}
use Rattle.tableau.specs.Terms.{TermNo, ClauseNo, Term, Literal, Disjunct, Clauses, clause_of, last_clause, at, lines_to}
use Rattle.tableau.specs.Meaning.{FiniteHeap, Values, AllTrue, AnyTrue}
use Rattle.tableau.specs.Reply.{State}
use Rattle.tableau.specs.Claims.{line_disjunct, terms_in, literals_in, clauses_in}
use Rattle.tableau.proofs.Bools.{clash, dec}
use Rattle.tableau.proofs.Checks.{LinePassed, Run, done, next}
use Rattle.tableau.proofs.ClauseLaws.{InSequence}
use Rattle.evaluation.specs.Evaluation.{is_true, any_passes, first_false_clause}
use Rattle.evaluation.specs.Claims.{Says, all_true, false_clause_at}
use Rattle.evaluation.proofs.Decision.{any_iff}
use Rattle.evaluation.proofs.FilesRead.{NoSteps, OneAdded, term, assumption, disjunct, one_added, no_terms, no_literals_lem}

-- THE LAST LINE OF CLAUSE k: its number is that of all T and A lines and of the C lines up to it
record LastLine (k : ClauseNo) (ls : List (List ℕ)) : Type 0 where
  pub before : List (List ℕ)
  pub line : List ℕ
  pub after : List (List ℕ)
  pub is : Literal
  pub whole : ls ≡ before ++ (line ∷ after)
  pub here : line_disjunct (shape letters line) ≡ record { clause = k; is = is } ∷ []
  pub none : clause_of (clauses_in after) k ≡ []
  pub number : suc (length before) ≡ length (terms_in ls) + length (literals_in ls) + lines_to (clauses_in ls) k

-- a list that is not 1 long or longer
no_length : {A : Type 0} (xs : List A) → leb 1 (length xs) ≡ false → xs ≡ []
no_length [] h = refl
no_length (x ∷ xs) h = absurd (omega (arith, leb-false 1 (length (x ∷ xs)) h))

-- the lines up to the last of a clause, where the first of the C lines has another behind it, or is that last itself
lines_behind : (d : Disjunct) (C : Clauses) (k : ClauseNo) → leb 1 (length (clause_of C k)) ≡ true → lines_to (d ∷ C) k ≡ suc (lines_to C k)
unfolding lines_to
lines_behind d C k h = rw h

lines_here : (d : Disjunct) (C : Clauses) (k : ClauseNo) → leb 1 (length (clause_of C k)) ≡ false → eqb d.clause k ≡ true → lines_to (d ∷ C) k ≡ 1
unfolding lines_to
lines_here d C k h e = rw (h, e)

-- by the lines from the front: behind a C line there are C lines alone
last_line : {σ τ : State} {ls : List (List ℕ)} (k : ClauseNo) → Run LinePassed σ ls τ → NoSteps ls → 0 < length (clause_of (clauses_in ls) k) → LastLine k ls
unfolding terms_in literals_in clauses_in clause_of rank
last_line k done n h = absurd (omega arith)
last_line {σ} k (next {σ' = σ'} {l = l} {ls = ls} p r) n h = go (one_added p n.0) (last_line k r n.1)
  where
    -- the last line stands further behind
    later : (x : LastLine k ls) → suc (suc (length x.before)) ≡ length (terms_in (l ∷ ls)) + length (literals_in (l ∷ ls)) + lines_to (clauses_in (l ∷ ls)) k → LastLine k (l ∷ ls)
    later x e = record {
      before = l ∷ x.before;
      line = x.line;
      after = x.after;
      is = x.is;
      whole = ap (λ y. l ∷ y) x.whole;
      here = x.here;
      none = x.none;
      number = e;
    }

    -- this is the last line of its clause
    this : (d : Disjunct) → line_disjunct (shape letters l) ≡ d ∷ [] → terms_in (l ∷ ls) ≡ [] → literals_in (l ∷ ls) ≡ []
        → leb 1 (length (clause_of (clauses_in ls) k)) ≡ false → (eqb d.clause k ≡ true) ⊎ (eqb d.clause k ≡ false) → LastLine k (l ∷ ls)
    this d w t a b (inl e) = record {
      before = [];
      line = l;
      after = ls;
      is = d.is;
      whole = refl;
      here = w ∙ ap (λ (j : ClauseNo). record { clause = j; is = d.is } ∷ []) (eqb-true d.clause k e);
      none = no_length (clause_of (clauses_in ls) k) b;
      number = rw (t, a, w, lines_here d (clauses_in ls) k b e) (omega arith);
    }
    this d w t a b (inr e) = absurd (omega (arith, leb-false 1 (length (clause_of (clauses_in ls) k)) b, rw (w, e) at h))

    go : OneAdded σ l σ' → (0 < length (clause_of (clauses_in ls) k) → LastLine k ls) → LastLine k (l ∷ ls)
    go (term t u v w o) ih = let x = ih (rw w at h) in later x (rw (u, v, w) (omega (arith, x.number)))
    go (assumption L u v w o m) ih = let x = ih (rw w at h) in later x (rw (u, v, w) (omega (arith, x.number)))
    go (disjunct d u v w m) ih = which (dec (leb 1 (length (clause_of (clauses_in ls) k))))
      where
        which : (leb 1 (length (clause_of (clauses_in ls) k)) ≡ true) ⊎ (leb 1 (length (clause_of (clauses_in ls) k)) ≡ false) → LastLine k (l ∷ ls)
        which (inl b) = let x = ih (leb-true 1 _ b) in later x (rw (u, v, w, lines_behind d (clauses_in ls) k b) (omega (arith, x.number)))
        which (inr b) = this d w (rw u (no_terms r n.1 (rw m))) (rw v (no_literals_lem r n.1 m)) b (dec (eqb d.clause k))

-- THE FIRST CLAUSE WITH NO TRUE LITERAL: the clauses are numbered from 1 without gaps, and each has a literal
module _ {H : FiniteHeap} (ρ : Values H) {σ τ : State} {file : List (List ℕ)} (r : Run LinePassed σ file τ) (n : NoSteps file) (s : InSequence (clauses_in file)) where
  abbrev table : TermNo → Term
  table = at (terms_in file)

  -- each clause before k has a true literal
  abbrev MetBefore : ClauseNo → Type 0
  MetBefore k = (j : ClauseNo) → j < k → 0 < length (clause_of (clauses_in file) j) → AnyTrue ρ table (clause_of (clauses_in file) j)

  -- and clause k has one too
  one_more : (k : ClauseNo) → MetBefore k → AnyTrue ρ table (clause_of (clauses_in file) k) → MetBefore (suc k)
  one_more k met t j l = go (eq-or-lt_of_le (le_of_suc-le-suc l))
    where
      go : (j ≡ k) ⊎ (j < k) → 0 < length (clause_of (clauses_in file) j) → AnyTrue ρ table (clause_of (clauses_in file) j)
      go (inl e) h = subst (λ (i : ClauseNo). AnyTrue ρ table (clause_of (clauses_in file) i)) (sym e) t
      go (inr m) h = met j m h

  -- from clause k on, of which m are left
  false_clause_from : AllTrue ρ table (literals_in file) → (k m : ℕ) → 1 ≤ k → k + m ≡ suc (last_clause (clauses_in file)) → MetBefore k
      → Says ρ file (first_false_clause (is_true ρ table) (length (terms_in file) + length (literals_in file)) (clauses_in file) k m)
  unfolding first_false_clause
  false_clause_from t k zero o c met = all_true t (λ j h. met j (omega (arith, (s.none j h).1)) h)
  false_clause_from t k (suc m) o c met = go (false_clause_from t (suc k) m (omega arith) (omega arith)) (any_passes (is_true ρ table) (clause_of (clauses_in file) k)) refl
    where
      i : ℕ
      i = length (terms_in file) + length (literals_in file)

      go : (MetBefore (suc k) → Says ρ file (first_false_clause (is_true ρ table) i (clauses_in file) (suc k) m)) → (b : Bool) → any_passes (is_true ρ table) (clause_of (clauses_in file) k) ≡ b
          → Says ρ file (cond b (first_false_clause (is_true ρ table) i (clauses_in file) (suc k) m) (i + lines_to (clauses_in file) k))
      go later true e = later (one_more k met ((any_iff ρ table (clause_of (clauses_in file) k)).0 e))
      go later false e =
          let x = last_line k r n (s.each k o (omega arith)) in
          subst (Says ρ file) x.number
          (false_clause_at x.before x.line x.after k x.is x.whole x.here x.none t met (λ h. clash ((any_iff ρ table (clause_of (clauses_in file) k)).1 h) e))

  -- from the first clause on
  pub says_false_clause : AllTrue ρ table (literals_in file)
      → Says ρ file (first_false_clause (is_true ρ table) (length (terms_in file) + length (literals_in file)) (clauses_in file) 1 (last_clause (clauses_in file)))
  says_false_clause t = false_clause_from t 1 (last_clause (clauses_in file)) (omega arith) (omega arith) (λ j l h. absurd (omega (arith, (s.none j h).0)))
