-- The clauses that C lines make: numbered from 1 without gaps, each with a literal.
use mathlib.Core.Path.{◌≡◌, refl, sym, ◌∙◌, ap}
use mathlib.Core.Bool.{Bool, true, false, cond}
use mathlib.Core.List.{List, [], ◌∷◌, ◌++◌, append_assoc, append-nil}
use mathlib.Core.Logic.{◌⊎◌, inl, inr}
use Prim.Native.Nat.{ℕ, suc, ◌+◌, ◌≤◌, ◌<◌}
use native.Mathlib.Omega.{arith}
use lib.Dec.{eqb, leb, ltb}
use lib.ListN.{length, length-append}
use borrow.Author.Tests.{eqb-true, eqb-false, leb-true, ltb-true, ne_eqb}
use Rattle.tableau.specs.declared.Relation.{Relation}
use Rattle.tableau.specs.Basics.{Four, four}
use Rattle.tableau.specs.Words.{Command, make, assume, disjoin, infer}
use Rattle.tableau.specs.Fields.{sides, clause_fields}
use Rattle.tableau.specs.Terms.{ClauseNo, Table, Disjunct, Clauses, clause_of, last_clause}
use Rattle.tableau.specs.Reply.{State, literal_line, max_disjuncts, max_clause_lines, last_or_next, takes_disjunct}
use Rattle.tableau.specs.Claims.{clauses_in, count_clauses}
use Rattle.tableau.proofs.Bools.{both_true, one_true, dec}
use Rattle.tableau.proofs.Checks.{Did, LinePassed, Run, done, next}
use Rattle.tableau.proofs.Soundness.{line_clauses}

-- A LITERAL MORE: the number of the last clause, and each clause after it
pub last_after : (C : Clauses) (d : Disjunct) → last_clause (C ++ (d ∷ [])) ≡ d.clause
unfolding last_clause
last_after [] d = refl
last_after (x ∷ []) d = refl
last_after (x ∷ y ∷ C) d = last_after (y ∷ C) d

pub clause_append : (C D : Clauses) (k : ClauseNo) → clause_of (C ++ D) k ≡ clause_of C k ++ clause_of D k
unfolding clause_of
clause_append [] D k = refl
clause_append (x ∷ C) D k = go (eqb x.clause k) (clause_append C D k)
  where
    go : (b : Bool) → clause_of (C ++ D) k ≡ clause_of C k ++ clause_of D k
        → cond b (x.is ∷ clause_of (C ++ D) k) (clause_of (C ++ D) k) ≡ cond b (x.is ∷ clause_of C k) (clause_of C k) ++ clause_of D k
    go true e = ap (λ y. x.is ∷ y) e
    go false e = e

pub clause_after : (C : Clauses) (d : Disjunct) (k : ClauseNo) → clause_of (C ++ (d ∷ [])) k ≡ clause_of C k ++ cond (eqb d.clause k) (d.is ∷ []) []
unfolding clause_of
clause_after C d k = clause_append C (d ∷ []) k

-- HOW MANY THERE ARE: the number of the last
-- the number of the last, where another stands before
abbrev last_from : ClauseNo → Clauses → ClauseNo
last_from k [] = k
last_from k (d ∷ C) = last_from d.clause C

last_from_lem : (C : Clauses) → last_from 0 C ≡ last_clause C
unfolding last_clause
last_from_lem [] = refl
last_from_lem (d ∷ []) = refl
last_from_lem (d ∷ e ∷ C) = last_from_lem (e ∷ C)

count_after : (k : ClauseNo) (C : Clauses) (d : Disjunct) → count_clauses k (C ++ (d ∷ [])) ≡ count_clauses k C + cond (eqb d.clause (last_from k C)) 0 1
unfolding count_clauses
count_after k [] d = go (eqb d.clause k)
  where
    go : (b : Bool) → cond b 0 1 ≡ 0 + cond b 0 1
    go true = refl
    go false = refl
count_after k (x ∷ C) d = go (eqb x.clause k) (count_after x.clause C d)
  where
    go : (b : Bool) → count_clauses x.clause (C ++ (d ∷ [])) ≡ count_clauses x.clause C + cond (eqb d.clause (last_from x.clause C)) 0 1
        → cond b (count_clauses x.clause (C ++ (d ∷ []))) (suc (count_clauses x.clause (C ++ (d ∷ []))))
        ≡ cond b (count_clauses x.clause C) (suc (count_clauses x.clause C)) + cond (eqb d.clause (last_from x.clause C)) 0 1
    go true e = e
    go false e = rw e (omega arith)

-- a literal that passed check 21
count_last_after : (C : Clauses) (d : Disjunct) → last_or_next C d.clause ≡ true → count_clauses 0 C ≡ last_clause C → count_clauses 0 (C ++ (d ∷ [])) ≡ last_clause (C ++ (d ∷ []))
count_last_after C d h n = rw (count_after 0 C d, last_from_lem C, last_after C d) (go (one_true (eqb d.clause (last_clause C)) _ (both_true (leb 1 d.clause) _ h).1))
  where
    go : (eqb d.clause (last_clause C) ≡ true) ⊎ (eqb d.clause (suc (last_clause C)) ≡ true) → count_clauses 0 C + cond (eqb d.clause (last_clause C)) 0 1 ≡ d.clause
    go (inl e) = rw (e, n) (omega (arith, eqb-true d.clause (last_clause C) e))
    go (inr e) = let q = eqb-true d.clause (suc (last_clause C)) e in rw (ne_eqb d.clause (last_clause C) (λ z. omega arith), n) (omega arith)

-- WHAT IS SO OF ALL CLAUSES
pub record InSequence (C : Clauses) : Type 0 where
  pub counted : count_clauses 0 C ≡ last_clause C
  pub each : (k : ClauseNo) → 1 ≤ k → k ≤ last_clause C → 0 < length (clause_of C k)
  pub none : (k : ClauseNo) → 0 < length (clause_of C k) → (1 ≤ k) × (k ≤ last_clause C)
  pub short : (k : ClauseNo) → length (clause_of C k) ≤ max_disjuncts
  pub few : length C ≤ max_clause_lines

pub no_clauses : InSequence []
unfolding clause_of last_clause count_clauses
no_clauses = record { counted = refl; each = λ k a b. absurd (omega arith); none = λ k n. absurd (omega arith); short = λ k. omega arith; few = omega arith }

-- a literal that passed check 21
pub record Fitting (C : Clauses) (k : ClauseNo) : Type 0 where
  pub positive : 1 ≤ k
  pub is : (k ≡ last_clause C) ⊎ (k ≡ suc (last_clause C))
  pub least : last_clause C ≤ k
  pub most : k ≤ suc (last_clause C)
  pub short : length (clause_of C k) < max_disjuncts
  pub few : length C < max_clause_lines

pub fitting : (C : Clauses) (k : ClauseNo) → takes_disjunct C k ≡ true → Fitting C k
fitting C k h =
    let a = both_true (last_or_next C k) _ h in
    let b = both_true (leb 1 k) _ a.0 in
    let c = both_true (ltb (length (clause_of C k)) max_disjuncts) _ a.1 in
    let n = number (one_true (eqb k (last_clause C)) _ b.1) in
    record { positive = leb-true 1 k b.0; is = n.0; least = n.1; most = n.2; short = ltb-true _ _ c.0; few = ltb-true _ _ c.1 }
  where
    number : (eqb k (last_clause C) ≡ true) ⊎ (eqb k (suc (last_clause C)) ≡ true) → ((k ≡ last_clause C) ⊎ (k ≡ suc (last_clause C))) × (last_clause C ≤ k) × (k ≤ suc (last_clause C))
    number (inl h) = let e = eqb-true k (last_clause C) h in (inl e, omega (arith, e), omega (arith, e))
    number (inr h) = let e = eqb-true k (suc (last_clause C)) h in (inr e, omega (arith, e), omega (arith, e))

module _ (C : Clauses) (d : Disjunct) (s : InSequence C) (h : takes_disjunct C d.clause ≡ true) where
  abbrev C' : Clauses
  C' = C ++ (d ∷ [])

  abbrev ok : Fitting C d.clause
  ok = fitting C d.clause h

  -- the length of each clause after it: one more where it has the number, else the same
  abbrev Longer : ClauseNo → Type 0
  Longer k = ((d.clause ≡ k) × (length (clause_of C' k) ≡ suc (length (clause_of C k)))) ⊎ ((d.clause ≡ k → ⊥) × (length (clause_of C' k) ≡ length (clause_of C k)))

  longer : (k : ClauseNo) → Longer k
  longer k = go (dec (eqb d.clause k))
    where
      after : (b : Bool) → eqb d.clause k ≡ b → length (clause_of C' k) ≡ length (clause_of C k) + length (cond b (d.is ∷ []) [])
      after b e = ap length (clause_after C d k ∙ ap (λ x. clause_of C k ++ cond x (d.is ∷ []) []) e) ∙ length-append (clause_of C k) (cond b (d.is ∷ []) [])

      go : (eqb d.clause k ≡ true) ⊎ (eqb d.clause k ≡ false) → Longer k
      go (inl e) = inl (eqb-true d.clause k e, after true e ∙ omega arith)
      go (inr e) = inr (eqb-false d.clause k e, after false e ∙ omega arith)

  each_after : (k : ClauseNo) → 1 ≤ k → k ≤ d.clause → Longer k → 0 < length (clause_of C' k)
  each_after k a b (inl e) = omega (arith, e.1)
  each_after k a b (inr e) = omega (arith, s.each k a (omega (arith, e.0, ok.most)), e.1)

  none_after : (k : ClauseNo) → 0 < length (clause_of C' k) → Longer k → (1 ≤ k) × (k ≤ d.clause)
  none_after k n (inl e) = (omega (arith, e.0, ok.positive), omega (arith, e.0))
  none_after k n (inr e) = let m = s.none k (omega (arith, e.1)) in (m.0, omega (arith, m.1, ok.least))

  short_after : (k : ClauseNo) → Longer k → length (clause_of C' k) ≤ max_disjuncts
  short_after k (inl e) = omega (arith, ok.short, ap (λ j. length (clause_of C j)) e.0, e.1)
  short_after k (inr e) = omega (arith, e.1, s.short k)

  pub in_sequence_after : InSequence C'
  in_sequence_after = record {
    counted = count_last_after C d (both_true (last_or_next C d.clause) _ h).0 s.counted;
    each = λ k a b. each_after k a (rw (last_after C d) at b) (longer k);
    none = λ k n. rw (last_after C d) (none_after k n (longer k));
    short = λ k. short_after k (longer k);
    few = omega (arith, length-append C (d ∷ []), ok.few);
  }

-- ALONG A RUN
line_in_sequence : {σ σ' : State} {l : List ℕ} (p : LinePassed σ l σ') → InSequence σ.clauses → InSequence σ'.clauses
line_in_sequence {σ} {σ'} p n = go p.command p.run.did
  where
    go : (c : Command) → Did σ p.tree c p.line.fields σ' → InSequence σ'.clauses
    go (make w) d = rw d.2 n
    go (assume R) d = rw d.3 n
    go (disjoin R) d = rw d.2.after (in_sequence_after σ.clauses _ n d.2.fits)
    go (infer x) d = rw d.2 n

pub run_in_sequence : {σ τ : State} {ls : List (List ℕ)} → Run LinePassed σ ls τ → InSequence σ.clauses → InSequence τ.clauses
run_in_sequence done n = n
run_in_sequence (next p r) n = run_in_sequence r (line_in_sequence p n)

pub run_clauses : {σ τ : State} {ls : List (List ℕ)} → Run LinePassed σ ls τ → τ.clauses ≡ σ.clauses ++ clauses_in ls
unfolding clauses_in
run_clauses {σ} done = sym (append-nil σ.clauses)
run_clauses {σ} (next {ls = ls} p r) = run_clauses r ∙ ap (λ x. x ++ clauses_in ls) (line_clauses p) ∙ append_assoc σ.clauses _ (clauses_in ls)

-- CHECKS 6, 8 AND 9 of a C line are those of an A line with its two sides: its clause number is asked nothing there
pub disjunct_as_assumption : (table : Table) (R : Relation) (n : Four ℕ) → literal_line table (clause_fields R) R n ≡ literal_line table (sides R) R (four n.a n.b 0 n.d)
unfolding literal_line sides
disjunct_as_assumption table Relation.In n = refl
disjunct_as_assumption table Relation.Ni n = refl
disjunct_as_assumption table Relation.Eq n = refl
disjunct_as_assumption table Relation.Ne n = refl
disjunct_as_assumption table Relation.Le n = refl
disjunct_as_assumption table Relation.Nl n = refl
