-- A line of any letter, by check 2 of the letter, check 3 and the lines of each letter.
use mathlib.Core.Path.{◌≡◌, refl, sym, ◌∙◌, subst}
use mathlib.Core.Bool.{true, false, not}
use mathlib.Core.List.{List, [], ◌∷◌}
use Rattle.std.specs.Prelude.{None, Some, Result, Ok, Err, IfOk}
use Prim.Native.Nat.{ℕ}
use borrow.Author.Tests.{not-true, not-false}
use Rattle.std.specs.Ordering.{partial_lt}
use Rattle.tableau.specs.contracts.LetterPartialOrd.TheImpl.{partial_cmp-value}
use Rattle.tableau.specs.declared.Letter.{Letter}
use Rattle.tableau.specs.declared.Reason.{Reason}
use Rattle.tableau.specs.Basics.{lookup}
use Rattle.tableau.specs.File.{letters, rank, in_order}
use Rattle.tableau.specs.Terms.{Table, Clauses}
use Rattle.lines.specs.declared.LineFields.{LineFields}
use Rattle.clauses.specs.Held.{ClausesHeld}
use Rattle.clauses.proofs.Laws.{none_yet}
use Rattle.terms.specs.Arrays.{Arrays, Held}
use Rattle.freshness.specs.Prefixes.{PrefixRows}
use Rattle.freshness.proofs.PrefixLaws.{prefix_less, prefix_restart}
use Rattle.growth.specs.declared.Progress.{Progress}
use Rattle.growth.specs.declared.LineEffect.{LineEffect}
use Rattle.running.proofs.Lines.{run_unlettered, run_disordered}
use Rattle.line_checks.specs.Checks.{Made, TermDone, Kept, AssumptionDone, Joined, DisjunctDone}
use Rattle.line_checks.specs.Checks.{HeldBy, LineDone}

-- check 3 compares the letters by the order of their declaration
compared : (last k : Letter) → partial_lt partial_cmp-value.it k last ≡ not (in_order last k)
unfolding rank
compared Letter.T Letter.T = refl
compared Letter.T Letter.A = refl
compared Letter.T Letter.C = refl
compared Letter.T Letter.S = refl
compared Letter.A Letter.T = refl
compared Letter.A Letter.A = refl
compared Letter.A Letter.C = refl
compared Letter.A Letter.S = refl
compared Letter.C Letter.T = refl
compared Letter.C Letter.A = refl
compared Letter.C Letter.C = refl
compared Letter.C Letter.S = refl
compared Letter.S Letter.T = refl
compared Letter.S Letter.A = refl
compared Letter.S Letter.C = refl
compared Letter.S Letter.S = refl

pub ordered : (last k : Letter) → false ≡ partial_lt partial_cmp-value.it k last → in_order last k
    ≡ true
ordered last k h = not-false (in_order last k) (sym (h ∙ compared last k))

pub disordered : (last k : Letter) → true ≡ partial_lt partial_cmp-value.it k last → in_order last k
    ≡ false
disordered last k h = not-true (in_order last k) (sym (h ∙ compared last k))

-- a letter that is not S, nor T or A, is C
pub clause_letter : (k : Letter) → (k ≡ Letter.S → ⊥) → (k ≡ Letter.T → ⊥) → (k ≡ Letter.A → ⊥) → k
    ≡ Letter.C
clause_letter Letter.T s t a = absurd (t refl)
clause_letter Letter.A s t a = absurd (a refl)
clause_letter Letter.C s t a = refl
clause_letter Letter.S s t a = absurd (s refl)

module _ (table : Table) (C : Clauses) (g : Progress) (B W : List ℕ) (f : LineFields)
    (words prefix : List ℕ) where
  pub no_letter : (A : Arrays) → lookup letters (f.letter ∷ []) ≡ None
      → LineDone table C g B W f A words prefix (Err Reason.BadShape)
  no_letter A h =
      record {
        after = table;
        clauses = C;
        held = tt;
        done = record { follows = tt; runs = run_unlettered _ f h };
      }

  pub out_of_order : (A : Arrays) (k : Letter) → lookup letters (f.letter ∷ []) ≡ Some k
      → in_order g.letter k ≡ false
      → LineDone table C g B W f A words prefix (Err Reason.LetterOrder)
  out_of_order A k l h =
      record {
        after = table;
        clauses = C;
        held = tt;
        done = record { follows = tt; runs = run_disordered _ f l h };
      }

  -- a C line changes the clauses alone
  joined : {A : Arrays} (C' : Clauses) → Held table A g.counts.terms
      → (r : Result LineEffect Reason) → IfOk r (λ e. Joined table C' B g words prefix e.progress)
      → IfOk r (λ e. HeldBy table C' B A words prefix e.progress)
  joined {A} C' H (Ok e) j =
      record { held = subst (Held table A) (sym j.terms) H; clauses = j.held; rows = j.rows }
  joined C' H (Err r) j = tt

  pub of_disjunct : {A : Arrays} {r : Result LineEffect Reason} → Held table A g.counts.terms
      → DisjunctDone table C g B W f words prefix r → LineDone table C g B W f A words prefix r
  of_disjunct {r = r} H d =
      record { after = table; clauses = d.after; held = joined d.after H r d.joined; done = d.done }

  -- T and A lines change no clause
  module _ (K : ClausesHeld C words g.clauses) (P : PrefixRows table C B prefix g.noted) where
    -- a T line leaves no row of the table before; no clause is made yet
    made : (A : Arrays) (T : Table) → C ≡ [] → (r : Result LineEffect Reason)
        → IfOk r (λ e. Made T A g e.progress) → IfOk r (λ e. HeldBy T C B A words prefix e.progress)
    made A T z (Ok e) m = record {
      held = m.held;
      clauses = subst (ClausesHeld C words) (sym m.clauses) K;
      rows = rw m.noted
          (subst (λ (D : Clauses). PrefixRows T D B prefix 0) (sym z)
          (prefix_restart (subst (λ (D : Clauses). PrefixRows table D B prefix g.noted) z P)));
    }
    made A T z (Err r) m = tt

    pub of_term : {A : Arrays} {r : Result LineEffect Reason} → g.clauses ≡ 0
        → TermDone table C g B W f A r → LineDone table C g B W f A words prefix r
    of_term {A = A} {r = r} z d =
        record {
          after = d.after;
          clauses = C;
          held = made A d.after (none_yet C K z) r d.made;
          done = d.done words;
        }

    -- an A line keeps them
    kept : {A : Arrays} → Held table A g.counts.terms → (r : Result LineEffect Reason)
        → IfOk r (λ e. Kept g e.progress) → IfOk r (λ e. HeldBy table C B A words prefix e.progress)
    kept {A} H (Ok e) k =
        record {
          held = subst (Held table A) (sym k.terms) H;
          clauses = subst (ClausesHeld C words) (sym k.clauses) K;
          rows = prefix_less k.noted P;
        }
    kept H (Err r) k = tt

    pub of_assumption : {A : Arrays} {r : Result LineEffect Reason} → Held table A g.counts.terms
        → AssumptionDone table C g B W f r → LineDone table C g B W f A words prefix r
    of_assumption {r = r} H d =
        record { after = table; clauses = C; held = kept H r d.kept; done = d.done words }
