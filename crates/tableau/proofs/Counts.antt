-- The counts of a reply are those of the file's own lines; the refusal number of a reply.
use mathlib.Core.Path.{◌≡◌, refl, sym, ◌∙◌, ap}
use mathlib.Core.Bool.{Bool, true, false, ◌&&◌, ◌||◌, cond, true≢false}
use mathlib.Core.List.{List, [], ◌∷◌}
use mathlib.Core.Logic.{◌⊎◌, inl, inr}
use Rattle.std.specs.Prelude.{Option, Some}
use Prim.Native.Nat.{ℕ, suc, ◌+◌, ◌≤◌}
use native.Mathlib.Omega.{arith}
use lib.Dec.{eqb, leb}
use borrow.Author.Tests.{eqb-true, leb-true}
use Rattle.tableau.specs.declared.Freshness.{Freshness}
use Rattle.tableau.specs.declared.Letter.{Letter}
use Rattle.tableau.specs.declared.Rule.{Rule}
use Rattle.tableau.specs.declared.Reason.{Reason}
use Rattle.tableau.specs.Basics.{Four, bytes, same_bytes, lookup}
use Rattle.tableau.specs.File.{Line, rank, shape, letters, split, LF}
use Rattle.tableau.specs.Words.{words, relations, rule_names, Command, make, assume, disjoin, infer, command_of}
use Rattle.tableau.specs.Terms.{last_clause}
use Rattle.tableau.specs.Rules.{rule}
use Rattle.tableau.specs.Tree.{Checked, refused, passed, Tree, require_fresh, answer, alternatives, grown}
use Rattle.tableau.specs.Reply.{refusal_of, reason_number, Counts, State, start, term_line, literal_line, assumed, disjoined, step_line, is_closing, counted}
use Rattle.tableau.specs.Reply.{run_open, run_read, run_line, run_lines, Verdict, accept, refuse, verdict_on, verdict, reply_of, reply}
use Rattle.tableau.specs.Claims.{has_letter, closes_branch, count_if, count_clauses, CountsOf, RightCounts}
use Rattle.tableau.proofs.Bools.{both_true, one_true}
use Rattle.tableau.proofs.Checks.{lookup_agree, some_of_some, LinePassed, Run, done, next, Accepted, verdict_cases, file_accepted}
use Rattle.tableau.proofs.Refusals.{reason_fits, OfReason, OfVerdict, end_reason, reasons}
use Rattle.tableau.proofs.ClauseLaws.{no_clauses, run_in_sequence, run_clauses}

-- THE COUNTS
-- the rules that close are those with the words `cls`, `emp` and `bck`
closing_word : {x : Rule} (w : List ℕ) → lookup rule_names w ≡ Some x → is_closing x ≡ (same_bytes (bytes "cls") w || (same_bytes (bytes "emp") w || same_bytes (bytes "bck") w))
unfolding rule_names rule bytes same_bytes
closing_word w = lookup_agree is_closing (λ w. same_bytes (bytes "cls") w || (same_bytes (bytes "emp") w || same_bytes (bytes "bck") w)) rule_names w refl

-- a line adds one to a count if it passes the count's test, and else nothing
abbrev increase : Bool → ℕ → ℕ
increase b n = cond b (suc n) n

increase_sum : (b : Bool) (n m : ℕ) → increase b n + m ≡ n + elim b [ true ↦ suc m | false ↦ m ]
increase_sum true n m = omega arith
increase_sum false n m = refl

abbrev Adds : (Counts → ℕ) → (Option (Line Letter) → Bool) → Counts → Line Letter → Command → Type 0
Adds count test k l c = count (counted k c) ≡ increase (test (Some l)) (count k)

abbrev AddsEach : Counts → Line Letter → Command → Type 0
AddsEach k l c = Adds (λ k. k.terms) (has_letter Letter.T) k l c × Adds (λ k. k.assumptions) (has_letter Letter.A) k l c
    × Adds (λ k. k.steps) (has_letter Letter.S) k l c × Adds (λ k. k.closings) closes_branch k l c

adds_each : (k : Counts) (l : Line Letter) (c : Command) → command_of l.letter l.word ≡ Some c → AddsEach k l c
unfolding command_of rank
adds_each k l c = go l.letter
  where
    go : (x : Letter) → command_of x l.word ≡ Some c → AddsEach k (record { letter = x; word = l.word; fields = l.fields }) c
    go Letter.T e = rw (some_of_some make (lookup words l.word) e).2 (refl, refl, refl, refl)
    go Letter.A e = rw (some_of_some assume (lookup relations l.word) e).2 (refl, refl, refl, refl)
    go Letter.C e = rw (some_of_some disjoin (lookup relations l.word) e).2 (refl, refl, refl, refl)
    go Letter.S e = let h = some_of_some infer (lookup rule_names l.word) e in rw h.2 (refl, refl, refl, rw (closing_word l.word h.1))

-- so a count of an accepted file is the number of lines that pass its test
module _ (count : Counts → ℕ) (test : Option (Line Letter) → Bool)
    (adds : (k : Counts) (l : Line Letter) (c : Command) → command_of l.letter l.word ≡ Some c → Adds count test k l c) where
  line_count : {σ σ' : State} {l : List ℕ} → LinePassed σ l σ' → count σ'.counts ≡ increase (test (shape letters l)) (count σ.counts)
  line_count {σ} p = rw (p.run.counts, p.shaped) (adds σ.counts p.line p.command p.known)

  run_count : {σ τ : State} {ls : List (List ℕ)} → Run LinePassed σ ls τ → count τ.counts ≡ count σ.counts + count_if test ls
  unfolding count_if
  run_count done = omega arith
  run_count {σ} (next {l = l} p r) = run_count r ∙ rw (line_count p) (increase_sum (test (shape letters l)) (count σ.counts) _)

  file_count : {ls : List (List ℕ)} {c : Counts} (a : Accepted start ls c) → count start.counts ≡ 0 → count a.last.counts ≡ count_if test ls
  file_count a z = rw (run_count a.run) (omega arith)

pub right_counts : RightCounts reply
unfolding RightCounts reply reply_of last_clause count_clauses
right_counts file = go (verdict file) refl
  where
    go : (v : Verdict) → verdict file ≡ v → CountsOf file (reply_of v) (reply_of v).is_yes
    go (accept c) e =
        let a = file_accepted file e in
        record {
          number = refl;
          line = refl;
          terms = rw (← a.counts) (file_count _ _ (λ k l c e. (adds_each k l c e).0) a refl);
          assumptions = let n = file_count (λ k. k.assumptions) (has_letter Letter.A) (λ k l c e. (adds_each k l c e).1) a refl in
              rw (← a.counts, ← run_clauses a.run, (run_in_sequence a.run no_clauses).counted) (ap (λ x. x + last_clause a.last.clauses) n);
          steps = rw (← a.counts) (file_count _ _ (λ k l c e. (adds_each k l c e).2) a refl);
          closings = rw (← a.counts) (file_count _ _ (λ k l c e. (adds_each k l c e).3) a refl);
          place = refl;
        }
    go (refuse r i) e = record { terms = refl; assumptions = refl; steps = refl; closings = refl }

-- THE REFUSAL NUMBER: no check of a file gives that of a wrong buffer, 18, nor of a heap file, 19 and 20.
abbrev InRange : Reason → Type 0
InRange r = (eqb (reason_number r) 21 || (leb 1 (reason_number r) && leb (reason_number r) 17)) ≡ true

abbrev VerdictInRange : Verdict → Type 0
VerdictInRange = OfVerdict (λ i. InRange)

fresh_range : (b : Bool) (f : Freshness) → OfReason InRange (require_fresh b f)
unfolding refusal_of
fresh_range false f = tt
fresh_range true Freshness.Fresh = tt
fresh_range true (Freshness.NotFresh p) = refl

step_range : (σ : State) (τ : Tree) (c : Command) (n : Four ℕ) → OfReason InRange (run_open σ τ c n)
unfolding run_open term_line literal_line assumed disjoined step_line answer alternatives grown refusal_of
step_range σ τ (make w) n = search reasons depth 12
step_range σ τ (assume R) n = search reasons depth 12
step_range σ τ (disjoin R) n = search reasons depth 12
step_range σ τ (infer x) n = search (reasons, fresh_range) depth 12

line_range : (σ : State) (bs : List ℕ) → OfReason InRange (run_line σ bs)
unfolding run_read refusal_of
line_range σ bs = search (reasons, step_range) depth 12

lines_range : (ls : List (List ℕ)) (i : ℕ) (m : Checked State) → OfReason InRange m → VerdictInRange (verdict_on (run_lines run_line ls i m))
unfolding run_lines refusal_of
lines_range [] i (refused r) h = h
lines_range [] i (passed σ) h = end_reason (λ i. InRange) (λ i. refl) σ σ.status i
lines_range (l ∷ ls) i (refused r) h = h
lines_range ([] ∷ []) i (passed σ) h = end_reason (λ i. InRange) (λ i. refl) σ σ.status i
lines_range ((b ∷ bs) ∷ []) i (passed σ) h = refl
lines_range (l ∷ m ∷ ls) i (passed σ) h = lines_range (m ∷ ls) (suc i) (run_line σ l) (line_range σ l)

pub number_in_range : (file : List ℕ) → ((reply file).is_yes ≡ true → (reply file).number ≡ 0)
    × ((reply file).is_yes ≡ false → ((reply file).number ≡ 21) ⊎ ((1 ≤ (reply file).number) × ((reply file).number ≤ 17)))
unfolding reply reply_of refusal_of
number_in_range file = go (verdict file) (verdict_cases VerdictInRange file refl (lines_range (split LF file) 0 (passed start) tt))
  where
    go : (v : Verdict) → VerdictInRange v → ((reply_of v).is_yes ≡ true → (reply_of v).number ≡ 0)
        × ((reply_of v).is_yes ≡ false → ((reply_of v).number ≡ 21) ⊎ ((1 ≤ (reply_of v).number) × ((reply_of v).number ≤ 17)))
    go (accept c) h = ((λ e. refl), (λ e. absurd (true≢false e)))
    go (refuse r i) h = ((λ e. absurd (true≢false (sym e))), (λ e. either (one_true (eqb (reason_number r) 21) _ h)))
      where
        either : (eqb (reason_number r) 21 ≡ true) ⊎ ((leb 1 (reason_number r) && leb (reason_number r) 17) ≡ true) → (reason_number r ≡ 21) ⊎ ((1 ≤ reason_number r) × (reason_number r ≤ 17))
        either (inl k) = inl (eqb-true (reason_number r) 21 k)
        either (inr k) = let b = both_true (leb 1 (reason_number r)) _ k in inr (leb-true 1 (reason_number r) b.0, leb-true (reason_number r) 17 b.1)

-- no reason has the number of a yes
pub reason_not_0 : (r : Reason) → reason_number r ≡ 0 → ⊥
reason_not_0 r e = omega (arith, (reason_fits r).0)
