-- The evaluator equals the meaning, from the bytes of both files; no accepted file's assumptions evaluate to all true.
use mathlib.Core.Path.{◌≡◌, refl, sym, ◌∙◌, ap, subst}
use mathlib.Core.Bool.{Bool, true, false, cond, true≢false}
use mathlib.Core.List.{List, [], ◌∷◌, ◌++◌, append_assoc, append-nil}
use mathlib.Core.Logic.{◌↔◌}
use Prim.Native.Nat.{ℕ, suc, ◌+◌, ◌<◌}
use native.Mathlib.Omega.{arith}
use lib.Dec.{leb}
use lib.ListN.{length, length-append}
use Rattle.tableau.specs.declared.Letter.{Letter}
use Rattle.tableau.specs.declared.Reason.{Reason}
use Rattle.tableau.specs.File.{letters, rank, in_order, max_digits, shape, split, LF, max_bytes}
use Rattle.tableau.specs.Terms.{TermNo, Term, Literal, Disjunct, clause_of, at}
use Rattle.tableau.specs.Meaning.{FiniteHeap, Values, True, AllTrue, EveryClauseTrue}
use Rattle.tableau.specs.Tree.{passed, is_closed}
use Rattle.tableau.specs.Reply.{State, start, run_line, RunEnd, stopped, ended, run_lines}
use Rattle.tableau.specs.Claims.{line_term, line_literal, line_disjunct, lines_of, terms_in, literals_in, clauses_in, NoHeap, Demand3}
use Rattle.tableau.proofs.Bools.{clash, eqb_same}
use Rattle.tableau.proofs.Checks.{line_passed, LinePassed, Run, done, next, lines_passed, yes_accepted}
use Rattle.tableau.proofs.Counts.{reason_not_0}
use Rattle.tableau.proofs.WellFormed.{WellFormed}
use Rattle.tableau.proofs.TreeSound.{all_append}
use Rattle.tableau.proofs.TableGrowth.{empty_well_formed}
use Rattle.tableau.proofs.Soundness.{line_well_formed, step_letter, from_step, demand3}
use Rattle.tableau.proofs.ClauseLaws.{clause_append, InSequence, no_clauses, run_in_sequence, run_clauses}
use Rattle.evaluation.specs.Facts.{Facts, is_nil, run_fact}
use Rattle.evaluation.specs.Heaps.{is_order, heap_of, values_of, AsSaid}
use Rattle.evaluation.specs.Evaluation.{is_true, first_false, or_clause, begins_step, before_steps, Evaluation, refusal, no_refusal}
use Rattle.evaluation.specs.Evaluation.{false_line, on_heap, after_facts, read_heap, after_lines, read_checker, evaluation}
use Rattle.evaluation.specs.Claims.{lines_read, facts_of, Says, all_true, false_at, false_clause_at, Means, EqualsMeaning, NeverAllTrue}
use Rattle.evaluation.proofs.Decision.{true_iff}
use Rattle.evaluation.proofs.Begins.{begins_step_lem}
use Rattle.evaluation.proofs.FilesRead.{until_step, lines_read_lem, NoSteps, no_steps, OneAdded, term, assumption, disjunct, one_added, run_assumed, no_terms, no_literals_lem}
use Rattle.evaluation.proofs.FilesRead.{FactPassed, fact_passed, facts_read}
use Rattle.evaluation.proofs.ClauseLines.{says_false_clause}
use Rattle.evaluation.proofs.HeapSaid.{run_passable, as_said}

-- LINES JOINED: their literals and clauses are joined
literals_append : (xs ys : List (List ℕ)) → literals_in (xs ++ ys) ≡ literals_in xs ++ literals_in ys
unfolding literals_in
literals_append [] ys = refl
literals_append (x ∷ xs) ys = rw (literals_append xs ys, append_assoc)

clauses_append : (xs ys : List (List ℕ)) → clauses_in (xs ++ ys) ≡ clauses_in xs ++ clauses_in ys
unfolding clauses_in
clauses_append [] ys = refl
clauses_append (x ∷ xs) ys = rw (clauses_append xs ys, append_assoc)

-- THE LINE OF THE FIRST FALSE A LINE, or j where there is none: each T line has a term, each A line a literal, and the T lines come first and the C lines last
module _ {H : FiniteHeap} (ρ : Values H) (file : List (List ℕ)) (j : ℕ) (otherwise : AllTrue ρ (at (terms_in file)) (literals_in file) → Says ρ file j) where
  abbrev table : TermNo → Term
  table = at (terms_in file)

  abbrev line_from : ℕ → List Literal → ℕ
  line_from i ls = or_clause (first_false (is_true ρ table) i ls) j

  -- no literal is left
  all_true_lem : (before ls : List (List ℕ)) → file ≡ before ++ ls → literals_in ls ≡ [] → AllTrue ρ table (literals_in before) → Says ρ file j
  all_true_lem before ls e z t =
      let q : literals_in file ≡ literals_in before = ap literals_in e ∙ literals_append before ls ∙ rw (z, append-nil) in
      otherwise (rw q t)

  says_from : {σ τ : State} {ls : List (List ℕ)} → Run LinePassed σ ls τ → NoSteps ls → (before : List (List ℕ)) → file ≡ before ++ ls
      → AllTrue ρ table (literals_in before) → (i : ℕ) → i ≡ length before + length (terms_in ls) → Says ρ file (line_from i (literals_in ls))
  unfolding terms_in literals_in rank
  says_from done n before e t i c = all_true_lem before [] e refl t
  says_from {σ} (next {σ' = σ'} {l = l} {ls = ls} p r) n before e t i c =
      go (one_added p n.0) (says_from r n.1 (before ++ (l ∷ [])) (e ∙ sym (append_assoc before (l ∷ []) ls)))
    where
      Later : Type 0
      Later = AllTrue ρ table (literals_in (before ++ (l ∷ []))) → (h : ℕ) → h ≡ length (before ++ (l ∷ [])) + length (terms_in ls) → Says ρ file (line_from h (literals_in ls))

      also : AllTrue ρ table (line_literal (shape letters l)) → AllTrue ρ table (literals_in (before ++ (l ∷ [])))
      also u = rw (literals_append before (l ∷ []), append-nil) ((all_append ρ table (literals_in before) (line_literal (shape letters l))).1 (t, u))

      one_more : length (before ++ (l ∷ [])) ≡ suc (length before)
      one_more = length-append before (l ∷ []) ∙ omega arith

      test : (L : Literal) → line_literal (shape letters l) ≡ L ∷ [] → i ≡ length before → length (terms_in ls) ≡ 0 → Later → (b : Bool) → is_true ρ table L ≡ b
          → Says ρ file (or_clause (cond b (first_false (is_true ρ table) (suc i) (literals_in ls)) (suc i)) j)
      test L v k z later true q = later (also (rw v ((true_iff ρ table L).0 q, tt))) (suc i) (omega (arith, one_more))
      test L v k z later false q = rw k (false_at before l ls L e v t (λ h. clash ((true_iff ρ table L).1 h) q))

      go : OneAdded σ l σ' → Later → Says ρ file (line_from i (line_literal (shape letters l) ++ literals_in ls))
      go (term x u v w o) later = rw v (later (also (rw v tt)) i (c ∙ rw (u, one_more) (omega arith)))
      go (assumption L u v w o a) later = let z = ap length (no_terms r n.1 (rw a)) in rw v (test L v (c ∙ rw u (omega arith)) z later (is_true ρ table L) refl)
      go (disjunct d u v w a) later = let z = no_literals_lem r n.1 a in rw (v, z) (all_true_lem before (l ∷ ls) e (rw v z) t)

-- a clause with a line among others has a literal
in_clause_lem : {d : Disjunct} (before : List (List ℕ)) (l : List ℕ) (after : List (List ℕ)) → line_disjunct (shape letters l) ≡ d ∷ []
    → 0 < length (clause_of (clauses_in (before ++ (l ∷ after))) d.clause)
unfolding clauses_in clause_of
in_clause_lem {d} before l after e =
    rw (clauses_append before (l ∷ after), e, clause_append (clauses_in before) (d ∷ clauses_in after) d.clause, eqb_same d.clause)
    (omega (arith, length-append (clause_of (clauses_in before) d.clause) (d.is ∷ clause_of (clauses_in after) d.clause)))

-- line 0 exactly where all is true
pub zero_iff : {H : FiniteHeap} (ρ : Values H) (ls : List (List ℕ)) (n : ℕ) → Says ρ ls n
    → (n ≡ 0) ↔ (AllTrue ρ (at (terms_in ls)) (literals_in ls) × EveryClauseTrue ρ (at (terms_in ls)) (clauses_in ls))
unfolding literals_in
zero_iff ρ ls n (all_true t u) = ((λ z. (t, u)), (λ h. refl))
zero_iff ρ ls n (false_at before l after L e v t f) = ((λ z. absurd (omega arith)), (λ h. absurd (f (here h.0))))
  where
    here : AllTrue ρ (at (terms_in ls)) (literals_in ls) → True ρ (at (terms_in ls)) L
    here h =
        let q = ap literals_in e ∙ literals_append before (l ∷ after) in
        let u = (all_append ρ (at (terms_in ls)) (literals_in before) (line_literal (shape letters l) ++ literals_in after)).0 (subst (AllTrue ρ (at (terms_in ls))) q h) in
        (subst (λ x. AllTrue ρ (at (terms_in ls)) (x ++ literals_in after)) v u.1).0
zero_iff ρ ls n (false_clause_at before l after k L e v z t met f) =
    ((λ z. absurd (omega arith)), (λ h. absurd (f (h.1 k (subst (λ (x : List (List ℕ)). 0 < length (clause_of (clauses_in x) k)) (sym e) (in_clause_lem before l after v))))))

-- A REPLY is a refusal, or both files passed
pub record BothPassed (file heap_file : List ℕ) (σ : State) (facts : Facts) : Type 0 where
  pub lines : Run LinePassed start (lines_read file) σ
  pub said : Run FactPassed [] (lines_of heap_file) facts
  pub some : is_nil facts ≡ false

module _ (file heap_file : List ℕ) (P : Evaluation → Type 0) (refuses : (r : Reason) (k i : ℕ) → P (refusal r k i))
    (passes : (σ : State) (facts : Facts) → BothPassed file heap_file σ facts → (ordered : is_order facts ≡ true) → P (no_refusal (false_line σ facts ordered))) where
  on_heap_lem : (σ : State) (facts : Facts) → BothPassed file heap_file σ facts → (b : Bool) (e : is_order facts ≡ b) → P (on_heap σ facts b e)
  on_heap_lem σ facts p true e = passes σ facts p e
  on_heap_lem σ facts p false e = refuses Reason.NotAnOrder 2 0

  after_facts_lem : (σ : State) → Run LinePassed start (lines_read file) σ → (x : RunEnd Facts) → run_lines run_fact (split LF heap_file) 0 (passed []) ≡ x → P (after_facts σ x)
  after_facts_lem σ p (stopped r i) e = refuses r 2 i
  after_facts_lem σ p (ended [] i) e = refuses Reason.LetterOrder 2 1
  after_facts_lem σ p (ended (x ∷ xs) i) e =
      let q = lines_passed FactPassed run_fact fact_passed (split LF heap_file) 0 [] e in
      on_heap_lem σ (x ∷ xs) (record { lines = p; said = q; some = refl }) (is_order (x ∷ xs)) refl

  read_heap_lem : (σ : State) → Run LinePassed start (lines_read file) σ → (b : Bool) → P (read_heap max_digits σ b heap_file)
  read_heap_lem σ p true = after_facts_lem σ p (run_lines run_fact (split LF heap_file) 0 (passed [])) refl
  read_heap_lem σ p false = refuses Reason.TooLong 2 0

  after_lines_lem : (x : RunEnd State) → run_lines run_line (before_steps (split LF file)) 0 (passed start) ≡ x → P (after_lines max_digits x heap_file)
  after_lines_lem (stopped r i) e = refuses r 1 i
  after_lines_lem (ended σ i) e =
      read_heap_lem σ (lines_passed LinePassed run_line (λ σ σ'. line_passed σ) (before_steps (split LF file)) 0 start e) (leb (length heap_file) max_bytes)

  read_checker_lem : (b : Bool) → P (read_checker max_digits b file heap_file)
  read_checker_lem true = after_lines_lem (run_lines run_line (before_steps (split LF file)) 0 (passed start)) refl
  read_checker_lem false = refuses Reason.TooLong 1 0

  pub evaluation_cases : P (evaluation file heap_file)
  unfolding evaluation
  evaluation_cases = read_checker_lem (leb (length file) max_bytes)

-- THE EVALUATOR EQUALS THE MEANING
means : (file heap_file : List ℕ) (σ : State) (facts : Facts) → BothPassed file heap_file σ facts → (ordered : is_order facts ≡ true)
    → Means file heap_file (no_refusal (false_line σ facts ordered))
unfolding false_line literals_in
means file heap_file σ facts p ordered =
    let ls = lines_read file in
    let n : NoSteps ls = rw (lines_read_lem (split LF file)) (no_steps (lines_of file)) in
    let a = run_assumed p.lines n [] refl in
    let c : σ.clauses ≡ clauses_in ls = run_clauses p.lines in
    let by-clause = says_false_clause (values_of facts ordered) p.lines n (subst InSequence c (run_in_sequence p.lines no_clauses)) in
    let first : Says (values_of facts ordered) ls (false_line σ facts ordered)
    = rw (a.table, a.status, c) (says_from (values_of facts ordered) ls _ by-clause p.lines n [] refl tt _ (omega arith)) in
    let m = subst (λ (g : Facts). (o : is_order g ≡ true) × AsSaid g (heap_of g o) (values_of g o) × Says (values_of g o) (lines_read file) (false_line σ facts ordered))
    (facts_read p.said) (ordered, as_said (run_passable p.said (λ e. absurd (true≢false e)) p.some) ordered, first) in
    record { no_file = refl; ordered = m.0; as_said = m.1; says = m.2 }

pub equals_meaning : EqualsMeaning evaluation
unfolding EqualsMeaning
equals_meaning file heap_file =
    evaluation_cases file heap_file (λ e. e.number ≡ 0 → Means file heap_file e) (λ r k i z. absurd (reason_not_0 r z)) (λ σ facts p o z. means file heap_file σ facts p o)

-- AN ACCEPTED FILE has no term, no literal and none of a clause behind its first S line
record AllRead (ls read : List (List ℕ)) : Type 0 where
  pub terms : terms_in ls ≡ terms_in read
  pub literals : literals_in ls ≡ literals_in read
  pub clauses : clauses_in ls ≡ clauses_in read

all_read : (H : FiniteHeap) {σ τ : State} {ls : List (List ℕ)} → Run LinePassed σ ls τ → τ.status ≡ is_closed → WellFormed (at σ.table) → AllRead ls (until_step ls)
unfolding terms_in literals_in clauses_in
all_read H done closed wf = record { terms = refl; literals = refl; clauses = refl }
all_read H {σ} (next {l = l} {ls = ls} p r) closed wf = go (begins_step l) (begins_step_lem l p.shaped) (all_read H r closed (line_well_formed p wf))
  where
    go : (b : Bool) → b ≡ in_order Letter.S p.line.letter → AllRead ls (until_step ls) → AllRead (l ∷ ls) (cond b [] (l ∷ until_step ls))
    go true e ih =
        let s = from_step H p r closed (step_letter p.line.letter (sym e)) wf in
        record { terms = s.terms; literals = s.literals; clauses = s.clauses }
    go false e ih = record {
      terms = ap (λ x. line_term (shape letters l) ++ x) ih.terms;
      literals = ap (λ x. line_literal (shape letters l) ++ x) ih.literals;
      clauses = ap (λ x. line_disjunct (shape letters l) ++ x) ih.clauses;
    }

-- NO ACCEPTED FILE'S ASSUMPTIONS EVALUATE TO ALL TRUE
pub never_all_true : NeverAllTrue evaluation
unfolding NeverAllTrue EqualsMeaning NoHeap Demand3
never_all_true file heap_file h e =
    let m = equals_meaning file heap_file (ap (λ (x : Evaluation). x.number) e) in
    let t = (zero_iff _ _ _ m.says).0 (ap (λ (x : Evaluation). x.line) e) in
    let a = (yes_accepted file h).1 in
    let b = all_read (heap_of (facts_of heap_file) m.ordered) a.run a.closed empty_well_formed in
    demand3 file h _ (values_of (facts_of heap_file) m.ordered) (rw (b.terms, b.literals, ← lines_read_lem (split LF file)) t.0)
    (rw (b.terms, b.clauses, ← lines_read_lem (split LF file)) t.1)
