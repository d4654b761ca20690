-- What the lines of the checker file before its first S line, and the lines of the heap file, leave where they pass.
use mathlib.Core.Path.{◌≡◌, refl, sym, ◌∙◌, ap}
use mathlib.Core.Bool.{Bool, true, false, cond, false≢true}
use mathlib.Core.List.{List, [], ◌∷◌, ◌++◌, append_assoc, append-nil}
use Rattle.std.specs.Prelude.{Some}
use Prim.Native.Nat.{ℕ}
use Rattle.tableau.specs.declared.Letter.{Letter}
use Rattle.tableau.specs.Basics.{lookup, every}
use Rattle.tableau.specs.File.{Line, letters, rank, in_order, shape}
use Rattle.tableau.specs.Words.{Command, make, assume, disjoin, infer}
use Rattle.tableau.specs.Terms.{Term, Literal, literal, Disjunct, written}
use Rattle.tableau.specs.Tree.{passed, is_open}
use Rattle.tableau.specs.Reply.{State}
use Rattle.tableau.specs.Claims.{line_term, line_literal, line_disjunct, all_but_last, terms_in, literals_in}
use Rattle.tableau.proofs.Bools.{clash}
use Rattle.tableau.proofs.Checks.{passed_injective, require_passed, require_some_passed, letter_of, command_letter, LinePassed, Run, done, next}
use Rattle.tableau.proofs.Soundness.{line_term_lem, line_literal_lem, line_disjunct_lem, line_table, unsplit, line_branch}
use Rattle.evaluation.specs.declared.FactWord.{FactWord}
use Rattle.evaluation.specs.Facts.{heap_letters, fact_words, fact_fields, Facts, size_first, zero_unless_used, may_follow, run_fact_read, run_fact}
use Rattle.evaluation.specs.Evaluation.{begins_step, before_steps}
use Rattle.evaluation.specs.Claims.{facts_in}
use Rattle.evaluation.proofs.Begins.{begins_step_lem}

-- THE CHECKER FILE: of its lines those before the first that begins `S,`
abbrev pub until_step : List (List ℕ) → List (List ℕ)
until_step [] = []
until_step (l ∷ ls) = cond (begins_step l) [] (l ∷ until_step ls)

pub lines_read_lem : (ls : List (List ℕ)) → all_but_last (before_steps ls) ≡ until_step (all_but_last ls)
unfolding before_steps
lines_read_lem [] = refl
lines_read_lem (l ∷ []) = go (begins_step l)
  where
    go : (b : Bool) → all_but_last (cond b ([] ∷ []) (l ∷ [])) ≡ []
    go true = refl
    go false = refl
lines_read_lem (l ∷ m ∷ ls) = go (begins_step l) (begins_step m) (lines_read_lem (m ∷ ls))
  where
    go : (b c : Bool) → all_but_last (cond c ([] ∷ []) (m ∷ before_steps ls)) ≡ until_step (all_but_last (m ∷ ls))
        → all_but_last (cond b ([] ∷ []) (l ∷ cond c ([] ∷ []) (m ∷ before_steps ls))) ≡ cond b [] (l ∷ until_step (all_but_last (m ∷ ls)))
    go true c ih = refl
    go false true ih = ap (λ x. l ∷ x) ih
    go false false ih = ap (λ x. l ∷ x) ih

abbrev pub NoSteps : List (List ℕ) → Type 0
NoSteps [] = Unit {0}
NoSteps (l ∷ ls) = (begins_step l ≡ false) × NoSteps ls

pub no_steps : (ls : List (List ℕ)) → NoSteps (until_step ls)
no_steps [] = tt
no_steps (l ∷ ls) = go (begins_step l) refl (no_steps ls)
  where
    go : (b : Bool) → begins_step l ≡ b → NoSteps (until_step ls) → NoSteps (cond b [] (l ∷ until_step ls))
    go true e ih = tt
    go false e ih = (e, ih)

-- a line that passes and is no step adds a term, before any literal, or a literal, before any of a clause, or a literal of a clause
pub data OneAdded (σ : State) (l : List ℕ) (σ' : State) : Type 0 where
  term : (t : Term) → line_term (shape letters l) ≡ t ∷ [] → line_literal (shape letters l) ≡ [] → line_disjunct (shape letters l) ≡ []
      → in_order σ.letter Letter.T ≡ true → OneAdded σ l σ'
  assumption : (L : Literal) → line_term (shape letters l) ≡ [] → line_literal (shape letters l) ≡ L ∷ [] → line_disjunct (shape letters l) ≡ []
      → in_order σ.letter Letter.A ≡ true → σ'.letter ≡ Letter.A → OneAdded σ l σ'
  disjunct : (d : Disjunct) → line_term (shape letters l) ≡ [] → line_literal (shape letters l) ≡ [] → line_disjunct (shape letters l) ≡ d ∷ []
      → σ'.letter ≡ Letter.C → OneAdded σ l σ'

module _ {σ σ' : State} {l : List ℕ} (p : LinePassed σ l σ') (h : begins_step l ≡ false) where
  pub no_step : in_order Letter.S p.line.letter ≡ false
  no_step = sym (begins_step_lem l p.shaped) ∙ h

  pub one_added : OneAdded σ l σ'
  unfolding rank
  one_added = go p.command refl (command_letter p.line.letter p.line.word p.known)
    where
      go : (c : Command) → p.command ≡ c → letter_of p.command ≡ p.line.letter → OneAdded σ l σ'
      go (make w) e k = term (written w p.line.fields) (rw (line_term_lem p, e)) (rw (line_literal_lem p, e)) (rw (line_disjunct_lem p, e)) (rw (← k, e) at p.ordered)
      go (assume R) e k =
          let n = p.line.fields in
          assumption (literal R n.a n.b) (rw (line_term_lem p, e)) (rw (line_literal_lem p, e)) (rw (line_disjunct_lem p, e)) (rw (← k, e) at p.ordered) (p.run.letter ∙ ap letter_of e)
      go (disjoin R) e k =
          let n = p.line.fields in
          let d : Disjunct = record { clause = n.c; is = literal R n.a n.b } in
          disjunct d (rw (line_term_lem p, e)) (rw (line_literal_lem p, e)) (rw (line_disjunct_lem p, e)) (p.run.letter ∙ ap letter_of e)
      go (infer x) e k = clash (ap (in_order Letter.S) (sym k ∙ ap letter_of e)) no_step

-- the table grows by the terms of the lines, and the branch by their literals (the clauses by those of the lines: `run_clauses`)
pub record Assumed (σ τ : State) (A : List Literal) (ls : List (List ℕ)) : Type 0 where
  pub table : τ.table ≡ σ.table ++ terms_in ls
  pub status : τ.status ≡ is_open (unsplit (A ++ literals_in ls))

pub run_assumed : {σ τ : State} {ls : List (List ℕ)} → Run LinePassed σ ls τ → NoSteps ls → (A : List Literal) → σ.status ≡ is_open (unsplit A) → Assumed σ τ A ls
unfolding terms_in literals_in
run_assumed done n A o = record { table = rw append-nil; status = rw append-nil o }
run_assumed (next p r) n A o =
    let a = run_assumed r n.1 _ (line_branch p (no_step p n.0) A o) in
    record { table = a.table ∙ rw (line_table p, append_assoc); status = a.status ∙ rw append_assoc }

-- after an A or C line comes no T line
pub no_terms : {σ τ : State} {ls : List (List ℕ)} → Run LinePassed σ ls τ → NoSteps ls → in_order σ.letter Letter.T ≡ false → terms_in ls ≡ []
unfolding terms_in rank
no_terms done n a = refl
no_terms {σ} (next {σ' = σ'} {l = l} {ls = ls} p r) n a = go (one_added p n.0) (no_terms r n.1)
  where
    go : OneAdded σ l σ' → (in_order σ'.letter Letter.T ≡ false → terms_in ls ≡ []) → line_term (shape letters l) ++ terms_in ls ≡ []
    go (term t u v w o) later = clash o a
    go (assumption L u v w o k) later = rw u (later (rw k))
    go (disjunct d u v w k) later = rw u (later (rw k))

-- after a C line comes no A line
pub no_literals_lem : {σ τ : State} {ls : List (List ℕ)} → Run LinePassed σ ls τ → NoSteps ls → σ.letter ≡ Letter.C → literals_in ls ≡ []
unfolding literals_in rank
no_literals_lem done n a = refl
no_literals_lem {σ} (next {σ' = σ'} {l = l} {ls = ls} p r) n a = go (one_added p n.0) (no_literals_lem r n.1)
  where
    go : OneAdded σ l σ' → (σ'.letter ≡ Letter.C → literals_in ls ≡ []) → line_literal (shape letters l) ++ literals_in ls ≡ []
    go (term t u v w o) later = absurd (false≢true (rw a at o))
    go (assumption L u v w o k) later = absurd (false≢true (rw a at o))
    go (disjunct d u v w k) later = rw v (later k)

-- THE HEAP FILE: what is known of a D line that passed
pub record FactPassed (facts : Facts) (bs : List ℕ) (facts' : Facts) : Type 0 where
  pub line : Line (Unit {0})
  pub word : FactWord
  pub shaped : shape heap_letters bs ≡ Some line
  pub ordered : size_first facts line.word ≡ true
  pub known : lookup fact_words line.word ≡ Some word
  pub unused_zero : every zero_unless_used (fact_fields word) line.fields ≡ true
  pub follows : may_follow facts word line.fields ≡ true
  pub after : facts ++ (record { word = word; fields = line.fields } ∷ []) ≡ facts'

pub fact_passed : (facts facts' : Facts) (bs : List ℕ) → run_fact facts bs ≡ passed facts' → FactPassed facts bs facts'
unfolding run_fact_read
fact_passed facts facts' bs e =
    let e₂ = require_some_passed (shape heap_letters bs) _ _ e in
    let l = e₂.0 in
    let e₃ = require_passed (size_first facts l.word) _ _ e₂.2 in
    let e₄ = require_some_passed (lookup fact_words l.word) _ _ e₃.1 in
    let w = e₄.0 in
    let e₆ = require_passed (every zero_unless_used (fact_fields w) l.fields) _ _ e₄.2 in
    let e₁₉ = require_passed (may_follow facts w l.fields) _ _ e₆.1 in
    record {
      line = l;
      word = w;
      shaped = e₂.1;
      ordered = e₃.0;
      known = e₄.1;
      unused_zero = e₆.0;
      follows = e₁₉.0;
      after = passed_injective e₁₉.1;
    }

-- the facts grow by those of the lines
pub facts_read : {facts facts' : Facts} {ls : List (List ℕ)} → Run FactPassed facts ls facts' → facts' ≡ facts ++ facts_in ls
unfolding facts_in
facts_read {facts} done = sym (append-nil facts)
facts_read (next p r) = facts_read r ∙ rw (p.shaped, p.known, ← p.after, append_assoc)
