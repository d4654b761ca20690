-- DEMAND 3: an accepted file's assumed literals are true in no finite heap.
use mathlib.Core.Path.{◌≡◌, refl, sym, ◌∙◌, ap, subst}
use mathlib.Core.Bool.{true, false, true≢false, false≢true}
use mathlib.Core.List.{List, [], ◌∷◌, ◌++◌, append_assoc, append-nil}
use Rattle.std.specs.Prelude.{Option, None, Some}
use mathlib.Core.Logic.{◌⊎◌, inl, inr}
use Prim.Native.Nat.{ℕ, suc, ◌≤◌}
use native.Mathlib.Omega.{arith}
use lib.Dec.{leb}
use lib.ListN.{length}
use borrow.Author.Tests.{leb-true, not-true}
use Rattle.tableau.specs.declared.Letter.{Letter}
use Rattle.tableau.specs.declared.Word.{Word}
use Rattle.tableau.specs.declared.Rule.{Rule}
use Rattle.tableau.specs.Basics.{Four, every, is_some, lookup}
use Rattle.tableau.specs.File.{rank, in_order, shape, letters}
use Rattle.tableau.specs.Words.{rule_names, Command, make, assume, disjoin, infer, command_of}
use Rattle.tableau.specs.Fields.{Argument, unused, of, argument_use, arguments, word_fields}
use Rattle.tableau.specs.Terms.{Table, Literal, at, result, sort_of, written}
use Rattle.tableau.specs.Meaning.{FiniteHeap, Values, AllTrue, EveryClauseTrue}
use Rattle.tableau.specs.Tree.{Tree, is_open, is_closed}
use Rattle.tableau.specs.Reply.{State, term_or_name, of_sort, reply}
use Rattle.tableau.specs.Claims.{command_term, command_literal, command_disjunct, line_term, line_literal, line_disjunct, terms_in, literals_in, clauses_in, NoHeap, Demand3}
use Rattle.tableau.proofs.Bools.{dec, clash, both_true, every_true}
use Rattle.tableau.proofs.Checks.{some_of_some, letter_of, command_letter, Did, LinePassed, Run, done, next, yes_accepted}
use Rattle.tableau.proofs.WellFormed.{OkArgument, OkTerm, WellFormed}
use Rattle.tableau.proofs.Match.{same_sort_lem}
use Rattle.tableau.proofs.TreeSound.{StatusRefuted, step_refuted}
use Rattle.tableau.proofs.TableGrowth.{empty_well_formed, grown_well_formed_lem}

-- the arguments of a term that passed its checks
argument_ok : (table : Table) (k : Argument) (n : ℕ) → term_or_name table (argument_use k) n ≡ true → of_sort table (argument_use k) n ≡ true → OkArgument (at table) (suc (length table)) k n
unfolding result
argument_ok table unused n h s = tt
argument_ok table (of x) n h s =
    let l : n ≤ length table = leb-true n (length table) (both_true (leb 1 n) _ h).1 in
    (omega arith, sym (same_sort_lem x (sort_of (at table n)) s))

pub term_ok : (table : Table) (w : Word) (n : Four ℕ) → every (term_or_name table) (word_fields w) n ≡ true → every (of_sort table) (word_fields w) n ≡ true
    → OkTerm (at table) (suc (length table)) (written w n)
term_ok table (Word.Variable s) n h k = tt
term_ok table (Word.Operation o) n h k =
    let a = every_true (term_or_name table) (word_fields (Word.Operation o)) n h in
    let b = every_true (of_sort table) (word_fields (Word.Operation o)) n k in (
      argument_ok table (arguments o).a n.a a.0 b.0,
      argument_ok table (arguments o).b n.b a.1 b.1,
      argument_ok table (arguments o).c n.c a.2 b.2,
      argument_ok table (arguments o).d n.d a.3 b.3,
    )

pub is_none : {A : Type 0} (m : Option A) → is_some m ≡ false → m ≡ None
is_none None e = refl
is_none (Some x) e = absurd (true≢false e)

pub line_term_lem : {σ σ' : State} {l : List ℕ} (p : LinePassed σ l σ') → line_term (shape letters l) ≡ command_term (Some p.command) p.line.fields
line_term_lem p = ap line_term p.shaped ∙ ap (λ m. command_term m p.line.fields) p.known

pub line_literal_lem : {σ σ' : State} {l : List ℕ} (p : LinePassed σ l σ') → line_literal (shape letters l) ≡ command_literal (Some p.command) p.line.fields
line_literal_lem p = ap line_literal p.shaped ∙ ap (λ m. command_literal m p.line.fields) p.known

pub line_disjunct_lem : {σ σ' : State} {l : List ℕ} (p : LinePassed σ l σ') → line_disjunct (shape letters l) ≡ command_disjunct (Some p.command) p.line.fields
line_disjunct_lem p = ap line_disjunct p.shaped ∙ ap (λ m. command_disjunct m p.line.fields) p.known

-- a line adds its term, if it has one, and the table stays well formed
pub line_table : {σ σ' : State} {l : List ℕ} (p : LinePassed σ l σ') → σ'.table ≡ σ.table ++ line_term (shape letters l)
line_table {σ} {σ'} p = go p.command p.run.did ∙ ap (λ x. σ.table ++ x) (sym (line_term_lem p))
  where
    go : (c : Command) → Did σ p.tree c p.line.fields σ' → σ'.table ≡ σ.table ++ command_term (Some c) p.line.fields
    go (make w) d = d.0.after
    go (assume R) d = d.0 ∙ sym (append-nil σ.table)
    go (disjoin R) d = d.0 ∙ sym (append-nil σ.table)
    go (infer x) d = d.0 ∙ sym (append-nil σ.table)

-- and its literal of a clause, if it has one
pub line_clauses : {σ σ' : State} {l : List ℕ} (p : LinePassed σ l σ') → σ'.clauses ≡ σ.clauses ++ line_disjunct (shape letters l)
line_clauses {σ} {σ'} p = go p.command p.run.did ∙ ap (λ x. σ.clauses ++ x) (sym (line_disjunct_lem p))
  where
    go : (c : Command) → Did σ p.tree c p.line.fields σ' → σ'.clauses ≡ σ.clauses ++ command_disjunct (Some c) p.line.fields
    go (make w) d = d.2 ∙ sym (append-nil σ.clauses)
    go (assume R) d = d.3 ∙ sym (append-nil σ.clauses)
    go (disjoin R) d = d.2.after
    go (infer x) d = d.2 ∙ sym (append-nil σ.clauses)

pub line_well_formed : {σ σ' : State} {l : List ℕ} (p : LinePassed σ l σ') → WellFormed (at σ.table) → WellFormed (at σ'.table)
line_well_formed {σ} {σ'} p wf = go p.command p.run.did
  where
    go : (c : Command) → Did σ p.tree c p.line.fields σ' → WellFormed (at σ'.table)
    go (make w) d =
        let t = d.0 in
        subst (λ (x : Table). WellFormed (at x)) (sym t.after)
        (grown_well_formed_lem σ.table (written w p.line.fields) wf (term_ok σ.table w p.line.fields t.terms t.sorts) (is_none _ (not-true _ t.new)))
    go (assume R) d = subst (λ (x : Table). WellFormed (at x)) (sym d.0) wf
    go (disjoin R) d = subst (λ (x : Table). WellFormed (at x)) (sym d.0) wf
    go (infer x) d = subst (λ (x : Table). WellFormed (at x)) (sym d.0) wf

-- after an S line come S lines alone
pub step_letter : (l : Letter) → in_order Letter.S l ≡ true → l ≡ Letter.S
unfolding rank
step_letter Letter.T h = absurd (false≢true h)
step_letter Letter.A h = absurd (false≢true h)
step_letter Letter.C h = absurd (false≢true h)
step_letter Letter.S h = refl

step_command : {σ σ' : State} {l : List ℕ} (p : LinePassed σ l σ') → p.line.letter ≡ Letter.S → (x : Rule) × (p.command ≡ infer x)
unfolding command_of
step_command p e =
    let s = some_of_some infer (lookup rule_names p.line.word) (ap (λ k. command_of k p.line.word) (sym e) ∙ p.known) in
    (s.0, s.2)

-- a tree in which nothing waits
abbrev pub unsplit : List Literal → Tree
unsplit A = record { branch = A; waiting = [] }

-- a line that is no step adds its literal, if it has one, to such a tree
pub line_branch : {σ σ' : State} {l : List ℕ} (p : LinePassed σ l σ') → in_order Letter.S p.line.letter ≡ false → (A : List Literal)
    → σ.status ≡ is_open (unsplit A) → σ'.status ≡ is_open (unsplit (A ++ line_literal (shape letters l)))
unfolding rank
line_branch {σ} {σ'} {l} p h A o = go p.command refl p.run.did
  where
    τ-is : p.tree ≡ unsplit A
    τ-is = let e : is_open p.tree ≡ is_open (unsplit A) = sym p.tree_open ∙ o in cc

    go : (c : Command) → p.command ≡ c → Did σ p.tree c p.line.fields σ' → σ'.status ≡ is_open (unsplit (A ++ line_literal (shape letters l)))
    go (make w) e d = rw (line_literal_lem p, e, append-nil) (d.1 ∙ ap is_open τ-is)
    go (assume R) e d = rw (line_literal_lem p, e) (d.1 ∙ rw τ-is)
    go (disjoin R) e d = rw (line_literal_lem p, e, append-nil) (d.1 ∙ ap is_open τ-is)
    go (infer x) e d = clash (ap (in_order Letter.S) (sym (command_letter p.line.letter p.line.word p.known) ∙ ap letter_of e)) h

module _ (H : FiniteHeap) where
  -- S lines alone: they have no term, no literal and none of a clause, and the tree is refuted
  pub record OnlySteps (σ : State) (ls : List (List ℕ)) : Type 0 where
    pub terms : terms_in ls ≡ []
    pub literals : literals_in ls ≡ []
    pub clauses : clauses_in ls ≡ []
    pub refuted : StatusRefuted σ.table σ.clauses H σ.status

  step_over : {σ σ' : State} {l : List ℕ} {ls : List (List ℕ)} (p : LinePassed σ l σ') → p.line.letter ≡ Letter.S → WellFormed (at σ.table)
      → OnlySteps σ' ls → OnlySteps σ (l ∷ ls)
  unfolding terms_in literals_in clauses_in
  step_over {σ} {σ'} p k wf later =
      let x = step_command p k in
      let f = subst (λ (c : Command). Did σ p.tree c p.line.fields σ') x.1 p.run.did in
      let s = f.1 in
      record {
        terms = rw (line_term_lem p, x.1) later.terms;
        literals = rw (line_literal_lem p, x.1) later.literals;
        clauses = rw (line_disjunct_lem p, x.1) later.clauses;
        refuted = rw p.tree_open (step_refuted σ.table σ.clauses wf H p.tree x.0 p.line.fields s.adds σ'.status s.sorts s.concluded s.after
            (rw (f.0, f.2) at later.refuted));
      }

  -- from an S line on
  pub from_step : {σ σ' τ : State} {l : List ℕ} {ls : List (List ℕ)} (p : LinePassed σ l σ') → Run LinePassed σ' ls τ → τ.status ≡ is_closed
      → p.line.letter ≡ Letter.S → WellFormed (at σ.table) → OnlySteps σ (l ∷ ls)
  unfolding terms_in literals_in clauses_in
  from_step p done closed k wf = step_over p k wf (record { terms = refl; literals = refl; clauses = refl; refuted = rw closed tt })
  from_step p (next q r) closed k wf =
      let s = p.run.letter ∙ command_letter p.line.letter p.line.word p.known ∙ k in
      step_over p k wf (from_step q r closed (step_letter q.line.letter (rw s at q.ordered)) (line_well_formed p wf))

  -- before the first S line: the branch holds the literals A assumed so far
  before_steps_lem : {σ τ : State} {ls : List (List ℕ)} → Run LinePassed σ ls τ → τ.status ≡ is_closed → WellFormed (at σ.table) → (A : List Literal)
      → σ.status ≡ is_open (unsplit A) → (ρ : Values H) → AllTrue ρ (at (σ.table ++ terms_in ls)) (A ++ literals_in ls)
      → EveryClauseTrue ρ (at (σ.table ++ terms_in ls)) (σ.clauses ++ clauses_in ls) → ⊥
  unfolding terms_in literals_in clauses_in
  before_steps_lem done closed wf A o ρ t u = let z : true ≡ false = cc in true≢false z
  before_steps_lem {σ} (next {σ' = σ'} {l = l} {ls = ls} p r) closed wf A o ρ t u =
      go (before_steps_lem r closed (line_well_formed p wf)) (dec (in_order Letter.S p.line.letter))
    where
      go : ((A : List Literal) → σ'.status ≡ is_open (unsplit A) → (ρ : Values H) → AllTrue ρ (at (σ'.table ++ terms_in ls)) (A ++ literals_in ls)
          → EveryClauseTrue ρ (at (σ'.table ++ terms_in ls)) (σ'.clauses ++ clauses_in ls) → ⊥)
          → (in_order Letter.S p.line.letter ≡ true) ⊎ (in_order Letter.S p.line.letter ≡ false) → ⊥
      go ih (inl h) =
          let s = from_step p r closed (step_letter p.line.letter h) wf in
          let d : StatusRefuted σ.table σ.clauses H (is_open (unsplit A)) = rw o at s.refuted in
          (d tt).0 ρ (simp (s.terms, s.clauses, append-nil) at u) (simp (s.terms, s.literals, append-nil) at t)
      go ih (inr h) =
          ih (A ++ line_literal (shape letters l)) (line_branch p h A o) ρ (simp (line_table p, append_assoc) t) (simp (line_table p, line_clauses p, append_assoc) u)

-- THE CLAIM about a whole file and its reply
pub demand3 : Demand3 reply
unfolding Demand3 NoHeap
demand3 file h H ρ =
    let a = (yes_accepted file h).1 in
    before_steps_lem H a.run a.closed empty_well_formed [] refl ρ
