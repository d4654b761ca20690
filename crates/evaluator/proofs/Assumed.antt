-- What the lines before the first S line leave: a well-formed table, and literals that passed their checks.
use mathlib.Core.Path.{◌≡◌, refl, sym, ◌∙◌, ap, subst}
use mathlib.Core.Bool.{true, false, true≢false}
use mathlib.Core.List.{List, [], ◌∷◌, ◌++◌, map-append}
use Prim.Native.Nat.{ℕ}
use Rattle.tableau.specs.declared.Letter.{Letter}
use Rattle.tableau.specs.File.{rank, in_order}
use Rattle.tableau.specs.Basics.{four}
use Rattle.tableau.specs.Words.{Command, make, assume, disjoin, infer}
use Rattle.tableau.specs.Terms.{Table, Literal, literal, Disjunct, Clauses, disjuncts, at}
use Rattle.tableau.specs.Tree.{Tree, is_open}
use Rattle.tableau.specs.Reply.{State}
use Rattle.tableau.proofs.Bools.{clash}
use Rattle.tableau.proofs.Checks.{letter_of, command_letter, Did, LinePassed, Run, done, next}
use Rattle.tableau.proofs.ClauseLaws.{disjunct_as_assumption}
use Rattle.tableau.proofs.WellFormed.{WellFormed}
use Rattle.tableau.proofs.Soundness.{unsplit, line_well_formed}
use Rattle.evaluation.specs.Evaluation.{begins_step}
use Rattle.evaluation.proofs.FilesRead.{NoSteps, no_step}
use Rattle.term_values.specs.Literals.{IsAssumption}
use Rattle.evaluator.specs.Assumptions.{AllAssumptions}

-- the tree has one branch, its literals and those of the clauses passed their checks on the table, and a T line may only come where there is none
pub record Assumed (σ : State) : Type 0 where
  pub literals : List Literal
  pub status : σ.status ≡ is_open (unsplit literals)
  pub checked : AllAssumptions σ.table literals
  pub disjuncts_checked : AllAssumptions σ.table (disjuncts σ.clauses)
  pub first : in_order σ.letter Letter.T ≡ true → (literals ≡ []) × (σ.clauses ≡ [])
  pub well_formed : WellFormed (at σ.table)

one_more : (table : Table) (ls : List Literal) (l : Literal) → AllAssumptions table ls → IsAssumption table l → AllAssumptions table (ls ++ (l ∷ []))
unfolding AllAssumptions
one_more table [] l a h = (h, tt)
one_more table (x ∷ xs) l a h = (a.0, one_more table xs l a.1 h)

more_disjuncts : (C : Clauses) (d : Disjunct) → disjuncts (C ++ (d ∷ [])) ≡ disjuncts C ++ (d.is ∷ [])
more_disjuncts C d = map-append (λ x. x.is) C (d ∷ [])

line_assumed : {σ σ' : State} {l : List ℕ} (p : LinePassed σ l σ') → begins_step l ≡ false → Assumed σ → Assumed σ'
unfolding AllAssumptions rank
line_assumed {σ} {σ'} {l} p h A = go p.command refl p.run.did (command_letter p.line.letter p.line.word p.known)
  where
    tree_is : p.tree ≡ unsplit A.literals
    tree_is = let e : is_open p.tree ≡ is_open (unsplit A.literals) = sym p.tree_open ∙ A.status in cc

    go : (c : Command) → p.command ≡ c → Did σ p.tree c p.line.fields σ' → letter_of p.command ≡ p.line.letter → Assumed σ'
    go (make w) e d k =
        let none = A.first (rw (← k, e) at p.ordered) in
        record {
          literals = [];
          status = d.1 ∙ ap is_open (tree_is ∙ ap unsplit none.0);
          checked = tt;
          disjuncts_checked = rw (d.2, none.1) tt;
          first = λ o. (refl, d.2 ∙ none.1);
          well_formed = line_well_formed p A.well_formed;
        }
    go (assume R) e d k =
        let n = p.line.fields in
        record {
          literals = A.literals ++ (literal R n.a n.b ∷ []);
          status = d.1 ∙ ap (λ (t : Tree). is_open (record { branch = t.branch ++ (literal R n.a n.b ∷ []); waiting = t.waiting })) tree_is;
          checked = subst (λ (x : Table). AllAssumptions x (A.literals ++ (literal R n.a n.b ∷ []))) (sym d.0) (one_more σ.table A.literals _ A.checked (R, n, d.2));
          disjuncts_checked = rw (d.0, d.3) A.disjuncts_checked;
          first = λ o. absurd (true≢false (sym o ∙ ap (λ (x : Letter). in_order x Letter.T) (p.run.letter ∙ ap letter_of e)));
          well_formed = line_well_formed p A.well_formed;
        }
    go (disjoin R) e d k =
        let n = p.line.fields in
        let D : Disjunct = record { clause = n.c; is = literal R n.a n.b } in
        let h = one_more σ.table (disjuncts σ.clauses) (literal R n.a n.b) A.disjuncts_checked (R, four n.a n.b 0 n.d, sym (disjunct_as_assumption σ.table R n) ∙ d.2.line) in
        record {
          literals = A.literals;
          status = d.1 ∙ ap is_open tree_is;
          checked = rw d.0 A.checked;
          disjuncts_checked = rw (d.0, d.2.after, more_disjuncts σ.clauses D) h;
          first = λ o. absurd (true≢false (sym o ∙ ap (λ (x : Letter). in_order x Letter.T) (p.run.letter ∙ ap letter_of e)));
          well_formed = line_well_formed p A.well_formed;
        }
    go (infer x) e d k = clash (ap (in_order Letter.S) (sym k ∙ ap letter_of e)) (no_step p h)

pub run_assumed : {σ τ : State} {ls : List (List ℕ)} → Run LinePassed σ ls τ → NoSteps ls → Assumed σ → Assumed τ
run_assumed done n A = A
run_assumed (next p r) n A = run_assumed r n.1 (line_assumed p n.0 A)
