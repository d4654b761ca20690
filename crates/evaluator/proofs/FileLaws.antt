-- The reply to both files, by where the checker file's lines lead.
use mathlib.Core.Path.{◌≡◌, refl, sym, ◌∙◌, ap, subst}
use mathlib.Core.Bool.{Bool, true, false, true≢false}
use mathlib.Core.List.{List, []}
use Prim.Native.Nat.{ℕ, ◌<◌, ◌≤◌}
use lib.Dec.{leb}
use lib.ListN.{length, take}
use borrow.Author.Tests.{le-leb, lt-leb}
use Rattle.tableau.specs.declared.Reason.{Reason}
use Rattle.tableau.specs.File.{LF, split, max_digits, max_bytes}
use Rattle.tableau.specs.Terms.{Literal}
use Rattle.tableau.specs.Tree.{passed, Status, is_open}
use Rattle.tableau.specs.Tree as specification
use Rattle.tableau.specs.Reply.{State, start, run_line, RunEnd, stopped}
use Rattle.tableau.specs.Claims.{lines_of}
use Rattle.tableau.proofs.Checks.{LinePassed, line_passed, Run, lines_passed}
use Rattle.tableau.proofs.Soundness.{unsplit}
use Rattle.tableau.proofs.TableGrowth.{empty_well_formed}
use Rattle.evaluation.specs.Evaluation.{before_steps, assumptions_of, refusal, read_heap, after_lines, evaluation}
use Rattle.evaluation.specs.Claims.{lines_read}
use Rattle.evaluation.specs.Parts.{steps_at}
use Rattle.evaluation.proofs.FilesRead.{lines_read_lem, NoSteps, no_steps}
use Rattle.evaluation.proofs.StepPrefix.{first_part}
use Rattle.packing.specs.Packing.{unpack_literal}
use Rattle.terms.specs.Arrays.{Arrays}
use Rattle.tree.specs.declared.Tree.{Tree}
use Rattle.tree.specs.State.{codes_in, tree_of}
use Rattle.running.specs.Running.{check_from}
use Rattle.growth.specs.declared.Progress.{Progress}
use Rattle.growth.specs.Progress.{status_of, state_at}
use Rattle.file_run.specs.Reached.{Finished}
use Rattle.evaluator.specs.declared.assumptions.Assumptions.{Assumptions}
use Rattle.evaluator.specs.Assumptions.{AllAssumptions}
use Rattle.evaluator.specs.Trial.{StateHeld}
use Rattle.evaluator.proofs.Assumed.{Assumed, run_assumed}

module _ (file heap : List ℕ) where
  pub file_too_long : max_bytes < length file → evaluation file heap ≡ refusal Reason.TooLong 1 0
  unfolding evaluation
  file_too_long h = rw (lt-leb (length file) max_bytes h)

  module _ (h : length file ≤ max_bytes) (k : ℕ) (q : k ≡ steps_at file) where
    -- the lines of the part that is read
    part_lines : split LF (take k file) ≡ before_steps (split LF file)
    part_lines = ap (λ (n : ℕ). split LF (take n file)) q ∙ first_part file

    file_runs : {e : RunEnd State} → check_from (take k file) 0 0 (passed start) ≡ e → evaluation file heap ≡ after_lines max_digits e heap
    unfolding evaluation
    file_runs {e} r = rw (le-leb (length file) max_bytes h, ← part_lines) (ap (λ (x : RunEnd State). after_lines max_digits x heap) r)

    pub file_stops : (r : Reason) (i : ℕ) → check_from (take k file) 0 0 (passed start) ≡ stopped r i → evaluation file heap ≡ refusal r 1 i
    file_stops r i e = file_runs e

    module _ {A : Arrays} {words : List ℕ} {t : Tree} {g : Progress} (F : Finished (take k file) A words t g) where
      abbrev state : State
      state = state_at F.table F.clauses (tree_of unpack_literal t) g

      pub file_ends : evaluation file heap ≡ read_heap max_digits state (leb (length heap) max_bytes) heap
      file_ends = file_runs F.runs

      assumed : Assumed state
      unfolding AllAssumptions
      assumed =
          let r : Run LinePassed start (lines_read file) state = rw (← part_lines) (lines_passed LinePassed run_line (λ σ σ'. line_passed σ) (split LF (take k file)) 0 start F.runs) in
          let n : NoSteps (lines_read file) = rw (lines_read_lem (split LF file)) (no_steps (lines_of file)) in
          run_assumed r n (record { literals = []; status = refl; checked = tt; disjuncts_checked = tt; first = λ o. (refl, refl); well_formed = empty_well_formed })

      -- the branch is the only one, and its literals are those assumed
      literals_are : (c : Bool) (τ : specification.Tree) (ls : List Literal) → status_of c τ ≡ is_open (unsplit ls) → (assumptions_of (status_of c τ) ≡ τ.branch) × (ls ≡ τ.branch)
      literals_are true τ ls e = let z : true ≡ false = cc in absurd (true≢false z)
      literals_are false τ ls e = (refl, ap (λ (s : Status). assumptions_of s) (sym e))

      pub state_held : {a : Assumptions} → a.terms.now ≡ A.terms → a.count ≡ g.counts.terms → a.branch.now ≡ codes_in t → a.clauses.now ≡ words → a.last ≡ g.clauses → StateHeld state a
      state_held {a} is_terms is_count is_branch is_clauses is_last =
          let l = literals_are g.closed (tree_of unpack_literal t) assumed.literals assumed.status in
          record {
            entries = rw is_terms F.held.searchable.entries;
            count = is_count ∙ sym F.held.count;
            well_formed = F.held.well_formed;
            room = rw is_branch F.within.branch.room;
            literals = rw is_branch l.0;
            checked = rw is_branch (subst (AllAssumptions F.table) l.1 assumed.checked);
            clauses = rw (is_clauses, is_last) F.clauses_held;
            disjuncts' = assumed.disjuncts_checked;
          }
