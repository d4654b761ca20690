-- Two files within a limit of digits keep their reply under a larger one.
use mathlib.Core.Path.{◌≡◌, refl, ◌∙◌, ap}
use mathlib.Core.Bool.{Bool, true, false, cond}
use mathlib.Core.List.{List, [], ◌∷◌}
use Prim.Native.Nat.{ℕ, ◌≤◌}
use native.Mathlib.Omega.{arith}
use lib.Dec.{leb}
use lib.ListN.{length}
use Rattle.tableau.specs.File.{max_digits, split, LF, max_bytes}
use Rattle.tableau.specs.Tree.{passed}
use Rattle.tableau.specs.Reply.{State, start, RunEnd, stopped, ended, run_line_within, run_lines}
use Rattle.tableau.specs.Claims.{AllOf, LineWithin, FileWithin}
use Rattle.tableau.proofs.DigitLimit.{shape_agrees, runs_agree, check_agrees}
use Rattle.evaluation.specs.Facts.{heap_letters, run_fact_read, run_fact_within, run_fact}
use Rattle.evaluation.specs.Evaluation.{begins_step, before_steps, after_facts, read_heap, after_lines, read_checker, evaluation}
use Rattle.evaluation.specs.Claims.{KeepsEvaluations}

-- lines before the first step are lines of the file, or an empty piece
before_steps_lem : (P : List ℕ → Type 0) → P [] → (ls : List (List ℕ)) → AllOf P ls → AllOf P (before_steps ls)
unfolding before_steps
before_steps_lem P p [] a = tt
before_steps_lem P p (l ∷ ls) a = go (begins_step l) (before_steps_lem P p ls a.1)
  where
    go : (b : Bool) → AllOf P (before_steps ls) → AllOf P (cond b ([] ∷ []) (l ∷ before_steps ls))
    go true q = (p, tt)
    go false q = (a.0, q)

module _ (limit : ℕ) (h : limit ≤ max_digits) (file heap_file : List ℕ) (s : FileWithin limit file) (t : FileWithin limit heap_file) where
  heap_agrees : (σ : State) (b : Bool) → read_heap max_digits σ b heap_file ≡ read_heap limit σ b heap_file
  unfolding FileWithin
  heap_agrees σ true =
      ap (after_facts σ) (runs_agree run_fact (run_fact_within limit) (LineWithin limit)
      (λ facts l r. ap (run_fact_read facts) (shape_agrees limit max_digits h heap_letters l r)) (split LF heap_file) 0 (passed []) t)
  heap_agrees σ false = refl

  lines_agree : (x : RunEnd State) → after_lines max_digits x heap_file ≡ after_lines limit x heap_file
  lines_agree (stopped r i) = refl
  lines_agree (ended σ i) = heap_agrees σ (leb (length heap_file) max_bytes)

  checker_agrees : (b : Bool) → read_checker max_digits b file heap_file ≡ read_checker limit b file heap_file
  unfolding FileWithin split
  checker_agrees true =
      lines_agree (run_lines (run_line_within max_digits) (before_steps (split LF file)) 0 (passed start))
      ∙ ap (λ x. after_lines limit x heap_file) (check_agrees limit h (before_steps (split LF file)) (before_steps_lem (LineWithin limit) tt (split LF file) s))
  checker_agrees false = refl

-- "Files whose numbers have at most four digits keep their replies."
pub keeps_evaluations : KeepsEvaluations 4 evaluation
unfolding KeepsEvaluations evaluation
keeps_evaluations file heap_file s t = checker_agrees 4 (omega arith) file heap_file s t (leb (length file) max_bytes)
