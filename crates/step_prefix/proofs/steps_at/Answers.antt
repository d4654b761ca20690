use mathlib.Core.Bool.{false, ◌&&◌}
use mathlib.Core.List.{List, [], ◌∷◌}
use mathlib.Core.Path.{◌≡◌, refl, sym, ◌∙◌}
use Prim.Native.Nat.{ℕ, ◌-◌}
use native.Mathlib.Omega.{arith}
use lib.Dec.{eqb}
use lib.ListN.{length, take, drop, length-drop}
use lib.Seq.{take-length}
use Rattle.std.specs.List.{starts_with}
use Rattle.tableau.specs.Basics.{bytes, same_bytes}
use Rattle.evaluation.specs.Evaluation.{begins_step}
use Rattle.evaluation.proofs.StepPrefix.{ahead_start, step_here, step_behind, no_step}
use Rattle.step_prefix.proofs.steps_at.Goals as goal
use Rattle.step_prefix.proofs.steps_at.Goals.{else-line_start-via-then-line_start+else-starts_with}
use Rattle.step_prefix.proofs.steps_at.Goals.{else-line_start-via-else-line_start}

-- what stands from a position on
starts_step : (file : List ℕ) (at : ℕ)
    → starts_with eqb (take (length file - at) (drop at file)) (83 ∷ 44 ∷ [])
    ≡ begins_step (drop at file)
unfolding bytes same_bytes
starts_step file at = rw (← length-drop at file, take-length) (go (drop at file))
  where
    go : (l : List ℕ) → starts_with eqb l (83 ∷ 44 ∷ []) ≡ begins_step l
    go [] = refl
    go (a ∷ []) = refl
    go (a ∷ b ∷ l) = refl

pub loop-at-init : goal.loop-at-init
loop-at-init c = ahead_start _

pub returns-then-starts_with : goal.returns-then-starts_with
returns-then-starts_with c =
    let e =
    sym (starts_step c.args.file.now c.loop-at.at) ∙ sym c.starts_with.ensures.value
    ∙ c.if-starts_with.true in
    (sym (step_here c.loop-at.invariant (rw (c.if-line_start.true, e))), omega arith)

pub loop-at-preserved : goal.loop-at-preserved
loop-at-preserved c =
    let other : (c.loop-at.line_start && begins_step (drop c.loop-at.at c.args.file.now)) ≡ false =
    elim c.else-line_start.branch [
      | else-line_start-via-then-line_start+else-starts_with w ↦ rw (
        w.if-line_start.true,
        sym (starts_step c.args.file.now c.loop-at.at)
            ∙ sym w.starts_with.ensures.value ∙ w.if-starts_with.false,
      )
      | else-line_start-via-else-line_start w ↦ rw w.if-line_start.false
    ] in
    step_behind c.loop-at.invariant c.loop-at-test.true other

pub returns : goal.returns
returns c = (omega (arith, no_step c.loop-at.invariant c.loop-at-test.false), omega arith)
