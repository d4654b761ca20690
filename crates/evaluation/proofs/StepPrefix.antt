-- The lines before the first that begins `S,` are those of a first part of the bytes, and a loop over the bytes from the front finds its end.
use mathlib.Core.Path.{◌≡◌, refl, ◌∙◌, ap}
use mathlib.Core.Bool.{Bool, true, false, ◌&&◌, and-true, cond}
use mathlib.Core.List.{List, [], ◌∷◌}
use Prim.Native.Nat.{ℕ, suc, ◌+◌, ◌<◌, ◌≤◌}
use native.Mathlib.Nat.{add-zero}
use native.Mathlib.Numerals.{add-one}
use native.Mathlib.Omega.{arith}
use lib.Dec.{eqb}
use lib.ListN.{length, take, drop, get_or, drop_of_length-le}
use lib.Seq.{drop-cons, get_or-drop}
use Rattle.tableau.specs.Basics.{bytes, same_bytes}
use Rattle.tableau.specs.File.{split, on_first, LF}
use Rattle.tableau.proofs.Pieces.{pieces}
use Rattle.evaluation.specs.Evaluation.{begins_step, before_steps}
use Rattle.evaluation.specs.Parts.{steps_from, steps_at, StepsAhead}
use Rattle.evaluation.proofs.Begins.{begins_first}

-- the lines before the first step, where the first piece counts as a line only if one begins with it
abbrev before : Bool → List (List ℕ) → List (List ℕ)
before line_start [] = []
before line_start (l ∷ ls) = cond (line_start && begins_step l) ([] ∷ []) (l ∷ before_steps ls)

before_start : (ls : List (List ℕ)) → before true ls ≡ before_steps ls
unfolding before_steps
before_start [] = refl
before_start (l ∷ ls) = refl

-- by the text that is cut
before_text : (line_start : Bool) (text : List ℕ) → cond (line_start && begins_step text) ([] ∷ []) (before false (split LF text)) ≡ before line_start (split LF text)
before_text line_start text = rw ((pieces LF text).cut, ← begins_first text)

-- by one more byte, which ends a line or not
abbrev on_byte : Bool → ℕ → List (List ℕ) → List (List ℕ)
on_byte is_lf b ls = elim is_lf [ true ↦ [] ∷ ls | false ↦ on_first b ls ]

before_byte : (is_lf : Bool) (b : ℕ) (ls : List (List ℕ)) → on_byte is_lf b (before is_lf ls) ≡ before false (on_byte is_lf b ls)
unfolding before_steps
before_byte true b ls = ap (λ x. [] ∷ x) (before_start ls)
before_byte false b [] = refl
before_byte false b (l ∷ ls) = refl

part_lines : (line_start : Bool) (text : List ℕ) → split LF (take (steps_from line_start text) text) ≡ before line_start (split LF text)
unfolding split steps_from before_steps bytes same_bytes
part_lines true [] = refl
part_lines false [] = refl
part_lines line_start (b ∷ bs) = go (line_start && begins_step (b ∷ bs)) (part_lines (eqb b LF) bs) ∙ before_text line_start (b ∷ bs)
  where
    go : (t : Bool) → split LF (take (steps_from (eqb b LF) bs) bs) ≡ before (eqb b LF) (split LF bs)
        → split LF (take (cond t 0 (suc (steps_from (eqb b LF) bs))) (b ∷ bs)) ≡ cond t ([] ∷ []) (before false (split LF (b ∷ bs)))
    go true later = refl
    go false later = ap (on_byte (eqb b LF) b) later ∙ before_byte (eqb b LF) b (split LF bs)

-- THE FIRST PART of a file has the lines that the evaluator reads
pub first_part : (file : List ℕ) → split LF (take (steps_at file) file) ≡ before_steps (split LF file)
first_part file = part_lines true file ∙ before_start (split LF file)

-- A LOOP FROM THE FRONT: at the file's first byte, at a line that begins `S,`, at any other byte, and past the last byte
pub ahead_start : (file : List ℕ) → StepsAhead file 0 true
ahead_start file = record { ahead = omega arith }

from_here : (line_start : Bool) (text : List ℕ) → (line_start && begins_step text) ≡ true → steps_from line_start text ≡ 0
unfolding steps_from
from_here line_start [] e = refl
from_here line_start (b ∷ bs) e = rw (e, steps_from)

from_behind : (line_start : Bool) (b : ℕ) (bs : List ℕ) → (line_start && begins_step (b ∷ bs)) ≡ false → steps_from line_start (b ∷ bs) ≡ suc (steps_from (eqb b LF) bs)
unfolding steps_from
from_behind line_start b bs e = rw (e, steps_from)

module _ {file : List ℕ} {i : ℕ} {line_start : Bool} (s : StepsAhead file i line_start) where
  pub step_here : (line_start && begins_step (drop i file)) ≡ true → steps_at file ≡ i
  step_here h = s.ahead ∙ rw (from_here line_start (drop i file) h) (omega arith)

  pub step_behind : i < length file → (line_start && begins_step (drop i file)) ≡ false → StepsAhead file (i + 1) (eqb (get_or file i 0) LF)
  step_behind l h =
      let d = drop-cons file i 0 l in
      let n = from_behind line_start (get_or file i 0) (drop (suc i) file) (rw d at h) in
      record { ahead = s.ahead ∙ rw (d, n, add-one) (omega arith) }

  pub no_step : length file ≤ i → steps_at file ≡ i
  unfolding steps_from
  no_step l = s.ahead ∙ rw (drop_of_length-le file l) (omega arith)

-- the bytes of `S,`; past the last byte is neither of them
pub begins_bytes : (file : List ℕ) (i : ℕ) → begins_step (drop i file) ≡ (eqb 83 (get_or file i 0) && eqb 44 (get_or file (i + 1) 0))
unfolding bytes same_bytes
begins_bytes file i = go (drop i file) ∙ rw (get_or-drop i file 0 0, get_or-drop i file 1 0, add-zero)
  where
    go : (text : List ℕ) → begins_step text ≡ (eqb 83 (get_or text 0 0) && eqb 44 (get_or text 1 0))
    go [] = refl
    go (a ∷ []) = refl
    go (a ∷ b ∷ bs) = ap (λ x. eqb 83 a && x) (and-true (eqb 44 b))
