-- The part of the checker file that is read: its bytes before the first line that begins `S,`.
use Rattle.std.specs.Prelude.{◌≡◌, Bool, true, ◌&&◌, cond, List, [], ◌∷◌, ℕ, suc, ◌+◌, eqb, drop}
use Rattle.tableau.specs.File.{LF}
use Rattle.evaluation.specs.Evaluation.{begins_step}

-- how many bytes stand before that line, or in all where there is none; line_start: does a line begin with the first of them?
unfoldable pub steps_from : Bool → List ℕ → ℕ
steps_from line_start [] = 0
steps_from line_start (b ∷ bs) = cond (line_start && begins_step (b ∷ bs)) 0 (suc (steps_from (eqb b LF) bs))

-- the position of that line
abbrev pub steps_at : List ℕ → ℕ
steps_at file = steps_from true file

-- where a loop over the bytes from the front stands: i bytes are behind it, and no line that begins `S,` begins with any of them
pub record StepsAhead (file : List ℕ) (i : ℕ) (line_start : Bool) : Type 0 where
  pub ahead : steps_at file ≡ i + steps_from line_start (drop i file)
