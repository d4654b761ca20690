-- Nights, with the line that is printed of each.
use Rattle.std.specs.Prelude.{◌≡◌, List, [], ◌∷◌, map}
use Prim.Native.String.{String}
use Rattle.tableau.specs.Basics.{bytes}
use Rattle.tableau.specs.Cases.{file_of}
use Rattle.statistics.specs.Figures.{figures_line}

pub record Night : Type 0 where
  pub lines : List String
  pub says : String

infix 3 ◌⊢◌
abbrev pub ◌⊢◌ : List String → String → Night
ls ⊢ s = record { lines = ls; says = s }

unfoldable pub nights : List Night
nights =
    -- "with none accepted both are `0,0`"
    ([] ⊢ "0,0,0,0,0,0") ∷
    ("no,17,1,0,0,0,0,0" ∷ "no,13,19,0,0,0,0,5" ∷ [] ⊢ "2,0,0,0,0,0") ∷
    -- "a zero is `0,1`"
    ("yes,0,0,4,2,2,1,0" ∷ [] ⊢ "1,1,2,1,0,1") ∷
    ("yes,0,0,0,0,0,0,0" ∷ [] ⊢ "1,1,0,1,0,1") ∷
    -- two equal, and two that differ: "over the count, not one less"
    ("yes,0,0,4,2,3,1,0" ∷ "yes,0,0,9,9,3,9,0" ∷ [] ⊢ "2,2,3,1,0,1") ∷
    ("yes,0,0,4,2,2,1,0" ∷ "yes,0,0,4,3,3,2,0" ∷ [] ⊢ "2,2,5,2,1,4") ∷
    ("yes,0,0,4,2,2,1,0" ∷ "yes,0,0,4,3,4,2,0" ∷ [] ⊢ "2,2,3,1,1,1") ∷
    ("yes,0,0,0,0,0,0,0" ∷ "yes,0,0,0,0,99999,0,0" ∷ [] ⊢ "2,2,99999,2,9999800001,4") ∷
    -- among refused files: 1, 2 and 2, with the squared distances 4/9, 1/9 and 1/9
    ("yes,0,0,1,1,1,1,0" ∷ "no,12,8,0,0,0,0,0" ∷ "yes,0,0,1,1,2,1,0" ∷ "yes,0,0,1,1,2,1,0" ∷ [] ⊢ "4,3,5,3,2,9") ∷
    -- "a line not shaped as a reply"
    ("yes,0,0,4,2,2,1,0" ∷ "yes,0,0,4,2,2,1" ∷ [] ⊢ "2,2") ∷
    ("yes,0,0,4,2,2,1,0,0" ∷ [] ⊢ "2,1") ∷
    ("yes,0,0,4,2,02,1,0" ∷ [] ⊢ "2,1") ∷
    ("yes,0,0,4,2,100000,1,0" ∷ [] ⊢ "2,1") ∷
    ("maybe,0,0,4,2,2,1,0" ∷ [] ⊢ "2,1") ∷
    ("" ∷ [] ⊢ "2,1") ∷
    -- "a yes with a nonzero number, line or place"
    ("yes,12,0,4,2,2,1,0" ∷ [] ⊢ "2,1") ∷
    ("yes,0,8,4,2,2,1,0" ∷ [] ⊢ "2,1") ∷
    ("yes,0,0,4,2,2,1,5" ∷ [] ⊢ "2,1") ∷
    -- "a no with number 0, a nonzero count, or a place but not number 13"
    ("no,0,8,0,0,0,0,0" ∷ [] ⊢ "2,1") ∷
    ("no,12,8,4,0,0,0,0" ∷ [] ⊢ "2,1") ∷
    ("no,12,8,0,2,0,0,0" ∷ [] ⊢ "2,1") ∷
    ("no,12,8,0,0,2,0,0" ∷ [] ⊢ "2,1") ∷
    ("no,12,8,0,0,0,1,0" ∷ [] ⊢ "2,1") ∷
    ("no,12,8,0,0,0,0,5" ∷ [] ⊢ "2,1") ∷
    -- "no more is tested"
    ("no,99999,0,0,0,0,0,0" ∷ "yes,0,0,0,0,5,99999,0" ∷ [] ⊢ "2,1,5,1,0,1") ∷
    []

-- "one LF" ends a line, and the last one too
unfoldable pub UnendedRefused : Type 0
UnendedRefused = figures_line (bytes "yes,0,0,4,2,2,1,0") ≡ file_of ("2,1" ∷ [])

unfoldable pub AllFigures : List Night → Type 0
AllFigures ns = map (λ n. figures_line (file_of n.lines)) ns ≡ map (λ n. file_of (n.says ∷ [])) ns
