-- 'Two files and their neighbours': the cases marked ◆, as one list.
use Rattle.std.specs.Prelude.{◌≡◌, List, [], ◌∷◌, ◌++◌, map, ℕ, zero, suc, take, set}
use Prim.Native.String.{String}
use Rattle.tableau.specs.Basics.{bytes}
use Rattle.tableau.specs.File.{LF}
use Rattle.tableau.specs.Reply.{reply, reply_line}

-- lines, "one to a line", as the bytes of a file
unfoldable pub file_of : List String → List ℕ
file_of [] = []
file_of (l ∷ ls) = bytes l ++ (LF ∷ file_of ls)

-- the same lines, line n being another
abbrev pub with_line : ℕ → String → List String → List String
with_line zero l ls = ls
with_line (suc n) l ls = set ls n l

unfoldable pub F : List String
F =
    "T,rfv,1,0,0,0" ∷
    "T,rgv,1,0,0,0" ∷
    "T,rgv,2,0,0,0" ∷
    "T,cap,2,3,0,0" ∷
    "A,in,1,4,0,0" ∷
    "A,ni,1,2,0,0" ∷
    "S,cpe,1,0,0,0" ∷
    "S,cls,3,2,0,0" ∷
    []

unfoldable pub G : List String
unfolding F
G = take 3 F ++ (
    "T,cup,2,3,0,0" ∷
    "A,in,1,4,0,0" ∷
    "A,ni,1,2,0,0" ∷
    "A,ni,1,3,0,0" ∷
    "S,cue,1,0,0,0" ∷
    "S,cls,4,2,0,0" ∷
    "S,cls,4,3,0,0" ∷
    [])

-- A file, by its lines, and its reply line.
pub record Case : Type 0 where
  pub file : List String
  pub says : String

infix 3 ◌⊢◌
abbrev pub ◌⊢◌ : List String → String → Case
f ⊢ r = record { file = f; says = r }

-- THE CASES MARKED ◆, in the order of document 01
unfoldable pub cases : List Case
unfolding F G
cases =
    (F ⊢ "yes,0,0,4,2,2,1,0") ∷
    (G ⊢ "yes,0,0,4,3,3,2,0") ∷
    (take 9 G ⊢ "no,17,10,0,0,0,0,0") ∷
    ([] ⊢ "no,17,1,0,0,0,0,0") ∷
    (take 7 F ⊢ "no,17,8,0,0,0,0,0") ∷
    (F ++ ("S,cls,3,2,0,0" ∷ []) ⊢ "no,5,9,0,0,0,0,0") ∷
    (with_line 8 "S,cls,2,3,0,0" F ⊢ "no,12,8,0,0,0,0,0") ∷
    (with_line 7 "S,cpe,3,0,0,0" F ⊢ "no,11,7,0,0,0,0,0") ∷
    (with_line 7 "S,cpe,2,0,0,0" F ⊢ "no,12,7,0,0,0,0,0") ∷
    (with_line 4 "T,cap,2,4,0,0" F ⊢ "no,8,4,0,0,0,0,0") ∷
    (with_line 4 "T,cap,2,1,0,0" F ⊢ "no,9,4,0,0,0,0,0") ∷
    (with_line 3 "T,rgv,1,0,0,0" F ⊢ "no,10,3,0,0,0,0,0") ∷
    (with_line 1 "T,rfv,01,0,0,0" F ⊢ "no,2,1,0,0,0,0,0") ∷
    []

-- each file gets the reply line beside it
unfoldable pub AllReplies : List Case → Type 0
AllReplies cs = map (λ (c : Case). reply_line (reply (file_of c.file))) cs ≡ map (λ (c : Case). file_of (c.says ∷ [])) cs
