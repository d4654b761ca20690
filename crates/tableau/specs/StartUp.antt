-- Document 02, 'A receiver that has just started': "before the first allocation nothing is allocated".
use Rattle.std.specs.Prelude.{◌≡◌, false, List, [], ◌∷◌, ℕ}
use Prim.Native.String.{String}
use Rattle.tableau.specs.Meaning.{Ref}
use Rattle.tableau.specs.Claims.{Model}
use Rattle.tableau.specs.Cases.{file_of, with_line, Case, ◌⊢◌}

-- Assumed: nothing is allocated. The steps close it by `fir`, once a rule, which put some w into `all`.
unfoldable pub start_up : List String
start_up =
    "T,all,0,0,0,0" ∷
    "T,emp,0,0,0,0" ∷
    "T,rfv,1,0,0,0" ∷  -- 3: w
    "A,eq,1,2,0,0" ∷
    "S,fir,0,0,0,3" ∷
    "S,eqr,1,2,0,0" ∷
    "S,emp,3,0,0,0" ∷
    []

-- "A proof that wants an allocated object assumes `all` ne `emp`", and opens it by `ext`. Assumed besides: all that is allocated is in r,
-- and r is empty. (`examples/something_is_allocated.tab`)
unfoldable pub something_allocated : List String
something_allocated =
    "T,rfv,1,0,0,0" ∷  -- 1: w
    "T,rgv,1,0,0,0" ∷  -- 2: r
    "T,all,0,0,0,0" ∷
    "T,emp,0,0,0,0" ∷
    "T,dif,3,2,0,0" ∷  -- 5: dif(all,r)
    "A,ne,3,4,0,0" ∷
    "A,eq,5,4,0,0" ∷
    "A,eq,2,4,0,0" ∷
    "S,ext,1,0,0,1" ∷  -- w in all, w ni emp ∥ w ni all, w in emp
    "S,cut,0,0,1,2" ∷
    "S,eqr,3,6,0,0" ∷
    "S,cls,7,5,0,0" ∷
    "S,dfi,4,6,5,0" ∷
    "S,eqr,2,7,0,0" ∷
    "S,cls,8,5,0,0" ∷
    "S,emp,5,0,0,0" ∷
    []

-- the same with nothing said of what is allocated
unfoldable pub allocation_unsaid : List String
unfolding something_allocated
allocation_unsaid = with_line 6 "A,eq,3,3,0,0" something_allocated

-- "A well-shaped S line with `fir` now gets 4, and the example for 13 becomes a reused w in `ext`."
unfoldable pub start_up_cases : List Case
unfolding start_up something_allocated allocation_unsaid
start_up_cases =
    (start_up ⊢ "no,4,5,0,0,0,0,0") ∷
    (something_allocated ⊢ "yes,0,0,5,3,8,3,0") ∷
    (allocation_unsaid ⊢ "no,12,9,0,0,0,0,0") ∷
    (with_line 10 "S,ext,1,0,0,1" something_allocated ⊢ "no,13,10,0,0,0,0,4") ∷
    []

-- a heap in which nothing is allocated, and values, make all assumed literals of a file true
pub record StartUpModel (file : List ℕ) : Type 0 where
  pub model : Model file
  pub none_allocated : (x : Ref model.finite_heap) → model.finite_heap.all x ≡ false

-- so a yes to one of these would be wrong
abbrev pub StartUpModels : Type 0
StartUpModels = StartUpModel (file_of start_up) × StartUpModel (file_of allocation_unsaid)
