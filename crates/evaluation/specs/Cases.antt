-- Heaps tried against assumptions: a checker file, a heap file and the reply line.
use Rattle.std.specs.Prelude.{◌≡◌, List, [], ◌∷◌, ◌++◌, map, take}
use Prim.Native.String.{String}
use Rattle.tableau.specs.Cases.{file_of, with_line, F}
use Rattle.tableau.specs.Failings.{incident}
use Rattle.tableau.specs.Disjunctions.{no_jog, witness_in_clause, gap_in_numbers}
use Rattle.evaluation.specs.Evaluation.{evaluation, evaluation_line}

-- the record that the incident's receiver reads is `nul`
unfoldable pub no_record : List String
no_record =
    "D,siz,2,1,2,0" ∷
    "D,alc,1,0,0,0" ∷
    "D,typ,0,1,0,0" ∷
    "D,rfv,1,1,0,0" ∷
    "D,rgv,1,1,0,0" ∷
    []

-- two references that differ, by names of which one is the other without its first digit
unfoldable pub two_names : List String
two_names = "T,rfv,12345,0,0,0" ∷ "T,rfv,2345,0,0,0" ∷ "A,ne,1,2,0,0" ∷ []

-- the value of `rfv` 1 is the one object, and in no region
unfoldable pub one_object : List String
one_object = "D,siz,2,1,1,0" ∷ "D,alc,1,0,0,0" ∷ "D,rfv,1,1,0,0" ∷ []

pub record HeapCase : Type 0 where
  pub checker : List String
  pub file : List String
  pub says : String

infix 3 ◌⊩◌⊢◌
abbrev pub ◌⊩◌⊢◌ : List String → List String → String → HeapCase
c ⊩ h ⊢ r = record { checker = c; file = h; says = r }

unfoldable pub heap_cases : List HeapCase
unfolding F incident no_jog witness_in_clause gap_in_numbers no_record two_names one_object
heap_cases =
    -- all true; the receiver is no object; its class; its record is in the image
    (incident ⊩ no_record ⊢ "0,0,0") ∷
    (incident ⊩ take 4 no_record ⊢ "0,0,10") ∷
    (incident ⊩ no_record ++ ("D,typ,1,1,0,0" ∷ []) ⊢ "0,0,11") ∷
    (incident ⊩ no_record ++ ("D,arv,1,1,0,1" ∷ []) ⊢ "0,0,12") ∷
    -- an accepted file
    (F ⊩ one_object ++ ("D,rgv,1,1,0,0" ∷ "D,rgv,2,1,0,0" ∷ []) ⊢ "0,0,6") ∷
    -- clauses: a true literal in each; the last line of the first with none, alone, before another and behind another; a false A line before two such; a gap in the numbers
    (no_jog ⊩ one_object ++ ("D,rgv,2,1,0,0" ∷ []) ⊢ "0,0,0") ∷
    (no_jog ⊩ one_object ⊢ "0,0,6") ∷
    (take 6 no_jog ++ ("C,in,1,3,2,0" ∷ []) ⊩ one_object ⊢ "0,0,6") ∷
    (witness_in_clause ⊩ one_object ++ ("D,rgv,2,1,0,0" ∷ []) ⊢ "0,0,6") ∷
    (witness_in_clause ⊩ one_object ++ ("D,rgv,1,1,0,0" ∷ "D,rgv,2,1,0,0" ∷ []) ⊢ "0,0,4") ∷
    (gap_in_numbers ⊩ one_object ⊢ "21,1,3") ∷
    -- names of five digits: each has a value of its own
    (two_names ⊩ ("D,siz,2,1,1,0" ∷ "D,rfv,12345,1,0,0" ∷ []) ⊢ "0,0,0") ∷
    (two_names ⊩ ("D,siz,2,1,1,0" ∷ "D,rfv,12345,1,0,0" ∷ "D,rfv,2345,1,0,0" ∷ []) ⊢ "0,0,3") ∷
    -- nothing assumed, nothing allocated
    ([] ⊩ ("D,siz,1,1,1,0" ∷ []) ⊢ "0,0,0") ∷
    -- the checker file's refusals come first; what follows the first line that begins `S,` is not read
    (with_line 3 "T,rgv,1,0,0,0" F ⊩ [] ⊢ "10,1,3") ∷
    ("A,eq,1,1,0,0" ∷ [] ⊩ [] ⊢ "8,1,1") ∷
    ("S,?" ∷ "T,nul" ∷ [] ⊩ take 1 no_record ⊢ "0,0,0") ∷
    -- 2, 3, 4, 6
    (F ⊩ with_line 2 "T,alc,1,0,0,0" no_record ⊢ "2,2,2") ∷
    (F ⊩ [] ⊢ "3,2,1") ∷
    (F ⊩ ("D,xyz,2,1,1,0" ∷ []) ⊢ "3,2,1") ∷
    (F ⊩ no_record ++ take 1 no_record ⊢ "3,2,6") ∷
    (F ⊩ with_line 2 "D,xyz,1,0,0,0" no_record ⊢ "4,2,2") ∷
    (F ⊩ with_line 2 "D,alc,5,1,0,0" no_record ⊢ "6,2,2") ∷
    -- 19: a size, a reference, a name, a subject twice, a class under itself, 0 allocated, a member not allocated
    (F ⊩ ("D,siz,65,1,1,0" ∷ []) ⊢ "19,2,1") ∷
    (F ⊩ with_line 2 "D,alc,2,0,0,0" no_record ⊢ "19,2,2") ∷
    (F ⊩ with_line 4 "D,rfv,0,1,0,0" no_record ⊢ "19,2,4") ∷
    (F ⊩ no_record ++ ("D,rfv,1,0,0,0" ∷ []) ⊢ "19,2,6") ∷
    (F ⊩ no_record ++ ("D,arv,1,1,0,1" ∷ "D,arv,1,1,0,0" ∷ []) ⊢ "19,2,7") ∷
    (F ⊩ no_record ++ ("D,sub,1,1,0,0" ∷ []) ⊢ "19,2,6") ∷
    (F ⊩ with_line 2 "D,alc,0,0,0,0" no_record ⊢ "19,2,2") ∷
    (F ⊩ with_line 2 "D,rgv,1,1,0,0" no_record ⊢ "19,2,2") ∷
    -- five digits, and six
    (F ⊩ with_line 2 "D,alc,99999,0,0,0" no_record ⊢ "19,2,2") ∷
    (F ⊩ no_record ++ ("D,rfv,99999,1,0,0" ∷ "D,rfv,99999,1,0,0" ∷ []) ⊢ "19,2,7") ∷
    (F ⊩ no_record ++ ("D,rfv,100000,1,0,0" ∷ []) ⊢ "2,2,6") ∷
    -- 20: a circle, a missing step
    (F ⊩ no_record ++ ("D,sub,0,1,0,0" ∷ "D,sub,1,0,0,0" ∷ []) ⊢ "20,2,0") ∷
    (F ⊩ ("D,siz,1,1,3,0" ∷ "D,sub,0,1,0,0" ∷ "D,sub,1,2,0,0" ∷ []) ⊢ "20,2,0") ∷
    []

unfoldable pub AllEvaluate : List HeapCase → Type 0
AllEvaluate cs = map (λ (c : HeapCase). evaluation_line (evaluation (file_of c.checker) (file_of c.file))) cs ≡ map (λ (c : HeapCase). file_of (c.says ∷ [])) cs
