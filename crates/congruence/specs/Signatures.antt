-- Signatures of terms, and what joining the terms of one signature does to the blocks.
use Rattle.std.specs.Prelude.{◌≡◌, Bool, true, false, cond, List, ◌⊎◌, ℕ, suc, ◌<◌, ◌≤◌, length, get_or}
use Rattle.tableau.specs.declared.Operator.{Operator}
use Rattle.tableau.specs.declared.Relation.{Relation}
use Rattle.tableau.specs.Basics.{Four, map_four}
use Rattle.tableau.specs.Terms.{TermNo, Table, apply, Literal, at}
use Rattle.tableau.specs.Steps.{takes_terms}
use Rattle.tableau.specs.Background.{Follows}
use Rattle.packing.specs.Packing.{takes_arguments, fields_in, with_fields}
use Rattle.table.specs.Held.{Entries, Absent}
use Rattle.partition.specs.declared.Partition.{Partition}
use Rattle.partition.specs.Blocks.{block_of, Coarsened}

-- THE SIGNATURE of a packed term: the block of each argument in the argument's place
abbrev pub signature_of : Partition → ℕ → ℕ
signature_of blocks p = with_fields p (map_four (block_of blocks) (fields_in p))

-- what stands for a term in the chains
abbrev pub sign_of : Partition → ℕ → ℕ
sign_of blocks p = cond (takes_arguments p) (signature_of blocks p) p

-- ONE TERM t, whose packed form is x and whose signature is s, beside the first m
abbrev pub Earlier : Partition → List ℕ → ℕ → ℕ → TermNo → Type 0
Earlier blocks signatures m s t = (w : TermNo) × (0 < w) × (w ≤ m) × (get_or signatures w 0 ≡ s)
    × (block_of blocks w ≡ block_of blocks t)

abbrev pub MetIf : Bool → Partition → List ℕ → ℕ → ℕ → ℕ → ℕ → Type 0
MetIf false blocks signatures m x s t = takes_arguments x ≡ true → Earlier blocks signatures m s t
    ⊎ Absent signatures s 1 (suc m)
MetIf true blocks signatures m x s t = Unit {0}

abbrev pub SignedFollow : List ℕ → ℕ → ℕ → ℕ → TermNo → Table → List Literal → Type 0
SignedFollow signatures m x s t table B = (w : ℕ) → 0 < w → w ≤ m → takes_arguments x ≡ true
    → get_or signatures w 0 ≡ s → Follows table B Relation.Eq t w

pub record JoinedSigned (old new : Partition) (signatures : List ℕ) (m x s t : ℕ)
    (r : Bool) : Type 0 where
  pub change : Coarsened (SignedFollow signatures m x s t) old new r
  pub met_if : MetIf r new signatures m x s t

-- TERMS WITH ONE SIGNATURE, whichever they are
abbrev pub JoinedSome : List ℕ → Partition → Partition → Bool → Type 0
JoinedSome terms old new r = Coarsened (λ table B. Entries table terms) old new r

-- ALL TERMS. Where none were joined, terms with one operator and arguments of the same blocks are
-- in one block.
abbrev pub Congruent : Table → Partition → Type 0
Congruent table blocks = (t w : TermNo) (o : Operator) (k l : Four TermNo) → at table t ≡ apply o k
    → at table w ≡ apply o l → takes_terms o ≡ true
    → map_four (block_of blocks) k ≡ map_four (block_of blocks) l
    → block_of blocks t ≡ block_of blocks w

abbrev pub CongruentIf : Bool → Partition → List ℕ → ℕ → Type 0
CongruentIf false blocks terms n = (table : Table) → Entries table terms → length table ≡ n
    → Congruent table blocks
CongruentIf true blocks terms n = Unit {0}

pub record JoinedAlike (old new : Partition) (terms : List ℕ) (n : ℕ) (r : Bool) : Type 0 where
  pub change : JoinedSome terms old new r
  pub congruent_if : CongruentIf r new terms n
