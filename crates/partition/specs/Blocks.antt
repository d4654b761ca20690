-- What joining two blocks does.
use Rattle.std.specs.Prelude.{◌≡◌, Bool, true, false, List, ℕ, zero, suc, ◌+◌, ◌<◌, eqb, get_or}
use Rattle.tableau.specs.declared.Relation.{Relation}
use Rattle.tableau.specs.Terms.{TermNo, Table, Literal}
use Rattle.tableau.specs.Background.{Follows}
use Rattle.packing.specs.Packing.{Small}
use Rattle.partition.specs.declared.Partition.{Partition}

-- the number that stands for the block of x
abbrev pub block_of : Partition → TermNo → TermNo
block_of p x = get_or p.blocks x 0

-- every number is in a block of its own
abbrev pub Singletons : Partition → Type 0
Singletons p = (x : TermNo) → Small x → block_of p x ≡ x

-- THAT NUMBERS OF ONE BLOCK ARE EQUAL FOLLOWS
abbrev pub Sound : Table → List Literal → Partition → Type 0
Sound table B p = (x : TermNo) → Small x → Follows table B Relation.Eq x (block_of p x)

-- what was in one block stays so
abbrev pub Coarser : Partition → Partition → Type 0
Coarser old new = (x y : TermNo) → Small x → Small y → block_of old x ≡ block_of old y
    → block_of new x ≡ block_of new y

abbrev pub one_if : Bool → ℕ
one_if true = 1
one_if false = 0

-- how many of the numbers below n stand for a block: fewer after each joining
unfoldable pub roots : ℕ → Partition → ℕ
roots zero p = 0
roots (suc n) p = one_if (eqb (block_of p n) n) + roots n p

abbrev pub Fewer : Bool → Partition → Partition → Type 0
Fewer false old new = new ≡ old
Fewer true old new = roots 1024 new < roots 1024 old

-- HOW BLOCKS CHANGE: P is what must hold for the change to be sound; r says whether any were joined
pub record Coarsened (P : Table → List Literal → Type 0) (old new : Partition)
    (r : Bool) : Type 0 where
  pub coarser : Coarser old new
  pub fewer : Fewer r old new
  pub sound : (table : Table) (B : List Literal) → P table B → Sound table B old → Sound table B new

-- JOINING a and b
pub record Joined (old new : Partition) (a b : TermNo) (r : Bool) : Type 0 where
  pub change : Coarsened (λ table B. Follows table B Relation.Eq a b) old new r
  pub together : block_of new a ≡ block_of new b
