-- What the blocks and rows come to: how literals and rounds change them, and what they say where
-- nothing changes any more.
use Rattle.std.specs.Prelude.{◌≡◌, Bool, true, false, List, ℕ, ◌+◌, ◌≤◌, eqb, length, Option, None, Some, is_none}
use Rattle.std.specs.Prelude.{map, IfSome}
use Rattle.std.specs.List.{list_any}
use Rattle.tableau.specs.declared.Relation.{Relation}
use Rattle.tableau.specs.Terms.{TermNo, Table, Literal, literal}
use Rattle.tableau.specs.Background.{On, Follows}
use Rattle.packing.specs.Packing.{unpack_literal, Small}
use Rattle.table.specs.Held.{Entries}
use Rattle.partition.specs.declared.Partition.{Partition}
use Rattle.partition.specs.Blocks.{block_of, Sound, one_if, roots, Coarsened}
use Rattle.congruence.specs.Signatures.{Congruent}
use Rattle.class_order.specs.declared.Rows.{Rows}
use Rattle.class_order.specs.Rows.{is_under, AllOn, Filled}

-- AN EQ LITERAL, and all of a branch
pub record JoinedLiteral (old new : Partition) (l : Literal) (r : Bool) : Type 0 where
  pub change : Coarsened (λ table B. On B l) old new r
  pub equal : (a b : TermNo) → l ≡ literal Relation.Eq a b → block_of new a ≡ block_of new b

abbrev pub AllEqual : Partition → List Literal → Type 0
AllEqual blocks B = (a b : TermNo) → On B (literal Relation.Eq a b)
    → block_of blocks a ≡ block_of blocks b

pub record JoinedLiterals (old new : Partition) (B : List Literal) (r : Bool) : Type 0 where
  pub change : Coarsened (AllOn B) old new r
  pub equal : AllEqual new B

-- A LE LITERAL whose sides are under each other, and all of a branch; what the rows say has to
-- follow
abbrev pub UnderFollows : Rows → Table → List Literal → Type 0
UnderFollows rows table B = (x y : TermNo) → Small x → Small y → is_under rows x y ≡ true
    → Follows table B Relation.Le x y

abbrev pub Mutual : Partition → Rows → Literal → Type 0
Mutual blocks rows l = (a b : TermNo) → l ≡ literal Relation.Le a b
    → is_under rows (block_of blocks b) (block_of blocks a) ≡ true
    → block_of blocks a ≡ block_of blocks b

abbrev pub MutualIf : Bool → Partition → Rows → Literal → Type 0
MutualIf false blocks rows l = Mutual blocks rows l
MutualIf true blocks rows l = Unit {0}

pub record JoinedMutual (rows : Rows) (old new : Partition) (l : Literal) (r : Bool) : Type 0 where
  pub change : Coarsened (λ table B. On B l × UnderFollows rows table B) old new r
  pub mutual_if : MutualIf r new rows l

abbrev pub AllMutual : Partition → Rows → List Literal → Type 0
AllMutual blocks rows B = (l : Literal) → On B l → Mutual blocks rows l

abbrev pub AllMutualIf : Bool → Partition → Rows → List Literal → Type 0
AllMutualIf false blocks rows B = AllMutual blocks rows B
AllMutualIf true blocks rows B = Unit {0}

pub record Antisymmetric (rows : Rows) (old new : Partition) (B : List Literal)
    (r : Bool) : Type 0 where
  pub change : Coarsened (λ table C. AllOn B table C × UnderFollows rows table C) old new r
  pub mutual_if : AllMutualIf r new rows B

-- WHERE NOTHING MORE CAN BE JOINED
pub record Saturated (table : Table) (B : List Literal) (blocks : Partition)
    (rows : Rows) : Type 0 where
  pub equal : AllEqual blocks B
  pub congruent : Congruent table blocks
  pub filled : Filled table blocks rows B
  pub antisymmetric : AllMutual blocks rows B

-- DOES A LITERAL DENY what the blocks and rows say?
unfoldable pub denies : Partition → Rows → Literal → Bool
denies blocks rows (literal Relation.Ne a b) = eqb (block_of blocks a) (block_of blocks b)
denies blocks rows (literal Relation.Nl a b) = is_under rows (block_of blocks a) (block_of blocks b)
denies blocks rows (literal Relation.In a b) = false
denies blocks rows (literal Relation.Ni a b) = false
denies blocks rows (literal Relation.Eq a b) = false
denies blocks rows (literal Relation.Le a b) = false

-- ONE ROUND: it joined blocks, or none can be joined any more, and it says whether a literal denies
-- what they say
abbrev pub SaturatedIf : Option Bool → Partition → List ℕ → ℕ → List Literal → Type 0
SaturatedIf None blocks terms n B = Unit {0}
SaturatedIf (Some r) blocks terms n B =
    (rows : Rows) × ((table : Table) → Entries table terms → length table ≡ n
    → Saturated table B blocks rows) × (r ≡ list_any (denies blocks rows) B)

-- the order's part of a round, by some rows
pub record Ordered (old new : Partition) (terms : List ℕ) (n : ℕ) (codes : List ℕ)
    (r : Option Bool) : Type 0 where
  pub rows : Rows
  pub filled : (table : Table) → Entries table terms → length table ≡ n
      → Filled table old rows (map unpack_literal codes)
  pub change : Antisymmetric rows old new (map unpack_literal codes) (is_none r)
  pub answer : IfSome r (λ s. s ≡ list_any (λ code. denies new rows (unpack_literal code)) codes)

pub record Rounded (old new : Partition) (terms : List ℕ) (n : ℕ) (B : List Literal)
    (r : Option Bool) : Type 0 where
  pub fewer : roots 1024 new + one_if (is_none r) ≤ roots 1024 old
  pub sound : (table : Table) → Entries table terms → length table ≡ n → Sound table B old
      → Sound table B new
  pub saturated_if : SaturatedIf r new terms n B
