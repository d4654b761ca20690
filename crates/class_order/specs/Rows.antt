-- The order of blocks, as rows of bits.
use Rattle.std.specs.Prelude.{◌≡◌, Bool, true, false, ◌||◌, List, ℕ, ◌+◌, ◌*◌, ◌/◌, ◌%◌, eqb, get_or}
use Rattle.tableau.specs.declared.Sort.{Sort}
use Rattle.tableau.specs.declared.Relation.{Relation}
use Rattle.tableau.specs.Terms.{TermNo, Table, Literal, literal, at, sort_of}
use Rattle.tableau.specs.Background.{On}
use Rattle.packing.specs.Packing.{Packs, Small}
use Rattle.mentions.specs.Mentions.{bit_at}
use Rattle.partition.specs.declared.Partition.{Partition}
use Rattle.partition.specs.Blocks.{block_of}
use Rattle.class_order.specs.declared.Rows.{Rows}
use Rattle.class_order.specs.Words.{Less}

-- THE ORDER OF BLOCKS: the branch's le literals, the class terms, and what they come to
pub data Path (table : Table) (B : List Literal) (blocks : Partition) : TermNo → TermNo
    → Type 0 where
  edge : {x y : TermNo} (a b : TermNo) → On B (literal Relation.Le a b) → block_of blocks a ≡ x
      → block_of blocks b ≡ y → Path table B blocks x y
  loop : {x : TermNo} (t : TermNo) → sort_of (at table t) ≡ Sort.Class → block_of blocks t ≡ x
      → Path table B blocks x x
  compose : {x y z : TermNo} → Path table B blocks x y → Path table B blocks y z
      → Path table B blocks x z

-- bit y of row x
abbrev pub is_under : Rows → TermNo → TermNo → Bool
is_under rows x y = bit_at (get_or rows.words (x * 16 + y / 64) 0) (y % 64)

-- no bits
abbrev pub Empty : Rows → Type 0
Empty rows = (x y : TermNo) → is_under rows x y ≡ false

-- what is above y, and y, is above x
pub record Raised (old new : Rows) (x y : TermNo) (r : Bool) : Type 0 where
  pub row : (z : TermNo) → Small z
      → is_under new x z ≡ (is_under old x z || (is_under old y z || eqb y z))
  pub others : (v z : TermNo) → (v ≡ x → ⊥) → Small v → Small z
      → is_under new v z ≡ is_under old v z
  pub less : Less r old.words new.words

-- HOW ROWS CHANGE: bits stay, and where P holds the new ones are paths, as the old ones were
abbrev pub Only : Table → List Literal → Partition → Rows → Type 0
Only table B blocks rows = (x y : TermNo) → Small x → Small y → is_under rows x y ≡ true
    → Path table B blocks x y

abbrev pub Kept : Rows → Rows → Type 0
Kept old new = (x y : TermNo) → Small x → Small y → is_under old x y ≡ true
    → is_under new x y ≡ true

pub record Extended (P : Table → List Literal → Type 0) (blocks : Partition)
    (old new : Rows) : Type 0 where
  pub kept : Kept old new
  pub only : (table : Table) (B : List Literal) → P table B → Only table B blocks old
      → Only table B blocks new

-- ONE LITERAL. Where it changed nothing, it has nothing to add.
pub record Held (blocks : Partition) (rows : Rows) (l : Literal) : Type 0 where
  pub under : (a b : TermNo) → l ≡ literal Relation.Le a b
      → is_under rows (block_of blocks a) (block_of blocks b) ≡ true
  pub above : (a b z : TermNo) → l ≡ literal Relation.Le a b → Small z
      → is_under rows (block_of blocks b) z ≡ true → is_under rows (block_of blocks a) z ≡ true

abbrev pub HeldIf : Bool → Partition → Rows → Literal → Type 0
HeldIf false blocks rows l = Held blocks rows l
HeldIf true blocks rows l = Unit {0}

pub record RaisedLiteral (blocks : Partition) (old new : Rows) (l : Literal)
    (r : Bool) : Type 0 where
  pub change : Extended (λ table B. On B l) blocks old new
  pub less : Less r old.words new.words
  pub held : HeldIf r blocks new l

-- ALL LITERALS of a branch
abbrev pub AllHeld : Partition → Rows → List Literal → Type 0
AllHeld blocks rows B = (l : Literal) → On B l → Held blocks rows l

abbrev pub AllHeldIf : Bool → Partition → Rows → List Literal → Type 0
AllHeldIf false blocks rows B = AllHeld blocks rows B
AllHeldIf true blocks rows B = Unit {0}

abbrev pub AllOn : List Literal → Table → List Literal → Type 0
AllOn B table C = (l : Literal) → On B l → On C l

pub record Passed (blocks : Partition) (old new : Rows) (B : List Literal) (r : Bool) : Type 0 where
  pub change : Extended (AllOn B) blocks old new
  pub less : Less r old.words new.words
  pub held : AllHeldIf r blocks new B

-- NEW BITS COMPOSED OF OLD ONES, whatever the branch and the blocks
abbrev pub Composed : Rows → Rows → Type 0
Composed old new = (blocks : Partition) → Extended (λ table B. Unit {0}) blocks old new

-- A CLASS TERM t, whose packed form is p; and all of them
abbrev pub PackedAt : ℕ → TermNo → Table → List Literal → Type 0
PackedAt p t table B = Packs (at table t) p

pub record RaisedClass (blocks : Partition) (old new : Rows) (p t : ℕ) : Type 0 where
  pub change : Extended (PackedAt p t) blocks old new
  pub done : (table : Table) → Packs (at table t) p → sort_of (at table t) ≡ Sort.Class
      → is_under new (block_of blocks t) (block_of blocks t) ≡ true

abbrev pub ClassesUnder : Table → Partition → Rows → Type 0
ClassesUnder table blocks rows = (t : TermNo) → sort_of (at table t) ≡ Sort.Class
    → is_under rows (block_of blocks t) (block_of blocks t) ≡ true

pub record Reflexive (table : Table) (blocks : Partition) (rows : Rows) : Type 0 where
  pub classes : ClassesUnder table blocks rows
  pub only : (B : List Literal) → Only table B blocks rows

-- THE ROWS of a branch: its paths, and no others
pub record Filled (table : Table) (blocks : Partition) (rows : Rows)
    (B : List Literal) : Type 0 where
  pub classes : ClassesUnder table blocks rows
  pub held : AllHeld blocks rows B
  pub only : Only table B blocks rows
