-- The passes over a branch and over the class terms.
use Rattle.std.proofs.Common.{◌≡◌, refl, ap, Bool, true, false, List, ℕ, ◌+◌, ◌<◌, ◌≤◌, arith}
use Rattle.std.proofs.Common.{length, get_or, map, below_more}
use Rattle.tableau.specs.declared.Sort.{Sort}
use Rattle.tableau.specs.Terms.{TermNo, Table, Literal, at, sort_of, sort_index, same_sort, result}
use Rattle.tableau.proofs.TableGrowth.{inside}
use Rattle.packing.specs.Packing.{unpack_literal}
use Rattle.table.specs.Held.{Entries}
use Rattle.table.proofs.EntryLaws.{packs}
use Rattle.partition.specs.declared.Partition.{Partition}
use Rattle.partition.specs.Blocks.{block_of}
use Rattle.class_order.specs.declared.Rows.{Rows}
use Rattle.class_order.specs.Words.{Less}
use Rattle.class_order.specs.Rows.{is_under, Only, Extended, Held, AllHeldIf, AllOn, Passed}
use Rattle.class_order.specs.Rows.{RaisedClass, ClassesUnder, Reflexive}
use Rattle.class_order.proofs.BranchLaws.{each_on}

-- THE FIRST i LITERALS
abbrev HeldUpTo : Bool → Partition → Rows → List ℕ → ℕ → Type 0
HeldUpTo false blocks rows xs i = (j : ℕ) → j < i
    → Held blocks rows (unpack_literal (get_or xs j 0))
HeldUpTo true blocks rows xs i = Unit {0}

pub record PassPart (blocks : Partition) (old new : Rows) (xs : List ℕ) (i : ℕ)
    (r : Bool) : Type 0 where
  pub change : Extended (AllOn (map unpack_literal xs)) blocks old new
  pub less : Less r old.words new.words
  pub held : HeldUpTo r blocks new xs i

held_all : (r : Bool) (blocks : Partition) (rows : Rows) (xs : List ℕ) (i : ℕ) → length xs ≤ i
    → HeldUpTo r blocks rows xs i → AllHeldIf r blocks rows (map unpack_literal xs)
held_all true blocks rows xs i h k = tt
held_all false blocks rows xs i h k = each_on (Held blocks rows) xs (λ j l. k j (omega arith))

pub pass_all : (blocks : Partition) (old new : Rows) (xs : List ℕ) (i : ℕ) (r : Bool)
    → length xs ≤ i → PassPart blocks old new xs i r
    → Passed blocks old new (map unpack_literal xs) r
pass_all blocks old new xs i r h P =
    record { change = P.change; less = P.less; held = held_all r blocks new xs i h P.held }

-- a class term stands in the table
pub class_in_table : (table : Table) (t : TermNo) → sort_of (at table t) ≡ Sort.Class
    → (0 < t) × (t ≤ length table)
unfolding result sort_index
class_in_table table t e = inside (λ x. same_sort Sort.Class (sort_of x)) refl table t
    (ap (same_sort Sort.Class) e)

-- THE CLASS TERMS before t
pub record ClassPart (blocks : Partition) (rows : Rows) (terms : List ℕ) (t : ℕ) : Type 0 where
  pub done : (s : ℕ) → s < t → 1 ≤ s → (table : Table) → Entries table terms
      → sort_of (at table s) ≡ Sort.Class → is_under rows (block_of blocks s) (block_of blocks s)
      ≡ true
  pub only : (table : Table) → Entries table terms → (B : List Literal) → Only table B blocks rows

pub class_more : (blocks : Partition) (old new : Rows) (terms : List ℕ) (t : ℕ)
    → ClassPart blocks old terms t → RaisedClass blocks old new (get_or terms t 0) t
    → ClassPart blocks new terms (t + 1)
class_more blocks old new terms t P R = record {
  done = below_more _ t
      (λ s z a table E e. R.change.kept _ _ (blocks.valid.small s) (blocks.valid.small s)
      (P.done s z a table E e)) (λ a table E e. R.done table (packs table terms E t) e);
  only = λ table E B. R.change.only table B (packs table terms E t) (P.only table E B);
}

pub class_all : (blocks : Partition) (rows : Rows) (terms : List ℕ) (n t : ℕ) → n < t
    → ClassPart blocks rows terms t
    → (table : Table) → Entries table terms → length table ≡ n → Reflexive table blocks rows
class_all blocks rows terms n t l P table E len = record {
  classes = λ s e. let k = class_in_table table s e in P.done s (omega (arith, k.1)) k.0 table E e;
  only = P.only table E;
}

-- THE PASSES: the rows hold the class terms, and nothing but paths
abbrev pub Told : Partition → Rows → List ℕ → ℕ → List Literal → Type 0
Told blocks rows terms n B = (table : Table) → Entries table terms → length table ≡ n
    → ClassesUnder table blocks rows × Only table B blocks rows

pub told_first : (blocks : Partition) (rows : Rows) (terms : List ℕ) (n : ℕ) (B : List Literal)
    → ((table : Table) → Entries table terms → length table ≡ n → Reflexive table blocks rows)
    → Told blocks rows terms n B
told_first blocks rows terms n B R table E len = ((R table E len).classes, (R table E len).only B)

pub told_more : (P : Table → List Literal → Type 0) (blocks : Partition) (old new : Rows)
    (terms : List ℕ) (n : ℕ) (B : List Literal) → ((table : Table) → P table B)
    → Extended P blocks old new → Told blocks old terms n B → Told blocks new terms n B
told_more P blocks old new terms n B p E T table G len = let t = T table G len in (
  λ s e. E.kept _ _ (blocks.valid.small s) (blocks.valid.small s) (t.0 s e),
  E.only table B (p table) t.1,
)
