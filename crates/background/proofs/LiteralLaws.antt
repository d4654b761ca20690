-- The eq literals of a branch joined.
use Rattle.std.proofs.Common.{◌≡◌, refl, sym, ◌∙◌, ap, subst, Bool, false, ◌||◌, List, Some, ℕ, ◌+◌}
use Rattle.std.proofs.Common.{◌<◌, ◌≤◌, arith, length, get_or, map, below_more}
use Rattle.tableau.specs.declared.Relation.{Relation}
use Rattle.tableau.specs.Terms.{TermNo, Literal, literal}
use Rattle.tableau.specs.Background as background
use Rattle.packing.specs.declared.LiteralView.{LiteralView}
use Rattle.packing.specs.Packing.{unpack_literal, PackableLiteral, IsNot, literal_of}
use Rattle.packing.proofs.PackingLaws.{literal_packable}
use Rattle.partition.specs.declared.Partition.{Partition}
use Rattle.partition.specs.Blocks.{block_of, Coarsened, Joined}
use Rattle.partition.proofs.JoinLaws.{unchanged, coarsened_where, changed_then}
use Rattle.class_order.specs.Rows.{AllOn}
use Rattle.class_order.proofs.BranchLaws.{code_on, each_on}
use Rattle.class_order.proofs.RowLaws.{not_read, read_sides}
use Rattle.background.specs.Closure.{JoinedLiteral, JoinedLiterals}

pub literal_skipped : (blocks : Partition) (p : LiteralView) (l : Literal) → l ≡ literal_of p
    → IsNot Relation.Eq p → JoinedLiteral blocks blocks l false
literal_skipped blocks p l is n =
    record {
      change = unchanged _ blocks;
      equal = λ a b e. absurd (not_read Relation.Eq p l a b is n e);
    }

-- what joined m and n, which l says are equal
pub literal_joined : (old new : Partition) (l : Literal) (m n : TermNo) (r : Bool)
    → l ≡ literal Relation.Eq m n → Joined old new m n r → JoinedLiteral old new l r
literal_joined old new l m n r is J = record {
  change = coarsened_where _ _ _ _ _ J.change
      (λ table B o C. background.eq_literal (o.0, o.1 ∙ ap Some is));
  equal = λ a b e. let s = read_sides (sym is ∙ e) in
      subst (λ v. block_of new v ≡ block_of new b) s.0
      (subst (λ v. block_of new m ≡ block_of new v) s.1 J.together);
}

-- THE FIRST i LITERALS
abbrev EqualAt : Partition → ℕ → Type 0
EqualAt blocks p = (a b : TermNo) → unpack_literal p ≡ literal Relation.Eq a b
    → block_of blocks a ≡ block_of blocks b

pub record Part (old new : Partition) (xs : List ℕ) (i : ℕ) (r : Bool) : Type 0 where
  pub change : Coarsened (AllOn (map unpack_literal xs)) old new r
  pub equal : (j : ℕ) → j < i → EqualAt new (get_or xs j 0)

pub part_more : (old mid new : Partition) (xs : List ℕ) (i : ℕ) (r s : Bool) → i < length xs
    → Part old mid xs i r → JoinedLiteral mid new (unpack_literal (get_or xs i 0)) s
    → Part old new xs (i + 1) (r || s)
part_more old mid new xs i r s l P J = record {
  change = changed_then _ _ _ old mid new r s P.change J.change (λ table B t _. t)
      (λ table B t _. t _ (code_on xs i l));
  equal = below_more (λ j. EqualAt new (get_or xs j 0)) i
      (λ j z a b e. let k : PackableLiteral (literal Relation.Eq a b) =
      subst PackableLiteral e (literal_packable (get_or xs j 0)) in
      J.change.coarser a b k.0 k.1 (P.equal j z a b e))
      J.equal;
}

pub part_all : (old new : Partition) (xs : List ℕ) (i : ℕ) (r : Bool) → length xs ≤ i
    → Part old new xs i r → JoinedLiterals old new (map unpack_literal xs) r
part_all old new xs i r h P = record {
  change = P.change;
  equal = λ a b o. each_on (λ l. l ≡ literal Relation.Eq a b → block_of new a ≡ block_of new b) xs
      (λ j l. P.equal j (omega arith) a b) _ o refl;
}
