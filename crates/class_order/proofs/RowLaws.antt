-- A literal and a class term in the rows.
use Rattle.std.proofs.Common.{◌≡◌, refl, sym, ◌∙◌, ap, subst, Bool, true, false, ◌||◌, List, ◌⊎◌}
use Rattle.std.proofs.Common.{inl, inr, Some, ℕ, eqb, eqb-true}
use borrow.Author.Tests.{eqb-false}
use Rattle.tableau.specs.declared.Sort.{Sort}
use Rattle.tableau.specs.declared.Relation.{Relation}
use Rattle.tableau.specs.Terms.{TermNo, Table, Literal, literal, at, sort_of, relation_index}
use Rattle.tableau.specs.Terms.{same_sort, same_relation}
use Rattle.tableau.proofs.Bools.{dec, clash, eqb_same, one_true, or_l, or_r}
use Rattle.tableau.proofs.Match.{same_sort_lem}
use Rattle.packing.specs.declared.LiteralView.{LiteralView}
use Rattle.packing.specs.Packing.{Packs, Small, IsNot, relation_of, literal_of}
use Rattle.partition.specs.declared.Partition.{Partition}
use Rattle.partition.specs.Blocks.{block_of}
use Rattle.class_order.specs.declared.Rows.{Rows}
use Rattle.class_order.specs.Rows as order
use Rattle.class_order.proofs.WordLaws.{same_rows}
use Rattle.class_order.specs.Rows.{Path, is_under, Raised, Only, Kept, Extended, HeldIf}
use Rattle.class_order.specs.Rows.{RaisedLiteral, Composed, RaisedClass}

-- CHANGES OF ROWS, one after the other
pub unchanged : (P : Table → List Literal → Type 0) (blocks : Partition) (rows : Rows)
    → Extended P blocks rows rows
unchanged P blocks rows = record { kept = λ x y lx ly h. h; only = λ table B p O. O }

pub extended_then : (P Q T : Table → List Literal → Type 0) (blocks : Partition)
    (old mid new : Rows) → Extended P blocks old mid → Extended Q blocks mid new
    → ((table : Table) (B : List Literal) → T table B → P table B)
    → ((table : Table) (B : List Literal) → T table B → Q table B) → Extended T blocks old new
extended_then P Q T blocks old mid new E F p q = record {
  kept = λ x y lx ly h. F.kept x y lx ly (E.kept x y lx ly h);
  only = λ table B t O. F.only table B (q table B t) (E.only table B (p table B t) O);
}

-- ONE ROW RAISED
module _ (old new : Rows) (x y : TermNo) (r : Bool) (R : Raised old new x y r) (lx : Small x)
    (ly : Small y) where
  raised_kept : Kept old new
  raised_kept v z lv lz h = elim (dec (eqb v x)) [
    | inl p ↦ let e = eqb-true v x p in
        subst (λ w. is_under new w z ≡ true) (sym e)
        (R.row z lz ∙ or_l (is_under old y z || eqb y z)
        (subst (λ w. is_under old w z ≡ true) e h))
    | inr p ↦ R.others v z (eqb-false v x p) lv lz ∙ h
  ]

  pub raised_under : is_under new x y ≡ true
  raised_under = R.row y ly ∙ or_r (is_under old x y) (or_r (is_under old y y) (eqb_same y))

  raised_above : new.words ≡ old.words → (z : TermNo) → Small z → is_under new y z ≡ true
      → is_under new x z ≡ true
  raised_above e z lz h =
      R.row z lz
      ∙ or_r (is_under old x z)
      (or_l (eqb y z) (subst (λ (v : Rows). is_under v y z ≡ true) (same_rows old new e) h))

  raised_only : (table : Table) (B : List Literal) (blocks : Partition) → Path table B blocks x y
      → Only table B blocks old → Only table B blocks new
  raised_only table B blocks p O v z lv lz h = elim (dec (eqb v x)) [
    | inl q ↦ let e = eqb-true v x q in
        subst (λ w. Path table B blocks w z) (sym e)
        (go (one_true (is_under old x z) (is_under old y z || eqb y z)
        (sym (R.row z lz) ∙ subst (λ w. is_under new w z ≡ true) e h)))
    | inr q ↦ O v z lv lz (sym (R.others v z (eqb-false v x q) lv lz) ∙ h)
  ]
    where
      beyond : (is_under old y z ≡ true) ⊎ (eqb y z ≡ true) → Path table B blocks x z
      beyond (inl k) = order.compose p (O y z ly lz k)
      beyond (inr k) = subst (λ w. Path table B blocks x w) (eqb-true y z k) p

      go : (is_under old x z ≡ true) ⊎ (is_under old y z || eqb y z ≡ true)
          → Path table B blocks x z
      go (inl k) = O x z lx lz k
      go (inr k) = beyond (one_true (is_under old y z) (eqb y z) k)

  pub raised_extended : (P : Table → List Literal → Type 0) (blocks : Partition)
      → ((table : Table) (B : List Literal) → P table B → Path table B blocks x y)
      → Extended P blocks old new
  raised_extended P blocks path =
      record {
        kept = raised_kept;
        only = λ table B p O. raised_only table B blocks (path table B p) O;
      }

  -- of a pair that the rows hold already
  pub raised_composed : is_under old x y ≡ true → Composed old new
  raised_composed h blocks =
      record {
        kept = raised_kept;
        only = λ table B p O. raised_only table B blocks (O x y lx ly h) O;
      }

-- A LITERAL of another relation, and one of le
other_relation : (R : Relation) (p : LiteralView) (a b : TermNo) → IsNot R p
    → literal_of p ≡ literal R a b → ⊥
other_relation R p a b n e =
    clash (ap (same_relation R) (relation_is p e) ∙ eqb_same (relation_index R)) n
  where
    relation_is : (p : LiteralView) → literal_of p ≡ literal R a b → relation_of p ≡ R
    relation_is (LiteralView.In m n) e = cc
    relation_is (LiteralView.Ni m n) e = cc
    relation_is (LiteralView.Eq m n) e = cc
    relation_is (LiteralView.Ne m n) e = cc
    relation_is (LiteralView.Le m n) e = cc
    relation_is (LiteralView.Nl m n) e = cc

pub not_read : (R : Relation) (p : LiteralView) (l : Literal) (a b : TermNo) → l ≡ literal_of p
    → IsNot R p → l ≡ literal R a b → ⊥
not_read R p l a b is n e = other_relation R p a b n (sym is ∙ e)

pub literal_skipped : (blocks : Partition) (rows : Rows) (p : LiteralView) (l : Literal)
    → l ≡ literal_of p → IsNot Relation.Le p → RaisedLiteral blocks rows rows l false
literal_skipped blocks rows p l is n = record {
  change = unchanged _ blocks rows;
  less = refl;
  held = record {
    under = λ a b e. absurd (not_read Relation.Le p l a b is n e);
    above = λ a b z e. absurd (not_read Relation.Le p l a b is n e);
  };
}

pub read_sides : {R : Relation} {a b m n : TermNo} → literal R m n ≡ literal R a b
    → (m ≡ a) × (n ≡ b)
read_sides e = (cc, cc)

module _ (blocks : Partition) (old new : Rows) (l : Literal) (m n : TermNo)
    (is : l ≡ literal Relation.Le m n) where
  abbrev x : TermNo
  x = block_of blocks m

  abbrev y : TermNo
  y = block_of blocks n

  held_if : (r : Bool) → Raised old new x y r → HeldIf r blocks new l
  held_if true R = tt
  held_if false R = record {
    under = λ a b e. let s = read_sides (sym is ∙ e) in
        subst (λ v. is_under new (block_of blocks v) (block_of blocks b) ≡ true) s.0
        (subst (λ v. is_under new x (block_of blocks v) ≡ true) s.1
        (raised_under old new x y false R (blocks.valid.small m) (blocks.valid.small n)));
    above = λ a b z e lz h. let s = read_sides (sym is ∙ e) in
        subst (λ v. is_under new (block_of blocks v) z ≡ true) s.0
        (raised_above old new x y false R (blocks.valid.small m) (blocks.valid.small n) R.less z lz
        (subst (λ v. is_under new (block_of blocks v) z ≡ true) (sym s.1) h));
  }

  pub literal_raised : (r : Bool) → Raised old new x y r → RaisedLiteral blocks old new l r
  literal_raised r R = record {
    change = raised_extended old new x y r R (blocks.valid.small m) (blocks.valid.small n) _ blocks
        (λ table B o. order.edge m n (o.0, o.1 ∙ ap Some is) refl refl);
    less = R.less;
    held = held_if r R;
  }

-- A CLASS TERM
pub class_raised : (blocks : Partition) (old new : Rows) (p t : ℕ) (b r : Bool)
    → ((table : Table) → Packs (at table t) p → b ≡ same_sort Sort.Class (sort_of (at table t)))
    → b ≡ true
    → Raised old new (block_of blocks t) (block_of blocks t) r → RaisedClass blocks old new p t
class_raised blocks old new p t b r told e R = record {
  change = raised_extended old new _ _ r R (blocks.valid.small t) (blocks.valid.small t) _ blocks
      (λ table B k. order.loop t
      (sym (same_sort_lem Sort.Class (sort_of (at table t)) (sym (told table k) ∙ e))) refl);
  done = λ table k s. raised_under old new _ _ r R (blocks.valid.small t) (blocks.valid.small t);
}
