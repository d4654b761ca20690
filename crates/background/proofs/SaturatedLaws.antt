-- Where nothing more can be joined, two terms are in one block exactly when their equality follows,
-- and one block is under another exactly when that follows.
use Rattle.std.proofs.Common.{◌≡◌, refl, sym, ◌∙◌, subst, true, List}
use Rattle.tableau.specs.declared.Sort.{Sort}
use Rattle.tableau.specs.declared.Relation.{Relation}
use Rattle.tableau.specs.Basics.{four}
use Rattle.tableau.specs.Terms.{TermNo, Table, Literal, literal, at, sort_of}
use Rattle.tableau.specs.Background as background
use Rattle.tableau.specs.Background.{On, Follows}
use Rattle.packing.specs.Packing.{Small}
use Rattle.partition.specs.declared.Partition.{Partition}
use Rattle.partition.specs.Blocks.{block_of, Sound}
use Rattle.class_order.specs.declared.Rows.{Rows}
use Rattle.class_order.specs.Rows as order
use Rattle.class_order.specs.Rows.{Path, is_under}
use Rattle.background.specs.Closure.{Saturated}

-- SOUND: numbers in one block follow to be equal, and a path follows to be an order
module _ (table : Table) (B : List Literal) (blocks : Partition) (C : Sound table B blocks) where
  pub equal_follows : (a b : TermNo) → Small a → Small b → block_of blocks a ≡ block_of blocks b
      → Follows table B Relation.Eq a b
  equal_follows a b la lb e =
      background.trn (C a la)
      (background.sym (subst (λ x. Follows table B Relation.Eq b x) (sym e) (C b lb)))

  block_of_lem : {x : TermNo} (a : TermNo) → Small a → block_of blocks a ≡ x
      → Follows table B Relation.Eq a x
  block_of_lem a l e = subst (λ v. Follows table B Relation.Eq a v) e (C a l)

  module _ (sides : (a b : TermNo) → On B (literal Relation.Le a b) → Small a × Small b)
      (classes : (t : TermNo) → sort_of (at table t) ≡ Sort.Class → Small t) where
    pub path_follows : {x y : TermNo} → Path table B blocks x y → Follows table B Relation.Le x y
    path_follows (order.edge a b o p q) =
        background.left (block_of_lem a (sides a b o).0 p)
        (background.right (block_of_lem b (sides a b o).1 q) (background.le_literal o))
    path_follows (order.loop t s p) =
        background.left (block_of_lem t (classes t s) p)
        (background.right (block_of_lem t (classes t s) p) (background.ler s))
    path_follows (order.compose p q) = background.let' (path_follows p) (path_follows q)

    pub under_follows : (a b : TermNo) → Small a → Small b
        → Path table B blocks (block_of blocks a) (block_of blocks b)
        → Follows table B Relation.Le a b
    under_follows a b la lb h =
        background.left (background.sym (C a la))
        (background.right (background.sym (C b lb)) (path_follows h))

-- COMPLETE: what follows is there
module _ (table : Table) (B : List Literal) (blocks : Partition) (rows : Rows)
    (K : Saturated table B blocks rows) where
  abbrev U : TermNo → TermNo → Type 0
  U x y = is_under rows x y ≡ true

  path_small : {x y : TermNo} → Path table B blocks x y → Small x × Small y
  path_small (order.edge a b o p q) =
      (subst Small p (blocks.valid.small a), subst Small q (blocks.valid.small b))
  path_small (order.loop t s p) =
      (subst Small p (blocks.valid.small t), subst Small p (blocks.valid.small t))
  path_small (order.compose p q) = ((path_small p).0, (path_small q).1)

  -- what is above the end of a path is above its start
  along : {x y : TermNo} → Path table B blocks x y → (z : TermNo) → Small z → U y z → U x z
  along (order.edge a b o p q) z l h =
      subst (λ v. U v z) p
      ((K.filled.held (literal Relation.Le a b) o).above a b z refl l
      (subst (λ v. U v z) (sym q) h))
  along (order.loop t s p) z l h = h
  along (order.compose p q) z l h = along p z l (along q z l h)

  -- a path with a way back is within one block
  back : {x y : TermNo} → Path table B blocks x y → U y x → x ≡ y
  back (order.edge {x = x} {y = y} a b o p q) h =
      sym p ∙ K.antisymmetric (literal Relation.Le a b) o a b refl
      (subst (λ v. U v (block_of blocks a)) (sym q) (subst (λ v. U y v) (sym p) h)) ∙ q
  back (order.loop t s p) h = refl
  back (order.compose {x = x} {y = y} {z = z} p q) h =
      let e : x ≡ y = back p (along q x (path_small p).0 h) in
      e ∙ back q (subst (λ v. U z v) e h)

  abbrev pub There : Relation → TermNo → TermNo → Type 0
  There Relation.Eq a b = block_of blocks a ≡ block_of blocks b
  There Relation.Le a b = U (block_of blocks a) (block_of blocks b)
  There Relation.In a b = Unit {0}
  There Relation.Ni a b = Unit {0}
  There Relation.Ne a b = Unit {0}
  There Relation.Nl a b = Unit {0}

  path_of : (a b : TermNo) → U (block_of blocks a) (block_of blocks b)
      → Path table B blocks (block_of blocks a) (block_of blocks b)
  path_of a b = K.filled.only (block_of blocks a) (block_of blocks b) (blocks.valid.small a)
      (blocks.valid.small b)

  pub follows_there : {R : Relation} {a b : TermNo} → Follows table B R a b → There R a b
  follows_there (background.eq_literal {a = a} {b = b} o) = K.equal a b o
  follows_there (background.le_literal {a = a} {b = b} o) =
      (K.filled.held (literal Relation.Le a b) o).under a b refl
  follows_there background.ref = refl
  follows_there (background.sym h) = sym (follows_there h)
  follows_there (background.trn h g) = follows_there h ∙ follows_there g
  follows_there (background.sub {t = t} {w = w} {o = o} {k = k} {l = l} p q takes a b c d) =
      K.congruent t w o k l p q takes
      (λ i. four (follows_there a i) (follows_there b i) (follows_there c i)
      (follows_there d i))
  follows_there (background.ler {t = t} s) = K.filled.classes t s
  follows_there (background.let' {a = a} {b = b} {c = c} h g) =
      along (path_of a b (follows_there h)) (block_of blocks c) (blocks.valid.small c)
      (follows_there g)
  follows_there (background.lea {a = a} {b = b} h g) =
      back (path_of a b (follows_there h)) (follows_there g)
  follows_there (background.left {c = c} e h) =
      subst (λ x. U x (block_of blocks c)) (follows_there e) (follows_there h)
  follows_there (background.right {a = a} e h) =
      subst (λ x. U (block_of blocks a) x) (follows_there e) (follows_there h)
