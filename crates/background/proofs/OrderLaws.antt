-- Blocks that are under each other joined; literals that deny what the blocks and rows say.
use Rattle.std.proofs.Common.{◌≡◌, refl, sym, ◌∙◌, ap, subst, Bool, true, false, ◌||◌, List, []}
use Rattle.std.proofs.Common.{◌∷◌, Some, ℕ, ◌+◌, ◌<◌, ◌≤◌, arith, length, get_or, map, below_more}
use Rattle.std.specs.List.{list_any}
use Rattle.tableau.specs.declared.Relation.{Relation}
use Rattle.tableau.specs.Terms.{TermNo, Literal, literal}
use Rattle.tableau.specs.Background as background
use Rattle.tableau.specs.Background.{On, Follows}
use Rattle.tableau.proofs.Bools.{clash}
use Rattle.packing.specs.declared.LiteralView.{LiteralView}
use Rattle.packing.specs.Packing.{unpack_literal, Small, IsNot, literal_of}
use Rattle.packing.proofs.ViewLaws.{Misses}
use Rattle.partition.specs.declared.Partition.{Partition}
use Rattle.partition.specs.Blocks.{block_of, Fewer, Coarsened, Joined}
use Rattle.partition.proofs.JoinLaws.{unchanged, coarsened_where, changed_then}
use Rattle.class_order.specs.declared.Rows.{Rows}
use Rattle.class_order.specs.Rows.{is_under, AllOn}
use Rattle.class_order.proofs.BranchLaws.{code_on, each_on}
use Rattle.class_order.proofs.RowLaws.{not_read, read_sides}
use Rattle.background.specs.Closure.{UnderFollows, Mutual, MutualIf, JoinedMutual, AllMutualIf}
use Rattle.background.specs.Closure.{Antisymmetric, denies}

-- ONE LITERAL: no le, one whose sides are not under each other, one whose are
pub mutual_skipped : (rows : Rows) (blocks : Partition) (p : LiteralView) (l : Literal)
    → l ≡ literal_of p → IsNot Relation.Le p → JoinedMutual rows blocks blocks l false
mutual_skipped rows blocks p l is n =
    record {
      change = unchanged _ blocks;
      mutual_if = λ a b e. absurd (not_read Relation.Le p l a b is n e);
    }

module _ (rows : Rows) (old : Partition) (l : Literal) (m n : TermNo)
    (is : l ≡ literal Relation.Le m n) where
  pub not_mutual : is_under rows (block_of old n) (block_of old m) ≡ false
      → JoinedMutual rows old old l false
  not_mutual h = record {
    change = unchanged _ old;
    mutual_if = λ a b e k. let s = read_sides (sym is ∙ e) in
        clash (subst (λ v. is_under rows (block_of old v) (block_of old m) ≡ true) (sym s.1)
        (subst (λ v. is_under rows (block_of old b) (block_of old v) ≡ true) (sym s.0) k)) h;
  }

  together_if : (new : Partition) (r : Bool) → Joined old new m n r → MutualIf r new rows l
  together_if new true J = tt
  together_if new false J = λ a b e k. let s = read_sides (sym is ∙ e) in
      subst (λ v. block_of new v ≡ block_of new b) s.0
      (subst (λ v. block_of new m ≡ block_of new v) s.1 J.together)

  pub mutual_joined : (new : Partition) (r : Bool) → Small m → Small n
      → is_under rows (block_of old n) (block_of old m) ≡ true → Joined old new m n r
      → JoinedMutual rows old new l r
  mutual_joined new r lm ln h J = record {
    change = coarsened_where _ _ _ _ _ J.change (λ table B p C.
        let given : Follows table B Relation.Le m n =
        background.le_literal (p.0.0, p.0.1 ∙ ap Some is) in
        let back : Follows table B Relation.Le n m =
        background.left (background.sym (C n ln))
        (background.right (background.sym (C m lm))
        (p.1 _ _ (old.valid.small n) (old.valid.small m) h)) in
        background.lea given back);
    mutual_if = together_if new r J;
  }

-- THE FIRST i LITERALS
abbrev MutualUpTo : Bool → Partition → Rows → List ℕ → ℕ → Type 0
MutualUpTo false blocks rows xs i = (j : ℕ) → j < i
    → Mutual blocks rows (unpack_literal (get_or xs j 0))
MutualUpTo true blocks rows xs i = Unit {0}

pub record Part (rows : Rows) (old new : Partition) (xs : List ℕ) (i : ℕ) (r : Bool) : Type 0 where
  pub change : Coarsened (λ table C. AllOn (map unpack_literal xs) table C
      × UnderFollows rows table C) old new r
  pub mutual_if : MutualUpTo r new rows xs i

mutual_more : (r s : Bool) (rows : Rows) (mid new : Partition) (xs : List ℕ) (i : ℕ)
    → Fewer s mid new → MutualUpTo r mid rows xs i
    → MutualIf s new rows (unpack_literal (get_or xs i 0)) → MutualUpTo (r || s) new rows xs (i + 1)
mutual_more true s rows mid new xs i e h k = tt
mutual_more false true rows mid new xs i e h k = tt
mutual_more false false rows mid new xs i e h k =
    below_more (λ j. Mutual new rows (unpack_literal (get_or xs j 0))) i
    (λ j z. subst (λ (v : Partition). Mutual v rows (unpack_literal (get_or xs j 0))) (sym e)
    (h j z)) k

pub part_more : (rows : Rows) (old mid new : Partition) (xs : List ℕ) (i : ℕ) (r s : Bool)
    → i < length xs → Part rows old mid xs i r
    → JoinedMutual rows mid new (unpack_literal (get_or xs i 0)) s
    → Part rows old new xs (i + 1) (r || s)
part_more rows old mid new xs i r s l P J = record {
  change = changed_then _ _ _ old mid new r s P.change J.change (λ table B t _. t)
      (λ table B t _. (t.0 _ (code_on xs i l), t.1));
  mutual_if = mutual_more r s rows mid new xs i J.change.fewer P.mutual_if J.mutual_if;
}

all_mutual : (r : Bool) (rows : Rows) (blocks : Partition) (xs : List ℕ) (i : ℕ) → length xs ≤ i
    → MutualUpTo r blocks rows xs i → AllMutualIf r blocks rows (map unpack_literal xs)
all_mutual true rows blocks xs i h k = tt
all_mutual false rows blocks xs i h k = each_on (Mutual blocks rows) xs (λ j l. k j (omega arith))

pub part_all : (rows : Rows) (old new : Partition) (xs : List ℕ) (i : ℕ) (r : Bool) → length xs ≤ i
    → Part rows old new xs i r → Antisymmetric rows old new (map unpack_literal xs) r
part_all rows old new xs i r h P =
    record { change = P.change; mutual_if = all_mutual r rows new xs i h P.mutual_if }

-- a literal that is neither ne nor nl denies nothing
pub denied_other : (blocks : Partition) (rows : Rows) (p : LiteralView)
    → Misses Relation.Ne p × Misses Relation.Nl p → denies blocks rows (literal_of p) ≡ false
unfolding denies
denied_other blocks rows (LiteralView.In m n) h = refl
denied_other blocks rows (LiteralView.Ni m n) h = refl
denied_other blocks rows (LiteralView.Eq m n) h = refl
denied_other blocks rows (LiteralView.Le m n) h = refl
denied_other blocks rows (LiteralView.Ne m n) h = absurd (h.0 m n refl)
denied_other blocks rows (LiteralView.Nl m n) h = absurd (h.1 m n refl)

-- a test of the literals of some codes
pub list_any-map : {A B : Type 0} (p : B → Bool) (f : A → B) (xs : List A)
    → list_any p (map f xs) ≡ list_any (λ x. p (f x)) xs
list_any-map p f [] = refl
list_any-map p f (x ∷ xs) = ap (λ r. p (f x) || r) (list_any-map p f xs)
