-- The rounds, and the answer.
use Rattle.std.proofs.Common.{◌≡◌, refl, sym, ◌∙◌, ap, subst, Bool, true, false, true≢false, List}
use Rattle.std.proofs.Common.{[], ◌∷◌, inl, inr, ℕ, suc, ◌+◌, ◌≤◌, arith, length, map, Option}
use Rattle.std.proofs.Common.{Some, None}
use Rattle.std.proofs.Common.{eqb-true, eq-eqb}
use mathlib.Core.Bool.{false≢true}
use Rattle.tableau.specs.declared.Sort.{Sort}
use Rattle.tableau.specs.declared.Relation.{Relation}
use Rattle.tableau.specs.Terms.{TermNo, Table, Literal, literal, at, sort_of}
use Rattle.tableau.specs.Background as background
use Rattle.tableau.specs.Background.{On, Follows, Contradicted, by_ne, by_nl}
use Rattle.tableau.specs.Saturation.{contradicted}
use Rattle.tableau.proofs.Bools.{dec, clash, one_true}
use Rattle.std.specs.List.{list_any}
use Rattle.std.proofs.lemmas.Map.Keys.{any_passes_from_place}
use Rattle.tableau.proofs.SaturationExact.{contradicted_only, contradicted_if}
use Rattle.packing.specs.Packing.{unpack_literal, Small}
use Rattle.table.specs.Held.{Entries}
use Rattle.partition.specs.declared.Partition.{Partition}
use Rattle.partition.specs.Blocks.{block_of, Sound, Fewer, one_if, roots, Singletons}
use Rattle.congruence.specs.Signatures.{JoinedAlike, CongruentIf}
use Rattle.class_order.specs.declared.Rows.{Rows}
use Rattle.class_order.specs.Rows.{Filled}
use Rattle.class_order.proofs.BranchLaws.{sides_small}
use Rattle.class_order.proofs.FillLaws.{class_in_table}
use Rattle.background.specs.Closure.{JoinedLiterals, UnderFollows, AllMutual, Antisymmetric}
use Rattle.background.specs.Closure.{Saturated, denies, Ordered, Rounded}
use Rattle.background.proofs.OrderLaws.{list_any-map}
use Rattle.background.proofs.SaturatedLaws.{equal_follows, path_follows, under_follows}
use Rattle.background.proofs.SaturatedLaws.{follows_there}

class_small : (table : Table) (terms : List ℕ) → Entries table terms → (t : TermNo)
    → sort_of (at table t) ≡ Sort.Class → Small t
class_small table terms E t s = omega (arith, (class_in_table table t s).1, E.few)

-- blocks that were joined are fewer, and others as many
fewer_if : (r : Bool) (old new : Partition) → Fewer r old new
    → roots 1024 new + one_if r ≤ roots 1024 old
fewer_if true old new h = omega arith
fewer_if false old new h = let q : roots 1024 new ≡ roots 1024 old = ap (roots 1024) h in
    omega arith

-- A ROUND THAT FOUND NO ALIKE TERMS: its blocks are those that the literals made
pub none_alike : (old mid new : Partition) (terms : List ℕ) (n : ℕ) (B : List Literal) (q r : Bool)
    → r ≡ false → JoinedLiterals old mid B q → JoinedAlike mid new terms n r
    → JoinedLiterals old new B q × CongruentIf false new terms n
none_alike old mid new terms n B q r e L J =
    let N : JoinedAlike mid new terms n false = subst (λ v. JoinedAlike mid new terms n v) e J in
    (subst (λ (v : Partition). JoinedLiterals old v B q) (sym N.change.fewer) L, N.congruent_if)

-- then the order is looked at
module _ (old mid new : Partition) (rows : Rows) (terms xs : List ℕ) (n : ℕ) (q r : Bool)
    (L : JoinedLiterals old mid (map unpack_literal xs) q × CongruentIf false mid terms n)
    (F : (table : Table) → Entries table terms → length table ≡ n
    → Filled table mid rows (map unpack_literal xs))
    (A : Antisymmetric rows mid new (map unpack_literal xs) r) where
  abbrev B : List Literal
  B = map unpack_literal xs

  under : (table : Table) → Entries table terms → length table ≡ n → Sound table B mid
      → UnderFollows rows table B
  under table E len C x y lx ly h =
      path_follows table B mid C (sides_small xs Relation.Le) (class_small table terms E)
      ((F table E len).only x y lx ly h)

  sound : (table : Table) → Entries table terms → length table ≡ n → Sound table B old
      → Sound table B new
  sound table E len D = let M = L.0.change.sound table B (λ l o. o) D in
      A.change.sound table B ((λ l o. o), under table E len M) M

  fewer : roots 1024 new + one_if r ≤ roots 1024 old
  fewer = omega (arith, fewer_if q old mid L.0.change.fewer, fewer_if r mid new A.change.fewer)

  pub round_mutual : r ≡ true → Rounded old new terms n B None
  round_mutual e = record {
    fewer = subst (λ v. roots 1024 new + one_if v ≤ roots 1024 old) e fewer;
    sound = sound;
    saturated_if = tt;
  }

  saturated : new ≡ mid → AllMutual new rows B → (table : Table) → Entries table terms
      → length table ≡ n → Saturated table B new rows
  saturated e M table E len =
      subst (λ (v : Partition). AllMutual v rows B → Saturated table B v rows) (sym e)
      (λ M. record {
        equal = L.0.equal;
        congruent = L.1 table E len;
        filled = F table E len;
        antisymmetric = M;
      }) M

  pub round_saturated : (s : Bool) → r ≡ false
      → s ≡ list_any (λ code. denies new rows (unpack_literal code)) xs
      → Rounded old new terms n B (Some s)
  round_saturated s e D =
      let N : Antisymmetric rows mid new B false =
      subst (λ v. Antisymmetric rows mid new B v) e A in
      record {
        fewer = subst (λ v. roots 1024 new + one_if v ≤ roots 1024 old) e fewer;
        sound = sound;
        saturated_if = (
          rows,
          saturated N.change.fewer N.mutual_if,
          D
              ∙ sym (list_any-map (denies new rows) unpack_literal xs),
        );
      }

-- what the order's part answers is what the round does
pub round_ordered : (old mid new : Partition) (terms xs : List ℕ) (n : ℕ) (q : Bool)
    → JoinedLiterals old mid (map unpack_literal xs) q × CongruentIf false mid terms n
    → (r : Option Bool) → Ordered mid new terms n xs r
    → Rounded old new terms n (map unpack_literal xs) r
round_ordered old mid new terms xs n q L None O =
    round_mutual old mid new O.rows terms xs n q true L O.filled O.change refl
round_ordered old mid new terms xs n q L (Some s) O =
    round_saturated old mid new O.rows terms xs n q false L O.filled O.change s refl O.answer

-- ALL ROUNDS so far
abbrev pub SoundOver : List ℕ → ℕ → List Literal → Partition → Type 0
SoundOver terms n B blocks = (table : Table) → Entries table terms → length table ≡ n
    → Sound table B blocks

pub sound_first : (terms : List ℕ) (n : ℕ) (B : List Literal) (blocks : Partition)
    → Singletons blocks → SoundOver terms n B blocks
sound_first terms n B blocks S table E len x lx =
    subst (λ v. Follows table B Relation.Eq x v) (sym (S x lx)) background.ref

-- what a test of some literal or of none says
some_on : (p : Literal → Bool) (B : List Literal) → list_any p B ≡ true → (l : Literal) × On B l
    × (p l ≡ true)
some_on p [] e = absurd (false≢true e)
some_on p (x ∷ B) e =
    elim (one_true (p x) (list_any p B) e) [
      | inl h ↦ (x, (0, refl), h)
      | inr h ↦ let k =
          some_on p B h in (k.0, (suc k.1.0, k.1.1), k.2)
    ]

none_on : (p : Literal → Bool) (B : List Literal) → list_any p B ≡ false → (l : Literal) → On B l
    → p l ≡ false
none_on p B e l o =
    elim (dec (p l)) [ inl h ↦ clash (any_passes_from_place p B o.0 l o.1 h) e | inr h ↦ h ]

-- THE ANSWER of a round that joined nothing
module _ (old blocks : Partition) (terms xs : List ℕ) (n : ℕ) (r : Bool)
    (P : SoundOver terms n (map unpack_literal xs) old)
    (R : Rounded old blocks terms n (map unpack_literal xs) (Some r))
    (table : Table) (E : Entries table terms) (len : length table ≡ n) where
  abbrev C : List Literal
  C = map unpack_literal xs

  sound_here : Sound table C blocks
  sound_here = R.sound table E len (P table E len)

  abbrev rows : Rows
  rows = R.saturated_if.0

  all_there : Saturated table C blocks rows
  all_there = R.saturated_if.1 table E len

  denied_contradicted : (l : Literal) → On C l → denies blocks rows l ≡ true → Contradicted table C
  unfolding denies
  denied_contradicted (literal Relation.Ne a b) o h =
      let s = sides_small xs Relation.Ne a b o in
      by_ne o (equal_follows table C blocks sound_here a b s.0 s.1
      (eqb-true (block_of blocks a) (block_of blocks b) h))
  denied_contradicted (literal Relation.Nl a b) o h =
      let s = sides_small xs Relation.Nl a b o in
      by_nl o (under_follows table C blocks sound_here (sides_small xs Relation.Le)
      (class_small table terms E) a b s.0 s.1
      (all_there.filled.only (block_of blocks a) (block_of blocks b) (blocks.valid.small a)
      (blocks.valid.small b) h))
  denied_contradicted (literal Relation.In a b) o h = absurd (false≢true h)
  denied_contradicted (literal Relation.Ni a b) o h = absurd (false≢true h)
  denied_contradicted (literal Relation.Eq a b) o h = absurd (false≢true h)
  denied_contradicted (literal Relation.Le a b) o h = absurd (false≢true h)

  none_contradicted : ((l : Literal) → On C l → denies blocks rows l ≡ false) → Contradicted table C
      → ⊥
  unfolding denies
  none_contradicted f (by_ne {a = a} {b = b} o h) =
      true≢false
      (sym (eq-eqb (block_of blocks a) (block_of blocks b)
      (follows_there table C blocks rows all_there h)) ∙ f (literal Relation.Ne a b) o)
  none_contradicted f (by_nl {a = a} {b = b} o h) =
      true≢false (sym (follows_there table C blocks rows all_there h)
      ∙ f (literal Relation.Nl a b) o)

  answer : (r : Bool) → r ≡ list_any (denies blocks rows) C → r ≡ contradicted table C
  answer true e = let (l, o, h) = some_on (denies blocks rows) C (sym e) in
      sym (contradicted_if table C (denied_contradicted l o h))
  answer false e = elim (dec (contradicted table C)) [
    | inl h ↦
        absurd (none_contradicted (none_on (denies blocks rows) C (sym e))
        (contradicted_only table C h))
    | inr h ↦ sym h
  ]

  pub answered : r ≡ contradicted table C
  answered = answer r R.saturated_if.2
