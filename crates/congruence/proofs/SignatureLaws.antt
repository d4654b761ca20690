-- What two terms with one signature have in common.
use Rattle.std.proofs.Common.{◌≡◌, refl, sym, ◌∙◌, ap, subst, Bool, true, false, cond, List, ℕ, ◌/◌}
use Rattle.std.proofs.Common.{◌%◌, ◌<◌, ◌≤◌, arith, length, get_or}
use Rattle.tableau.specs.declared.Operator.{Operator}
use Rattle.tableau.specs.declared.Relation.{Relation}
use Rattle.tableau.specs.Basics.{Four, four, map_four}
use Rattle.tableau.specs.Fields.{arguments}
use Rattle.tableau.specs.Terms.{TermNo, Table, Term, variable, apply, Literal, at}
use Rattle.tableau.specs.Steps.{takes_terms}
use Rattle.tableau.specs.Background as background
use Rattle.tableau.specs.Background.{Follows}
use Rattle.packing.specs.Packing.{Packs, AllSmall, takes_arguments, fields_in}
use Rattle.packing.proofs.CongruenceLaws.{applied, applied_fields, one_operator, low_takes}
use Rattle.tableau.proofs.TableGrowth.{inside}
use Rattle.table.specs.Held.{Entries}
use Rattle.table.proofs.EntryLaws.{packs}
use Rattle.partition.specs.declared.Partition.{Partition}
use Rattle.partition.specs.Blocks.{block_of, Sound}
use Rattle.congruence.specs.Signatures.{signature_of, sign_of}

pub fields_small : (p : ℕ) → AllSmall (fields_in p)
fields_small p = (omega arith, omega arith, omega arith, omega arith)

-- SIGNATURES: the low bits and the fields
module _ (blocks : Partition) (p : ℕ) where
  signature_fields : fields_in (signature_of blocks p) ≡ map_four (block_of blocks) (fields_in p)
  signature_fields =
      let k : Four ℕ = map_four (block_of blocks) (fields_in p) in
      let s : ℕ = signature_of blocks p in
      let a : s / 274877906944 % 1024 ≡ k.a =
      omega (
        arith,
        blocks.valid.small (fields_in p).a,
        blocks.valid.small (fields_in p).b,
        blocks.valid.small (fields_in p).c,
        blocks.valid.small (fields_in p).d,
      ) in
      let b : s / 268435456 % 1024 ≡ k.b =
      omega (
        arith,
        blocks.valid.small (fields_in p).b,
        blocks.valid.small (fields_in p).c,
        blocks.valid.small (fields_in p).d,
      ) in
      let c : s / 262144 % 1024 ≡ k.c =
      omega (arith, blocks.valid.small (fields_in p).c, blocks.valid.small (fields_in p).d) in
      let d : s / 256 % 1024 ≡ k.d = omega (arith, blocks.valid.small (fields_in p).d) in
      λ i. four (a i) (b i) (c i) (d i)

  signature_low : signature_of blocks p % 256 ≡ p % 256
  signature_low = omega arith

  pub sign_low : sign_of blocks p % 256 ≡ p % 256
  sign_low = go (takes_arguments p)
    where
      go : (b : Bool) → cond b (signature_of blocks p) p % 256 ≡ p % 256
      go true = signature_low
      go false = refl

  pub sign_takes : takes_arguments p ≡ true → sign_of blocks p ≡ signature_of blocks p
  sign_takes h = ap (λ b. cond b (signature_of blocks p) p) h

  pub sign_fields : takes_arguments p ≡ true
      → fields_in (sign_of blocks p) ≡ map_four (block_of blocks) (fields_in p)
  sign_fields h = ap fields_in (sign_takes h) ∙ signature_fields

-- FOUR PAIRS that follow to be equal
pub record AllFollow (table : Table) (B : List Literal) (k l : Four ℕ) : Type 0 where
  pub a : Follows table B Relation.Eq k.a l.a
  pub b : Follows table B Relation.Eq k.b l.b
  pub c : Follows table B Relation.Eq k.c l.c
  pub d : Follows table B Relation.Eq k.d l.d

pub blocks_follow : (table : Table) (B : List Literal) (blocks : Partition) → Sound table B blocks
    → (p : ℕ) → AllFollow table B (fields_in p) (map_four (block_of blocks) (fields_in p))
blocks_follow table B blocks C p =
    let h = fields_small p in
    record { a = C _ h.0; b = C _ h.1; c = C _ h.2; d = C _ h.3 }

pub both_follow : (table : Table) (B : List Literal) (k l m : Four ℕ) → AllFollow table B k m
    → AllFollow table B l m → AllFollow table B k l
both_follow table B k l m S T = record {
  a = background.trn S.a (background.sym T.a);
  b = background.trn S.b (background.sym T.b);
  c = background.trn S.c (background.sym T.c);
  d = background.trn S.d (background.sym T.d);
}

takes : Term → Bool
takes (variable s n) = false
takes (apply o k) = takes_terms o

-- WHAT THE PACKED TERMS SAY of the table
module _ (table : Table) (terms : List ℕ) (E : Entries table terms) where
  abbrev packed : TermNo → ℕ
  packed t = get_or terms t 0

  -- terms of one word whose arguments follow to be equal
  pub alike_follow : (B : List Literal) (t w : TermNo) → takes_arguments (packed t) ≡ true
      → packed t % 256 ≡ packed w % 256
      → AllFollow table B (fields_in (packed t)) (fields_in (packed w))
      → Follows table B Relation.Eq t w
  alike_follow B t w h low S =
      let x = applied (at table t) (packed t) (packs table terms E t) h in
      let y = applied (at table w) (packed w) (packs table terms E w)
      (sym (low_takes (packed t) (packed w) low) ∙ h) in
      let same : x.0 ≡ y.0 =
      one_operator x.0 y.0 _ _ (packed t) (packed w)
      (subst (λ e. Packs e (packed t)) x.1 (packs table terms E t))
      (subst (λ e. Packs e (packed w)) y.1 (packs table terms E w)) low in
      background.sub x.1 (y.1 ∙ ap (λ (o : Operator). apply o (fields_in (packed w))) (sym same))
      x.2 S.a S.b S.c S.d

  -- terms of one signature
  pub signed_follow : (B : List Literal) (blocks : Partition) → Sound table B blocks
      → (t w : TermNo) → takes_arguments (packed t) ≡ true
      → signature_of blocks (packed t) ≡ signature_of blocks (packed w)
      → Follows table B Relation.Eq t w
  signed_follow B blocks C t w h e =
      let low : packed t % 256 ≡ packed w % 256 = sym (signature_low blocks (packed t))
      ∙ ap (λ v. v % 256) e ∙ signature_low blocks (packed w) in
      let same : map_four (block_of blocks) (fields_in (packed w)) ≡ map_four (block_of blocks)
      (fields_in (packed t))
      = sym (signature_fields blocks (packed w)) ∙ ap fields_in (sym e)
      ∙ signature_fields blocks (packed t) in
      alike_follow B t w h low
      (both_follow table B (fields_in (packed t)) (fields_in (packed w))
      (map_four (block_of blocks) (fields_in (packed t)))
      (blocks_follow table B blocks C (packed t))
      (subst (λ v. AllFollow table B (fields_in (packed w)) v) same
      (blocks_follow table B blocks C (packed w))))

  -- such a term stands in the table
  pub applied_in : (t : TermNo) (o : Operator) (k : Four TermNo) → at table t ≡ apply o k
      → takes_terms o ≡ true
      → (0 < t) × (t ≤ length table) × (takes_arguments (packed t) ≡ true)
      × (fields_in (packed t) ≡ k)
  unfolding takes takes_terms arguments
  applied_in t o k e h =
      let f = applied_fields o k (packed t)
      (subst (λ x. Packs x (packed t)) e (packs table terms E t)) h in
      let i = inside takes refl table t (ap takes e ∙ h) in (i.0, i.1, f.0, f.1)
