-- Two blocks joined.
use Rattle.std.proofs.Common.{◌≡◌, refl, sym, ◌∙◌, ap, subst, Bool, true, false, ◌||◌, cond, List}
use Rattle.std.proofs.Common.{◌⊎◌, inl, inr, ℕ, zero, suc, ◌+◌, ◌<◌, ◌≤◌, arith, eqb, get_or}
use Rattle.std.proofs.Common.{eqb-true, eq-eqb, ne_eqb}
use Rattle.std.proofs.lemmas.Bool.{cases_lt}
use lib.ListN.{get_or-eq_default}
use borrow.Author.Tests.{eqb-false}
use Rattle.tableau.specs.declared.Relation.{Relation}
use Rattle.tableau.specs.Terms.{TermNo, Table, Literal}
use Rattle.tableau.specs.Background as background
use Rattle.tableau.specs.Background.{Follows}
use Rattle.tableau.proofs.Bools.{dec, clash}
use Rattle.packing.specs.Packing.{Small}
use Rattle.partition.specs.declared.Partition.{Partition}
use Rattle.partition.specs.Array.{IsPartition, renamed_as, Renamed}
use Rattle.partition.specs.Blocks.{block_of, Sound, one_if, roots, Fewer, Coarsened, Joined}

renamed_from : (x from to : ℕ) → x ≡ from → renamed_as x from to ≡ to
renamed_from x from to e = ap (λ b. cond b to x) (eq-eqb x from e)

renamed_other : (x from to : ℕ) → (x ≡ from → ⊥) → renamed_as x from to ≡ x
renamed_other x from to n = ap (λ b. cond b to x) (ne_eqb x from n)

-- the target stays, whether or not it is the source
renamed_to : (from to : ℕ) → renamed_as to from to ≡ to
renamed_to from to = go (eqb to from)
  where
    go : (b : Bool) → cond b to to ≡ to
    go true = refl
    go false = refl

-- no more numbers stand for a block
roots_le : (n : ℕ) (old new : Partition)
    → ((x : ℕ) → x < n → block_of new x ≡ x → block_of old x ≡ x) → roots n new ≤ roots n old
unfolding roots
roots_le zero old new h = omega arith
roots_le (suc n) old new h =
    go (roots_le n old new (λ x l. h x (omega arith))) (dec (eqb (block_of new n) n))
    (dec (eqb (block_of old n) n))
  where
    go : roots n new ≤ roots n old → (eqb (block_of new n) n ≡ true)
        ⊎ (eqb (block_of new n) n ≡ false)
        → (eqb (block_of old n) n ≡ true) ⊎ (eqb (block_of old n) n ≡ false)
        → one_if (eqb (block_of new n) n) + roots n new ≤ one_if (eqb (block_of old n) n)
        + roots n old
    go ih (inl p) (inl q) = rw (p, q) (omega arith)
    go ih (inr p) (inl q) = rw (p, q) (omega arith)
    go ih (inr p) (inr q) = rw (p, q) (omega arith)
    go ih (inl p) (inr q) =
        clash (eq-eqb (block_of old n) n (h n (omega arith) (eqb-true (block_of new n) n p))) q

-- and fewer, where z does so no longer
roots_lt : (n : ℕ) (old new : Partition)
    → ((x : ℕ) → x < n → block_of new x ≡ x → block_of old x ≡ x)
    → (z : ℕ) → z < n → block_of old z ≡ z → (block_of new z ≡ z → ⊥) → roots n new < roots n old
unfolding roots
roots_lt zero old new h z l e ne = absurd (omega arith)
roots_lt (suc n) old new h z l e ne =
    go (roots_lt n old new (λ x l. h x (omega arith)) z)
    (roots_le n old new (λ x l. h x (omega arith))) (dec (eqb (block_of new n) n))
    (dec (eqb (block_of old n) n)) (dec (eqb z n))
  where
    before : eqb z n ≡ false → z < n
    before s = let d : (z ≡ n → ⊥) = eqb-false z n s in omega arith

    go : (z < n → block_of old z ≡ z → (block_of new z ≡ z → ⊥) → roots n new < roots n old)
        → roots n new ≤ roots n old
        → (eqb (block_of new n) n ≡ true) ⊎ (eqb (block_of new n) n ≡ false)
        → (eqb (block_of old n) n ≡ true) ⊎ (eqb (block_of old n) n ≡ false)
        → (eqb z n ≡ true) ⊎ (eqb z n ≡ false) → one_if (eqb (block_of new n) n) + roots n new
        < one_if (eqb (block_of old n) n) + roots n old
    go ih le (inl p) q (inl s) =
        absurd (ne
        (subst (λ v. block_of new v ≡ v) (sym (eqb-true z n s))
        (eqb-true (block_of new n) n p)))
    go ih le (inr p) (inr q) (inl s) =
        clash (eq-eqb (block_of old n) n (subst (λ v. block_of old v ≡ v) (eqb-true z n s) e)) q
    go ih le (inr p) (inl q) (inl s) = rw (p, q) (omega arith)
    go ih le (inl p) (inl q) (inr s) = let k = ih (before s) e ne in rw (p, q) (omega arith)
    go ih le (inr p) (inl q) (inr s) = let k = ih (before s) e ne in rw (p, q) (omega arith)
    go ih le (inr p) (inr q) (inr s) = let k = ih (before s) e ne in rw (p, q) (omega arith)
    go ih le (inl p) (inr q) (inr s) =
        clash (eq-eqb (block_of old n) n (h n (omega arith) (eqb-true (block_of new n) n p))) q

-- the array of the joined blocks
module _ (old : Partition) (new : List ℕ) (a b : TermNo) (la : Small a) (lb : Small b)
    (R : Renamed old.blocks new (block_of old a) (block_of old b)) where
  abbrev from : ℕ
  from = block_of old a

  abbrev to : ℕ
  to = block_of old b

  pub each : (x : TermNo) → Small x → get_or new x 0 ≡ renamed_as (block_of old x) from to
  each x l = R.each x (omega (arith, old.valid.size))

  -- a number's new block: the target, or the old block, which is not the source
  pub cases : {P : Type 0} (x : TermNo) → Small x
      → (block_of old x ≡ from → get_or new x 0 ≡ to → P)
      → ((block_of old x ≡ from → ⊥) → get_or new x 0 ≡ block_of old x → P) → P
  cases x l f g = elim (dec (eqb (block_of old x) from)) [
    | inl p ↦ let e = eqb-true (block_of old x) from p in
        f e (each x l ∙ renamed_from (block_of old x) from to e)
    | inr p ↦ let n = eqb-false (block_of old x) from p in
        g n (each x l ∙ renamed_other (block_of old x) from to n)
  ]

  to_stays : get_or new to 0 ≡ to
  to_stays = each to (old.valid.small b) ∙ ap (λ v. renamed_as v from to)
      (old.valid.idempotent b lb) ∙ renamed_to from to

  new_small : (x : TermNo) → Small (get_or new x 0)
  new_small x = elim (cases_lt x 1024) [
    | inl l ↦ cases x l (λ p e. rw e (old.valid.small b)) (λ p e. rw e (old.valid.small x))
    | inr l ↦ rw (get_or-eq_default new 0 {n = x} (omega (arith, old.valid.size, R.size)))
        (omega arith)
  ]

  new_idempotent : (x : TermNo) → Small x → get_or new (get_or new x 0) 0 ≡ get_or new x 0
  new_idempotent x l = cases x l (λ p e. ap (λ v. get_or new v 0) e ∙ to_stays ∙ sym e)
      (λ p e. ap (λ v. get_or new v 0) e ∙ each (block_of old x) (old.valid.small x)
      ∙ ap (λ v. renamed_as v from to) (old.valid.idempotent x l)
      ∙ renamed_other (block_of old x) from to p ∙ sym e)

  pub joined_valid : IsPartition new
  joined_valid =
      record { size = R.size ∙ old.valid.size; small = new_small; idempotent = new_idempotent }

module _ (old new : Partition) (a b : TermNo) (la : Small a) (lb : Small b)
    (R : Renamed old.blocks new.blocks (block_of old a) (block_of old b)) where
  fewer : (block_of old a ≡ block_of old b → ⊥) → roots 1024 new < roots 1024 old
  fewer ne = roots_lt 1024 old new
      (λ x l e. cases old new.blocks a b la lb R x l
      (λ p q. ap (block_of old) (sym e ∙ q) ∙ old.valid.idempotent b lb ∙ sym (sym e ∙ q))
      (λ p q. sym q ∙ e))
      (block_of old a) (old.valid.small a) (old.valid.idempotent a la)
      (λ e. cases old new.blocks a b la lb R (block_of old a) (old.valid.small a)
      (λ p q. ne (sym e ∙ q)) (λ p q. p (old.valid.idempotent a la)))

  sound : (table : Table) (B : List Literal) → Follows table B Relation.Eq a b → Sound table B old
      → Sound table B new
  sound table B h C x l = cases old new.blocks a b la lb R x l
      (λ p q. subst (λ v. Follows table B Relation.Eq x v) (sym q)
      (background.trn (subst (λ v. Follows table B Relation.Eq x v) p (C x l))
      (background.trn (background.sym (C a la)) (background.trn h (C b lb)))))
      (λ p q. subst (λ v. Follows table B Relation.Eq x v) (sym q) (C x l))

  pub joined : (block_of old a ≡ block_of old b → ⊥) → Joined old new a b true
  joined ne =
      let r = each old new.blocks a b la lb R in
      record {
        change = record {
          coarser = λ x y lx ly e. r x lx ∙ ap (λ v. renamed_as v (block_of old a) (block_of old b))
              e ∙ sym (r y ly);
          fewer = fewer ne;
          sound = sound;
        };
        together = r a la ∙ renamed_from (block_of old a) (block_of old a) (block_of old b) refl
            ∙ sym (r b lb ∙ renamed_to (block_of old a) (block_of old b));
      }

-- CHANGES, one after the other
pub unchanged : (P : Table → List Literal → Type 0) (p : Partition) → Coarsened P p p false
unchanged P p = record { coarser = λ x y lx ly h. h; fewer = refl; sound = λ table B _ C. C }

-- a change that is sound where P holds, and so where Q does
pub coarsened_where : (P Q : Table → List Literal → Type 0) (old new : Partition) (r : Bool)
    → Coarsened P old new r
    → ((table : Table) (B : List Literal) → Q table B → Sound table B old → P table B)
    → Coarsened Q old new r
coarsened_where P Q old new r C p =
    record {
      coarser = C.coarser;
      fewer = C.fewer;
      sound = λ table B q S. C.sound table B (p table B q S) S;
    }

pub fewer_then : (r s : Bool) (old mid new : Partition) → Fewer r old mid → Fewer s mid new
    → Fewer (r || s) old new
fewer_then true true old mid new p q = omega arith
fewer_then true false old mid new p q = subst (λ v. roots 1024 v < roots 1024 old) (sym q) p
fewer_then false s old mid new p q = subst (λ v. Fewer s v new) p q

pub changed_then : (P Q T : Table → List Literal → Type 0) (old mid new : Partition) (r s : Bool)
    → Coarsened P old mid r → Coarsened Q mid new s
    → ((table : Table) (B : List Literal) → T table B → Sound table B old → P table B)
    → ((table : Table) (B : List Literal) → T table B → Sound table B mid → Q table B)
    → Coarsened T old new (r || s)
changed_then P Q T old mid new r s C D p q = record {
  coarser = λ x y lx ly e. D.coarser x y lx ly (C.coarser x y lx ly e);
  fewer = fewer_then r s old mid new C.fewer D.fewer;
  sound = λ table B t S. let M = C.sound table B (p table B t S) S in
      D.sound table B (q table B t M) M;
}
