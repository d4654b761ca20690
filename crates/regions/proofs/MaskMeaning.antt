-- Regions as numbers follow the meaning: each operation, image, equality.
use mathlib.Core.Path.{◌≡◌, refl, sym, ◌∙◌, ap}
use mathlib.Core.Bool.{Bool, true, false, ◌&&◌, ◌||◌, not, beq, false≢true}
use mathlib.Core.List.{List}
use mathlib.Core.Logic.{◌⊎◌, inl, inr}
use Prim.Native.Nat.{ℕ, ◌%◌, ◌<◌, ◌≤◌}
use native.Mathlib.Nat.{mod-eq_of_lt}
use native.Mathlib.Omega.{arith}
use lib.Dec.{eqb, ltb}
use lib.Bits.{bit_and, bit_or, bit_xor, and_le_l, or_lt, xor_lt, and_lt}
use borrow.Author.Tests.{eqb-true, eq-eqb, ltb-true, ltb-false}
use Rattle.tableau.specs.Meaning.{◌and◌, ◌or◌, same, FiniteHeap, Ref, Field, Region, Store, within, image}
use Rattle.tableau.proofs.Bools.{dec, clash, and_l, and_r, and_i, both_true, both_i}
use Rattle.tableau.proofs.Numbers.{any_in, any_out}
use Rattle.evaluation.specs.Orders.{each_out}
use Rattle.evaluation.specs.Evaluation.{same_region}
use Rattle.evaluation.proofs.Decision.{each_in, beq_eq, eq_beq}
use Rattle.mentions.specs.Mentions.{bit_at}
use Rattle.mentions.proofs.BitLaws.{bit_or_lem, bit_zero}
use Rattle.regions.specs.Masks.{IsMask, IsRow, entry, one_bit, reached_below, image_mask}
use Rattle.regions.proofs.MaskLaws.{bool_iff, bit_one, bit_and_lem, bit_xor_lem, bits_ext, reached_in, reached_out}

-- the connectives of the tests and of the meaning, inside `all`
or_inside : (c a b : Bool) → (a ≡ true → c ≡ true) → (b ≡ true → c ≡ true) → (a || b) ≡ (c and (a or b))
unfolding ◌and◌ ◌or◌
or_inside true true b f g = refl
or_inside true false b f g = refl
or_inside false true b f g = sym (f refl)
or_inside false false true f g = sym (g refl)
or_inside false false false f g = refl

and_inside : (c a b : Bool) → (a ≡ true → c ≡ true) → (a && b) ≡ (c and (a and b))
unfolding ◌and◌
and_inside true true b f = refl
and_inside true false b f = refl
and_inside false true b f = absurd (false≢true (f refl))
and_inside false false b f = refl

dif_inside : (c a b : Bool) → (a ≡ true → c ≡ true) → not (beq a (a && b)) ≡ (c and (a and not b))
unfolding ◌and◌
dif_inside true true true f = refl
dif_inside true true false f = refl
dif_inside true false b f = refl
dif_inside false true b f = absurd (false≢true (f refl))
dif_inside false false b f = refl

and_both : (a b : Bool) → (a && b) ≡ (a and b)
unfolding ◌and◌
and_both true b = refl
and_both false b = refl

and-true : (a : Bool) → a ≡ (a and true)
unfolding ◌and◌
and-true true = refl
and-true false = refl

and-false : (a : Bool) → false ≡ (a and false)
unfolding ◌and◌
and-false true = refl
and-false false = refl

module _ (H : FiniteHeap) where
  -- OPERATIONS ON REGIONS
  pub mask_emp : IsMask H (within H (λ x. false)) 0
  mask_emp = record { small = omega arith; bits = λ x. bit_zero x.0 ∙ and-false (H.all x); above = λ q l. bit_zero q }

  module _ (r s : Region H) (m n : ℕ) (R : IsMask H r m) (S : IsMask H s n) where
    pub mask_cup : IsMask H (within H (λ x. r.has x or s.has x)) (bit_or m n)
    mask_cup = record {
      small = or_lt 64 m n R.small S.small;
      bits = λ x. bit_or_lem m n x.0 ∙ (λ i. R.bits x i || S.bits x i) ∙ or_inside (H.all x) (r.has x) (s.has x) (r.inside x) (s.inside x);
      above = λ q l. bit_or_lem m n q ∙ (λ i. R.above q l i || S.above q l i);
    }

    pub mask_cap : IsMask H (within H (λ x. r.has x and s.has x)) (bit_and m n)
    mask_cap = record {
      small = and_lt 64 m n R.small S.small;
      bits = λ x. bit_and_lem m n x.0 ∙ (λ i. R.bits x i && S.bits x i) ∙ and_inside (H.all x) (r.has x) (s.has x) (r.inside x);
      above = λ q l. bit_and_lem m n q ∙ (λ i. R.above q l i && S.above q l i);
    }

    dif_bit : (q : ℕ) → bit_at (bit_xor m (bit_and m n)) q ≡ not (beq (bit_at m q) (bit_at m q && bit_at n q))
    dif_bit q = bit_xor_lem m (bit_and m n) q ∙ ap (λ (b : Bool). not (beq (bit_at m q) b)) (bit_and_lem m n q)

    pub mask_dif : IsMask H (within H (λ x. r.has x and not (s.has x))) (bit_xor m (bit_and m n))
    mask_dif = record {
      small = xor_lt 64 m (bit_and m n) R.small (and_lt 64 m n R.small S.small);
      bits = λ x. dif_bit x.0 ∙ (λ i. not (beq (R.bits x i) (R.bits x i && S.bits x i))) ∙ dif_inside (H.all x) (r.has x) (s.has x) (r.inside x);
      above = λ q l. dif_bit q ∙ (λ i. not (beq (R.above q l i) (R.above q l i && S.above q l i)));
    }

    -- EQUALITY: one comparison of numbers
    pub mask_eq : same_region H r s ≡ eqb m n
    unfolding same_region
    mask_eq = bool_iff (same_region H r s) (eqb m n)
        (λ e. eq-eqb m n (bits_ext 64 m n R.small S.small (λ q l. bit q (dec (ltb q H.references)) e)))
        (λ e. each_in H.references _ (λ x. eq_beq (r.has x) (s.has x) (sym (R.bits x) ∙ ap (λ (k : ℕ). bit_at k x.0) (eqb-true m n e) ∙ S.bits x)))
      where
        bit : (q : ℕ) → (ltb q H.references ≡ true) ⊎ (ltb q H.references ≡ false) → same_region H r s ≡ true → bit_at m q ≡ bit_at n q
        bit q (inl l) e =
            let x : Ref H = (q, ltb-true q H.references l) in
            R.bits x ∙ beq_eq (r.has x) (s.has x) (each_out H.references _ e x) ∙ sym (S.bits x)
        bit q (inr l) e = R.above q (ltb-false q H.references l) ∙ sym (S.above q (ltb-false q H.references l))

  -- `all`; `sin` and `img`, which are cut to it
  module _ (few : H.references ≤ 64) (A : ℕ) (I : IsMask H (within H (λ x. true)) A) where
    all_bit : (x : Ref H) → bit_at A x.0 ≡ H.all x
    all_bit x = I.bits x ∙ sym (and-true (H.all x))

    -- a reference is read modulo 64 as itself
    pub mod_ref : (x : Ref H) → x.0 % 64 ≡ x.0
    mod_ref x = mod-eq_of_lt (let l : x.0 < 64 = omega (arith, x.1) in l)

    within_all : (m : ℕ) (f : Ref H → Bool) → ((x : Ref H) → bit_at m x.0 ≡ f x) → IsMask H (within H f) (bit_and A m)
    within_all m f e = record {
      small = omega (arith, and_le_l A m, I.small);
      bits = λ x. bit_and_lem A m x.0 ∙ (λ i. all_bit x i && e x i) ∙ and_both (H.all x) (f x);
      above = λ q l. bit_and_lem A m q ∙ ap (λ (b : Bool). b && bit_at m q) (I.above q l);
    }

    pub mask_sin : (u : Ref H) → IsMask H (within H (λ x. same x u)) (bit_and A (one_bit u.0))
    mask_sin u = within_all (one_bit u.0) (λ x. same x u)
        (λ x. bit_one u.0 x.0 (omega (arith, x.1)) ∙ ap (λ (k : ℕ). eqb k x.0) (mod_ref u) ∙ swap u.0 x.0)
      where
        swap : (a b : ℕ) → eqb a b ≡ eqb b a
        swap a b = bool_iff (eqb a b) (eqb b a) (λ e. eq-eqb b a (sym (eqb-true a b e))) (λ e. eq-eqb a b (sym (eqb-true b a e)))

    pub mask_img : (h : Store H) (r : Region H) (f : Field H) (row : List ℕ) (m having : ℕ) → IsRow H h row → IsMask H r m
        → ((a : Ref H) → bit_at having a.0 ≡ H.le (H.typ a) (H.dty f)) → IsMask H (within H (image H h r f)) (image_mask row m having f.0 A)
    mask_img h r f row m having D R T = within_all (reached_below row (bit_and m having) f.0 64) (image H h r f)
        (λ x. bool_iff (bit_at (reached_below row (bit_and m having) f.0 64) x.0) (image H h r f x) (out x) (back x))
      where
        gives : (y : Ref H) → entry row y.0 f.0 % 64 ≡ (h y f).0
        gives y = ap (λ (n : ℕ). n % 64) (D.entries y f) ∙ mod_ref (h y f)

        -- a member that has the field, and what the heap value gives for it
        out : (x : Ref H) → bit_at (reached_below row (bit_and m having) f.0 64) x.0 ≡ true → image H h r f x ≡ true
        out x e =
            let k = reached_out row (bit_and m having) f.0 64 x.0 (omega (arith, x.1)) e in
            let c = both_true (bit_at m k.0) _ (sym (bit_and_lem m having k.0) ∙ k.2) in
            let l : k.0 < H.references = elim (dec (ltb k.0 H.references)) [
              | inl t ↦ ltb-true k.0 H.references t
              | inr t ↦ clash c.0 (R.above k.0 (ltb-false k.0 H.references t))
            ] in
            let y : Ref H = (k.0, l) in
            any_in H.references (λ a. r.has a and H.le (H.typ a) (H.dty f) and same (h a f) x) y
            (and_i (and_i (sym (R.bits y) ∙ c.0) (sym (T y) ∙ c.1)) (eq-eqb (h y f).0 x.0 (sym (gives y) ∙ k.3)))

        back : (x : Ref H) → image H h r f x ≡ true → bit_at (reached_below row (bit_and m having) f.0 64) x.0 ≡ true
        back x e =
            let o = any_out H.references (λ a. r.has a and H.le (H.typ a) (H.dty f) and same (h a f) x) e in
            let y = o.0 in
            let p = and_l (r.has y and H.le (H.typ y) (H.dty f)) (same (h y f) x) o.1 in
            let w = and_r (r.has y and H.le (H.typ y) (H.dty f)) (same (h y f) x) o.1 in
            reached_in row (bit_and m having) f.0 64 y.0 x.0 (omega (arith, y.1)) (omega (arith, x.1))
            (bit_and_lem m having y.0 ∙ both_i (R.bits y ∙ and_l _ _ p) (T y ∙ and_r (r.has y) _ p)) (gives y ∙ eqb-true (h y f).0 x.0 w)
