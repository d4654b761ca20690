-- Scans over keys.
use Rattle.std.proofs.Common.{◌≡◌, ℕ, ◌+◌, ◌-◌, ◌*◌, ◌/◌, ◌%◌, ◌^◌, ◌<◌, ◌≤◌, Bool, true, false, cond, ◌||◌, eqb, ◌==◌, ◌⊎◌, List, [], ◌∷◌, ◌++◌, append_assoc, replicate, take, length, get_or, set, sym, ap, ◌∙◌, subst, inl, inr, lt_of_lt_of_le, mod-eq_of_lt, arith, length-set, get_or-set_other, get_or-set_same, pow_mono, shl_lt, eq-eqb, ne_eqb, eqb-true}
use Rattle.std.specs.Prelude.{Option, None, Some}
use Rattle.std.specs.List.{push}
use Rattle.std.proofs.lemmas.List.{append-nil, get_or-replicate, length-replicate, take_more, take_all}
use mathlib.Core.Bool.{or-false}
use lib.Bits.{bit_or, or_lt}
use lib.Pow.{shl-shr}
use borrow.Author.Tests.{eqb-false}
use Rattle.std.proofs.lemmas.List.Folds.{list_any-append}
use Rattle.tableau.proofs.Bools.{dec}
use Rattle.mentions.specs.Mentions.{bit_at}
use Rattle.mentions.proofs.BitLaws.{bit_or_lem, bit_zero}
use Rattle.facts.specs.declared.StoredFact.{StoredFact}
use Rattle.facts.specs.Keys.{has_key, value_at}
use Rattle.regions.proofs.MaskLaws.{bool_iff, bit_one}
use Rattle.heap_tables.specs.Scans.{key_at, Scannable, IsPlace, IsMembers, IsScattered}

-- THE PLACE OF A KEY
module _ (key base shift limit : ℕ) (S : Scannable base shift limit) where
  shifted_low : (p : ℕ) → p < limit → p * 2 ^ shift < 16777216
  shifted_low p l = lt_of_lt_of_le (shl_lt {a = p} 10 shift (omega (arith, S.low_limit))) (pow_mono {i = 10 + shift} {j = 24} (omega (arith, S.low_shift)))

  no_wrap : (p : ℕ) → p < limit → p * 2 ^ shift % 2 ^ 64 ≡ p * 2 ^ shift
  no_wrap p l = mod-eq_of_lt (omega (arith, shifted_low p l))

  module _ (d : ℕ) (fits : d < 2 ^ 64) (e : (d + base) % 2 ^ 64 ≡ key) where
    pub place_found : d / 2 ^ shift < limit → d / 2 ^ shift * 2 ^ shift % 2 ^ 64 ≡ d → IsPlace key base shift limit (Some (d / 2 ^ shift))
    unfolding key_at
    place_found l whole =
        let p : ℕ = d / 2 ^ shift in
        let low = shifted_low p l in
        let exact : p * 2 ^ shift ≡ d = sym (no_wrap p l) ∙ whole in
        let k : key ≡ base + p * 2 ^ shift = omega (arith, e, S.low_base, low, exact) in (
          l,
          λ q m. bool_iff (eqb (base + q * 2 ^ shift) key) (eqb q p)
              (λ t. eq-eqb q p (sym (shl-shr q shift)
              ∙ ap (λ (n : ℕ). n / 2 ^ shift) (let z : q * 2 ^ shift ≡ p * 2 ^ shift = omega (arith, k, eqb-true (base + q * 2 ^ shift) key t) in z) ∙ shl-shr p shift))
              (λ t. eq-eqb (base + q * 2 ^ shift) key (ap (λ (n : ℕ). base + n * 2 ^ shift) (eqb-true q p t) ∙ sym k)),
        )

    pub place_none : (d / 2 ^ shift < limit → d / 2 ^ shift * 2 ^ shift % 2 ^ 64 ≡ d → ⊥) → IsPlace key base shift limit None
    unfolding key_at
    place_none h q m = ne_eqb (base + q * 2 ^ shift) key (apart q m)
      where
        apart : (q : ℕ) → q < limit → base + q * 2 ^ shift ≡ key → ⊥
        apart q m z =
            let low = shifted_low q m in
            let f : d ≡ q * 2 ^ shift = omega (arith, e, S.low_base) in
            let g : d / 2 ^ shift ≡ q = ap (λ (n : ℕ). n / 2 ^ shift) f ∙ shl-shr q shift in
            h (omega (arith, g, m)) (ap (λ (n : ℕ). n * 2 ^ shift % 2 ^ 64) g ∙ no_wrap q m ∙ sym f)

-- the difference of the key and the base, as it is computed
pub difference_lem : (key base : ℕ) → key < 2 ^ 64 → base < 2 ^ 40 → ((key + (2 ^ 64 - base)) % 2 ^ 64 + base) % 2 ^ 64 ≡ key
difference_lem key base k b = omega arith

eqb_sym : (m n : ℕ) → eqb m n ≡ eqb n m
eqb_sym m n = bool_iff (eqb m n) (eqb n m) (λ e. eq-eqb n m (sym (eqb-true m n e))) (λ e. eq-eqb m n (sym (eqb-true n m e)))

pub bit_set : (r x : ℕ) → r < 64 → x < 64 → bit_at (1 * 2 ^ r % 2 ^ 64) x ≡ eqb r x
bit_set r x h l = let e : r % 64 ≡ r = omega arith in ap (λ (k : ℕ). bit_at (1 * 2 ^ k % 2 ^ 64) x) (sym e) ∙ bit_one r x l ∙ ap (λ (k : ℕ). eqb k x) e

-- a number with the bit of a place, if there is one
abbrev pub with_bit : Option ℕ → ℕ → ℕ
with_bit None out = out
with_bit (Some r) out = bit_or out (1 * 2 ^ r % 2 ^ 64)

-- the bits so far: one line more
pub members_start : (base shift : ℕ) → IsMembers [] base shift 0
members_start base shift = record { small = omega arith; bits = λ x l. bit_zero x }

module _ (facts : List StoredFact) (base shift : ℕ) where
  module _ (out : ℕ) (M : IsMembers facts base shift out) (fact : StoredFact) where
    more : (x : ℕ) → has_key (facts ++ (fact ∷ [])) (key_at base shift x) ≡ (has_key facts (key_at base shift x) || (key_at base shift x == fact.key))
    more x = list_any-append (λ (f : StoredFact). key_at base shift x == f.key) facts (fact ∷ []) ∙ ap (λ (b : Bool). has_key facts (key_at base shift x) || b) (or-false _)

    pub members_more : (place : Option ℕ) → IsPlace fact.key base shift 64 place → IsMembers (facts ++ (fact ∷ [])) base shift (with_bit place out)
    members_more None P = record { small = M.small; bits = λ x l. M.bits x l ∙ sym (more x ∙ ap (λ (b : Bool). has_key facts (key_at base shift x) || b) (P x l) ∙ or-false _) }
    members_more (Some r) P = record {
      small = or_lt 64 out (1 * 2 ^ r % 2 ^ 64) M.small (omega arith);
      bits = λ x l. bit_or_lem out (1 * 2 ^ r % 2 ^ 64) x ∙ (λ j. M.bits x l j || (bit_set r x P.0 l ∙ eqb_sym r x ∙ sym (P.1 x l)) j) ∙ sym (more x);
    }

pub members_step : (facts : List StoredFact) (base shift i out next : ℕ) (d : StoredFact) → IsMembers (take i facts) base shift out → i < length facts
    → (place : Option ℕ) → IsPlace (get_or facts i d).key base shift 64 place → next ≡ with_bit place out → IsMembers (take (i + 1) facts) base shift next
members_step facts base shift i out next d M l place P e = rw (take_more facts i d l, e) (members_more (take i facts) base shift out M (get_or facts i d) place P)

pub members_end : (facts : List StoredFact) (base shift i out : ℕ) → IsMembers (take i facts) base shift out → length facts ≤ i → IsMembers facts base shift out
members_end facts base shift i out M l = subst (λ (f : List StoredFact). IsMembers f base shift out) (take_all i facts l) M

-- the bytes so far: one line more before the others
pub scatter_start : (base shift : ℕ) (old out : List ℕ) → length out ≡ length old → ((p : ℕ) → p < length out → get_or out p 0 ≡ 0) → IsScattered [] base shift old out
unfolding value_at
scatter_start base shift old out e z = record { size = e; entries = z }

module _ (facts : List StoredFact) (base shift : ℕ) (old out : List ℕ) where
  module _ (S : IsScattered facts base shift old out) (fact : StoredFact) where
    pub scatter_none : IsPlace fact.key base shift (length out) None → IsScattered (fact ∷ facts) base shift old out
    unfolding value_at
    scatter_none P = record { size = S.size; entries = λ p l. S.entries p l ∙ sym (ap (λ (b : Bool). cond b fact.value (value_at facts (key_at base shift p))) (P p l)) }

    pub scatter_some : (r : ℕ) → IsPlace fact.key base shift (length out) (Some r) → IsScattered (fact ∷ facts) base shift old (set out r fact.value)
    unfolding value_at
    scatter_some r P = record {
      size = length-set out r fact.value ∙ S.size;
      entries = λ p l. let m : p < length out = omega (arith, l, length-set out r fact.value) in at p m (dec (eqb p r)) ∙ (λ j. cond (sym (P.1 p m) j) fact.value (S.entries p m j));
    }
      where
        at : (p : ℕ) → p < length out → (eqb p r ≡ true) ⊎ (eqb p r ≡ false) → get_or (set out r fact.value) p 0 ≡ cond (eqb p r) fact.value (get_or out p 0)
        at p l (inl e) =
            ap (λ (q : ℕ). get_or (set out r fact.value) q 0) (eqb-true p r e) ∙ get_or-set_same out r fact.value 0 (omega arith) ∙ sym (ap (λ (b : Bool). cond b fact.value (get_or out p 0)) e)
        at p l (inr e) = get_or-set_other out r p fact.value 0 (eqb-false p r e) ∙ sym (ap (λ (b : Bool). cond b fact.value (get_or out p 0)) e)

-- THE LOOP from the last line to the first: those behind are done
pub record Scattered (facts left : List StoredFact) (base shift : ℕ) (old out : List ℕ) : Type 0 where
  pub behind : List StoredFact
  pub parts : facts ≡ left ++ behind
  pub done : IsScattered behind base shift old out

module _ (facts left : List StoredFact) (base shift : ℕ) (old out : List ℕ) where
  pub scattered_start : left ≡ facts → out ≡ replicate (length old) 0 → Scattered facts left base shift old out
  scattered_start e z = record {
    behind = [];
    parts = sym (append-nil left ∙ e);
    done = scatter_start base shift old out (ap length z ∙ length-replicate (length old) 0) (λ p l. ap (λ (o : List ℕ). get_or o p 0) z ∙ get_or-replicate (length old) p 0 0 (omega (arith, l, ap length z, length-replicate {A = ℕ} (length old) 0)));
  }

  module _ (S : Scattered facts left base shift old out) where
    module _ (rest : List StoredFact) (fact : StoredFact) (e : left ≡ push rest fact) where
      parts_more : facts ≡ rest ++ (fact ∷ S.behind)
      parts_more = S.parts ∙ ap (λ (l : List StoredFact). l ++ S.behind) e ∙ append_assoc rest (fact ∷ []) S.behind

      pub scattered_some : (r : ℕ) → IsPlace fact.key base shift (length out) (Some r) → Scattered facts rest base shift old (set out r fact.value)
      scattered_some r P = record { behind = fact ∷ S.behind; parts = parts_more; done = scatter_some S.behind base shift old out S.done fact r P }

      pub scattered_none : IsPlace fact.key base shift (length out) None → Scattered facts rest base shift old out
      scattered_none P = record { behind = fact ∷ S.behind; parts = parts_more; done = scatter_none S.behind base shift old out S.done fact P }

    pub scattered_end : length left ≡ 0 → IsScattered facts base shift old out
    scattered_end z = go left S.parts z
      where
        go : (l : List StoredFact) → facts ≡ l ++ S.behind → length l ≡ 0 → IsScattered facts base shift old out
        go [] e z = subst (λ (f : List StoredFact). IsScattered f base shift old out) (sym e) S.done
        go (x ∷ l) e z = absurd (omega arith)
