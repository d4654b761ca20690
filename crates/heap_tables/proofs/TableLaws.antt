-- Tables filled row by row and bit by bit.
use Rattle.std.proofs.Common.{◌≡◌, refl, ℕ, zero, suc, ◌+◌, ◌*◌, ◌%◌, ◌^◌, ◌<◌, ◌≤◌, Bool, true, false, ◌||◌, eqb, ◌⊎◌, List, length, get_or, sym, ap, ◌∙◌, subst, inl, inr, eq-or-lt_of_le, arith, eq-eqb, ne_eqb}
use lib.Bits.{bit_or}
use Rattle.evaluation.specs.declared.FactWord.{FactWord}
use Rattle.evaluation.specs.Facts.{fact_index}
use Rattle.mentions.specs.Mentions.{bit_at}
use Rattle.mentions.proofs.BitLaws.{bit_or_lem, bit_zero}
use denote.Param.Members.{Mut}
use Rattle.std.specs.Fn.{Called}
use Rattle.std.specs.Array.{IsFromFnResult, IsFromFnResultFrom}
use mathlib.Core.Bool.{or-true, or-false}
use Rattle.facts.specs.declared.StoredFact.{StoredFact}
use Rattle.facts.specs.Keys.{pack_key, has_key, value_at}
use Rattle.evaluation.proofs.Finding.{index_small}
use Rattle.heap_tables.specs.Scans.{key_at, Scannable, IsMembers, IsScattered}
use Rattle.heap_tables.specs.Tables.{Above, Having}
use Rattle.heap_tables.proofs.ScanLaws.{bit_set}

-- THE KEYS of a word's lines, from one key on
pub key_14 : (i x : ℕ) → key_at (pack_key i 0 0 0) 14 x ≡ pack_key i x 0 0
unfolding key_at pack_key
key_14 i x = omega arith

pub key_8 : (i a b : ℕ) → key_at (pack_key i a 0 0) 8 b ≡ pack_key i a b 0
unfolding key_at pack_key
key_8 i a b = omega arith

pub key_4 : (i a b c : ℕ) → key_at (pack_key i a 0 0) 4 (b * 16 + c) ≡ pack_key i a b c
unfolding key_at pack_key
key_4 i a b c = omega arith

pub scannable : (w : FactWord) (a base shift limit : ℕ) → a < 131072 → base ≡ pack_key (fact_index w) a 0 0 → shift ≤ 14 → limit ≤ 1024 → Scannable base shift limit
unfolding pack_key
scannable w a base shift limit l e h k = record { low_base = omega (arith, index_small w, e); low_shift = h; low_limit = k }

-- ROWS of a table that a closure makes, each for its index: calls leave the closure as it is
module _ {F : Type 0} {g : Mut F (ℕ × Unit {0}) ℕ} (Row : ℕ → ℕ → Type 0) (f : F) (made : (k y : ℕ) (q : F) → Called g f (k, tt) y q → (q ≡ f) × Row k y) where
  rows_from : (rows : List ℕ) (i n : ℕ) (p : F) → p ≡ f → IsFromFnResultFrom g p rows i n → (k : ℕ) → i ≤ k → k < i + n → Row k (get_or rows k 0)
  rows_from rows i zero p e h k l m = absurd (omega arith)
  rows_from rows i (suc n) p e (q, y, at, call, rest) k l m =
      let d = made i y q (subst (λ (x : F). Called g x (i, tt) y q) e call) in
      elim (eq-or-lt_of_le l) [
        | inl z ↦ subst (λ (j : ℕ). Row j (get_or rows j 0)) z (subst (Row i) (sym (at.1 0)) d.1)
        | inr z ↦ rows_from rows (i + 1) n q d.0 rest k (omega arith) (omega arith)
      ]

  pub rows_made : (rows : List ℕ) (n : ℕ) → IsFromFnResult g f rows n → (k : ℕ) → k < n → Row k (get_or rows k 0)
  rows_made rows n h k l = rows_from rows 0 n f refl h.each k (omega arith) (omega arith)

pub above_row : (facts : List StoredFact) (b base r : ℕ) → b < 16 → base ≡ pack_key (fact_index FactWord.Sub) b 0 0 → IsMembers facts base 8 r → Above facts b (bit_or r (1 * 2 ^ b % 2 ^ 64))
above_row facts b base r l e M = record {
  bits = λ c m. bit_or_lem r (1 * 2 ^ b % 2 ^ 64) c
      ∙ (λ i. (M.bits c m ∙ ap (has_key facts) (ap (λ (k : ℕ). key_at k 8 c) e ∙ key_8 (fact_index FactWord.Sub) b c)) i || bit_set b c (omega arith) m i);
}

pub members_at : (facts : List StoredFact) (base key shift r : ℕ) → base ≡ key → IsMembers facts base shift r → IsMembers facts key shift r
members_at facts base key shift r e M = subst (λ (k : ℕ). IsMembers facts k shift r) e M

pub classes_read : (facts : List StoredFact) (w : FactWord) (base n : ℕ) (old new : List ℕ) → base ≡ pack_key (fact_index w) 0 0 0 → length old ≡ n → IsScattered facts base 14 old new
    → (x : ℕ) → x < n → get_or new x 0 ≡ value_at facts (pack_key (fact_index w) x 0 0)
classes_read facts w base n old new e l S x m =
    S.entries x (omega (arith, S.size)) ∙ ap (value_at facts) (ap (λ (k : ℕ). key_at k 14 x) e ∙ key_14 (fact_index w) x)

-- BITS of a row: those below x are as they should be, and no other is set
module _ (typ under : List ℕ) (class : ℕ) where
  abbrev test : ℕ → Bool
  test x = bit_at (get_or under (get_or typ x 0 % 16) 0) (class % 64)

  pub record HavingBelow (x out : ℕ) : Type 0 where
    pub below : (q : ℕ) → q < x → q < 64 → bit_at out q ≡ test q
    pub none : (q : ℕ) → x ≤ q → q < 64 → bit_at out q ≡ false

  pub having_start : HavingBelow 0 0
  having_start = record { below = λ q l m. absurd (omega arith); none = λ q l m. bit_zero q }

  module _ (x out : ℕ) (H : HavingBelow x out) (inside : x < 64) (t : Bool) (e : t ≡ test x) where
    pub having_set : t ≡ true → HavingBelow (x + 1) (bit_or out (1 * 2 ^ x % 2 ^ 64))
    having_set s = record {
      below = λ q l m. bit q m ∙ at q m (eq-or-lt_of_le (let z : q ≤ x = omega arith in z));
      none = λ q l m. bit q m ∙ (λ i. H.none q (omega arith) m i || ne_eqb x q (λ z. omega arith) i);
    }
      where
        bit : (q : ℕ) → q < 64 → bit_at (bit_or out (1 * 2 ^ x % 2 ^ 64)) q ≡ (bit_at out q || eqb x q)
        bit q m = bit_or_lem out (1 * 2 ^ x % 2 ^ 64) q ∙ ap (λ (b : Bool). bit_at out q || b) (bit_set x q inside m)

        at : (q : ℕ) → q < 64 → (q ≡ x) ⊎ (q < x) → (bit_at out q || eqb x q) ≡ test q
        at q m (inl z) = ap (λ (b : Bool). bit_at out q || b) (eq-eqb x q (sym z)) ∙ or-true (bit_at out q) ∙ sym (ap test z ∙ sym e ∙ s)
        at q m (inr z) = ap (λ (b : Bool). bit_at out q || b) (ne_eqb x q (λ y. omega arith)) ∙ or-false (bit_at out q) ∙ H.below q z m

    pub having_skip : t ≡ false → HavingBelow (x + 1) out
    having_skip s = record { below = λ q l m. at q m (eq-or-lt_of_le (let z : q ≤ x = omega arith in z)); none = λ q l m. H.none q (omega arith) m }
      where
        at : (q : ℕ) → q < 64 → (q ≡ x) ⊎ (q < x) → bit_at out q ≡ test q
        at q m (inl z) = H.none q (omega arith) m ∙ sym (ap test z ∙ sym e ∙ s)
        at q m (inr z) = H.below q z m

  pub having_end : (x out : ℕ) → HavingBelow x out → 64 ≤ x → Having typ under class out
  having_end x out H l = record { bits = λ q m. H.below q (omega arith) m }
