-- Words of a row joined, and the row that comes of them.
use Rattle.std.proofs.Common.{◌≡◌, refl, sym, ◌∙◌, ap, subst, Bool, true, false, not, ◌||◌, List}
use Rattle.std.proofs.Common.{inl, inr, ⊎_elim, ℕ, zero, suc, ◌+◌, ◌-◌, ◌*◌, ◌/◌, ◌%◌, ◌^◌, ◌<◌}
use Rattle.std.proofs.Common.{◌≤◌, eq-or-lt_of_le, arith, eqb, length, get_or, set, replicate}
use Rattle.std.proofs.Common.{length-set, get_or-set_same, get_or-set_other, eqb-true, below_more}
use Rattle.std.proofs.lemmas.Bool.{cases_lt}
use mathlib.Core.HLevel.{is_prop→PathP}
use Rattle.std.proofs.Props.{props}
use lib.Bits.{bit_or, or_lt, or_add_and, and_le_r}
use lib.ListN.{length-replicate}
use lib.Seq.{set-get_or, set_out}
use borrow.Author.Tests.{eqb-false}
use Rattle.tableau.proofs.Bools.{dec}
use Rattle.packing.specs.Packing.{Small}
use Rattle.table.proofs.GrowthLaws.{zeros}
use Rattle.mentions.specs.Mentions.{bit_at}
use Rattle.mentions.proofs.BitLaws.{bit_or_lem, bit_zero}
use Rattle.class_order.specs.declared.Rows.{Rows}
use Rattle.class_order.specs.Words.{Words, room, Less, united_word, RaisedWord}

-- a word that grows leaves less room
room_same : (n : ℕ) (rows : List ℕ) (i w : ℕ) → n ≤ i → room n (set rows i w) ≡ room n rows
unfolding room
room_same zero rows i w h = refl
room_same (suc n) rows i w h =
    rw (get_or-set_other rows i n w 0 (omega arith), room_same n rows i w (omega arith))

room_less : (n : ℕ) (rows : List ℕ) (i w : ℕ) → i < n → i < length rows → get_or rows i 0 < w
    → w < 2 ^ 64 → room n (set rows i w) < room n rows
unfolding room
room_less zero rows i w h l g f = absurd (omega arith)
room_less (suc n) rows i w h l g f = ⊎_elim
    (λ (z : i ≡ n). subst (λ v. (2 ^ 64 - get_or (set rows i w) v 0) + room v (set rows i w)
    < (2 ^ 64 - get_or rows v 0) + room v rows) z
    (rw (get_or-set_same rows i w 0 l, room_same i rows i w (omega arith)) (omega arith)))
    (λ (z : i < n). rw (get_or-set_other rows i n w 0 (omega arith))
    (let k = room_less n rows i w z l g f in omega arith))
    (eq-or-lt_of_le (let m : i ≤ n = omega arith in m))

-- two changes, of which one left less room
pub less_then : (r s : Bool) (old mid new : List ℕ) → Less r old mid → Less s mid new
    → Less (r || s) old new
less_then true true old mid new p q = omega arith
less_then true false old mid new p q = subst (λ v. room 16384 v < room 16384 old) (sym q) p
less_then false s old mid new p q = subst (λ v. Less s v new) p q

-- ONE WORD
words_set : (rows : List ℕ) (i w : ℕ) → Words rows → w < 2 ^ 64 → Words (set rows i w)
words_set rows i w W f = record {
  size = length-set rows i w ∙ W.size;
  fits = λ j. elim (dec (eqb j i)) [
    | inl p ↦ rw (eqb-true j i p) (elim (cases_lt i (length rows)) [
      | inl l ↦ rw (get_or-set_same rows i w 0 l) f
      | inr l ↦ rw (set_out rows i w l) (W.fits i)
    ])
    | inr p ↦ rw (get_or-set_other rows i j w 0 (eqb-false j i p)) (W.fits j)
  ];
}

module _ (rows : List ℕ) (to from own : ℕ) (W : Words rows) (lt : to < 16384) (lf : from < 16384)
    (lo : own < 2 ^ 64) where
  abbrev word : ℕ
  word = united_word rows to from own

  word_fits : word < 2 ^ 64
  word_fits = or_lt 64 (get_or rows to 0) (bit_or (get_or rows from 0) own) (W.fits to)
      (or_lt 64 (get_or rows from 0) own (W.fits from) lo)

  word_more : get_or rows to 0 ≤ word
  word_more =
      let b : ℕ = bit_or (get_or rows from 0) own in
      omega (arith, or_add_and (get_or rows to 0) b, and_le_r (get_or rows to 0) b)

  pub word_raised : RaisedWord rows (set rows to word) to from own
      (not (eqb word (get_or rows to 0)))
  word_raised = record {
    words = words_set rows to word W word_fits;
    is = refl;
    less = elim (dec (eqb word (get_or rows to 0))) [
      | inl p ↦ rw p (ap (set rows to) (eqb-true word (get_or rows to 0) p) ∙ set-get_or rows to 0)
      | inr p ↦
          rw p (room_less 16384 rows to word lt (omega (arith, W.size))
          (omega (arith, eqb-false word (get_or rows to 0) p, word_more)) word_fits)
    ];
  }

-- THE FIRST i WORDS of the row x
abbrev UnitedBit : List ℕ → List ℕ → ℕ → ℕ → ℕ → Type 0
UnitedBit old new x y k = (q : ℕ) → q < 64
    → bit_at (get_or new (x * 16 + k) 0) q
    ≡ (bit_at (get_or old (x * 16 + k) 0) q ||
    (bit_at (get_or old (y * 16 + k) 0) q || eqb y (k * 64 + q)))

pub record RaisedPart (old new : List ℕ) (x y i : ℕ) (r : Bool) : Type 0 where
  pub most : i ≤ 16
  pub words : Words new
  pub done : (k : ℕ) → k < i → UnitedBit old new x y k
  pub before : (j : ℕ) → j < x * 16 → get_or new j 0 ≡ get_or old j 0
  pub after : (j : ℕ) → x * 16 + i ≤ j → get_or new j 0 ≡ get_or old j 0
  pub less : Less r old new

module _ (old mid new : List ℕ) (x y i own : ℕ) (r s : Bool) (lx : Small x) (ly : Small y)
    (li : i < 16) (P : RaisedPart old mid x y i r)
    (ow : (q : ℕ) → q < 64 → bit_at own q ≡ eqb y (i * 64 + q))
    (R : RaisedWord mid new (x * 16 + i) (y * 16 + i) own s) where
  at_y : get_or mid (y * 16 + i) 0 ≡ get_or old (y * 16 + i) 0
  at_y = elim (cases_lt y x) [
    | inl l ↦ P.before (y * 16 + i) (omega arith)
    | inr l ↦
        P.after (y * 16 + i) (omega arith)
  ]

  value : get_or new (x * 16 + i) 0 ≡ united_word old (x * 16 + i) (y * 16 + i) own
  value = ap (λ (l : List ℕ). get_or l (x * 16 + i) 0) R.is
      ∙ get_or-set_same mid (x * 16 + i) (united_word mid (x * 16 + i) (y * 16 + i) own) 0
      (omega (arith, P.words.size))
      ∙ (λ k. bit_or (P.after (x * 16 + i) (omega arith) k) (bit_or (at_y k) own))

  elsewhere : (j : ℕ) → (j ≡ x * 16 + i → ⊥) → get_or new j 0 ≡ get_or mid j 0
  elsewhere j ne = ap (λ (l : List ℕ). get_or l j 0) R.is ∙ get_or-set_other mid (x * 16 + i) j
      (united_word mid (x * 16 + i) (y * 16 + i) own) 0 ne

  here : UnitedBit old new x y i
  here q m =
      let a = get_or old (x * 16 + i) 0 in
      let b = get_or old (y * 16 + i) 0 in
      ap (λ v. bit_at v q) value ∙ bit_or_lem a (bit_or b own) q
      ∙ ap (λ v. bit_at a q || v) (bit_or_lem b own q ∙ ap (λ v. bit_at b q || v) (ow q m))

  pub raised_more : RaisedPart old new x y (i + 1) (r || s)
  raised_more = record {
    most = omega arith;
    words = R.words;
    done = below_more (UnitedBit old new x y) i
        (λ k z q m. ap (λ v. bit_at v q) (elsewhere (x * 16 + k) (omega arith)) ∙ P.done k z q m)
        here;
    before = λ j l. elsewhere j (omega arith) ∙ P.before j l;
    after = λ j l. elsewhere j (omega arith) ∙ P.after j (omega arith);
    less = less_then r s old mid new P.less R.less;
  }

-- rows of the same words
pub same_rows : (old new : Rows) → new.words ≡ old.words → new ≡ old
same_rows old new e =
    λ i. record {
      words = e i;
      valid = is_prop→PathP (λ j. Words (e j)) (λ j. Prim.hlevel props) new.valid old.valid i;
    }

-- NO BITS
pub no_bits : (n : ℕ) → n ≡ 16384 → Words (replicate {A = ℕ} n 0)
no_bits n e =
    record { size = length-replicate {A = ℕ} n 0 ∙ e; fits = λ k. rw (zeros n k) (omega arith) }

pub none_under : (n x y : ℕ) → bit_at (get_or (replicate {A = ℕ} n 0) (x * 16 + y / 64) 0) (y % 64)
    ≡ false
none_under n x y = ap (λ v. bit_at v (y % 64)) (zeros n (x * 16 + y / 64)) ∙ bit_zero (y % 64)
