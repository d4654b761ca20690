-- A row that is filled word by word, and that of a new term.
use mathlib.Core.Path.{◌≡◌, refl, sym, ◌∙◌, ap}
use mathlib.Core.Bool.{Bool, ◌||◌, or_comm, or_assoc}
use mathlib.Core.List.{List}
use mathlib.Core.Logic.{inl, inr, ⊎_elim}
use Prim.Native.Nat.{ℕ, ◌+◌, ◌*◌, ◌/◌, ◌%◌, ◌^◌, ◌<◌, ◌≤◌}
use native.Mathlib.Nat.{eq-or-lt_of_le}
use native.Mathlib.Omega.{arith}
use lib.Bits.{bit_or}
use lib.Dec.{eqb}
use lib.ListN.{length, get_or, set, length-set}
use lib.Seq.{get_or-set_same, get_or-set_other}
use borrow.Author.Tests.{ne_eqb, eqb-true, eqb-false}
use Rattle.tableau.specs.Basics.{Four}
use Rattle.tableau.specs.Terms.{TermNo}
use Rattle.tableau.proofs.Bools.{dec}
use Rattle.mentions.specs.Mentions.{row, bit_at, row_bit, is_mentioned, joined_bit, AllBelow, Filled, Noted}
use Rattle.mentions.proofs.BitLaws.{bit_or_lem, own_here}

-- the words of the arguments' rows, joined
pub joined_bits : (rows : List ℕ) (k : Four TermNo) (i : ℕ) {x y z w : ℕ}
    → x ≡ get_or rows (k.a * row + i) 0 → y ≡ get_or rows (k.b * row + i) 0 → z ≡ get_or rows (k.c * row + i) 0 → w ≡ get_or rows (k.d * row + i) 0
    → (q : ℕ) → bit_at (bit_or (bit_or (bit_or x y) z) w) q ≡ joined_bit rows k i q
joined_bits rows k i {x} {y} {z} {w} ex ey ez ew q = simp (bit_or_lem, or_assoc, ex, ey, ez, ew)

-- A ROW, word by word
module _ (old : List ℕ) (t : ℕ) (f : ℕ → ℕ → Bool) where
  pub filled_none : Filled old old t f 0
  filled_none = record { size = refl; below = λ j l. refl; words = λ j q l. absurd (omega arith) }

  pub filled_more : (new : List ℕ) (i x : ℕ) → t * row + row ≤ length old → i < row → Filled old new t f i
      → ((q : ℕ) → q < 64 → bit_at x q ≡ f i q) → Filled old (set new (t * row + i) x) t f (i + 1)
  filled_more new i x room l F bits = record {
    size = length-set new (t * row + i) x ∙ F.size;
    below = λ j m. get_or-set_other new (t * row + i) j x 0 (omega arith) ∙ F.below j m;
    words = λ j q m n. ⊎_elim
        (λ (z : j ≡ i). rw z (ap (λ (v : ℕ). bit_at v q) (get_or-set_same new (t * row + i) x 0 (omega (arith, F.size))) ∙ bits q n))
        (λ (z : j < i). ap (λ (v : ℕ). bit_at v q) (get_or-set_other new (t * row + i) (t * row + j) x 0 (omega arith)) ∙ F.words j q z n)
        (eq-or-lt_of_le (let h : j ≤ i = omega arith in h));
  }

  pub filled_all : (new : List ℕ) (i : ℕ) → row ≤ i → Filled old new t f i → Filled old new t f row
  filled_all new i l F = record { size = F.size; below = F.below; words = λ j q m. F.words j q (omega arith) }

-- the words of rows that stand below, where those before i are joined already
module _ (old : List ℕ) (t : TermNo) (k : Four TermNo) where
  joined_same : (new : List ℕ) (i q : ℕ) → AllBelow t k → i < row → Filled old new t (joined_bit old k) i → joined_bit new k i q ≡ joined_bit old k i q
  joined_same new i q b l F =
      let bit : (s : TermNo) → s < t → row_bit new s i q ≡ row_bit old s i q = λ s m. ap (λ (x : ℕ). bit_at x q) (F.below (s * row + i) (omega arith)) in
      λ p. bit k.a b.0 p || (bit k.b b.1 p || (bit k.c b.2 p || bit k.d b.3 p))

  pub joined_more : (new : List ℕ) (i x : ℕ) → t * row + row ≤ length old → AllBelow t k → i < row → Filled old new t (joined_bit old k) i
      → ((q : ℕ) → bit_at x q ≡ joined_bit new k i q) → Filled old (set new (t * row + i) x) t (joined_bit old k) (i + 1)
  joined_more new i x room b l F bits = filled_more old t (joined_bit old k) new i x room l F (λ q n. bits q ∙ joined_same new i q b l F)

-- THE ROW OF A TERM: its own bit beside those of its arguments
module _ (old mid : List ℕ) (t : TermNo) (f : ℕ → ℕ → Bool) (F : Filled old mid t f row) (room : t * row + row ≤ length mid) (few : t < 640) where
  abbrev place : ℕ
  place = t * row + t / 64

  abbrev word : ℕ
  word = bit_or (get_or mid place 0) (1 * 2 ^ (t % 64) % 2 ^ 64)

  own_bit : (w : TermNo) → w < 640 → is_mentioned (set mid place word) t w ≡ (eqb t w || f (w / 64) (w % 64))
  own_bit w m = elim (dec (eqb (w / 64) (t / 64))) [
    | inl p ↦
        let e = eqb-true (w / 64) (t / 64) p in
        let z : w / 64 * 64 + w % 64 ≡ w = omega arith in
        ap (λ (j : ℕ). bit_at (get_or (set mid place word) (t * row + j) 0) (w % 64)) e
        ∙ ap (λ (v : ℕ). bit_at v (w % 64)) (get_or-set_same mid place word 0 (omega arith))
        ∙ bit_or_lem (get_or mid place 0) (1 * 2 ^ (t % 64) % 2 ^ 64) (w % 64)
        ∙ or_comm (row_bit mid t (t / 64) (w % 64)) (bit_at (1 * 2 ^ (t % 64) % 2 ^ 64) (w % 64))
        ∙ (λ i. (own_here t (w / 64) (w % 64) (sym e) (omega arith) ∙ ap (eqb t) z) i
        || (ap (λ (j : ℕ). row_bit mid t j (w % 64)) (sym e) ∙ F.words (w / 64) (w % 64) (omega arith) (omega arith)) i)
    | inr p ↦
        let ne = eqb-false (w / 64) (t / 64) p in
        ap (λ (v : ℕ). bit_at v (w % 64)) (get_or-set_other mid place (t * row + w / 64) word 0 (λ e. ne (omega arith)))
        ∙ F.words (w / 64) (w % 64) (omega arith) (omega arith)
        ∙ ap (λ (b : Bool). b || f (w / 64) (w % 64)) (sym (ne_eqb t w (λ e. ne (let d : w / 64 ≡ t / 64 = ap (λ (n : ℕ). n / 64) (sym e) in d))))
  ]

  pub own_set : Noted old (set mid place word) t f
  own_set = record {
    size = length-set mid place word ∙ F.size;
    below = λ s w l m. ap (λ (x : ℕ). bit_at x (w % 64)) (get_or-set_other mid place (s * row + w / 64) word 0 (omega arith) ∙ F.below (s * row + w / 64) (omega arith));
    own = own_bit;
  }
