-- The rows of a branch's first literals: where they begin, what keeps them, and the row of one literal more.
use mathlib.Core.Path.{◌≡◌, refl, sym, ◌∙◌, ap}
use mathlib.Core.Bool.{Bool, true, false, ◌||◌, or_assoc}
use mathlib.Core.List.{List, [], ◌∷◌, ◌++◌}
use mathlib.Core.Logic.{⊎_elim}
use Prim.Native.Nat.{ℕ, ◌+◌, ◌*◌, ◌/◌, ◌%◌, ◌<◌, ◌≤◌}
use native.Mathlib.Nat.{eq-or-lt_of_le}
use native.Mathlib.Numerals.{add-one}
use native.Mathlib.Omega.{arith}
use lib.Bits.{bit_or}
use lib.ListN.{length, take, get_or, set, replicate, length-append, length-replicate, get_or-replicate}
use lib.Seq.{take-take, get_or-set_other}
use Rattle.tableau.specs.Terms.{TermNo, ClauseNo, Table, Literal, Clauses, disjuncts, at, mentioned_in, place_from, mentioned, max_terms}
use Rattle.packing.specs.Packing.{unpack_literal, left_in, right_in}
use Rattle.mentions.specs.Mentions.{row, bit_at, row_bit, MentionRows, Filled}
use Rattle.mentions.proofs.BitLaws.{bit_or_lem, bit_zero}
use Rattle.freshness.specs.Prefixes.{prefix_length, PrefixRows, SideRow, next_bits}
use Rattle.freshness.proofs.Laws.{in_sides, mentioned_one_more, mentioned_after}

-- WITH NO CLAUSES no literal mentions any term, whatever the table
pub prefix_none : {table : Table} {codes prefix : List ℕ} → length prefix ≡ prefix_length → ((k : ℕ) → k < row → get_or prefix k 0 ≡ 0)
    → PrefixRows table [] codes prefix 0
unfolding place_from
prefix_none {table} {codes} {prefix} size none = record {
  size = size;
  none = λ e. none;
  told = λ i w l first made few.
      let z : i ≡ 0 = omega arith in
      rw z (ap (λ (x : ℕ). bit_at x (w % 64)) (none (0 + w / 64) (omega arith)) ∙ bit_zero (w % 64));
}

-- over the array's length, so that no array is computed
pub prefix_zeros : {table : Table} {codes : List ℕ} (n : ℕ) → n ≡ prefix_length → PrefixRows table [] codes (replicate {A = ℕ} n 0) 0
prefix_zeros n q = prefix_none (length-replicate {A = ℕ} n 0 ∙ q) (λ k l. get_or-replicate {A = ℕ} n k 0 0 (omega arith))

-- then row 0 says nothing of table and branch
pub prefix_restart : {table table' : Table} {codes codes' prefix : List ℕ} {noted : ℕ} → PrefixRows table [] codes prefix noted
    → PrefixRows table' [] codes' prefix 0
prefix_restart P = prefix_none P.size (P.none refl)

-- fewer rows
pub prefix_less : {table : Table} {C : Clauses} {codes prefix : List ℕ} {m noted : ℕ} → m ≤ noted → PrefixRows table C codes prefix noted
    → PrefixRows table C codes prefix m
prefix_less h P = record { size = P.size; none = P.none; told = λ i w l. P.told i w (omega arith) }

-- a branch that keeps its first m literals
pub prefix_same : {table : Table} {C : Clauses} {codes codes' prefix : List ℕ} {m : ℕ} → take m codes' ≡ take m codes → PrefixRows table C codes prefix m
    → PrefixRows table C codes' prefix m
prefix_same {table} {C} {codes} {codes'} {prefix} {m} e P = record {
  size = P.size;
  none = P.none;
  told = λ i w l first made few.
      let s : take i codes ≡ take i codes' = sym (take-take i m codes l) ∙ ap (take i) (sym e) ∙ take-take i m codes' l in
      rw s at (P.told i w l first made few);
}

-- the words of row i from k on are as they were
pub record Ahead (old new : List ℕ) (i k : ℕ) : Type 0 where
  pub same : (j : ℕ) → k ≤ j → j < row → get_or new (i * row + j) 0 ≡ get_or old (i * row + j) 0

pub ahead_more : (old new : List ℕ) (i k x : ℕ) → Ahead old new i k → Ahead old (set new (i * row + k) x) i (k + 1)
ahead_more old new i k x h = record { same = λ j l m. get_or-set_other new (i * row + k) (i * row + j) x 0 (omega arith) ∙ h.same j (omega arith) m }

-- A ROW MORE: a word of it, where the rows before it and its own words from there on are as they were
pub next_bits_lem : (old new rows : List ℕ) (from i : ℕ) (left right : TermNo) (k : ℕ) → from ≤ i → k < row → Filled old new i (next_bits old rows from left right) k
    → Ahead old new i k → (q : ℕ)
    → bit_at (bit_or (bit_or (get_or new (from * row + k) 0) (get_or rows (left * row + k) 0))
    (get_or rows (right * row + k) 0)) q
    ≡ next_bits old rows from left right k q
next_bits_lem old new rows from i left right k h l F ahead q =
    let y : ℕ = get_or rows (left * row + k) 0 in
    let z : ℕ = get_or rows (right * row + k) 0 in
    let x : ℕ = get_or new (from * row + k) 0 in
    bit_or_lem (bit_or x y) z q ∙ ap (λ (b : Bool). b || bit_at z q) (bit_or_lem x y q)
    ∙ or_assoc (bit_at x q) (bit_at y q) (bit_at z q)
    ∙ (λ p. bit_at (same p) q || (bit_at y q || bit_at z q))
  where
    same : get_or new (from * row + k) 0 ≡ get_or old (from * row + k) 0
    same = ⊎_elim (λ (e : from ≡ i). rw e (ahead.same k (omega arith) l)) (λ (e : from < i). F.below (from * row + k) (omega arith)) (eq-or-lt_of_le h)

-- the sides of a literal
module _ (table : Table) (rows : List ℕ) (l : Literal) (left right : TermNo) (R : MentionRows table rows)
    (L : SideRow (length table) (left_in l) left) (M : SideRow (length table) (right_in l) right) where
  sides_told : (w : TermNo) → 0 < w → w ≤ length table → w ≤ max_terms
      → (row_bit rows left (w / 64) (w % 64) || row_bit rows right (w / 64) (w % 64)) ≡ mentioned_in (at table) w l
  sides_told w first made few =
      (λ p. (R.told left w L.made first (omega arith) ∙ L.same table w refl first made) p
      || (R.told right w M.made first (omega arith) ∙ M.same table w refl first made) p)
      ∙ sym (in_sides (at table) w l)

  -- and so does the bit of both rows together
  pub sides_bit : (w : TermNo) → 0 < w → w ≤ length table → w ≤ max_terms
      → bit_at (bit_or (get_or rows (left * row + w / 64) 0) (get_or rows (right * row + w / 64) 0)) (w % 64) ≡ mentioned_in (at table) w l
  sides_bit w first made few = bit_or_lem (get_or rows (left * row + w / 64) 0) (get_or rows (right * row + w / 64) 0) (w % 64) ∙ sides_told w first made few

  -- one more in the clauses
  pub prefix_clause : (C : Clauses) (codes : List ℕ) (k : ClauseNo) (old new : List ℕ) → PrefixRows table C codes old 0 → Filled old new 0 (next_bits old rows 0 left right) row
      → PrefixRows table (C ++ (record { clause = k; is = l } ∷ [])) codes new 0
  unfolding place_from
  prefix_clause C codes k old new P F = record {
    size = F.size ∙ P.size;
    none = λ e. absurd (not_empty C e);
    told = λ j w m first made few.
        let z : j ≡ 0 = omega arith in
        rw z (F.words (w / 64) (w % 64) (omega arith) (omega arith)
        ∙ (λ p. P.told 0 w (omega arith) first made few p || sides_told w first made few p)
        ∙ either (mentioned (at table) w (disjuncts C)) (mentioned_in (at table) w l)
        ∙ sym (ap (λ b. b || false) (mentioned_after (at table) w C (record { clause = k; is = l }))));
  }
    where
      not_empty : (C : Clauses) → C ++ (record { clause = k; is = l } ∷ []) ≡ [] → ⊥
      not_empty C e = let n : length (C ++ (record { clause = k; is = l } ∷ [])) ≡ 0 = ap length e in omega (arith, n, length-append C (record { clause = k; is = l } ∷ []))

      either : (a b : Bool) → ((a || false) || b) ≡ ((a || b) || false)
      either true b = refl
      either false true = refl
      either false false = refl

-- one literal more on the branch, whose sides have the rows
module _ (table : Table) (C : Clauses) (codes rows : List ℕ) (i : ℕ) (left right : TermNo) (R : MentionRows table rows) (here : i < length codes)
    (L : SideRow (length table) (left_in (unpack_literal (get_or codes i 0))) left)
    (M : SideRow (length table) (right_in (unpack_literal (get_or codes i 0))) right) where
  abbrev l : Literal
  l = unpack_literal (get_or codes i 0)

  pub prefix_more : (old new : List ℕ) → PrefixRows table C codes old i → Filled old new (i + 1) (next_bits old rows i left right) row → PrefixRows table C codes new (i + 1)
  prefix_more old new P F = record {
    size = F.size ∙ P.size;
    none = λ e k m. F.below k (omega arith) ∙ P.none e k m;
    told = λ j w m first made few. ⊎_elim
        (λ (e : j ≡ i + 1).
        rw e (F.words (w / 64) (w % 64) (omega arith) (omega arith)
        ∙ (λ p. P.told i w (omega arith) first made few p || sides_told table rows l left right R L M w first made few p)
        ∙ or_assoc (mentioned (at table) w (disjuncts C)) _ _
        ∙ ap (λ b. mentioned (at table) w (disjuncts C) || b) (sym (rw (add-one i) (mentioned_one_more unpack_literal (at table) w codes i here)))))
        (λ (e : j < i + 1).
        ap (λ (v : ℕ). bit_at v (w % 64)) (F.below (j * row + w / 64) (omega arith)) ∙ P.told j w (omega arith) first made few)
        (eq-or-lt_of_le m);
  }
