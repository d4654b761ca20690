-- Laws of the word tables: the words of a byte string, and a table of rows looked up by them.
use mathlib.Core.Bool.{Bool, true, false, cond, not}
use mathlib.Core.List.{List, [], ◌∷◌, map}
use Rattle.std.specs.Prelude.{Option, None, Some, option_map, option_and_then, slice_get, position, nat_lt}
use Rattle.std.specs.List.{position_or_len}
use Rattle.std.specs.Simd.{first_chunks}
use Rattle.std.proofs.lemmas.Bool.Decides.{nat_tests}
use mathlib.Core.Path.{◌≡◌, refl, sym, ap, subst, ◌∙◌}
use Prim.Native.Nat.{ℕ, zero, suc, ◌+◌, ◌*◌, ◌/◌, ◌≤◌, ◌<◌}
use native.Mathlib.Omega.{arith}
use lib.Dec.{eqb, ltb}
use lib.ListN.{length, take}
use Rattle.std.proofs.lemmas.Option.{none-some, same_Some}
use Rattle.tableau.specs.declared.Word.{Word}
use Rattle.tableau.specs.declared.Rule.{Rule}
use Rattle.tableau.specs.Basics.{bytes, Named}
use Rattle.lines.specs.Lines.{pack_word}
use Rattle.words.specs.declared.Row.{Row}
use Rattle.words.specs.Words.{lookup_packed, word_row, rule_row, WordFits, RuleFits, words_of}
use Rattle.words.specs.Words.{row_at}

-- THE WORDS OF A BYTE STRING, by its chunks of four bytes.
chunk_words : (k : ℕ) (l : List ℕ) → k * 4 ≤ length l → length l < k * 4 + 4
    → map (λ t. pack_word (take 3 t)) (first_chunks 4 k l) ≡ words_of l
unfolding words_of
chunk_words zero [] h g = refl
chunk_words zero (a ∷ []) h g = refl
chunk_words zero (a ∷ b ∷ []) h g = refl
chunk_words zero (a ∷ b ∷ c ∷ []) h g = refl
chunk_words zero (a ∷ b ∷ c ∷ s ∷ l) h g = absurd (omega arith)
chunk_words (suc k) [] h g = absurd (omega arith)
chunk_words (suc k) (a ∷ []) h g = absurd (omega arith)
chunk_words (suc k) (a ∷ b ∷ []) h g = absurd (omega arith)
chunk_words (suc k) (a ∷ b ∷ c ∷ []) h g = absurd (omega arith)
chunk_words (suc k) (a ∷ b ∷ c ∷ s ∷ l) h g = rw (chunk_words k l (omega arith) (omega arith))

-- THE ROW BESIDE A WORD, by its place.
position_next : {X : Type 0} (p : X → Bool) (x : X) (xs : List X)
    → position p (x ∷ xs) ≡ cond (p x) (Some 0) (option_map (λ i. suc i) (position p xs))
position_next {X} p x xs = go (p x) (position_or_len p xs) (length xs)
  where
    go : (b : Bool) (i n : ℕ)
        → cond (nat_lt (cond (not b) (1 + i) 0) (suc n)) (Some (cond (not b) (1 + i) 0)) None
        ≡ cond b (Some 0) (option_map (λ i. suc i) (cond (nat_lt i n) (Some i) None))
    go true i n = grind (arith, nat_tests)
    go false i n = later (nat_lt i n) refl
      where
        later : (c : Bool) → nat_lt i n ≡ c
            → cond (nat_lt (1 + i) (suc n)) (Some (1 + i)) None
            ≡ option_map (λ i. suc i) (cond c (Some i) None)
        later true e = grind (arith, nat_tests)
        later false e = grind (arith, nat_tests)

row_by_place : {T : Type 0} (f : List ℕ → ℕ) (w : ℕ) (ts : List (List ℕ)) (rows : List T)
    → row_at w (map f ts) rows ≡ option_and_then (slice_get rows) (position (λ t. eqb w (f t)) ts)
unfolding row_at
row_by_place f w [] rows = refl
row_by_place {T} f w (t ∷ ts) [] = nowhere (position (λ t. eqb w (f t)) (t ∷ ts))
  where
    nowhere : (m : Option ℕ) → None ≡ option_and_then (slice_get {X = T} []) m
    nowhere None = refl
    nowhere (Some i) = refl
row_by_place {T} f w (t ∷ ts) (r ∷ rows) =
    rw (position_next (λ t. eqb w (f t)) t ts, row_by_place f w ts rows)
    (pick (eqb w (f t)) (position (λ t. eqb w (f t)) ts))
  where
    pick : (here : Bool) (m : Option ℕ) → cond here (Some r) (option_and_then (slice_get rows) m)
        ≡ option_and_then (slice_get (r ∷ rows)) (cond here (Some 0) (option_map (λ i. suc i) m))
    pick true m = refl
    pick false None = refl
    pick false (Some i) = refl

pub row_there : {T : Type 0} (w : ℕ) (l : List ℕ) (rows : List T) (place : Option ℕ)
    → place ≡ position (λ t. eqb w (pack_word (take 3 t))) (first_chunks 4 (length l / 4) l)
    → option_and_then (slice_get rows) place ≡ row_at w (words_of l) rows
row_there {T} w l rows place e =
    ap (option_and_then (slice_get rows)) e
    ∙ sym (row_by_place (λ t. pack_word (take 3 t)) w (first_chunks 4 (length l / 4) l) rows)
    ∙ ap (λ (ks : List ℕ). row_at w ks rows)
    (chunk_words (length l / 4) l (omega arith) (omega arith))

-- the texts of a table, packed
unfoldable pub packed_texts : {A : Type 0} → List (Named A) → List ℕ
packed_texts [] = []
packed_texts (n ∷ ns) = pack_word (bytes n.text) ∷ packed_texts ns

-- A TABLE OF ROWS with one for each entry: the row of the entry that is looked up.
pub found_row : {A B : Type 0} (row : A → B) (t : List (Named A)) (w : ℕ)
    → row_at w (packed_texts t) (map (λ n. row n.is) t) ≡ option_map row (lookup_packed t w)
unfolding lookup_packed row_at packed_texts
found_row row [] w = refl
found_row {A} {B} row (n ∷ ns) w =
    pick (eqb w (pack_word (bytes n.text))) (lookup_packed ns w) (found_row row ns w)
  where
    rest : Option B
    rest = row_at w (packed_texts ns) (map (λ n. row n.is) ns)

    pick : (here : Bool) (x : Option A) → rest ≡ option_map row x
        → cond here (Some (row n.is)) rest ≡ option_map row (cond here (Some n.is) x)
    pick true x e = refl
    pick false x e = e

-- in a table of what the entries stand for
pub found : {A : Type 0} (t : List (Named A)) (w : ℕ)
    → row_at w (packed_texts t) (map (λ n. n.is) t) ≡ lookup_packed t w
found t w = found_row (λ x. x) t w ∙ itself (lookup_packed t w)
  where
    itself : {A : Type 0} (m : Option A) → option_map (λ x. x) m ≡ m
    itself None = refl
    itself (Some x) = refl

-- WHAT IS KNOWN OF A WORD from its row, and from none.
module _ {A B : Type 0} (row : A → B) where
  pub no_row : (m : Option A) → None ≡ option_map row m → m ≡ None
  no_row None e = refl
  no_row (Some x) e = absurd (none-some (row x) e)

  row_found : (P : Option A → B → Type 0) → ((x : A) → P (Some x) (row x)) → (m : Option A) (r : B)
      → Some r ≡ option_map row m → P m r
  row_found P h None r e = absurd (none-some r (sym e))
  row_found P h (Some x) r e = subst (P (Some x)) (sym (same_Some r (row x) e)) (h x)

pub known_word : (m : Option Word) (r : Row Word) → Some r ≡ option_map word_row m
    → (m ≡ Some r.word) × WordFits r
known_word = row_found word_row (λ m r. (m ≡ Some r.word) × WordFits r) (λ x. (refl, refl))

pub known_rule : (m : Option Rule) (r : Row Rule) → Some r ≡ option_map rule_row m
    → (m ≡ Some r.word) × RuleFits r
known_rule = row_found rule_row (λ m r. (m ≡ Some r.word) × RuleFits r) (λ x. (refl, refl))
