-- A fact that is written is read: its line has the shape, and passes where its numbers may follow.
use mathlib.Core.Path.{◌≡◌, refl, sym, ◌∙◌, ap}
use mathlib.Core.Bool.{Bool, true, false, beq, true≢false}
use mathlib.Core.List.{List, [], ◌∷◌, ◌++◌, map, append-nil, map-append}
use Rattle.std.specs.Prelude.{Some}
use Prim.Native.Nat.{ℕ, suc, ◌≤◌}
use native.Mathlib.Omega.{arith}
use lib.Dec.{eqb}
use lib.ListN.{length, length-append}
use Rattle.tableau.specs.Basics.{Four, every, bytes, same_bytes, lookup}
use Rattle.tableau.specs.File.{comma, split, all_small, is_word, max_digits, number, six_fields, shape}
use Rattle.tableau.specs.Tree.{Checked, refused, passed}
use Rattle.tableau.specs.Reply.{ended, run_lines, decimal}
use Rattle.tableau.proofs.Checks.{lookup_agree}
use Rattle.tableau.proofs.Decimals.{number_decimal, decimal_free}
use Rattle.tableau.proofs.Pieces.{each_behind, free, AllFree, split_behind}
use Rattle.tableau.proofs.Places.{every_value, every_equal}
use Rattle.evaluation.specs.declared.FactWord.{FactWord}
use Rattle.evaluation.specs.Facts.{heap_letters, fact_words, fact_index, fact_fields, Fact, Facts, is_nil, zero_unless_used, may_follow, run_fact_read, run_fact}
use Rattle.evaluation.specs.Sayable.{max_number, word_text, joined, fact_line}
use Rattle.evaluation.specs.contracts.FactWord as word-type

-- WORDS, by their texts
pub known : (w : FactWord) → lookup fact_words (word_text w) ≡ Some w
unfolding lookup fact_words fact_index bytes same_bytes
known = every_equal word-type.enum refl (λ w. lookup fact_words (word_text w)) Some refl

text_small : (w : FactWord) → is_word (word_text w) ≡ true
unfolding fact_words fact_index bytes all_small
text_small = every_value word-type.enum refl (λ w. is_word (word_text w)) refl

text_free : (w : FactWord) → free comma (word_text w) ≡ true
unfolding fact_words fact_index bytes free
text_free = every_value word-type.enum refl (λ w. free comma (word_text w)) refl

abbrev pub is_size : FactWord → Bool
is_size w = eqb (fact_index w) (fact_index FactWord.Siz)

pub is_size_lem : {w : FactWord} (bs : List ℕ) → lookup fact_words bs ≡ Some w → is_size w ≡ same_bytes (bytes "siz") bs
unfolding fact_index fact_words bytes same_bytes
is_size_lem bs = lookup_agree is_size (same_bytes (bytes "siz")) fact_words bs refl

-- NUMBERS, by their decimals
low_read : (n : ℕ) → n ≤ max_number → number max_digits (decimal n) ≡ Some n
low_read n h = number_decimal max_digits n (omega arith) (omega arith)

-- PIECES that are joined
joined_behind : (c : ℕ) (p : List ℕ) (qs : List (List ℕ)) → joined c p qs ≡ p ++ each_behind c qs
unfolding joined each_behind
joined_behind c p [] = sym (append-nil p)
joined_behind c p (q ∷ qs) = ap (λ l. p ++ (c ∷ l)) (joined_behind c q qs)

split_joined : (c : ℕ) (p : List ℕ) (qs : List (List ℕ)) → AllFree c (p ∷ qs) → split c (joined c p qs) ≡ p ∷ qs
split_joined c p qs h = ap (split c) (joined_behind c p qs) ∙ split_behind c p qs h

-- THE LINE
abbrev pub Low : Four ℕ → Type 0
Low n = (n.a ≤ max_number) × (n.b ≤ max_number) × (n.c ≤ max_number) × (n.d ≤ max_number)

line_shape : (x : Fact) → Low x.fields → shape heap_letters (fact_line x) ≡ Some (record { letter = tt; word = word_text x.word; fields = x.fields })
unfolding fact_line six_fields heap_letters lookup bytes same_bytes free
line_shape x l =
    ap (six_fields max_digits (lookup heap_letters)) (split_joined comma (bytes "D") _
    (refl, (text_free x.word, (decimal_free _ comma refl, (decimal_free _ comma refl, (decimal_free _ comma refl, (decimal_free _ comma refl, tt)))))))
    ∙ rw (text_small x.word, low_read _ l.0, low_read _ l.1, low_read _ l.2, low_read _ l.3) refl

pub run_fact_lem : (facts : Facts) (x : Fact) → Low x.fields → beq (is_nil facts) (is_size x.word) ≡ true
    → every zero_unless_used (fact_fields x.word) x.fields ≡ true → may_follow facts x.word x.fields ≡ true → run_fact facts (fact_line x) ≡ passed (facts ++ (x ∷ []))
unfolding run_fact_read
run_fact_lem facts x l s z m = let k = known x.word in rw (line_shape x l, ← is_size_lem _ k, s, k, z, m) refl

-- LINES that are read, and a further one
module _ {S : Type 0} (run : S → List ℕ → Checked S) where
  run_step : (l : List ℕ) (ls : List (List ℕ)) (i : ℕ) (σ : S) → run_lines run (l ∷ (ls ++ ([] ∷ []))) i (passed σ) ≡ run_lines run (ls ++ ([] ∷ [])) (suc i) (run σ l)
  unfolding run_lines
  run_step l [] i σ = refl
  run_step l (m ∷ ls) i σ = refl

  run_more : (ls : List (List ℕ)) (l : List ℕ) (i j : ℕ) (m : Checked S) (σ : S) → run_lines run (ls ++ ([] ∷ [])) i m ≡ ended σ j
      → run_lines run (ls ++ (l ∷ []) ++ ([] ∷ [])) i m ≡ run_lines run ([] ∷ []) (suc j) (run σ l)
  unfolding run_lines
  run_more [] l i j (refused r) σ h = absurd (true≢false (let z : true ≡ false = cc in z))
  run_more [] l i j (passed τ) σ h = let e : τ ≡ σ = cc in let f : i ≡ j = cc in λ k. run_lines run ([] ∷ []) (suc (f k)) (run (e k) l)
  run_more (x ∷ ls) l i j (refused r) σ h = absurd (true≢false (let z : true ≡ false = cc in z))
  run_more (x ∷ ls) l i j (passed τ) σ h = run_step x (ls ++ (l ∷ [])) i τ ∙ run_more ls l (suc i) j (run τ x) σ (sym (run_step x ls i τ) ∙ h)

unfoldable pub Read : Facts → Type 0
Read facts = run_lines run_fact (map fact_line facts ++ ([] ∷ [])) 0 (passed []) ≡ ended facts (length facts)

pub read_more : (facts : Facts) (x : Fact) → Read facts → run_fact facts (fact_line x) ≡ passed (facts ++ (x ∷ [])) → Read (facts ++ (x ∷ []))
unfolding Read run_lines
read_more facts x r e =
    let n : suc (length facts) ≡ length (facts ++ (x ∷ [])) = omega (arith, length-append facts (x ∷ [])) in
    ap (λ ls. run_lines run_fact (ls ++ ([] ∷ [])) 0 (passed [])) (map-append fact_line facts (x ∷ []))
    ∙ run_more run_fact (map fact_line facts) (fact_line x) 0 (length facts) (passed []) facts r ∙ (λ i. run_lines run_fact ([] ∷ []) (n i) (e i))
