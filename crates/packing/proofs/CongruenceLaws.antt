-- What `sub` asks of two terms, asked of them packed.
use mathlib.Core.Path.{◌≡◌, refl, sym, ◌∙◌, ap, ap₂}
use mathlib.Core.Bool.{Bool, true, false, ◌&&◌, ◌||◌, and-false}
use mathlib.Core.Logic.{◌⊎◌, inl, inr}
use Prim.Native.Nat.{ℕ, zero, suc, ◌/◌, ◌%◌, ◌<◌}
use native.Mathlib.Omega.{arith}
use lib.Dec.{eqb, leb}
use borrow.Author.Tests.{eq-eqb, ne_eqb, lt-leb}
use Rattle.tableau.specs.declared.Operator.{Operator}
use Rattle.tableau.specs.declared.Word.{Word}
use Rattle.tableau.specs.Basics.{Four, four, every}
use Rattle.tableau.specs.Fields.{arguments}
use Rattle.tableau.specs.Terms.{TermNo, Term, variable, apply, written, operator_index, same_operator}
use Rattle.tableau.specs.Steps.{agree, takes_terms, congruent}
use Rattle.tableau.proofs.Bools.{dec, clash}
use Rattle.tableau.proofs.Match.{same_operator_lem}
use Rattle.packing.specs.Packing.{word_at, pack_term, unpack_fields, unpack_term, AllSmall, Packable, takes_arguments, fields_in, Packs}
use Rattle.packing.proofs.PackingLaws.{unpack_pack}

-- A PACKED TERM has the term's word and its arguments
abbrev word_of : Term → Word
word_of (variable s n) = Word.Variable s
word_of (apply o k) = Word.Operation o

written_word : (w : Word) (k : Four ℕ) → word_of (written w k) ≡ w
written_word (Word.Variable s) k = refl
written_word (Word.Operation o) k = refl

packed_word : (e : Term) → Packable e → word_at (pack_term e / 8 % 32) ≡ word_of e
unfolding unpack_term
packed_word e h = sym (written_word (word_at (pack_term e / 8 % 32)) (unpack_fields (pack_term e))) ∙ ap word_of (unpack_pack e h)

written_arguments : (w : Word) (m k : Four ℕ) (o : Operator) → written w m ≡ apply o k → m ≡ k
written_arguments (Word.Variable s) m k o e = let z : ◌≡◌ {A = ℕ} 0 1 = cc in absurd (omega arith)
written_arguments (Word.Operation o') m k o e = cc

-- a field that is small is not cut
cut_fields : (p : ℕ) (k : Four ℕ) → unpack_fields p ≡ k → AllSmall k → fields_in p ≡ k
cut_fields p k e h = (λ i. four (first i) (p / 268435456 % 1024) (p / 262144 % 1024) (p / 256 % 1024)) ∙ e
  where
    small : p / 274877906944 < 1024
    small = let z : p / 274877906944 ≡ k.a = ap (λ (m : Four ℕ). m.a) e in omega (arith, h.0)

    first : p / 274877906944 % 1024 ≡ p / 274877906944
    first = omega (arith, small)

packed_arguments : (o : Operator) (k : Four ℕ) → Packable (apply o k) → fields_in (pack_term (apply o k)) ≡ k
unfolding unpack_term
packed_arguments o k h = cut_fields _ k (written_arguments (word_at (pack_term (apply o k) / 8 % 32)) _ k o (unpack_pack (apply o k) h)) h

-- the words that take terms, by their codes
abbrev word_takes_terms : Word → Bool
word_takes_terms (Word.Variable s) = false
word_takes_terms (Word.Operation o) = takes_terms o

high_code : (n : ℕ) → 11 < n → (eqb n 1 || (leb 4 n && leb n 11)) ≡ false
high_code n h = rw (ne_eqb n 1 (λ e. omega arith), lt-leb n 11 h, and-false)

code_takes : (n : ℕ) → (eqb n 1 || (leb 4 n && leb n 11)) ≡ word_takes_terms (word_at n)
unfolding word_at takes_terms arguments
code_takes zero = refl
code_takes (suc zero) = refl
code_takes (suc (suc zero)) = refl
code_takes (suc (suc (suc zero))) = refl
code_takes (suc (suc (suc (suc zero)))) = refl
code_takes (suc (suc (suc (suc (suc zero))))) = refl
code_takes (suc (suc (suc (suc (suc (suc zero)))))) = refl
code_takes (suc (suc (suc (suc (suc (suc (suc zero))))))) = refl
code_takes (suc (suc (suc (suc (suc (suc (suc (suc zero)))))))) = refl
code_takes (suc (suc (suc (suc (suc (suc (suc (suc (suc zero))))))))) = refl
code_takes (suc (suc (suc (suc (suc (suc (suc (suc (suc (suc zero)))))))))) = refl
code_takes (suc (suc (suc (suc (suc (suc (suc (suc (suc (suc (suc zero))))))))))) = refl
code_takes (suc (suc (suc (suc (suc (suc (suc (suc (suc (suc (suc (suc zero)))))))))))) = refl
code_takes (suc (suc (suc (suc (suc (suc (suc (suc (suc (suc (suc (suc (suc zero))))))))))))) = refl
code_takes (suc (suc (suc (suc (suc (suc (suc (suc (suc (suc (suc (suc (suc (suc zero)))))))))))))) = refl
code_takes (suc (suc (suc (suc (suc (suc (suc (suc (suc (suc (suc (suc (suc (suc (suc zero))))))))))))))) = refl
code_takes (suc (suc (suc (suc (suc (suc (suc (suc (suc (suc (suc (suc (suc (suc (suc (suc n)))))))))))))))) =
    let h : 11 < suc (suc (suc (suc (suc (suc (suc (suc (suc (suc (suc (suc (suc (suc (suc (suc n))))))))))))))) = omega arith in
    high_code _ h

packed_takes : (e : Term) → Packable e → takes_arguments (pack_term e) ≡ word_takes_terms (word_of e)
packed_takes e h = code_takes (pack_term e / 8 % 32) ∙ ap word_takes_terms (packed_word e h)

-- the low 8 bits are those of the word
low_word : (e x : Term) → Packable e → Packable x → pack_term e % 256 ≡ pack_term x % 256 → word_of e ≡ word_of x
low_word e x he hx q =
    let c : pack_term e / 8 % 32 ≡ pack_term x / 8 % 32 = omega arith in
    sym (packed_word e he) ∙ ap word_at c ∙ packed_word x hx

low_same : (o : Operator) (k m : Four ℕ) → pack_term (apply o k) % 256 ≡ pack_term (apply o m) % 256
unfolding pack_term
low_same o k m = omega arith

low_operator : (o p : Operator) (k m : Four ℕ) → Packable (apply o k) → Packable (apply p m)
    → eqb (pack_term (apply o k) % 256) (pack_term (apply p m) % 256) ≡ same_operator o p
low_operator o p k m hk hm = go (dec (same_operator o p))
  where
    differ : same_operator o p ≡ false → pack_term (apply o k) % 256 ≡ pack_term (apply p m) % 256 → ⊥
    differ e l =
        let w : Word.Operation o ≡ Word.Operation p = low_word (apply o k) (apply p m) hk hm l in
        let q : o ≡ p = cc in
        clash (eq-eqb (operator_index o) (operator_index p) (ap operator_index q)) e

    go : (same_operator o p ≡ true) ⊎ (same_operator o p ≡ false) → eqb (pack_term (apply o k) % 256) (pack_term (apply p m) % 256) ≡ same_operator o p
    go (inl e) = eq-eqb _ _ (ap (λ (z : Operator). pack_term (apply z k) % 256) (same_operator_lem o p e) ∙ low_same p k m) ∙ sym e
    go (inr e) = ne_eqb _ _ (differ e) ∙ sym e

-- what `sub` asks of two terms is asked of them packed
packed_congruent : (a b : TermNo) (e x : Term) → Packable e → Packable x
    → congruent a b e x ≡ (takes_arguments (pack_term e) && (eqb (pack_term e % 256) (pack_term x % 256)
    && every (agree a b) (fields_in (pack_term e)) (fields_in (pack_term x))))
packed_congruent a b (variable s n) x he hx = rw (packed_takes (variable s n) he)
packed_congruent a b (apply o k) (variable s n) he hx =
    rw (ne_eqb (pack_term (apply o k) % 256) (pack_term (variable s n) % 256) differ, and-false)
  where
    differ : pack_term (apply o k) % 256 ≡ pack_term (variable s n) % 256 → ⊥
    differ l =
        let w : Word.Operation o ≡ Word.Variable s = low_word (apply o k) (variable s n) he hx l in
        let z : ◌≡◌ {A = ℕ} 0 1 = cc in
        omega arith
packed_congruent a b (apply o k) (apply p m) he hx =
    rw (packed_takes (apply o k) he, low_operator o p k m he hx)
    (ap₂ (λ (x y : Four ℕ). takes_terms o && (same_operator o p && every (agree a b) x y)) (sym (packed_arguments o k he)) (sym (packed_arguments p m hx)))

pub congruent_packed : {x y : ℕ} (a b : TermNo) (e f : Term) → Packs e x → Packs f y
    → congruent a b e f ≡ (takes_arguments x && (eqb (x % 256) (y % 256) && every (agree a b) (fields_in x) (fields_in y)))
congruent_packed a b e f h k = rw (h.is, k.is) (packed_congruent a b e f h.packable k.packable)

-- A PACKED TERM WHOSE WORD TAKES TERMS is an operator's, with the fields for arguments
pub applied : (e : Term) (p : ℕ) → Packs e p → takes_arguments p ≡ true → (o : Operator) × (e ≡ apply o (fields_in p)) × (takes_terms o ≡ true)
applied (variable s n) p h t = clash (sym (ap takes_arguments h.is) ∙ t) (packed_takes (variable s n) h.packable)
applied (apply o k) p h t = (
  o,
  ap (apply o) (sym (ap fields_in h.is ∙ packed_arguments o k h.packable)),
  sym (packed_takes (apply o k) h.packable) ∙ sym (ap takes_arguments h.is) ∙ t,
)

pub applied_fields : (o : Operator) (k : Four ℕ) (p : ℕ) → Packs (apply o k) p → takes_terms o ≡ true → (takes_arguments p ≡ true) × (fields_in p ≡ k)
applied_fields o k p h t = (
  ap takes_arguments h.is ∙ packed_takes (apply o k) h.packable ∙ t,
  ap fields_in h.is ∙ packed_arguments o k h.packable,
)

-- the low bits tell the operator, and whether it takes terms
pub same_low : (o : Operator) (k l : Four ℕ) (p q : ℕ) → Packs (apply o k) p → Packs (apply o l) q → p % 256 ≡ q % 256
same_low o k l p q h g = rw (h.is, g.is) (low_same o k l)

pub one_operator : (o x : Operator) (k l : Four ℕ) (p q : ℕ) → Packs (apply o k) p → Packs (apply x l) q → p % 256 ≡ q % 256 → o ≡ x
one_operator o x k l p q h g e =
    let w : Word.Operation o ≡ Word.Operation x = low_word (apply o k) (apply x l) h.packable g.packable (ap (λ (n : ℕ). n % 256) (sym h.is) ∙ e ∙ ap (λ (n : ℕ). n % 256) g.is) in cc

pub low_takes : (p q : ℕ) → p % 256 ≡ q % 256 → takes_arguments p ≡ takes_arguments q
low_takes p q e = let c : p / 8 % 32 ≡ q / 8 % 32 = omega arith in ap (λ (n : ℕ). eqb n 1 || (leb 4 n && leb n 11)) c
