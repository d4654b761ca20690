-- The arrays with one term more hold the table with that term; empty arrays hold the empty table.
use mathlib.Core.Path.{◌≡◌, refl, sym, ◌∙◌, ap, subst}
use mathlib.Core.Bool.{Bool, cond}
use mathlib.Core.List.{List, [], ◌∷◌, ◌++◌}
use Rattle.std.specs.Prelude.{None, Some}
use mathlib.Core.Logic.{inl, inr, ⊎_elim}
use Prim.Native.Nat.{ℕ, zero, suc, ◌+◌, ◌<◌, ◌≤◌}
use native.Mathlib.Nat.{eq-or-lt_of_le}
use native.Mathlib.Numerals.{add-one}
use native.Mathlib.Omega.{arith}
use lib.Dec.{eqb}
use lib.ListN.{length, get_or, set, length-append, length-set, replicate, length-replicate}
use lib.Seq.{get_or-set_same, get_or-set_other}
use borrow.Author.Tests.{eqb-true, eqb-false, ne_eqb}
use Rattle.tableau.specs.Terms.{TermNo, Table, Term, result, sort_index, operator_index, at, no_term, number_of, max_terms}
use Rattle.tableau.proofs.Bools.{dec, eqb_same}
use Rattle.tableau.proofs.TableGrowth.{at_snoc}
use Rattle.packing.specs.Packing.{word_code, word_sort, word_bits, pack_term, Packable}
use Rattle.table.specs.Held.{Entries, hashes, hash_of, links, last_with, Chains, Searchable}
use Rattle.table.proofs.NumberLaws.{number_kept, number_added}
use Rattle.table.proofs.ChainLaws.{chains_more}

-- THE TABLE WITH ONE TERM MORE
module _ (table : Table) (e : Term) where
  abbrev grown : Table
  grown = table ++ (e ∷ [])

  abbrev next_number : TermNo
  next_number = suc (length table)

  pub length_grown : length grown ≡ next_number
  length_grown = length-append table (e ∷ []) ∙ add-one (length table)

  pub at_last : at grown next_number ≡ e
  at_last = at_snoc table e next_number ∙ ap (λ (b : Bool). cond b e (at table next_number)) (eqb_same next_number)

  at_other : (t : TermNo) → (t ≡ next_number → ⊥) → at grown t ≡ at table t
  at_other t ne = at_snoc table e t ∙ ap (λ (b : Bool). cond b e (at table t)) (ne_eqb t next_number ne)

  pub at_old : (t : TermNo) → t ≤ length table → at grown t ≡ at table t
  at_old t l = at_other t (omega arith)

  entries_grown : (terms : List ℕ) → Entries table terms → length table < max_terms → Packable e → Entries grown (set terms next_number (pack_term e))
  entries_grown terms E room small = record {
    size = length-set terms next_number (pack_term e) ∙ E.size;
    few = omega (arith, length_grown);
    packed = λ t. elim (dec (eqb t next_number)) [
      | inl q ↦ rw (eqb-true t next_number q, at_last) (get_or-set_same terms next_number (pack_term e) 0 (omega (arith, E.size)))
      | inr q ↦ get_or-set_other terms next_number t (pack_term e) 0 (eqb-false t next_number q) ∙ E.packed t ∙ ap pack_term (sym (at_other t (eqb-false t next_number q)))
    ];
    packable = λ t. elim (dec (eqb t next_number)) [
      | inl q ↦ subst Packable (sym (ap (at grown) (eqb-true t next_number q) ∙ at_last)) small
      | inr q ↦ subst Packable (sym (at_other t (eqb-false t next_number q))) (E.packable t)
    ];
  }

  numbered_grown : ((t : TermNo) → 0 < t → t ≤ length table → number_of table (at table t) ≡ Some t) → number_of table e ≡ None
      → (t : TermNo) → 0 < t → t ≤ length grown → number_of grown (at grown t) ≡ Some t
  numbered_grown old new t l m = ⊎_elim
      (λ (q : t ≡ next_number). rw (q, at_last) (number_added 1 table e new ∙ ap Some (let s : 1 + length table ≡ next_number = omega arith in s)))
      (λ (q : t < next_number).
      let le : t ≤ length table = omega arith in
      ap (number_of grown) (at_old t le) ∙ number_kept 1 table e (at table t) t (old t l le))
      (eq-or-lt_of_le (let le : t ≤ next_number = omega (arith, length_grown) in le))

  pub searchable_grown : (terms chains : List ℕ) → Searchable table terms chains → length table < max_terms → Packable e → number_of table e ≡ None
      → Searchable grown (set terms next_number (pack_term e))
      (set (set chains (hashes + next_number) (get_or chains (hash_of (pack_term e)) 0)) (hash_of (pack_term e)) next_number)
  searchable_grown terms chains S room small new = record {
    entries = entries_grown terms S.entries room small;
    chained = rw length_grown (chains_more terms chains (length table) (pack_term e) S.chained (omega (arith, S.entries.size)) room);
    numbered = numbered_grown S.numbered new;
  }

-- THE EMPTY TABLE. The laws are over the arrays' lengths, so that no array is computed.
pub zeros : (n t : ℕ) → get_or (replicate {A = ℕ} n 0) t 0 ≡ 0
zeros zero t = refl
zeros (suc n) zero = refl
zeros (suc n) (suc t) = zeros n t

no_term_zero : pack_term no_term ≡ 0
unfolding pack_term word_bits word_code word_sort result operator_index sort_index
no_term_zero = refl

entries_empty : (n : ℕ) → n ≡ 1024 → Entries [] (replicate {A = ℕ} n 0)
entries_empty n q = record {
  size = length-replicate {A = ℕ} n 0 ∙ q;
  few = omega arith;
  packed = λ t. zeros n t ∙ sym no_term_zero;
  packable = λ t. (omega arith, omega arith, omega arith, omega arith);
}

pub chains_empty : (terms : List ℕ) (m : ℕ) → m ≡ links → Chains terms (replicate {A = ℕ} m 0) 0
unfolding last_with
chains_empty terms m q = record { size = length-replicate {A = ℕ} m 0 ∙ q; begins = λ x l. zeros m x; goes_on = λ t l. absurd (omega arith) }

pub searchable_empty : (n m : ℕ) → n ≡ 1024 → m ≡ links → Searchable [] (replicate {A = ℕ} n 0) (replicate {A = ℕ} m 0)
searchable_empty n m qn qm = record {
  entries = entries_empty n qn;
  chained = chains_empty (replicate {A = ℕ} n 0) m qm;
  numbered = λ t l m. absurd (omega arith);
}
