-- What the arrays tell of the table that they hold.
use mathlib.Core.Path.{◌≡◌, refl, sym, ◌∙◌, ap}
use mathlib.Core.List.{List}
use Rattle.std.specs.Prelude.{Option, None, Some}
use Prim.Native.Nat.{ℕ, suc, ◌<◌, ◌≤◌}
use native.Mathlib.Omega.{arith}
use lib.ListN.{length, get_or}
use Rattle.tableau.specs.Terms.{TermNo, Table, Term, at, number_of}
use Rattle.packing.specs.Packing.{pack_term, Packs}
use Rattle.tableau.specs.declared.TermNumber.{TermNumber}
use Rattle.table.specs.Held.{Entries, Searchable, Absent, Sought, found_of, SmallFound}
use Rattle.packing.proofs.PackingLaws.{pack_injective}
use Rattle.table.proofs.NumberLaws.{found_in}

-- WHAT A SEARCH ENDS WITH, in a table that holds no term twice: the number of the term
module _ (table : Table) (terms chains : List ℕ) (S : Searchable table terms chains) (p : ℕ) (e : Term) (P : Packs e p) where
  here : (t : TermNo) → 0 < t → t ≤ length table → get_or terms t 0 ≡ p → found_of (Some t) ≡ found_of (number_of table e)
  here t l m q =
      let same : at table t ≡ e = pack_injective (at table t) e (S.entries.packable t) P.packable (sym (S.entries.packed t) ∙ q ∙ P.is) in
      ap found_of (sym (ap (number_of table) (sym same) ∙ S.numbered t l m))

  nowhere : Absent terms p 1 (suc (length table)) → found_of None ≡ found_of (number_of table e)
  nowhere h = go (number_of table e) refl
    where
      go : (o : Option TermNo) → number_of table e ≡ o → found_of None ≡ found_of o
      go None q = refl
      go (Some j) q =
          let s = found_in table e j q in
          let l : j ≤ length table = s.last in
          absurd (h j s.first (omega arith) (S.entries.packed j ∙ ap pack_term s.is ∙ sym P.is))

  pub found_number : (r : Option TermNumber) → Sought terms (length table) p r → r ≡ found_of (number_of table e)
  found_number (Some t) h = here t.0 h.0 h.1 h.2
  found_number None h = nowhere h

-- each entry is its term's packed form
pub packs : (table : Table) (terms : List ℕ) → Entries table terms → (t : TermNo) → Packs (at table t) (get_or terms t 0)
packs table terms E t = record { is = E.packed t; packable = E.packable t }

-- what a search finds is small
pub found_small : (table : Table) (terms : List ℕ) → Entries table terms → (e : Term) → SmallFound (found_of (number_of table e))
found_small table terms E e = go (number_of table e) refl
  where
    go : (o : Option TermNo) → number_of table e ≡ o → SmallFound (found_of o)
    go None q = tt
    go (Some j) q = let l : j ≤ length table = (found_in table e j q).last in omega (arith, E.few)
