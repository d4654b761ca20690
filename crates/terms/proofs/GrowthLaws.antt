-- The arrays after a T line hold the table with its term; empty arrays hold the empty table.
use mathlib.Core.Path.{◌≡◌, refl, sym, ◌∙◌, subst}
use mathlib.Core.Bool.{true}
use mathlib.Core.List.{[], ◌∷◌, ◌++◌}
use Rattle.std.specs.Prelude.{None}
use Prim.Native.Nat.{ℕ, suc, ◌+◌, ◌<◌, ◌≤◌}
use native.Mathlib.Omega.{arith}
use lib.ListN.{length, get_or, set, replicate}
use Rattle.tableau.specs.Basics.{every}
use Rattle.tableau.specs.Fields.{word_fields}
use Rattle.tableau.specs.Terms.{Table, at, number_of, max_terms}
use Rattle.tableau.specs.Terms as specification
use Rattle.tableau.specs.Reply.{of_sort}
use Rattle.tableau.proofs.WellFormed.{OkTerm}
use Rattle.tableau.proofs.TableGrowth.{empty_well_formed, grown_well_formed_lem}
use Rattle.tableau.proofs.Soundness.{term_ok}
use Rattle.syntax.specs.declared.Term.{Term}
use Rattle.syntax.specs.Syntax.{word_in, fields_in, term_in}
use Rattle.packing.specs.Packing.{pack_term, name_limit, Packable}
use Rattle.table.specs.Held.{hashes, hash_of, links}
use Rattle.table.proofs.GrowthLaws.{length_grown, at_last, at_old, searchable_grown, searchable_empty}
use Rattle.mentions.specs.Mentions.{argument_bits, Noted}
use Rattle.mentions.proofs.GrowthLaws.{ArgumentsMade, arguments_below, rows_grown, rows_empty}
use Rattle.terms.specs.Arrays.{Arrays, arrays, Held}
use Rattle.terms.proofs.LineLaws.{written_term}

pub term_packable : (table : Table) (term : Term) → ArgumentsMade table term → length table ≤ max_terms → (fields_in term).a < name_limit
    → Packable (term_in term)
term_packable table (Term.Variable s n) A few small = small
term_packable table (Term.Apply o k) A few small =
    let b = arguments_below table (Term.Apply o k) A in (omega arith, omega arith, omega arith, omega arith)

-- a new term that passed checks 6 to 10
pub record Passed (table : Table) (term : Term) : Type 0 where
  pub room : length table < max_terms
  pub arguments : ArgumentsMade table term
  pub sorts : every (of_sort table) (word_fields (word_in term)) (fields_in term) ≡ true
  pub packable : Packable (term_in term)
  pub new : number_of table (term_in term) ≡ None

-- the arrays with it, as `table::add` and `mentions::note` leave them
pub record Added (old new : Arrays) (n p : ℕ) (e : specification.Term) : Type 0 where
  pub packed : p ≡ pack_term e
  pub terms : new.terms ≡ set old.terms (n + 1) p
  pub chains : new.chains ≡ set (set old.chains (hashes + (n + 1)) (get_or old.chains (hash_of p) 0)) (hash_of p) (n + 1)
  pub noted : Noted old.rows new.rows (n + 1) (argument_bits old.rows e)

pub held_grown : (table : Table) (term : Term) (old new : Arrays) (n p : ℕ) → Held table old n → Passed table term
    → Added old new n p (term_in term) → Held (table ++ (term_in term ∷ [])) new (n + 1)
held_grown table term old new n p H P A =
    let e = term_in term in
    let q : n + 1 ≡ suc (length table) = omega (arith, H.count) in
    let ok : OkTerm (at table) (suc (length table)) e = subst (OkTerm (at table) (suc (length table))) (written_term term)
    (term_ok table (word_in term) (fields_in term) P.arguments.made P.sorts) in
    let wf = grown_well_formed_lem table e H.well_formed ok P.new in
    record {
      count = length_grown table e ∙ sym q;
      well_formed = wf;
      searchable = rw (A.terms, A.chains, A.packed, q)
          (searchable_grown table e old.terms old.chains H.searchable P.room P.packable P.new);
      mentioned = rows_grown table (table ++ (e ∷ [])) term
          (record { count = length_grown table e; old = at_old table e; last = at_last table e; well_formed = H.well_formed; grown_well_formed = wf })
          old.rows new.rows H.mentioned P.arguments (rw q at A.noted);
    }

pub held_empty : Held [] (arrays (replicate {A = ℕ} 1024 0) (replicate {A = ℕ} links 0) (replicate {A = ℕ} 6010 0)) 0
held_empty = record {
  count = refl;
  well_formed = empty_well_formed;
  searchable = searchable_empty 1024 links refl refl;
  mentioned = rows_empty 6010 refl;
}
