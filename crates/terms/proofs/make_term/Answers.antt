-- Each return knows the checks that held and the one that failed; where all hold, the arrays hold the table with the term.
use mathlib.Core.Path.{◌≡◌, refl, sym, ◌∙◌, ap}
use mathlib.Core.Bool.{Bool, true, not}
use mathlib.Core.List.{[], ◌∷◌, ◌++◌}
use Rattle.std.specs.Prelude.{Option}
use native.Mathlib.Omega.{arith}
use lib.Dec.{ltb}
use lib.ListN.{length}
use borrow.Author.Tests.{lt-ltb, le-ltb}
use Rattle.tableau.specs.Basics.{is_some, every}
use Rattle.tableau.specs.Fields.{word_fields}
use Rattle.tableau.specs.Terms.{TermNo, Table, number_of, max_terms}
use Rattle.tableau.specs.Reply.{of_sort, is_new, term_line}
use Rattle.syntax.specs.Syntax.{word_in, fields_in, term_in}
use Rattle.packing.specs.Packing.{Packable}
use Rattle.table.specs.Held.{found_of}
use Rattle.mentions.proofs.GrowthLaws.{ArgumentsMade, arguments_below}
use Rattle.terms.specs.Arrays.{arrays, Held}
use Rattle.terms.specs.Lines.{making_of}
use Rattle.terms.proofs.LineLaws.{term_checks, term_line_lem, found_old, found_new}
use Rattle.terms.proofs.GrowthLaws.{term_packable, held_grown}
use Rattle.terms.proofs.make_term.Goals as goal
use Rattle.terms.proofs.make_term.Goals.{After-search, Else-n-ge-TERMS, Else-not-are_made, Else-not-have_sorts}

-- what each check comes to where it holds
seven : (c : goal.Else-n-ge-TERMS) (table : Table) → (Held table (arrays c.args.terms.now c.args.chains.now c.args.rows.now) c.args.n) → ltb (length table) max_terms ≡ true
seven c table H = let q : length table ≡ c.args.n = H.count in lt-ltb (length table) max_terms (omega arith)

eight : (c : goal.Else-not-are_made) (table : Table) → (Held table (arrays c.args.terms.now c.args.chains.now c.args.rows.now) c.args.n) → ArgumentsMade table c.args.term
eight c table H = record {
  unused_zero = c.requires.term_value.0;
  made = sym (c.are_made.ensures table H.count) ∙ c.if-not-are_made.false;
}

packable : (c : goal.Else-not-are_made) (table : Table) → (Held table (arrays c.args.terms.now c.args.chains.now c.args.rows.now) c.args.n) → Packable (term_in c.args.term)
packable c table H = term_packable table c.args.term (eight c table H) H.searchable.entries.few c.requires.term_value.1

nine : (c : goal.Else-not-have_sorts) (table : Table) → (Held table (arrays c.args.terms.now c.args.chains.now c.args.rows.now) c.args.n)
    → every (of_sort table) (word_fields (word_in c.args.term)) (fields_in c.args.term) ≡ true
nine c table H = sym (c.have_sorts.ensures table H.searchable.entries) ∙ c.if-not-have_sorts.false

found : (c : goal.After-search) (table : Table) → (Held table (arrays c.args.terms.now c.args.chains.now c.args.rows.now) c.args.n)
    → c.search.result ≡ found_of (number_of table (term_in c.args.term))
found c table H = c.search.ensures table H.searchable _
    (record {
      is = c.pack-packed.ensures;
      packable = (term_packable table c.args.term ((record {
        unused_zero = c.requires.term_value.0;
        made = sym (c.are_made.ensures table H.count) ∙ c.if-not-are_made.false;
      })) H.searchable.entries.few c.requires.term_value.1);
    })

-- so check 10 decides
line : (c : goal.After-search) (table : Table) → (Held table (arrays c.args.terms.now c.args.chains.now c.args.rows.now) c.args.n) → {ten : Bool} → is_new table (term_in (c.args.term)) ≡ ten
    → term_line table (word_in (c.args.term)) (fields_in (c.args.term)) ≡ term_checks true true true true ten (table ++ (term_in (c.args.term) ∷ []))
line c table H ten =
    term_line_lem table (c.args.term) c.requires.term_value.0 ((let q : length table ≡ c.args.n = H.count in lt-ltb (length table) max_terms (omega arith))) (sym (c.are_made.ensures table H.count) ∙ c.if-not-are_made.false) ((sym (c.have_sorts.ensures table H.searchable.entries) ∙ c.if-not-have_sorts.false)) ten

pub returns-then-n-ge-TERMS : goal.returns-then-n-ge-TERMS
returns-then-n-ge-TERMS c =
    λ table H.
    let q : length table ≡ c.args.n = H.count in record {
      reply = sym (ap making_of (term_line_lem table c.args.term c.requires.term_value.0 (le-ltb (length table) max_terms (omega arith))
          refl refl refl));
      after = refl;
    }

pub returns-then-not-are_made : goal.returns-then-not-are_made
returns-then-not-are_made c =
    λ table H.
    record {
      reply = sym (ap making_of (term_line_lem table c.args.term c.requires.term_value.0 (seven (goal.at.returns-then-not-are_made c).Else-n-ge-TERMS table H)
          (sym (c.are_made.ensures table H.count) ∙ c.if-not-are_made.true) refl refl));
      after = refl;
    }

pub returns-then-not-have_sorts : goal.returns-then-not-have_sorts
returns-then-not-have_sorts c =
    λ table H.
    record {
      reply = sym (ap making_of (term_line_lem table c.args.term c.requires.term_value.0 (seven (goal.at.returns-then-not-have_sorts c).Else-n-ge-TERMS table H) (eight (goal.at.returns-then-not-have_sorts c).Else-not-are_made table H).made
          (sym (c.have_sorts.ensures table H.searchable.entries) ∙ c.if-not-have_sorts.true) refl));
      after = refl;
    }

pub returns-then-is_some : goal.returns-then-is_some
returns-then-is_some c =
    λ table H.
    let at = (goal.at.returns-then-is_some c).After-search in
    record {
      reply = sym (ap making_of
          (line at table H (found_old (number_of table (term_in c.args.term)) (found at table H)
          (sym c.is_some.ensures ∙ c.if-is_some.true))));
      after = refl;
    }

pub note-requires : goal.note-requires
note-requires c =
    let p = c.requires.held in
    let b = arguments_below p.0 c.args.term (eight (goal.at.note-requires c).Else-not-are_made p.0 p.1) in
    let q : length p.0 ≡ c.args.n = p.1.count in
    (omega arith, (omega arith, omega arith, omega arith, omega arith))

pub returns : goal.returns
returns c =
    λ table H.
    let new = found_new (number_of table (term_in (c.args.term)))
    (found (goal.at.returns c).After-search table H) (sym c.is_some.ensures
    ∙ c.if-is_some.false) in record {
      reply = sym (ap making_of (line (goal.at.returns c).After-search table H (ap (λ (o : Option TermNo). not (is_some o)) new)));
      after = held_grown table (c.args.term) _ _ _ _ H
          (record {
            room = let q : length table ≡ c.args.n = H.count in omega (arith, (goal.at.returns c).Else-n-ge-TERMS);
            arguments = eight (goal.at.returns c).Else-not-are_made table H;
            sorts = nine (goal.at.returns c).Else-not-have_sorts table H;
            packable = packable (goal.at.returns c).Else-not-are_made table H;
            new = new;
          })
          (record {
            packed = c.pack-packed.ensures;
            terms = c.add.ensures.terms_after;
            chains = c.add.ensures.chains_after;
            noted = c.note.ensures;
          });
    }
