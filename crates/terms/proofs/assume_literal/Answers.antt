-- Each return knows the checks that held and the one that failed.
use mathlib.Core.Path.{◌≡◌, refl, sym, ◌∙◌, ap}
use mathlib.Core.Bool.{true}
use lib.ListN.{length}
use Rattle.tableau.specs.Basics.{every}
use Rattle.tableau.specs.Fields.{sides}
use Rattle.tableau.specs.Terms.{Table}
use Rattle.tableau.specs.Reply.{term_or_name}
use Rattle.syntax.specs.Syntax.{literal_in, sides_in}
use Rattle.packing.specs.Packing.{PackableLiteral}
use Rattle.std.specs.Prelude.{Ok}
use Rattle.terms.specs.Lines.{assumption_of}
use Rattle.terms.proofs.LineLaws.{literal_line_lem, sides_packable}
use Rattle.terms.proofs.assume_literal.Goals as goal
use Rattle.terms.proofs.assume_literal.Goals.{Else-not-are_made}

eight : (c : goal.Else-not-are_made) (table : Table) → length table ≡ c.args.n
    → every (term_or_name table) (sides c.args.literal.relation) (sides_in c.args.literal) ≡ true
eight c table q = sym (c.are_made.ensures table q) ∙ c.if-not-are_made.false

packable : (c : goal.Else-not-are_made) → PackableLiteral (literal_in c.args.literal)
packable c = let p = c.requires in sides_packable p.0 c.args.literal p.1.few (eight c p.0 p.2)

pub returns-then-not-are_made : goal.returns-then-not-are_made
returns-then-not-are_made c =
    record {
      value = λ table E q.
          sym (ap assumption_of (literal_line_lem table c.args.literal
          (sym (c.are_made.ensures table q) ∙ c.if-not-are_made.true) refl));
      small_code = tt;
    }

pub have_sorts-requires : goal.have_sorts-requires
have_sorts-requires c = let p = c.requires in record { entries = (p.0, p.1); packable_literal = packable (goal.at.have_sorts-requires c).Else-not-are_made }

pub returns-then-not-have_sorts : goal.returns-then-not-have_sorts
returns-then-not-have_sorts c =
    record {
      value = λ table E q.
          sym (ap assumption_of (literal_line_lem table c.args.literal (eight (goal.at.returns-then-not-have_sorts c).Else-not-are_made table q)
          (sym (c.have_sorts.ensures table E) ∙ c.if-not-have_sorts.true)));
      small_code = tt;
    }

pub pack-requires : goal.pack-requires
pack-requires c = packable (goal.at.pack-requires c).Else-not-are_made

pub returns : goal.returns
returns c =
    record {
      value = λ table E q.
          ap Ok c.pack.ensures.0
          ∙ sym (ap assumption_of (literal_line_lem table c.args.literal (eight (goal.at.returns c).Else-not-are_made table q)
          (sym (c.have_sorts.ensures table E) ∙ c.if-not-have_sorts.false)));
      small_code = c.pack.ensures.1;
    }
