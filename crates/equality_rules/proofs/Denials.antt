-- What `cls` answers where p and q are of a relation and its denial: it compares their sides.
use mathlib.Core.List.{[]}
use mathlib.Core.Bool.{◌&&◌}
use Rattle.std.specs.Prelude.{Some}
use lib.Dec.{eqb}
use Rattle.tableau.specs.declared.Rule.{Rule}
use Rattle.tableau.specs.declared.TermNumber.{TermNumber}
use Rattle.packing.specs.declared.LiteralView.{LiteralView}
use Rattle.packing.specs.Packing.{literal_of}
use Rattle.rules.specs.Answer.{Anywhere}
use Rattle.rules.proofs.Laws.{computing}
use Rattle.rules.proofs.Rows.{MetIf, by_tests}

abbrev pub Compares : LiteralView → LiteralView → TermNumber → TermNumber → TermNumber → TermNumber
    → Type 0
Compares p q a b x y =
    MetIf Anywhere Rule.Cls (Some (literal_of p)) (Some (literal_of q)) 0 0
    (eqb a.0 x.0 && eqb b.0 y.0) []

pub in_ni : (a b x y : TermNumber) → Compares (LiteralView.In a b) (LiteralView.Ni x y) a b x y
unfolding computing
in_ni a b x y =
    record {
      answers = λ table h fresh.
          by_tests (eqb a.0 x.0) (eqb b.0 y.0) (λ l. rw l) (λ l m. rw (l, m)) (λ l m. rw (l, m));
    }

pub eq_ne : (a b x y : TermNumber) → Compares (LiteralView.Eq a b) (LiteralView.Ne x y) a b x y
unfolding computing
eq_ne a b x y =
    record {
      answers = λ table h fresh.
          by_tests (eqb a.0 x.0) (eqb b.0 y.0) (λ l. rw l) (λ l m. rw (l, m)) (λ l m. rw (l, m));
    }

pub le_nl : (a b x y : TermNumber) → Compares (LiteralView.Le a b) (LiteralView.Nl x y) a b x y
unfolding computing
le_nl a b x y =
    record {
      answers = λ table h fresh.
          by_tests (eqb a.0 x.0) (eqb b.0 y.0) (λ l. rw l) (λ l m. rw (l, m)) (λ l m. rw (l, m));
    }
