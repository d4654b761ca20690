-- What `trn` and `let` answer: a and b, b and c, then a and c, in a relation.
use mathlib.Core.Path.{◌≡◌}
use mathlib.Core.List.{List, [], ◌∷◌}
use Rattle.std.specs.Prelude.{Some}
use Prim.Native.Nat.{ℕ}
use lib.Dec.{eqb}
use Rattle.tableau.specs.declared.Relation.{Relation}
use Rattle.tableau.specs.declared.Rule.{Rule}
use Rattle.tableau.specs.Terms.{Table, Literal, literal}
use Rattle.tableau.specs.Rules.{pattern, p∶, q∶, Row, ◌⟶◌, only, ⟨◌⟩, rows, rule}
use Rattle.tableau.specs.Rules as row
use Rattle.rules.proofs.Laws.{by_test, computing, same}
use Rattle.rules.proofs.Rows.{MetIf}

abbrev chaining : Relation → List Row
chaining R =
    p∶ (pattern R row.a row.b) ∷ q∶ (pattern R row.b row.c) ∷ [] ⟶ only ⟨ pattern R row.a row.c ⟩

pub chained : {A : Table → Type 0} {x : Rule} {R : Relation} {P Q : Literal} {k l m n : ℕ}
    → rule x ≡ rows (chaining R) → P ≡ literal R k l → Q ≡ literal R m n
    → MetIf A x (Some P) (Some Q) 0 0 (eqb l m) ((literal R k n ∷ []) ∷ [])
unfolding computing
chained {R = R} {l = l} {m} d p q = record {
  answers = λ table h fresh. rw (d, p, q, same R) (by_test (eqb l m) (λ i. rw i) (λ i. rw i));
}
