-- What the arms of a `let .. else` say: a literal of another relation, a term of another operator,
-- a search that finds nothing; and what an outcome adds.
use mathlib.Core.Path.{◌≡◌, refl, sym, ◌∙◌, ap, subst}
use mathlib.Core.Bool.{Bool, true, false, not}
use mathlib.Core.List.{List}
use Rattle.std.specs.Prelude.{Option, None, Some, Result, Ok, Err, IsErrAnd}
use Rattle.std.proofs.lemmas.Result.{err_from_is_err_and}
use Prim.Native.Nat.{ℕ, suc, ◌≤◌}
use native.Mathlib.Omega.{arith}
use borrow.Author.Tests.{eq-eqb, not-true, not-false}
use denote.Enum.Declared as Declared
use Rattle.tableau.specs.declared.Operator.{Operator}
use Rattle.tableau.specs.declared.Reason.{Reason}
use Rattle.tableau.specs.declared.Relation.{Relation}
use Rattle.tableau.specs.declared.TermNumber.{TermNumber}
use Rattle.tableau.specs.Basics.{Four, four, guard}
use Rattle.tableau.specs.Fields.{arguments}
use Rattle.tableau.specs.Terms.{TermNo, Table, Term, Literal, variable, apply, literal}
use Rattle.tableau.specs.Terms.{operator_index, relation_index, sort_index, same_operator}
use Rattle.tableau.specs.Terms.{same_relation, number_of}
use Rattle.tableau.specs.Rules.{rule}
use Rattle.tableau.specs.Tree.{answer}
use Rattle.tableau.specs.Steps.{arguments_of, fits, fits_literal, met, made, made_literals}
use Rattle.tableau.specs.Steps.{made_alternatives, conclude_rows, conclude}
use Rattle.tableau.proofs.Match.{same_operator_lem}
use Rattle.packing.specs.declared.TermView.{TermView}
use Rattle.packing.specs.declared.LiteralView.{LiteralView}
use Rattle.packing.specs.Packing.{view_of, view_apply, literal_of, relation_of, left_of, right_of}
use Rattle.packing.specs.Packing.{number, unpack_literal, pack_literal, PackableLiteral, SmallView}
use Rattle.packing.proofs.PackingLaws.{literal_unpack_pack}
use Rattle.packing.proofs.ViewLaws.{operator_tag}
pub use Rattle.packing.proofs.ViewLaws.{is_not}
use Rattle.packing.specs.contracts.TermView as term-view
use Rattle.table.specs.Held.{ViewAt}
use Rattle.tree.specs.declared.Alternative.{Alternative}
use Rattle.tree.specs.State.{AtMost}
use Rattle.rules.specs.Answer.{SearchableBy, Finds, made_as}

-- The answer of a rule, computed: to unfold this is to unfold all that runs a row.
unfoldable pub computing : Type 0
unfolding answer conclude conclude_rows rule met fits fits_literal made_alternatives made_literals
    made arguments relation_index operator_index sort_index
computing = Unit {0}

-- TESTS: by the value of one that the path of the code does not say
pub by_test : {A : Type 0} (b : Bool) → (b ≡ true → A) → (b ≡ false → A) → A
by_test true f g = f refl
by_test false f g = g refl

-- a test of what a function answers
pub test_fails : {r b : Bool} → r ≡ b → r ≡ false → b ≡ false
test_fails e h = sym e ∙ h

pub test_holds : {r b : Bool} → r ≡ b → r ≡ true → b ≡ true
test_holds e h = sym e ∙ h

-- what `a != b` answers
pub differ : {r b : Bool} → r ≡ not b → r ≡ true → b ≡ false
differ e h = not-true _ (sym e ∙ h)

pub agree : {r b : Bool} → r ≡ not b → r ≡ false → b ≡ true
agree e h = not-false _ (sym e ∙ h)

-- A LITERAL, by its parts
pub by_sides : (p : LiteralView) → literal_of p ≡ literal (relation_of p) (left_of p) (right_of p)
by_sides (LiteralView.In m n) = refl
by_sides (LiteralView.Ni m n) = refl
by_sides (LiteralView.Eq m n) = refl
by_sides (LiteralView.Ne m n) = refl
by_sides (LiteralView.Le m n) = refl
by_sides (LiteralView.Nl m n) = refl

pub same : (R : Relation) → same_relation R R ≡ true
same R = eq-eqb (relation_index R) (relation_index R) refl

-- A TERM of another operator
abbrev pub Others : Operator → TermView → Type 0
Others Operator.Nul x = x ≡ TermView.Nul → ⊥
Others Operator.Rea x = (a b c : TermNumber) → x ≡ TermView.Rea a b c → ⊥
Others Operator.Emp x = x ≡ TermView.Emp → ⊥
Others Operator.All x = x ≡ TermView.All → ⊥
Others Operator.Cup x = (a b : TermNumber) → x ≡ TermView.Cup a b → ⊥
Others Operator.Cap x = (a b : TermNumber) → x ≡ TermView.Cap a b → ⊥
Others Operator.Dif x = (a b : TermNumber) → x ≡ TermView.Dif a b → ⊥
Others Operator.Sin x = (a : TermNumber) → x ≡ TermView.Sin a → ⊥
Others Operator.Img x = (a b c : TermNumber) → x ≡ TermView.Img a b c → ⊥
Others Operator.Wri x = (a b c d : TermNumber) → x ≡ TermView.Wri a b c d → ⊥
Others Operator.Typ x = (a : TermNumber) → x ≡ TermView.Typ a → ⊥
Others Operator.Dty x = (a : TermNumber) → x ≡ TermView.Dty a → ⊥

has_its_own : (o : Operator) (k : Four TermNo) → Others o (view_apply o k) → ⊥
unfolding view_apply
has_its_own Operator.Nul k h = h refl
has_its_own Operator.Rea k h = h _ _ _ refl
has_its_own Operator.Emp k h = h refl
has_its_own Operator.All k h = h refl
has_its_own Operator.Cup k h = h _ _ refl
has_its_own Operator.Cap k h = h _ _ refl
has_its_own Operator.Dif k h = h _ _ refl
has_its_own Operator.Sin k h = h _ refl
has_its_own Operator.Img k h = h _ _ _ refl
has_its_own Operator.Wri k h = h _ _ _ _ refl
has_its_own Operator.Typ k h = h _ refl
has_its_own Operator.Dty k h = h _ refl

pub no_arguments : (o : Operator) (e : Term) {x : TermView} → view_of e ≡ x → Others o x
    → arguments_of o e ≡ None
no_arguments o (variable s n) q h = refl
no_arguments o (apply o' k) {x} q h = ap (λ b. guard b (Some k)) (go (same_operator o o') refl)
  where
    go : (b : Bool) → same_operator o o' ≡ b → same_operator o o' ≡ false
    go true e =
        let mine : Others o' x =
        subst (λ (p : Operator). Others p x) (same_operator_lem o o' e) h in
        absurd (has_its_own o' k (subst (λ (v : TermView). Others o' v) (sym q) mine))
    go false e = e

-- A TERM of the view's operator: it has arguments that give the view
this_operator : (o : Operator) (e : Term) (x : TermView) → view_of e ≡ x
    → Declared.tag_of term-view.the_type x ≡ suc (operator_index o)
    → (k : Four TermNo) × (arguments_of o e ≡ Some k) × (view_apply o k ≡ x)
this_operator o (variable s n) x q h =
    let z : 0 ≡ suc (operator_index o) = ap (Declared.tag_of term-view.the_type) q ∙ h in
    absurd (omega arith)
this_operator o (apply o' k) x q h =
    let z : suc (operator_index o') ≡ suc (operator_index o) =
    sym (operator_tag o' k) ∙ ap (Declared.tag_of term-view.the_type) q ∙ h in
    let i : operator_index o ≡ operator_index o' = omega arith in
    let e = eq-eqb (operator_index o) (operator_index o') i in (
      k,
      ap (λ b. guard b (Some k)) e,
      ap (λ (p : Operator). view_apply p k)
          (same_operator_lem o o' e) ∙ q,
    )

-- the same for each operator that a rule looks for
abbrev pub Arguments1 : Operator → Term → TermNumber → Type 0
Arguments1 o e a = (b c d : ℕ) × (arguments_of o e ≡ Some (four a.0 b c d))

abbrev pub Arguments2 : Operator → Term → TermNumber → TermNumber → Type 0
Arguments2 o e a b = (c d : ℕ) × (arguments_of o e ≡ Some (four a.0 b.0 c d))

abbrev pub Arguments3 : Operator → Term → TermNumber → TermNumber → TermNumber → Type 0
Arguments3 o e a b c = (d : ℕ) × (arguments_of o e ≡ Some (four a.0 b.0 c.0 d))

pub is_emp : (e : Term) → view_of e ≡ TermView.Emp
    → (k : Four TermNo) × (arguments_of Operator.Emp e ≡ Some k)
unfolding operator_index view_apply
is_emp e q =
    let K = this_operator Operator.Emp e TermView.Emp q refl in
    (K.0, K.1)

pub is_sin : (e : Term) (a : TermNumber) → view_of e ≡ TermView.Sin a → Arguments1 Operator.Sin e a
unfolding operator_index view_apply
is_sin e a q =
    let K = this_operator Operator.Sin e (TermView.Sin a) q refl in
    let a' : number K.0.a ≡ a = cc K.2 in
    (K.0.b, K.0.c, K.0.d, K.1 ∙ (λ i. Some (four (a' i).0 K.0.b K.0.c K.0.d)))

two_arguments : (o : Operator) (e : Term) (x : TermView) (a b : TermNumber) → view_of e ≡ x
    → Declared.tag_of term-view.the_type x ≡ suc (operator_index o)
    → ((k : Four TermNo) → view_apply o k ≡ x → (number k.a ≡ a) × (number k.b ≡ b))
    → Arguments2 o e a b
two_arguments o e x a b q h f =
    let K = this_operator o e x q h in
    let g = f K.0 K.2 in
    (K.0.c, K.0.d, K.1 ∙ (λ i. Some (four (g.0 i).0 (g.1 i).0 K.0.c K.0.d)))

pub is_cup : (e : Term) (a b : TermNumber) → view_of e ≡ TermView.Cup a b
    → Arguments2 Operator.Cup e a b
unfolding operator_index view_apply
is_cup e a b q = two_arguments Operator.Cup e _ a b q refl (λ k h. ((cc), (cc)))

pub is_cap : (e : Term) (a b : TermNumber) → view_of e ≡ TermView.Cap a b
    → Arguments2 Operator.Cap e a b
unfolding operator_index view_apply
is_cap e a b q = two_arguments Operator.Cap e _ a b q refl (λ k h. ((cc), (cc)))

pub is_dif : (e : Term) (a b : TermNumber) → view_of e ≡ TermView.Dif a b
    → Arguments2 Operator.Dif e a b
unfolding operator_index view_apply
is_dif e a b q = two_arguments Operator.Dif e _ a b q refl (λ k h. ((cc), (cc)))

three_arguments : (o : Operator) (e : Term) (x : TermView) (a b c : TermNumber) → view_of e ≡ x
    → Declared.tag_of term-view.the_type x ≡ suc (operator_index o)
    → ((k : Four TermNo) → view_apply o k ≡ x
    → (number k.a ≡ a) × (number k.b ≡ b) × (number k.c ≡ c)) → Arguments3 o e a b c
three_arguments o e x a b c q h f =
    let K = this_operator o e x q h in
    let g = f K.0 K.2 in
    (K.0.d, K.1 ∙ (λ i. Some (four (g.0 i).0 (g.1 i).0 (g.2 i).0 K.0.d)))

pub is_rea : (e : Term) (a b c : TermNumber) → view_of e ≡ TermView.Rea a b c
    → Arguments3 Operator.Rea e a b c
unfolding operator_index view_apply
is_rea e a b c q = three_arguments Operator.Rea e _ a b c q refl (λ k h. ((cc), (cc), (cc)))

pub is_img : (e : Term) (a b c : TermNumber) → view_of e ≡ TermView.Img a b c
    → Arguments3 Operator.Img e a b c
unfolding operator_index view_apply
is_img e a b c q = three_arguments Operator.Img e _ a b c q refl (λ k h. ((cc), (cc), (cc)))

pub is_wri : (e : Term) (a b c d : TermNumber) → view_of e ≡ TermView.Wri a b c d
    → arguments_of Operator.Wri e ≡ Some (four a.0 b.0 c.0 d.0)
unfolding operator_index view_apply
is_wri e a b c d q =
    let K = this_operator Operator.Wri e (TermView.Wri a b c d) q refl in
    let a' : number K.0.a ≡ a = cc K.2 in
    let b' : number K.0.b ≡ b = cc K.2 in
    let c' : number K.0.c ≡ c = cc K.2 in
    let d' : number K.0.d ≡ d = cc K.2 in
    K.1 ∙ (λ i. Some (four (a' i).0 (b' i).0 (c' i).0 (d' i).0))

-- the numbers that a view shows are small: some table has the term
pub view_small : {A : Table → Type 0} {n : TermNo} {x y : TermView} → ((table : Table) × A table)
    → ((table : Table) → A table → ViewAt table n x) → x ≡ y → SmallView y
view_small w f e = subst SmallView e (f w.0 w.1).small

-- A SEARCH: the number that it finds is the term's, and where it finds nothing the term has none
found_as : {f : Result TermNumber Reason} {n : TermNumber} (m : Option TermNo) → f ≡ made_as m
    → f ≡ Ok n → m ≡ Some n.0
found_as None p q = cc
found_as (Some k) p q = cc

missing_as : {f : Result TermNumber Reason} {d : Reason} (m : Option TermNo) → f ≡ made_as m
    → f ≡ Err d → (m ≡ None) × (d ≡ Reason.TermNotMade)
missing_as None p q = (refl, (cc))
missing_as (Some k) p q = ((cc), (cc))

module _ {terms chains : List ℕ} {e : Term} {f : Result TermNumber Reason}
    (F : Finds terms chains e f) {table : Table} (S : SearchableBy terms chains table) where
  pub found : {n : TermNumber} → f ≡ Ok n → number_of table e ≡ Some n.0
  found q = found_as _ (F.is table S) q

  pub missing : {d : Reason} → f ≡ Err d → (number_of table e ≡ None) × (d ≡ Reason.TermNotMade)
  missing q = missing_as _ (F.is table S) q

-- THE EXIT OF A `?`: the reason goes on to the caller
pub passed_on : {A : Type 0} {r : Result A Reason} {d : Reason} → IsErrAnd r (λ e. e ≡ d)
    → r ≡ Err d
passed_on {r} h = let p = err_from_is_err_and r h in cc

-- AN ALTERNATIVE of at most m codes has at most n
pub at_most_lem : (n : ℕ) {m : ℕ} {a : Alternative} → m ≤ n → AtMost m a → AtMost n a
at_most_lem n h k =
    record { count = omega arith; first = k.first; second = k.second; third = k.third }

-- a packed literal is read back
pub packed_back : (l : Literal) {p : ℕ} → PackableLiteral l → p ≡ pack_literal l
    → unpack_literal p ≡ l
packed_back l h e = ap unpack_literal e ∙ literal_unpack_pack l h
