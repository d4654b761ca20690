-- The rows with that of a further term; the rows of the empty table.
use mathlib.Core.Path.{◌≡◌, refl, sym, ◌∙◌, ap}
use mathlib.Core.Bool.{true, false, ◌||◌, or-false}
use mathlib.Core.List.{List, []}
use mathlib.Core.Logic.{⊎_elim}
use Prim.Native.Nat.{ℕ, suc, ◌+◌, ◌*◌, ◌/◌, ◌%◌, ◌<◌, ◌≤◌}
use native.Mathlib.Nat.{eq-or-lt_of_le}
use native.Mathlib.Omega.{arith}
use lib.Dec.{eqb, leb}
use lib.ListN.{length, replicate, length-replicate, get_or-replicate}
use borrow.Author.Tests.{eqb-true, leb-true}
use Rattle.tableau.specs.declared.Sort.{Sort}
use Rattle.tableau.specs.declared.Operator.{Operator}
use Rattle.tableau.specs.Basics.{Four, map_four, every}
use Rattle.tableau.specs.Fields.{Argument, unused, of, arguments, argument_use, if_argument, word_fields}
use Rattle.tableau.specs.Terms.{TermNo, Table, variable, apply, at, mentions}
use Rattle.tableau.specs.Terms as specification
use Rattle.tableau.specs.Reply.{zero_if_unused, term_or_name}
use Rattle.tableau.proofs.Bools.{both_true, every_true}
use Rattle.tableau.proofs.WellFormed.{WellFormed}
use Rattle.tableau.proofs.TableGrowth.{at_zero}
use Rattle.syntax.specs.declared.Arguments.{Arguments}
use Rattle.syntax.specs.declared.Term.{Term}
use Rattle.syntax.specs.Syntax.{arguments_in, word_in, fields_in, term_in}
use Rattle.mentions.specs.Mentions.{row, rows_length, bit_at, is_mentioned, joined_bit, term_arguments, argument_bits, AllBelow, MentionRows, Noted}
use Rattle.mentions.proofs.BitLaws.{bit_zero}
use Rattle.mentions.proofs.MentionLaws.{mentions_same, mentions_zero, mentions_variable, mentions_apply}

-- THE ARGUMENTS OF A NEW TERM: its line passed checks 6 and 8
pub record ArgumentsMade (table : Table) (term : Term) : Type 0 where
  pub unused_zero : every zero_if_unused (word_fields (word_in term)) (fields_in term) ≡ true
  pub made : every (term_or_name table) (word_fields (word_in term)) (fields_in term) ≡ true

-- an operator's argument is unused and 0, or a term that is made
abbrev IsArgument : ℕ → Argument → ℕ → Type 0
IsArgument n unused x = x ≡ 0
IsArgument n (of s) x = x ≤ n

abbrev AreArguments : ℕ → Operator → Four ℕ → Type 0
AreArguments n o x =
    IsArgument n (arguments o).a x.a × IsArgument n (arguments o).b x.b × IsArgument n (arguments o).c x.c
    × IsArgument n (arguments o).d x.d

is_argument : (table : Table) (k : Argument) (x : ℕ) → zero_if_unused (argument_use k) x ≡ true → term_or_name table (argument_use k) x ≡ true
    → IsArgument (length table) k x
is_argument table unused x z m = eqb-true x 0 z
is_argument table (of s) x z m = leb-true x (length table) (both_true (leb 1 x) _ m).1

are_arguments : (table : Table) (o : Operator) (k : Arguments) → ArgumentsMade table (Term.Apply o k)
    → AreArguments (length table) o (arguments_in k)
are_arguments table o k A =
    let z = every_true zero_if_unused (map_four argument_use (arguments o)) (arguments_in k) A.unused_zero in
    let m = every_true (term_or_name table) (map_four argument_use (arguments o)) (arguments_in k) A.made in (
      is_argument table (arguments o).a k.a.0 z.0 m.0,
      is_argument table (arguments o).b k.b.0 z.1 m.1,
      is_argument table (arguments o).c k.c.0 z.2 m.2,
      is_argument table (arguments o).d k.d.0 z.3 m.3,
    )

argument_below : (n : ℕ) (k : Argument) (x : ℕ) → IsArgument n k x → x < suc n
argument_below n unused x h = omega arith
argument_below n (of s) x h = omega arith

pub arguments_below : (table : Table) (term : Term) → ArgumentsMade table term → AllBelow (suc (length table)) (term_arguments (term_in term))
arguments_below table (Term.Variable s m) A = (omega arith, omega arith, omega arith, omega arith)
arguments_below table (Term.Apply o k) A =
    let n = length table in
    let h = are_arguments table o k A in (
      argument_below n (arguments o).a k.a.0 h.0,
      argument_below n (arguments o).b k.b.0 h.1,
      argument_below n (arguments o).c k.c.0 h.2,
      argument_below n (arguments o).d k.d.0 h.3,
    )

-- A FURTHER TERM: the grown table has the terms of the old one, and the term after them.
pub record Grown (table grown : Table) (e : specification.Term) : Type 0 where
  pub count : length grown ≡ suc (length table)
  pub old : (t : TermNo) → t ≤ length table → at grown t ≡ at table t
  pub last : at grown (suc (length table)) ≡ e
  pub well_formed : WellFormed (at table)
  pub grown_well_formed : WellFormed (at grown)

module _ (table grown : Table) (e : specification.Term) (G : Grown table grown e) (rows : List ℕ) (R : MentionRows table rows)
    (w : TermNo) (first : 0 < w) (most : w < 640) where
  old_row : (t : TermNo) → t ≤ length table → is_mentioned rows t w ≡ mentions (at grown) w t
  old_row t l = R.told t w l first most ∙ sym (mentions_same (at table) (at grown) (length table) G.old G.well_formed w t l)

  zero_row : is_mentioned rows 0 w ≡ false
  zero_row = R.told 0 w (omega arith) first most ∙ mentions_zero (at table) (at_zero table) w first

  argument_row : (k : Argument) (x : ℕ) → IsArgument (length table) k x → is_mentioned rows x w ≡ if_argument k (mentions (at grown) w x) false
  argument_row unused x h = ap (λ (y : ℕ). is_mentioned rows y w) h ∙ zero_row
  argument_row (of s) x h = old_row x h

  abbrev t : TermNo
  t = suc (length table)

  variable_row : (s : Sort) (m : ℕ) → e ≡ variable s m → (eqb t w || false) ≡ mentions (at grown) w t
  variable_row s m q =
      or-false (eqb t w) ∙ sym (mentions_variable (at grown) G.grown_well_formed w t s m (G.last ∙ q))

  operation_row : (o : Operator) (k : Four TermNo) → AreArguments (length table) o k → e ≡ apply o k
      → (eqb t w || joined_bit rows k (w / 64) (w % 64)) ≡ mentions (at grown) w t
  operation_row o k h q =
      (λ i. eqb t w || (argument_row (arguments o).a k.a h.0 i || (argument_row (arguments o).b k.b h.1 i
      || (argument_row (arguments o).c k.c h.2 i || argument_row (arguments o).d k.d h.3 i))))
      ∙ sym (mentions_apply (at grown) G.grown_well_formed w t o k (G.last ∙ q))

own_row : (table grown : Table) (term : Term) → Grown table grown (term_in term) → (rows : List ℕ) → MentionRows table rows
    → ArgumentsMade table term → (w : TermNo) → 0 < w → w < 640
    → (eqb (suc (length table)) w || argument_bits rows (term_in term) (w / 64) (w % 64)) ≡ mentions (at grown) w (suc (length table))
own_row table grown (Term.Variable s m) G rows R A w l h = variable_row table grown _ G rows R w l h s m.0 refl
own_row table grown (Term.Apply o k) G rows R A w l h =
    operation_row table grown _ G rows R w l h o (arguments_in k) (are_arguments table o k A) refl

pub rows_grown : (table grown : Table) (term : Term) → Grown table grown (term_in term) → (rows new : List ℕ) → MentionRows table rows
    → ArgumentsMade table term → Noted rows new (suc (length table)) (argument_bits rows (term_in term)) → MentionRows grown new
rows_grown table grown term G rows new R A N = record {
  size = N.size ∙ R.size;
  told = λ t w l first most. ⊎_elim
      (λ (q : t ≡ suc (length table)). rw q (N.own w most ∙ own_row table grown term G rows R A w first most))
      (λ (q : t < suc (length table)). N.below t w q most ∙ old_row table grown (term_in term) G rows R w first most t (omega arith))
      (eq-or-lt_of_le (let m : t ≤ suc (length table) = omega (arith, G.count) in m));
}

-- THE EMPTY TABLE, over the array's length, so that no array is computed
pub rows_empty : (n : ℕ) → n ≡ rows_length → MentionRows [] (replicate {A = ℕ} n 0)
rows_empty n q = record {
  size = length-replicate {A = ℕ} n 0 ∙ q;
  told = λ t w l first most.
      let z : t ≡ 0 = omega arith in
      ap (λ (x : ℕ). bit_at x (w % 64)) (get_or-replicate {A = ℕ} n (t * row + w / 64) 0 0 (omega arith)) ∙ bit_zero (w % 64)
      ∙ sym (ap (mentions (at []) w) z ∙ mentions_zero (at []) refl w first);
}
