-- What is shaped as a reply is the line of that reply, its LF taken off; and every reply line is so
-- shaped if its numbers have at most five digits.
use mathlib.Core.Path.{◌≡◌, refl, sym, ◌∙◌, ap, subst}
use mathlib.Core.Bool.{Bool, true, false}
use mathlib.Core.List.{List, [], ◌∷◌, ◌++◌, map, append_assoc, append_cancel_right}
use Rattle.std.specs.Prelude.{Some}
use Prim.Native.Nat.{ℕ, ◌^◌, ◌<◌}
use native.Mathlib.Omega.{arith}
use lib.Dec.{eqb}
use lib.ListN.{length, get_or}
use borrow.Author.Tests.{eqb-true}
use Rattle.tableau.specs.Basics.{bytes, same_bytes, lookup}
use Rattle.tableau.specs.File.{LF, comma, number}
use Rattle.tableau.specs.Reply.{Reply, reply_numbers, decimal, yes_or_no, reply_line}
use Rattle.tableau.specs.Claims.{AllBelow}
use Rattle.tableau.proofs.Bools.{some_inj, then_inv, guard_inv}
use Rattle.tableau.proofs.Checks.{lookup_agree}
use Rattle.tableau.proofs.Pieces.{each_behind, pieces, free, free_append, free_behind, split_behind}
use Rattle.tableau.proofs.Decimals.{number_decimal, decimal_of_number, comma_numbers_lem}
use Rattle.tableau.proofs.Decimals.{decimals_free}
use Rattle.statistics.specs.ReplyLines.{answers, reply_digits, numbers, seven_numbers, reply_fields}
use Rattle.statistics.specs.ReplyLines.{reply_shape}
use Rattle.statistics.specs.Claims.{ShapeOfReply}

-- texts that are read as numbers are their decimals, and decimals are so read
numbers_read : (ps : List (List ℕ)) (ns : List ℕ) → numbers ps ≡ Some ns
    → (ps ≡ map decimal ns) × AllBelow (10 ^ reply_digits) ns
unfolding numbers
numbers_read [] ns e = rw (← some_inj e) (refl, tt)
numbers_read (p ∷ ps) ns e =
    let h = then_inv (number reply_digits p) _ e in
    let k = then_inv (numbers ps) _ h.2 in
    let d = decimal_of_number reply_digits h.0 p h.1 in
    let ds = numbers_read ps k.0 k.1 in
    rw (← some_inj k.2) ((λ i. d.0 i ∷ ds.0 i), (d.1, ds.1))

decimals_read : (ns : List ℕ) → AllBelow (10 ^ reply_digits) ns → numbers (map decimal ns) ≡ Some ns
unfolding numbers
decimals_read [] b = refl
decimals_read (n ∷ ns) b =
    rw (number_decimal reply_digits n (omega arith) b.0, decimals_read ns b.1)

-- seven of them are those of the reply
seven_are : (ns : List ℕ) → length ns ≡ 7
    → get_or ns 0 0 ∷ get_or ns 1 0 ∷ get_or ns 2 0 ∷ get_or ns 3 0 ∷ get_or ns 4 0 ∷ get_or ns 5 0 ∷ get_or ns 6 0 ∷ [] ≡ ns
seven_are [] e = absurd (omega arith)
seven_are (a ∷ []) e = absurd (omega arith)
seven_are (a ∷ b ∷ []) e = absurd (omega arith)
seven_are (a ∷ b ∷ c ∷ []) e = absurd (omega arith)
seven_are (a ∷ b ∷ c ∷ d ∷ []) e = absurd (omega arith)
seven_are (a ∷ b ∷ c ∷ d ∷ x ∷ []) e = absurd (omega arith)
seven_are (a ∷ b ∷ c ∷ d ∷ x ∷ y ∷ []) e = absurd (omega arith)
seven_are (a ∷ b ∷ c ∷ d ∷ x ∷ y ∷ z ∷ []) e = refl
seven_are (a ∷ b ∷ c ∷ d ∷ x ∷ y ∷ z ∷ w ∷ ns) e = absurd (omega arith)

seven_read : (b : Bool) (ns : List ℕ) (r : Reply) → seven_numbers b ns ≡ Some r
    → (r.is_yes ≡ b) × (reply_numbers r ≡ ns)
seven_read b ns r e =
    let g = guard_inv (eqb (length ns) 7) _ e in
    rw (← some_inj g.1) (refl, seven_are ns (eqb-true (length ns) 7 g.0))

-- THE ANSWER is the word that is read, and has neither comma nor LF
answer_read : {b : Bool} (p : List ℕ) → lookup answers p ≡ Some b → yes_or_no b ≡ p
unfolding answers yes_or_no bytes
answer_read p e = lookup_agree yes_or_no (λ w. w) answers p refl e

answer_known : (b : Bool) → lookup answers (yes_or_no b) ≡ Some b
unfolding answers yes_or_no bytes same_bytes lookup
answer_known true = refl
answer_known false = refl

answer_free : (b : Bool) → (free comma (yes_or_no b) ≡ true) × (free LF (yes_or_no b) ≡ true)
unfolding yes_or_no bytes free
answer_free true = (refl, refl)
answer_free false = (refl, refl)

-- THE LINE without its LF
unfoldable pub line_text : Reply → List ℕ
line_text r = yes_or_no r.is_yes ++ each_behind comma (map decimal (reply_numbers r))

pub reply_line_lem : (r : Reply) → reply_line r ≡ line_text r ++ (LF ∷ [])
unfolding reply_line line_text
reply_line_lem r =
    ap (λ l. yes_or_no r.is_yes ++ l) (comma_numbers_lem (reply_numbers r))
    ∙ sym (append_assoc (yes_or_no r.is_yes) _ (LF ∷ []))

-- it has no LF, and has the shape; and what has the shape is it
pub line_free : (r : Reply) → free LF (line_text r) ≡ true
unfolding line_text
line_free r =
    free_append LF (yes_or_no r.is_yes) _ (answer_free r.is_yes).1
    (free_behind LF comma _ refl (decimals_free LF refl (reply_numbers r)))

pub line_shaped : (r : Reply) → AllBelow (10 ^ reply_digits) (reply_numbers r)
    → reply_shape (line_text r) ≡ Some r
unfolding reply_shape line_text
line_shaped r b =
    ap reply_fields
    (split_behind comma (yes_or_no r.is_yes) _
    ((answer_free r.is_yes).0, decimals_free comma refl (reply_numbers r)))
    ∙ rw (answer_known r.is_yes, decimals_read (reply_numbers r) b) refl

shape_read : (l : List ℕ) (r : Reply) → reply_shape l ≡ Some r
    → (line_text r ≡ l) × AllBelow (10 ^ reply_digits) (reply_numbers r)
unfolding reply_shape line_text
shape_read l r e =
    let x = pieces comma l in
    let h = then_inv (lookup answers x.first) _ (rw x.cut at e) in
    let k = then_inv (numbers x.others) _ h.2 in
    let s = seven_read h.0 k.0 r k.2 in
    let n = numbers_read x.others k.0 k.1 in
    let a = ap yes_or_no s.0 ∙ answer_read x.first h.1 in
    let t = ap (map decimal) s.1 ∙ sym n.0 in (
      (λ i. a i ++ each_behind comma (t i))
          ∙ sym x.whole,
      subst (AllBelow (10 ^ reply_digits)) (sym s.1) n.1,
    )

-- so it has few S lines
pub steps_below : (l : List ℕ) (r : Reply) → reply_shape l ≡ Some r → r.steps < 10 ^ reply_digits
steps_below l r e = (shape_read l r e).1.1.1.1.1.0

pub shape_of_reply : ShapeOfReply
unfolding ShapeOfReply
shape_of_reply l r = (
  (λ e. let s = shape_read l r e in (reply_line_lem r ∙ ap (λ t. t ++ (LF ∷ [])) s.0, s.1)),
  (λ h. subst (λ t. reply_shape t ≡ Some r)
      (append_cancel_right (line_text r) l (LF ∷ []) (sym (reply_line_lem r) ∙ h.0))
      (line_shaped r h.1)),
)
